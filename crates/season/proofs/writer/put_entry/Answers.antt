use Rattle.std.proofs.Common.{◌≡◌, Some, rules}
use Rattle.season.specs.Taking.{cover_at, micros_read}
use Rattle.season.specs.Writing.{writes, entry_laid}
use Rattle.season.proofs.writer.put_entry.Goals as goal

pub returns : goal.returns
returns c =
    let ws = c.args.words.now in
    let v = c.unwrap-v.result in
    let e : cover_at ws c.args.k ≡ Some v = search rules in
    entry_laid ws c.args.k (writes ws c.args.k c.requires.0) c.args.n c.bits_of.result c.bits_of-2.result v c.args.out.now
    c.lay.new.out c.lay-2.new.out c.lay-3.new.out c.requires.4 e
    (micros_read v.from c.bits_of.result c.micros_at.result c.micros_at.ensures c.bits_of.ensures)
    (micros_read v.to c.bits_of-2.result c.micros_at-2.result c.micros_at-2.ensures c.bits_of-2.ensures)
    c.lay.ensures c.lay-2.ensures c.lay-3.ensures
