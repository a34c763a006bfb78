use Rattle.std.proofs.Common.{◌+◌, ◌*◌, ◌<◌, rules}
use Rattle.std.specs.Int.Signed.{mag}
use Rattle.season.specs.Taking.{place_read_lem, micros_read}
use Rattle.season.specs.Writing.{writes, body_laid}
use Rattle.season.proofs.writer.put_body.Goals as goal

pub returns : goal.returns
returns c =
    let ws = c.args.words.now in
    let r = c.correlation_at-c.result in
    let p = c.place_of_day.result in
    let m : mag r.day < 9223372036854775808 = search rules in
    body_laid ws c.args.k (writes ws c.args.k c.requires.0) r p c.bits_of.result c.args.out.now
    c.lay.new.out c.lay-2.new.out c.lay-3.new.out c.lay-4.new.out c.lay-5.new.out
    c.requires.2 c.correlation_at-c.ensures (place_read_lem r.day p m c.place_of_day.ensures).0
    (micros_read (p * 86400000000 + r.micro) c.bits_of.result c.micros_at.result c.micros_at.ensures c.bits_of.ensures)
    (search rules) c.lay-2.ensures c.lay-3.ensures c.lay-4.ensures c.lay-5.ensures
