use Rattle.std.proofs.Common.{arith}
use Rattle.season.specs.Meaning.{is_written, entry_bytes, body_bytes}
use Rattle.season.specs.Each.{all_at}
use Rattle.season.specs.Filling.{turn_length, fill_turn}
use Rattle.season.specs.Writing.{entry_length, body_length}
use Rattle.season.proofs.writer.put_all.Goals as goal

pub put_entry-requires : goal.put_entry-requires
put_entry-requires c =
    let ws = c.args.words.now in
    let l = c.loop-k in
    let r = c.requires in
    let p = c.split_at_mut-contents in (
      all_at (is_written ws) c.args.n l.k r.0 (omega arith),
      omega (arith, r.1),
      r.2,
      omega arith,
      turn_length 20 (entry_bytes c.args.n ws) l.k p.result.0.now l.contents l.invariant.contents (omega (arith, p.ensures.front_len)),
    )

pub put_body-requires : goal.put_body-requires
put_body-requires c =
    let ws = c.args.words.now in
    let l = c.loop-k in
    let r = c.requires in
    let p = c.split_at_mut-contents in (
      all_at (is_written ws) c.args.n l.k r.0 (omega arith),
      omega (arith, r.1),
      turn_length 28 (body_bytes ws) l.k p.result.1.now l.bodies l.invariant.bodies (omega (arith, p.ensures.back_len, r.3)),
    )

pub loop-k-preserved : goal.loop-k-preserved
loop-k-preserved c =
    let ws = c.args.words.now in
    let l = c.loop-k in
    let p = c.split_at_mut-contents.result in
    record {
      contents =
          fill_turn 20 (entry_bytes c.args.n ws) l.k p.0.now l.contents l.invariant.contents
          c.put_entry.new.out c.put_entry.ensures (entry_length c.args.n ws l.k);
      bodies =
          fill_turn 28 (body_bytes ws) l.k p.1.now l.bodies l.invariant.bodies
          c.put_body.new.out c.put_body.ensures (body_length ws l.k);
    }
