use Rattle.std.proofs.Common.{◌≡◌, arith, length, take, true, false}
use Rattle.std.proofs.lemmas.List.Edits.{sets}
use Rattle.text_write.specs.Meaning.{text_of, body_of}
use Rattle.text_write.specs.Columns.{as_long, body_long, whole_long, short_laid, long_laid, filled}
use Rattle.text_write.proofs.image.fill.Goals as goal

pub put_date-requires-clause-in_bounds : goal.put_date-requires-clause-in_bounds
put_date-requires-clause-in_bounds c = omega (arith, c.requires.t_in_bounds, body_long c.args.micros c.args.t)

pub put_clock-requires-clause-in_bounds : goal.put_clock-requires-clause-in_bounds
put_clock-requires-clause-in_bounds c =
    omega (arith, c.requires.t_in_bounds, body_long c.args.micros c.args.t, as_long (take 11 (text_of c.args.t)) c.args.out.now c.put_date.new.out 0 c.put_date.ensures)

pub put_micro-requires-clause-in_bounds : goal.put_micro-requires-clause-in_bounds
put_micro-requires-clause-in_bounds c =
    let t = c.args.t in
    let m = c.if-micros.true in
    let n : length (body_of c.args.micros t) ≡ 27 = rw m (whole_long t) in
    let s : c.put_clock.new.out ≡ sets c.args.out.now 0 (body_of false t) = short_laid c.args.out.now 0 t _ _ c.put_date.ensures c.put_clock.ensures in
    omega (arith, c.requires.t_in_bounds, n, as_long (body_of false t) c.args.out.now c.put_clock.new.out 0 s)

pub returns-then-micros : goal.returns-then-micros
returns-then-micros c =
    let o = c.args.out.now in
    let t = c.args.t in
    let s = short_laid o 0 t _ _ c.put_date.ensures c.put_clock.ensures in
    filled c.args.micros true t o c.if-micros.true c.requires.t_in_bounds _ (long_laid o 0 t _ _ s c.put_micro.ensures)

pub returns-else-micros : goal.returns-else-micros
returns-else-micros c =
    let o = c.args.out.now in
    let t = c.args.t in
    filled c.args.micros false t o c.if-micros.false c.requires.t_in_bounds _ (short_laid o 0 t _ _ c.put_date.ensures c.put_clock.ensures)
