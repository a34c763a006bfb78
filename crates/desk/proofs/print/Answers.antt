-- What is written stands in the lent slice, and what is dated in the part.
use native.Mathlib.Omega.{arith}
use Rattle.std.proofs.Math.Path.{sym}
use Rattle.std.proofs.lemmas.List.{length-take-le}
use Rattle.lines.specs.Lines.{consumed_within, written_within}
use Rattle.desk.proofs.print.Goals as goal

pub slice_bounds-write_all-end : goal.slice_bounds-write_all-end
slice_bounds-write_all-end g c =
    let d = c.date_lines-p in
    omega (arith, written_within c.args.part.now c.args.out.now d.result d.new.out d.ensures)

pub slice_bounds-write_all-end-2 : goal.slice_bounds-write_all-end-2
slice_bounds-write_all-end-2 g c =
    let d = c.date_lines-p in
    sym (length-take-le d.result.written d.new.out (omega (arith, written_within c.args.part.now c.args.out.now d.result d.new.out d.ensures)))

pub returns : goal.returns
returns g c =
    let d = c.date_lines-p in
    consumed_within c.args.part.now c.args.out.now d.result d.new.out d.ensures
