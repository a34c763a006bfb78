use Rattle.runs.specs.Filling.{Filled}
use Rattle.runs.proofs.fill.Given as goal

-- before packet i the dates before it are written, and the rest is as it was
abbrev pub invariant-loop-i : goal.invariant-loop-i
invariant-loop-i l = Filled l.bytes l.n l.from l.told l.initial.dates l.dates l.total.units l.i
