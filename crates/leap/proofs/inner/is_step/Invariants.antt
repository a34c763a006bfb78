use Rattle.std.proofs.Common.{◌≡◌, ◌≤◌, length, take}
use Rattle.axis.specs.Meaning.{day_at}
use Rattle.leap.specs.Meaning.{is_step}
use Rattle.leap.proofs.inner.is_step.Given as goal

-- the steps left decide, for the others are other days
abbrev pub invariant-loop-i : goal.invariant-loop-i
invariant-loop-i l = (l.i ≤ length l.list.days) × (is_step (take l.i l.list.days) (day_at l.place) ≡ is_step l.list.days (day_at l.place))
