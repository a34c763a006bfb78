use Rattle.std.proofs.Common.{◌≡◌, ◌≤◌, length, take}
use Rattle.axis.specs.Meaning.{day_at}
use Rattle.leap.specs.Meaning.{through, on_or_before, offset_on}
use Rattle.leap.proofs.inner.offset_on.Given as goal

-- the steps left decide, for the others are later
abbrev pub invariant-loop-i : goal.invariant-loop-i
invariant-loop-i l =
    (l.i ≤ length l.list.days)
    × (through (on_or_before (day_at l.place)) 0 (take l.i l.list.days) (take l.i l.list.offsets) ≡ offset_on l.list.days l.list.offsets (day_at l.place))
