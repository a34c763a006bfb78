use Rattle.std.proofs.Common.{◌≡◌, ◌≤◌, length, take}
use Rattle.axis.specs.Meaning.{micros_at}
use Rattle.leap.specs.Meaning.{through, begun, plain, utc_of}
use Rattle.leap.proofs.inner.utc_at.Given as goal

-- the steps left decide, for the others have not begun
abbrev pub invariant-loop-i : goal.invariant-loop-i
invariant-loop-i l =
    (l.i ≤ length l.list.days)
    × (through (begun (micros_at l.c)) (plain 10 (micros_at l.c)) (take l.i l.list.days) (take l.i l.list.offsets)
    ≡ utc_of l.list.days l.list.offsets (micros_at l.c))
