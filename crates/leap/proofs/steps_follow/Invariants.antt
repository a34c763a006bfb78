use Rattle.std.proofs.Common.{◌≡◌, true, ◌-◌, ◌<◌, ◌≤◌, length, get_or, pos}
use Rattle.axis.specs.Meaning.{place_of_day}
use Rattle.leap.specs.Follow.{after}
use Rattle.leap.proofs.steps_follow.Given as goal

-- each step after step i - 1 has passed
abbrev pub invariant-loop-i : goal.invariant-loop-i
invariant-loop-i l =
    (1 ≤ l.i) × (l.i ≤ length l.days) × (place_of_day (get_or l.days (l.i - 1) (pos 0)) ≤ place_of_day l.end)
    × (after l.days l.offsets l.end (l.i - 1) ≡ true)
