use Rattle.std.proofs.Common.{◌≡◌, ◌-◌, length}
use Rattle.memchr.specs.Find.{is_byte, places_between}
use Rattle.lines.specs.Lines.{Upto}
use Rattle.lines.proofs.date_under.Given as goal

abbrev pub invariant-loop-out : goal.invariant-loop-out
invariant-loop-out l =
    (l.newlines ≡ places_between (is_byte 10) l.input l.at (length l.input))
    × Upto l.list.days l.list.offsets l.list.last l.input l.fn.out l.at l.written l.out

abbrev pub decreases-loop-out : goal.decreases-loop-out
decreases-loop-out l = length l.input - l.at
