use Rattle.std.proofs.Common.{length, ◌-◌, ◌≤◌}
use Rattle.desk.proofs.print_all.Given as goal

abbrev pub invariant-loop-dated : goal.invariant-loop-dated
invariant-loop-dated g l = l.dated ≤ length l.part

abbrev pub decreases-loop-dated : goal.decreases-loop-dated
decreases-loop-dated g l = length l.part - l.dated
