use Rattle.std.proofs.Common.{◌≡◌, ◌*◌, ◌≤◌, ◌-◌, drop}
use Rattle.octets.specs.Meaning.{part}
use Rattle.runs.specs.Passes.{unroll_from}
use Rattle.runs.proofs.unroll.Given as goal

-- before packet i, what the rest leads to is what all lead to
abbrev pub invariant-loop-i : goal.invariant-loop-i
invariant-loop-i l = record {
  most : l.total.units ≤ 484848;
  rest : unroll_from (l.n - l.i) (part l.bytes 0 8) l.total.units (drop (10 * l.i) l.bytes) ≡ unroll_from l.n (part l.bytes 0 8) l.told l.bytes;
}
