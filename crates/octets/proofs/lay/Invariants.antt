use Rattle.std.proofs.Common.{◌≡◌, ◌-◌, ◌/◌, ◌^◌, length, drop}
use Rattle.octets.specs.Meaning.{field}
use Rattle.octets.proofs.lay.Given as goal

-- from place i on the slice has the field's last bytes, and x is what is left
abbrev pub invariant-loop-i : goal.invariant-loop-i
invariant-loop-i l = record {
  laid : drop l.i l.out ≡ field (length l.out - l.i) l.v;
  rest : l.x ≡ l.v / 256 ^ (length l.out - l.i);
}
