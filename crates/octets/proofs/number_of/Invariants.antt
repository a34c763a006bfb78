use Rattle.std.proofs.Common.{◌≡◌, take}
use Rattle.octets.specs.Meaning.{word}
use Rattle.octets.proofs.number_of.Given as goal

-- n is the number of the bytes so far, in 64 bits
abbrev pub invariant-loop-b : goal.invariant-loop-b
invariant-loop-b l = l.n ≡ word (take l.b-index l.s)
