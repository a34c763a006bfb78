-- Days in their order, and what it says of their places. Assumes nothing.
use Rattle.std.specs.Prelude.{◌≡◌, true, ◌≤◌, ℤ, pos, negsuc}
use Rattle.std.proofs.lemmas.Bool.{false≢true}
use Rattle.std.proofs.Common.{arith, leb-true, ltb-true}
use Rattle.std.specs.Int.Signed.{le_z, lt_z}
use Rattle.axis.specs.Meaning.{place_of_day}

pub place_le : (a b : ℤ) → le_z a b ≡ true → place_of_day a ≤ place_of_day b
place_le (pos n) (pos m) e = omega (arith, leb-true n m e)
place_le (pos n) (negsuc m) e = absurd (false≢true e)
place_le (negsuc n) (pos m) e = omega arith
place_le (negsuc n) (negsuc m) e = omega (arith, leb-true m n e)

pub place_lt : (a b : ℤ) → lt_z a b ≡ true → place_of_day a ≤ place_of_day b
place_lt (pos n) (pos m) e = omega (arith, ltb-true n m e)
place_lt (pos n) (negsuc m) e = absurd (false≢true e)
place_lt (negsuc n) (pos m) e = omega arith
place_lt (negsuc n) (negsuc m) e = omega (arith, ltb-true m n e)
