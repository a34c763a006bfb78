-- The elapsed count: OBT minus OBT0 modulo 2^48, and the only such number from -2^47 to 2^47 - 1. Assumes nothing.
use mathlib.Core.Path.{◌≡◌}
use mathlib.Core.Bool.{true}
use mathlib.Core.List.{List}
use Prim.Native.Nat.{ℕ, ◌%◌}
use lib.Dec.{lit<}
use lib.IntN.{ℤ, pos, negsuc}
use lib.Signed.{le_z}
use Rattle.clock.specs.Meaning.{elapsed, count_at}
use Rattle.clock_laws.proofs.Counts as G
use Rattle.goce.specs.Meaning.{clock_of}
use Rattle.goce.specs.declared.Correlation.{Correlation}

module _ (c : Correlation) (ds : List ℤ) (os : List ℕ) where
  pub elapsed_from : (t : ℕ) → count_at (clock_of c ds os) (elapsed (clock_of c ds os) t) ≡ t % 281474976710656
  elapsed_from = G.elapsed_from (clock_of c ds os) (lit< tt)

  pub elapsed_range : (t : ℕ) →
      (le_z (negsuc 140737488355327) (elapsed (clock_of c ds os) t) ≡ true) × (le_z (elapsed (clock_of c ds os) t) (pos 140737488355327) ≡ true)
  elapsed_range = G.elapsed_range (clock_of c ds os) (lit< tt)

  pub elapsed_one : (t : ℕ) (k : ℤ) → le_z (negsuc 140737488355327) k ≡ true → le_z k (pos 140737488355327) ≡ true →
      count_at (clock_of c ds os) k ≡ t % 281474976710656 → k ≡ elapsed (clock_of c ds os) t
  elapsed_one = G.elapsed_one (clock_of c ds os) (lit< tt)
