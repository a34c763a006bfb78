-- The words of the theorems: how far a value is from a quotient, which of two values is less, which of two records is sooner.
-- Assumes nothing.
use Rattle.std.specs.Prelude.{◌≡◌, ◌⊎◌, Bool, true, ℕ, ◌<◌, ℤ, pos, nat_abs, ◌-ℤ◌, ◌*ℤ◌}
use Rattle.std.specs.Int.Signed.{lt_z}
use Rattle.double.specs.Meaning.{Exact, under, signed_over}

-- the distance of the value v from z / d, in parts of d * under v
abbrev pub off : ℤ → ℕ → Exact → ℕ
off z d v = nat_abs (signed_over v *ℤ pos d -ℤ z *ℤ pos (under v))

abbrev pub less : Exact → Exact → Bool
less v w = lt_z (signed_over v *ℤ pos (under w)) (signed_over w *ℤ pos (under v))

-- the microsecond u of the day d is before the microsecond w of the day e
abbrev pub Sooner : ℤ → ℕ → ℤ → ℕ → Type 0
Sooner d u e w = (lt_z d e ≡ true) ⊎ ((d ≡ e) × (u < w))
