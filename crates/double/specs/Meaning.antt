-- A double: its exact value, what its bits stand for, and which double is nearest a quotient. All is said over whole numbers; of the
-- logic's f64 only its values are used (`Float`, and `fits binary64 x`: x is one of them). Assumes nothing.
use Rattle.std.specs.Prelude.{◌≡◌, Bool, true, false, ℕ, zero, suc, ◌+◌, ◌-◌, ◌*◌, ◌/◌, ◌%◌, ◌^◌, ◌≤◌, ◌<◌, T, leb, ℤ, pos, negsuc, neg_ℤ, ◌+ℤ◌, ◌*ℤ◌, Float}
use Rattle.std.specs.Int.Signed.{lt_z}
use Rattle.std.specs.Float.{nan, inf, fin, binary64}
use Rattle.std.specs.Float.Ieee.{fits}
use Rattle.axis.specs.Meaning.{floor_z}
use Rattle.double.specs.declared.inner.Bits.{Bits}

abbrev pub signed : Bool → ℕ → ℤ
signed false n = pos n
signed true n = neg_ℤ (pos n)

-- ---- "Exact value means significand and power of two, over whole numbers"
pub record Exact : Type 0 where
  pub minus : Bool
  pub significand : ℕ
  pub power : ℤ

abbrev pub finite : Float → Bool
finite nan = false
finite (inf s) = false
finite (fin s m e) = true

-- what is not finite has no value and stands at zero: `finite` is asked first
abbrev pub exact_of : Float → Exact
exact_of nan = record { minus = false; significand = 0; power = pos 0 }
exact_of (inf s) = record { minus = false; significand = 0; power = pos 0 }
exact_of (fin s m e) = record { minus = s; significand = m; power = e }

-- the value is ± over / under: the power of two multiplies the one or the other
abbrev pub up : ℤ → ℕ
up (pos k) = 2 ^ k
up (negsuc k) = 1

abbrev pub down : ℤ → ℕ
down (pos k) = 1
down (negsuc k) = 2 ^ suc k

abbrev pub over : Exact → ℕ
over v = v.significand * up v.power

abbrev pub under : Exact → ℕ
under v = down v.power

abbrev pub signed_over : Exact → ℤ
signed_over v = signed v.minus (over v)

-- the value is below a whole number
abbrev pub before : Exact → ℤ → Bool
before v d = lt_z (signed_over v) (d *ℤ pos (under v))

-- the whole number nearest z / c: a half is added and the sum rounded down, so that a half goes up
abbrev pub nearest : ℤ → ℕ → ℤ
nearest z c = floor_z (z *ℤ pos 2 +ℤ pos c) (c * 2)

-- x is finite, has the sign s and is a / c in size
pub record Holds (x : Float) (s : Bool) (a c : ℕ) : Type 0 where
  pub ends : finite x ≡ true
  pub sign : (exact_of x).minus ≡ s
  pub size : over (exact_of x) * c ≡ a * under (exact_of x)

-- ---- the parts of a bit pattern: a sign, an exponent's field of 11 bits, and the 52 digits after the first
abbrev pub bits_of : ℕ → Bits
bits_of b = record { minus = leb (2 ^ 63) b; exponent = b / 2 ^ 52 % 2 ^ 11; digits = b % 2 ^ 52 }

-- the size that they stand for, in units of 1 / 2 ^ 1074, where the field is below 2047; field 0 has no first digit
abbrev pub size_at : ℕ → ℕ → ℕ
size_at zero t = t * 2 ^ 0
size_at (suc j) t = (2 ^ 52 + t) * 2 ^ j

-- ---- the double nearest a quotient
-- how far apart two numbers are
abbrev pub apart : ℕ → ℕ → ℕ
apart a b = (a - b) + (b - a)

-- "the double nearest the exact quotient .., ties to the even significand": x is the double nearest n / d, with the sign s. Its size is
-- a significand q times a step, and the step is 2 ^ k of the smallest double, which is 1 / 2 ^ 1074: n / d is n * 2 ^ 1074 / (d * 2 ^ k)
-- steps. The step is the one at which that has 53 binary digits before its point (`least`, `most`), q is no further from it than half
-- a step (`near`), and where it is just half a step q is even (`tie`).
pub record Nearest (s : Bool) (n d : ℕ) (x : Float) : Type 0 where
  pub double : T (fits binary64 x)
  pub q : ℕ
  pub k : ℕ
  pub value : Holds x s (q * 2 ^ k) (2 ^ 1074)
  pub least : 2 ^ 52 * (d * 2 ^ k) ≤ n * 2 ^ 1074
  pub most : n * 2 ^ 1074 < 2 ^ 53 * (d * 2 ^ k)
  pub near : apart (q * (d * 2 ^ k)) (n * 2 ^ 1074) * 2 ≤ d * 2 ^ k
  pub tie : apart (q * (d * 2 ^ k)) (n * 2 ^ 1074) * 2 ≡ d * 2 ^ k → q % 2 ≡ 0

abbrev pub plus_zero : Float
plus_zero = fin false 0 (pos 0)

-- x is the double nearest z / d, and plus zero where z is 0
abbrev pub QuotientOf : ℤ → ℕ → Float → Type 0
QuotientOf (pos zero) d x = x ≡ plus_zero
QuotientOf (pos (suc n)) d x = Nearest false (suc n) d x
QuotientOf (negsuc n) d x = Nearest true (suc n) d x
