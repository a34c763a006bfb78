-- The paper's sentences on SIRAL's carry and counter, on the fraction and on OBET's parts, computed. Assumes nothing.
use mathlib.Core.Path.{◌≡◌, refl}
use mathlib.Core.List.{[], ◌∷◌}
use Prim.Native.Nat.{ℕ, ◌+◌, ◌*◌, ◌/◌}
use native.Mathlib.Omega.{arith}
use lib.Dec.{lit<}
use lib.IntN.{pos, negsuc}
use Rattle.octets.specs.Meaning.{number, field}
use Rattle.scales.specs.Meaning.{record_of}
use Rattle.scales.specs.declared.Scale.TheVariants as S
use Rattle.handed.specs.declared.Handed.TheVariants as H
use Rattle.layout_fields.specs.Obet as FO
use Rattle.layout_times.specs.Meaning.{rounding, fraction_micros, fraction_at}
use Rattle.layout_times.specs.Fraction.{last_is}
use Rattle.layout_times.specs.Cuc as Cuc
use Rattle.layout_times.specs.Siral as Siral
use Rattle.ground_laws.proofs.Desks.{answered, empty}

-- ---- the carry passes midnight: day 0, 86,399,999 ms, 999 us and one unit
pub carry : Siral.read (0 ∷ 0 ∷ 5 ∷ 38 ∷ 91 ∷ 255 ∷ 3 ∷ 231 ∷ 0 ∷ 1 ∷ []) ≡ answered S.Tai (pos 1) 1
unfolding Siral.read number
carry = refl

-- 7 is judged with the carry: the last day of the span, and the same with one unit more
pub carry_out : (Siral.read (142 ∷ 172 ∷ 5 ∷ 38 ∷ 91 ∷ 255 ∷ 3 ∷ 231 ∷ 0 ∷ 0 ∷ []) ≡ answered S.Tai (pos 36524) 86399999999)
    × (Siral.read (142 ∷ 172 ∷ 5 ∷ 38 ∷ 91 ∷ 255 ∷ 3 ∷ 231 ∷ 0 ∷ 1 ∷ []) ≡ empty 7 S.Tai)
unfolding Siral.read number
carry_out = (refl, refl)

-- ---- the paper's sentences
-- "A 16-bit fraction is to stand for the nearest microsecond, halves upward", that is, of f x 15625 / 1024
pub paper_fraction : (f : ℕ) → fraction_micros f ≡ (f * 15625 + 512) / 1024
paper_fraction f = omega arith

-- "Fraction 65535 now gives 999,985"; 512 stands half way, at 7,812.5
pub nearest_read : (fraction_micros 1 ≡ 15) × (fraction_micros 2 ≡ 31) × (fraction_micros 512 ≡ 7813) × (fraction_micros 65535 ≡ 999985)
nearest_read = (refl, refl, refl, refl)

-- what is written speaks of the same reading
pub nearest_written :
    (fraction_at 30 ≡ 1) × (fraction_at 31 ≡ 2) × (fraction_at 7812 ≡ 511) × (fraction_at 7813 ≡ 512)
    × (fraction_at 999984 ≡ 65534) × (fraction_at 999985 ≡ 65535) × (fraction_at 999999 ≡ 65535)
nearest_written = (
  last_is rounding 16 30 (lit< tt),
  last_is rounding 16 31 (lit< tt),
  last_is rounding 16 7812 (lit< tt),
  last_is rounding 16 7813 (lit< tt),
  last_is rounding 16 999984 (lit< tt),
  last_is rounding 16 999985 (lit< tt),
  last_is rounding 16 999999 (lit< tt),
)

-- "15 microseconds is written as fraction 1"
pub fifteen : fraction_at 15 ≡ 1
fifteen = last_is rounding 16 15 (lit< tt)

pub fifteen_written : Cuc.write (H.Record (record_of S.Gps (negsuc 7299) 15)) (7 ∷ 7 ∷ 7 ∷ 7 ∷ 7 ∷ 7 ∷ 7 ∷ []) ≡
    record { number = 0; length = 6; lent = 0 ∷ 0 ∷ 0 ∷ 0 ∷ 0 ∷ 1 ∷ 7 ∷ [] }
unfolding Cuc.write field
fifteen_written = rw fifteen

-- the whole part of the sum of all four, for any number of units
pub units_add : (day milli micro units : ℕ) → Siral.sixteenths day milli micro units / 16 ≡ day * 86400000000 + milli * 1000 + micro + units * 33 / 16
units_add day milli micro units = omega arith

-- OBET's coarse and fine parts, as one count
pub coarse_and_fine : FO.read (102 ∷ 0 ∷ 0 ∷ 0 ∷ 1 ∷ 0 ∷ 0 ∷ 2 ∷ []) ≡ record { number = 0; value = 1 * 16777216 + 2 }
unfolding FO.read number
coarse_and_fine = refl
