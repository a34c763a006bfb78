-- Wrong programs for the axis, each shut out by an input at which its answer is not the meaning's; and the laws of the axis
-- at inputs that meet their hypotheses. Assumes nothing.
use mathlib.Core.Path.{◌≡◌, refl, sym}
use mathlib.Core.Bool.{Bool, true, false, cond, ◌&&◌, false≢true}
use Prim.Native.Nat.{ℕ, suc, ◌-◌}
use native.Mathlib.Omega.{arith}
use lib.Dec.{leb, ltb, lit<, lit≤}
use lib.IntN.{ℤ, pos, negsuc, neg_ℤ, sub_ℕ, nat_abs, ◌+ℤ◌}
use lib.Signed.{le_z, lt_z}
use mir.Syntax.{w64}
use mir.Val.{of_z}
use Rattle.evidence.specs.ShutOut.{ShutOut, differ}
use Rattle.axis.specs.Meaning.{is_between, place_of_day, day_at, place_of_micros, micros_at, held_micros_at, place_of_counts, counts_at, signed_of, bits_of, floor_z, mod_z}
use Rattle.axis.specs.Axis.{place_day, day_place, day_from, day_to, place_micros, micros_place, counts_place, counts_from_lem, counts_to}

-- ---- is_between
-- the last day left out
abbrev last_left_out : ℤ → ℤ → ℤ → Bool
last_left_out f d l = le_z f d && lt_z d l

pub last_left_out_lem : ShutOut (is_between (negsuc 7299) (pos 36524) (pos 36524)) true (last_left_out (negsuc 7299) (pos 36524) (pos 36524)) false
last_left_out_lem = (refl, refl, λ e. false≢true (sym e))

-- days compared by their bits, a day before 2000 as a great number
abbrev by_bits : ℤ → ℤ → ℤ → Bool
by_bits f d l = leb (of_z w64 f) (of_z w64 d) && leb (of_z w64 d) (of_z w64 l)

pub between_unsigned : ShutOut (is_between (negsuc 7299) (pos 0) (pos 36524)) true (by_bits (negsuc 7299) (pos 0) (pos 36524)) false
between_unsigned = (refl, refl, λ e. false≢true (sym e))

-- ---- place_of_day
-- a bare cast: a day before the axis wraps to its far end
abbrev bare_cast : ℤ → ℕ
bare_cast d = of_z w64 (d +ℤ pos 40000)

pub day_wraps : ShutOut (place_of_day (negsuc 40000)) 0 (bare_cast (negsuc 40000)) 18446744073709551615
day_wraps = (refl, refl, λ e. omega arith)

-- days counted from 1 January 1972
abbrev from1972 : ℤ → ℕ
from1972 d = nat_abs (d +ℤ pos 10227)

pub day_from_1972 : ShutOut (place_of_day (pos 0)) 40000 (from1972 (pos 0)) 10227
day_from_1972 = (refl, refl, λ e. omega arith)

-- ---- day_at
-- the distance from day 0, its sign lost
abbrev unsigned : ℕ → ℤ
unsigned m = pos (nat_abs (day_at m))

pub day_unsigned : ShutOut (day_at 39999) (negsuc 0) (unsigned 39999) (pos 1)
day_unsigned = (refl, refl, differ (λ (z : ℤ). place_of_day z) (λ e. omega arith))

-- one day off
abbrev one_off : ℕ → ℤ
one_off m = sub_ℕ m 39999

pub day_one_off : ShutOut (day_at 40000) (pos 0) (one_off 40000) (pos 1)
day_one_off = (refl, refl, differ nat_abs (λ e. omega arith))

-- ---- place_of_micros
-- what lies before day 0 is held at day 0
abbrev from_zero : ℤ → ℕ
from_zero (pos n) = place_of_micros (pos n)
from_zero (negsuc n) = place_of_micros (pos 0)

pub micros_from_zero : ShutOut (place_of_micros (negsuc 0)) 3455999999999999 (from_zero (negsuc 0)) 3456000000000000
micros_from_zero = (refl, refl, λ e. omega arith)

-- not held at the axis's end
abbrev endless : ℤ → ℕ
endless n = of_z w64 (n +ℤ pos 3456000000000000)

pub micros_endless : ShutOut (place_of_micros (pos 9000000000000000)) 8640000000000000 (endless (pos 9000000000000000)) 12456000000000000
micros_endless = (refl, refl, λ e. omega arith)

-- ---- micros_at
-- the same, the other way
pub micros_not_held : ShutOut (held_micros_at 9000000000000000) (pos 5184000000000000) (micros_at 9000000000000000) (pos 5544000000000000)
micros_not_held = (refl, refl, differ nat_abs (λ e. omega arith))

-- held at day 0 from below
abbrev not_before : ℕ → ℤ
not_before m = pos (m - 3456000000000000)

pub micros_not_before : ShutOut (held_micros_at 0) (negsuc 3455999999999999) (not_before 0) (pos 0)
micros_not_before = (refl, refl, differ nat_abs (λ e. omega arith))

-- ---- place_of_counts
-- a bare cast: what lies before the axis wraps to its far end
abbrev bare_counts : ℤ → ℕ
bare_counts n = of_z w64 (n +ℤ pos 226492416000000)

pub counts_wrap : ShutOut (place_of_counts (negsuc 226492416000000)) 0 (bare_counts (negsuc 226492416000000)) 18446744073709551615
counts_wrap = (refl, refl, λ e. omega arith)

-- counts taken for microseconds
pub counts_as_micros : ShutOut (place_of_counts (pos 1)) 226492416000001 (place_of_micros (pos 1)) 3456000000000001
counts_as_micros = (refl, refl, λ e. omega arith)

-- ---- signed_of
-- the bits as they are, without a sign
pub sign_lost_lem : ShutOut (signed_of 18446744073709551615) (negsuc 0) (pos 18446744073709551615) (pos 18446744073709551615)
sign_lost_lem = (refl, refl, differ nat_abs (λ e. omega arith))

-- the first bit as a sign, the others as a size
abbrev by_size : ℕ → ℤ
by_size n = cond (ltb n 9223372036854775808) (pos n) (neg_ℤ (pos (n - 9223372036854775808)))

pub sign_and_size : ShutOut (signed_of 9223372036854775809) (negsuc 9223372036854775806) (by_size 9223372036854775809) (negsuc 0)
sign_and_size = (refl, refl, differ nat_abs (λ e. omega arith))

-- ---- bits_of
-- the size alone
pub size_alone : ShutOut (bits_of (negsuc 0)) 18446744073709551615 (nat_abs (negsuc 0)) 1
size_alone = (refl, refl, λ e. omega arith)

-- every bit turned over, and not one added
abbrev turned_over : ℤ → ℕ
turned_over (pos n) = n
turned_over (negsuc n) = 18446744073709551615 - suc n

pub one_not_added : ShutOut (bits_of (negsuc 0)) 18446744073709551615 (turned_over (negsuc 0)) 18446744073709551614
one_not_added = (refl, refl, λ e. omega arith)

-- ---- the laws, each at an input that meets its hypotheses: day -7300 and its place, a microsecond before day 0
pub days_meet :
    (place_of_day (day_at 32700) ≡ 32700) × (day_at (place_of_day (negsuc 7299)) ≡ negsuc 7299)
    × (le_z (day_at 29773) (negsuc 7299) ≡ leb 29773 32700) × (le_z (negsuc 7299) (day_at 76524) ≡ leb 32700 76524)
days_meet = (
  place_day 32700 (lit≤ tt),
  day_place (negsuc 7299) (lit< tt) (lit< tt),
  day_from 29773 (negsuc 7299) (lit< tt) (lit≤ tt),
  day_to 76524 (negsuc 7299) (lit< tt),
)

pub micros_meet : (place_of_micros (micros_at 1) ≡ 1) × (micros_at (place_of_micros (negsuc 0)) ≡ negsuc 0)
micros_meet = (place_micros 1 (lit≤ tt), micros_place (negsuc 0) (lit< tt) (lit< tt))

pub counts_meet :
    (counts_at (place_of_counts (negsuc 0)) ≡ negsuc 0)
    × (le_z (counts_at 1) (negsuc 0) ≡ leb 1 226492415999999) × (le_z (negsuc 0) (counts_at 1) ≡ leb 226492415999999 1)
counts_meet = (
  counts_place (negsuc 0) (lit< tt) (lit< tt),
  counts_from_lem 1 (negsuc 0) (lit< tt) (lit≤ tt),
  counts_to 1 (negsuc 0) (lit< tt),
)

-- the microsecond before day 0 is the last of day -1, not the first of day 0
pub floor_before_zero : (floor_z (negsuc 0) 86400000000 ≡ negsuc 0) × (mod_z (negsuc 0) 86400000000 ≡ 86399999999)
floor_before_zero = (refl, refl)
