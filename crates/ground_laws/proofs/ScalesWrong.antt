-- Wrong programs for the paper's words, each shut out by an input at which its answer is not the meaning's. Assumes nothing.
use mathlib.Core.Path.{refl}
use mathlib.Core.Bool.{Bool, cond, ◌&&◌}
use Prim.Native.Nat.{ℕ, ◌+◌, ◌-◌, ◌/◌, ◌%◌}
use native.Mathlib.Omega.{arith}
use lib.Dec.{leb, ltb, eqb}
use lib.IntN.{ℤ, pos, negsuc, nat_abs}
use lib.Signed.{le_z}
use Rattle.evidence.specs.ShutOut.{ShutOut, differ}
use Rattle.axis.specs.Meaning.{day_at}
use Rattle.scales.specs.Meaning.{code_of, first, last, bound, number_of, Slip, given, gives, outcome, dated, time_scale, time_count, time_at, spanned_as, spanned, record_of, record_at}
use Rattle.scales.specs.declared.Scale.{Scale}
use Rattle.scales.specs.declared.Scale.TheVariants as S
use Rattle.scales.specs.declared.Refusal.{Refusal}
use Rattle.scales.specs.declared.Refusal.TheVariants as R
use Rattle.scales.specs.declared.Record.{Record}
use Rattle.scales.specs.declared.Mark.TheVariants as M
use Rattle.scales.specs.declared.Time.{Time}
use Rattle.ground_laws.proofs.Desks.{answered, empty, by_number, by_micro, refuses_all, day_zero}

-- ---- Scale::code
-- the codes counted from 1
abbrev from_one : Scale → ℕ
from_one s = code_of s + 1

pub code_from_one : ShutOut (code_of S.Tai) 0 (from_one S.Tai) 1
code_from_one = (refl, refl, λ e. omega arith)

-- UTC and GPS in each other's place
abbrev exchanged : Scale → ℕ
exchanged s = cond (eqb (code_of s) 0) 0 (3 - code_of s)

pub code_exchanged : ShutOut (code_of S.Utc) 1 (exchanged S.Utc) 2
code_exchanged = (refl, refl, λ e. omega arith)

-- ---- Refusal::number
-- the rows counted from 0
abbrev from_row_zero : Refusal → ℕ
from_row_zero f = number_of f - 1

pub number_from_zero : ShutOut (number_of R.OutsideSpan) 7 (from_row_zero R.OutsideSpan) 6
number_from_zero = (refl, refl, λ e. omega arith)

-- 9 and 10 in each other's place
abbrev swapped : Refusal → ℕ
swapped f = cond (eqb (number_of f) 9) 10 (cond (eqb (number_of f) 10) 9 (number_of f))

pub number_swapped : ShutOut (number_of R.ListExpired) 9 (swapped R.ListExpired) 10
number_swapped = (refl, refl, λ e. omega arith)

-- ---- the constructors, and `judged` and `to_time` of a record: a desk with another test in the place of the span's
abbrev desk : (Scale → ℤ → ℕ → Bool) → ℕ → Scale → ℤ → ℕ → Slip
desk test n s d u = dated s (outcome (given (test s d u) n (gives (record { day = d; micro = u }))))

-- one day more
abbrev one_day_more : Scale → ℤ → ℕ → Bool
one_day_more s d u = le_z (first s) d && (le_z d (pos 36525) && ltb u (bound s))

pub span_one_day_more : ShutOut (spanned S.Tai (pos 36525) 0) (empty 7 S.Tai) (desk one_day_more 7 S.Tai (pos 36525) 0) (answered S.Tai (pos 36525) 0)
unfolding spanned_as
span_one_day_more = (refl, refl, by_number (λ e. omega arith))

-- the bound itself taken
abbrev bound_taken : Scale → ℤ → ℕ → Bool
bound_taken s d u = le_z (first s) d && (le_z d (last s) && leb u (bound s))

pub span_bound_taken : ShutOut (spanned S.Tai (pos 0) 86400000000) (empty 7 S.Tai) (desk bound_taken 7 S.Tai (pos 0) 86400000000) (answered S.Tai (pos 0) 86400000000)
unfolding spanned_as
span_bound_taken = (refl, refl, by_number (λ e. omega arith))

-- one first day for all scales
abbrev one_first_day : Scale → ℤ → ℕ → Bool
one_first_day s d u = le_z (first S.Tai) d && (le_z d (last s) && ltb u (bound s))

pub span_one_first_day : ShutOut (spanned S.Gps (negsuc 7300) 0) (empty 7 S.Gps) (desk one_first_day 7 S.Gps (negsuc 7300) 0) (answered S.Gps (negsuc 7300) 0)
unfolding spanned_as
span_one_first_day = (refl, refl, by_number (λ e. omega arith))

-- no second 60 in UTC
abbrev no_sixty : Scale → ℤ → ℕ → Bool
no_sixty s d u = le_z (first s) d && (le_z d (last s) && ltb u 86400000000)

pub span_no_sixty : ShutOut (spanned S.Utc (pos 6209) 86400000000) (answered S.Utc (pos 6209) 86400000000) (desk no_sixty 7 S.Utc (pos 6209) 86400000000) (empty 7 S.Utc)
unfolding spanned_as
span_no_sixty = (refl, refl, by_number (λ e. omega arith))

-- another number
pub span_eleven : ShutOut (spanned S.Utc (pos 36525) 0) (empty 7 S.Utc) (desk one_first_day 11 S.Utc (pos 36525) 0) (empty 11 S.Utc)
unfolding spanned_as
span_eleven = (refl, refl, by_number (λ e. omega arith))

-- a refusal that hands back what was handed in
abbrev hands_back : Scale → ℤ → ℕ → Slip
hands_back s d u = record { number = 7; scale = s; day = d; micro = u; mark = M.Plain }

pub span_hands_back : ShutOut (spanned S.Tai (pos 36525) 5) (empty 7 S.Tai) (hands_back S.Tai (pos 36525) 5) (record { number = 7; scale = S.Tai; day = pos 36525; micro = 5; mark = M.Plain })
unfolding spanned_as
span_hands_back = (refl, refl, by_micro (λ e. omega arith))

-- the desk that refuses all, and the one that answers day 0 for everything, in each scale
pub refuses_all_lem : (s : Scale) → ShutOut (spanned s (pos 5) 7) (answered s (pos 5) 7) (refuses_all s) (empty 7 s)
unfolding spanned_as
refuses_all_lem S.Tai = (refl, refl, by_number (λ e. omega arith))
refuses_all_lem S.Utc = (refl, refl, by_number (λ e. omega arith))
refuses_all_lem S.Gps = (refl, refl, by_number (λ e. omega arith))

pub day_zero_lem : (s : Scale) → ShutOut (spanned s (pos 5) 7) (answered s (pos 5) 7) (day_zero s) (answered s (pos 0) 0)
unfolding spanned_as
day_zero_lem S.Tai = (refl, refl, by_micro (λ e. omega arith))
day_zero_lem S.Utc = (refl, refl, by_micro (λ e. omega arith))
day_zero_lem S.Gps = (refl, refl, by_micro (λ e. omega arith))

-- every record judged as one of TAI
abbrev judged_tai : Scale → ℤ → ℕ → Slip
judged_tai s d u = spanned S.Tai d u

pub span_judged_tai : ShutOut (spanned S.Utc (pos 6209) 86400000000) (answered S.Utc (pos 6209) 86400000000) (judged_tai S.Utc (pos 6209) 86400000000) (empty 7 S.Tai)
unfolding spanned_as
span_judged_tai = (refl, refl, by_number (λ e. omega arith))

-- ---- Time::scale
-- every time TAI
abbrev always_tai : Time → Scale
always_tai t = S.Tai

pub time_always_tai : ShutOut (time_scale (time_at S.Utc 0)) S.Utc (always_tai (time_at S.Utc 0)) S.Tai
time_always_tai = (refl, refl, differ code_of (λ e. omega arith))

-- the scale told by the length of its day: GPS is taken for TAI
abbrev by_bound : Time → Scale
by_bound t = cond (eqb (bound (time_scale t)) 86400000000) S.Tai S.Utc

pub time_by_bound : ShutOut (time_scale (time_at S.Gps 0)) S.Gps (by_bound (time_at S.Gps 0)) S.Tai
time_by_bound = (refl, refl, differ code_of (λ e. omega arith))

-- ---- to_record
-- the scale of a time lost
abbrev scale_lost : Time → Record
scale_lost t = record_at S.Tai (time_count t)

abbrev at_zero : Time
at_zero = time_at S.Gps 3456000000000000

pub time_scale_lost : ShutOut (record_at (time_scale at_zero) (time_count at_zero)) (record_of S.Gps (pos 0) 0) (scale_lost at_zero) (record_of S.Tai (pos 0) 0)
time_scale_lost = (refl, refl, differ (λ (r : Record). code_of r.scale) (λ e. omega arith))

-- 86,401 s a day in every scale
abbrev long_days : Scale → ℕ → Record
long_days s n = record_of s (day_at (n / 86401000000)) (n % 86401000000)

pub time_long_days : ShutOut (record_at (time_scale at_zero) (time_count at_zero)) (record_of S.Gps (pos 0) 0) (long_days (time_scale at_zero) (time_count at_zero)) (record_of S.Gps (negsuc 0) 46401000000)
time_long_days = (refl, refl, differ (λ (r : Record). r.micro) (λ e. omega arith))

pub record_long_days : ShutOut (record_at S.Tai 3456000000000000) (record_of S.Tai (pos 0) 0) (long_days S.Tai 3456000000000000) (record_of S.Tai (negsuc 0) 46401000000)
record_long_days = (refl, refl, differ (λ (r : Record). r.micro) (λ e. omega arith))

pub record_long_gps : ShutOut (record_at S.Gps 3456000000000000) (record_of S.Gps (pos 0) 0) (long_days S.Gps 3456000000000000) (record_of S.Gps (negsuc 0) 46401000000)
record_long_gps = (refl, refl, differ (λ (r : Record). r.micro) (λ e. omega arith))

-- UTC counts with 86,400 s a day
abbrev even_days : Scale → ℕ → Record
even_days s n = record_of s (day_at (n / 86400000000)) (n % 86400000000)

pub record_even_days :
    ShutOut (record_at S.Utc 3456040000000000) (record_of S.Utc (pos 0) 0) (even_days S.Utc 3456040000000000) (record_of S.Utc (pos 0) 40000000000)
record_even_days = (refl, refl, differ (λ (r : Record). r.micro) (λ e. omega arith))

-- the place handed out as the day
abbrev place_as_day : Scale → ℕ → Record
place_as_day s n = record_of s (pos (n / bound s)) (n % bound s)

pub record_place_as_day :
    ShutOut (record_at S.Tai 3456000000000000) (record_of S.Tai (pos 0) 0) (place_as_day S.Tai 3456000000000000) (record_of S.Tai (pos 40000) 0)
record_place_as_day = (refl, refl, differ (λ (r : Record). nat_abs r.day) (λ e. omega arith))

pub record_place_utc :
    ShutOut (record_at S.Utc 3456040000000000) (record_of S.Utc (pos 0) 0) (place_as_day S.Utc 3456040000000000) (record_of S.Utc (pos 40000) 0)
record_place_utc = (refl, refl, differ (λ (r : Record). nat_abs r.day) (λ e. omega arith))

pub record_place_gps :
    ShutOut (record_at S.Gps 3456000000000000) (record_of S.Gps (pos 0) 0) (place_as_day S.Gps 3456000000000000) (record_of S.Gps (pos 40000) 0)
record_place_gps = (refl, refl, differ (λ (r : Record). nat_abs r.day) (λ e. omega arith))

-- ---- Record::new
-- the microsecond brought into the day: a record is kept as handed in, so that 7 can be judged later
abbrev carried : Scale → ℤ → ℕ → Record
carried s d u = record_of s d (u % bound s)

pub record_carried :
    ShutOut (record_of S.Gps (pos 0) 86400000001) (record_of S.Gps (pos 0) 86400000001) (carried S.Gps (pos 0) 86400000001) (record_of S.Gps (pos 0) 1)
record_carried = (refl, refl, differ (λ (r : Record). r.micro) (λ e. omega arith))

-- every record TAI
abbrev all_tai : Scale → ℤ → ℕ → Record
all_tai s d u = record_of S.Tai d u

pub record_all_tai : ShutOut (record_of S.Utc (pos 0) 0) (record_of S.Utc (pos 0) 0) (all_tai S.Utc (pos 0) 0) (record_of S.Tai (pos 0) 0)
record_all_tai = (refl, refl, differ (λ (r : Record). bound r.scale) (λ e. omega arith))
