-- The Gregorian calendar as the paper states it. Days are signed, counted from 1 January 2000. Assumes nothing.
use Rattle.std.specs.Prelude.{Bool, true, cond, not, ◌&&◌, ◌||◌, List, [], ◌∷◌, ℕ, zero, suc, ◌+◌, ◌-◌, ◌*◌, ◌/◌, ◌%◌, eqb, leb, ltb, ℤ, pos, nat_abs, ◌-ℤ◌, Result}
use Rattle.std.proofs.Math.IntN.{sub_ℕ}
use Rattle.std.specs.Int.Signed.{le_z}
use Rattle.scales.specs.Meaning.{first, last, Judged, given, gives, Outcome, outcome, Valued, valued, value_slip}
use Rattle.scales.specs.declared.Scale.TheVariants as S
use Rattle.scales.specs.declared.Refusal.{Refusal}
use Rattle.calendar.specs.declared.Date.{Date}

-- ---- "Dates are Gregorian"
unfoldable pub leap : ℕ → Bool
leap y = eqb (y % 400) 0 || (not (eqb (y % 100) 0) && eqb (y % 4) 0)

unfoldable pub month_length : ℕ → ℕ → ℕ
month_length y m =
    cond (eqb m 2) (cond (leap y) 29 28)
    (cond (eqb m 4 || eqb m 6 || eqb m 9 || eqb m 11) 30 31)

-- "the rule is applied to years 0000 to 9999"
unfoldable pub is_date : Date → Bool
is_date t =
    leb t.year 9999 && leb 1 t.month && leb t.month 12 && leb 1 t.day
    && leb t.day (month_length t.year t.month)

-- ---- months, counted from January 1972
abbrev pub months_to : ℕ → ℕ → ℕ
months_to y m = (y - 1972) * 12 + (m - 1)

abbrev pub year_of : ℕ → ℕ
year_of k = 1972 + k / 12

abbrev pub month_of : ℕ → ℕ
month_of k = 1 + k % 12

unfoldable pub length_of : ℕ → ℕ
length_of k = month_length (year_of k) (month_of k)

-- "each entry is the one before plus that month's length": the days from 1 January 1972 to the first of month k
unfoldable pub first_day : ℕ → ℕ
first_day zero = 0
first_day (suc k) = first_day k + length_of k

-- ---- "a day counted from 1 January 2000": the day that comes n days after 1 January 1972, and back
unfoldable pub day_after : ℕ → ℤ
day_after n = sub_ℕ n (first_day (months_to 2000 1))

unfoldable pub days_to : ℤ → ℕ
days_to d = nat_abs (d -ℤ day_after 0)

-- ---- where a day lies: its month, and the days of that month before it
pub record Spot : Type 0 where
  pub month : ℕ
  pub past : ℕ

-- with n days left in month k, count off whole months, at most f
unfoldable pub walk : ℕ → ℕ → ℕ → Spot
walk zero k n = record { month = k; past = n }
walk (suc f) k n = cond (ltb n (length_of k)) (record { month = k; past = n }) (walk f (suc k) (n - length_of k))

abbrev pub date_in : ℕ → ℕ → Date
date_in k r = record { year = year_of k; month = month_of k; day = r + 1 }

abbrev pub date_at : Spot → Date
date_at s = date_in s.month s.past

-- ---- the date of a day: 7 outside the span, whose 1,536 months are January 1972 to December 2099
abbrev pub giving_date : ℤ → Judged Date
giving_date d =
    given (le_z (first S.Tai) d && le_z d (last S.Tai)) 7
    (gives (date_at (walk 1536 0 (days_to d))))

-- ---- the day of a date: 3 where the rule lacks it, 7 outside the span
abbrev pub giving_day : Date → Judged ℤ
giving_day t =
    given (is_date t) 3
    (given (leb 1972 t.year && leb t.year 2099) 7
    (gives (day_after (first_day (months_to t.year t.month) + (t.day - 1)))))

-- ---- is the day the first of a month, January 1972 to January 2100: no day is left when whole months are counted off
unfoldable pub is_first : ℤ → Bool
is_first d = le_z (first S.Tai) d && eqb (walk 1536 0 (days_to d)).past 0

abbrev pub all_firsts : List ℤ → Bool
all_firsts [] = true
all_firsts (d ∷ ds) = is_first d && all_firsts ds

-- ---- what the desk hands back: the number, and the date or the day; of a refusal the date without year, month and day, or day 0
abbrev pub no_date : Date
no_date = record { year = 0; month = 0; day = 0 }

abbrev pub date_handed : Outcome Date → Valued Date
date_handed o = valued no_date o

abbrev pub day_handed : Outcome ℤ → Valued ℤ
day_handed o = valued (pos 0) o

abbrev pub date_slip : Result Date Refusal → Valued Date
date_slip r = value_slip no_date r

abbrev pub day_slip : Result ℤ Refusal → Valued ℤ
day_slip r = value_slip (pos 0) r

unfoldable pub date_of_day : ℤ → Valued Date
date_of_day d = date_handed (outcome (giving_date d))

unfoldable pub day_of_date : Date → Valued ℤ
day_of_date t = day_handed (outcome (giving_day t))
