-- Wrong programs that the contracts shut out: for each an input, the right answer and the wrong one, which differ.
-- Assumes nothing.
use Rattle.std.specs.Prelude.{◌≡◌, refl, Bool, true, false, cond, not, ◌&&◌, List, [], ◌∷◌, ℕ, ◌-◌, ◌+◌, ◌%◌, ◌<◌, eqb, leb, ℤ, pos}
use Rattle.std.proofs.Common.{sym, ◌∙◌, true≢false, arith}
use Rattle.std.proofs.lemmas.Bool.{false≢true}
use Rattle.std.specs.Int.Signed.{le_z}
use Rattle.evidence.specs.ShutOut.{ShutOut, Outgrown}
use Rattle.scales.specs.Meaning.{first, last, given, gives, outcome, Valued}
use Rattle.scales.specs.declared.Scale.TheVariants as S
use Rattle.calendar.specs.Meaning.{leap, month_length, length_of, first_day, months_to, is_date, day_after, days_to, walk, date_at, date_handed, day_handed, date_of_day, day_of_date, is_first, all_firsts}
use Rattle.calendar.specs.declared.Date.{Date}
use Rattle.calendar_laws.specs.Computed.{on}
use Rattle.calendar_laws.specs.Firsts.{FirstOf, first_of_month, month_of_first, FirstsOf, all_of_months, months_of_all}

-- ---- the day of a date, by another leap rule or by another test of dates
abbrev pub day_by : (Date → Bool) → Date → Valued ℤ
day_by test t =
    day_handed (outcome
    (given (test t) 3
    (given (leb 1972 t.year && leb t.year 2099) 7
    (gives (day_after (first_day (months_to t.year t.month) + (t.day - 1)))))))

-- in February alone
abbrev pub is_date_by : (ℕ → Bool) → Date → Bool
is_date_by rule t = eqb t.month 2 && leb 1 t.day && leb t.day (cond (rule t.year) 29 28)

-- every fourth year a leap year, 1900 and 2100 among them
abbrev pub every_fourth : ℕ → Bool
every_fourth y = eqb (y % 4) 0

pub leap_1900 : ShutOut (day_of_date (on 1900 2 29)) (record { number = 3; value = pos 0 }) (day_by (is_date_by every_fourth) (on 1900 2 29)) (record { number = 7; value = pos 0 })
unfolding day_of_date is_date month_length leap
leap_1900 = (refl, refl, λ e. let z : ◌≡◌ {A = ℕ} 3 7 = λ i. (e i).number in omega arith)

pub leap_2100 : ShutOut (day_of_date (on 2100 2 29)) (record { number = 3; value = pos 0 }) (day_by (is_date_by every_fourth) (on 2100 2 29)) (record { number = 7; value = pos 0 })
unfolding day_of_date is_date month_length leap
leap_2100 = (refl, refl, λ e. let z : ◌≡◌ {A = ℕ} 3 7 = λ i. (e i).number in omega arith)

-- no hundredth year a leap year, not even 2000
abbrev pub no_hundredth : ℕ → Bool
no_hundredth y = not (eqb (y % 100) 0) && eqb (y % 4) 0

pub no_leap_2000 : ShutOut (day_of_date (on 2000 2 29)) (record { number = 0; value = pos 59 }) (day_by (is_date_by no_hundredth) (on 2000 2 29)) (record { number = 3; value = pos 0 })
unfolding day_of_date is_date day_after first_day length_of month_length leap
no_leap_2000 = (refl, refl, λ e. let z : ◌≡◌ {A = ℕ} 0 3 = λ i. (e i).number in omega arith)

-- a date before the span as no date
abbrev pub is_late_date : Date → Bool
is_late_date t = is_date t && leb 1972 t.year

pub no_date_1971 : ShutOut (day_of_date (on 1971 12 31)) (record { number = 7; value = pos 0 }) (day_by is_late_date (on 1971 12 31)) (record { number = 3; value = pos 0 })
unfolding day_of_date is_date month_length leap
no_date_1971 = (refl, refl, λ e. let z : ◌≡◌ {A = ℕ} 7 3 = λ i. (e i).number in omega arith)

-- ---- the date of a day
-- days of the month from 0
abbrev pub date_from_zero : ℤ → Valued Date
date_from_zero d = let s = date_of_day d in record { number = s.number; value = on s.value.year s.value.month (s.value.day - 1) }

pub from_zero_lem : ShutOut (date_of_day (pos 0)) (record { number = 0; value = on 2000 1 1 }) (date_from_zero (pos 0)) (record { number = 0; value = on 2000 1 0 })
unfolding date_of_day days_to day_after walk first_day length_of month_length leap
from_zero_lem = (refl, refl, λ e. let z : ◌≡◌ {A = ℕ} 1 0 = λ i. (e i).value.day in omega arith)

-- January 2100 dated, as the table would allow
abbrev pub date_to_table : ℤ → Valued Date
date_to_table d =
    date_handed (outcome
    (given (le_z (first S.Tai) d && le_z d (pos 36555)) 7
    (gives (date_at (walk 1537 0 (days_to d))))))

pub past_the_span : ShutOut (date_of_day (pos 36525)) (record { number = 7; value = on 0 0 0 }) (date_to_table (pos 36525)) (record { number = 0; value = on 2100 1 1 })
unfolding date_of_day days_to day_after walk first_day length_of month_length leap
past_the_span = (refl, refl, λ e. let z : ◌≡◌ {A = ℕ} 7 0 = λ i. (e i).number in omega arith)

-- ---- are all these days firsts of months?
-- the first of the slice alone
abbrev pub head_first : List ℤ → Bool
head_first [] = true
head_first (d ∷ ds) = is_first d

pub head_alone : ShutOut (all_firsts (pos 0 ∷ pos 1 ∷ [])) false (head_first (pos 0 ∷ pos 1 ∷ [])) true
unfolding is_first days_to day_after walk first_day length_of month_length leap
head_alone = (refl, refl, false≢true)

-- of one day it is right
pub days_behind :
    Outgrown ((d : ℤ) → head_first (d ∷ []) ≡ true → FirstOf d)
    ((ds : List ℤ) → head_first ds ≡ true → FirstsOf ds)
days_behind = (month_of_first, λ w. false≢true (sym head_alone.0 ∙ all_of_months (w (pos 0 ∷ pos 1 ∷ []) head_alone.1)))

-- so is one that says yes to no more than one day
abbrev pub one_first : List ℤ → Bool
one_first [] = true
one_first (d ∷ []) = is_first d
one_first (d ∷ e ∷ ds) = false

two_firsts : all_firsts (pos 0 ∷ pos 31 ∷ []) ≡ true
unfolding is_first days_to day_after walk first_day length_of month_length leap
two_firsts = refl

pub one_day_alone :
    Outgrown ((k : ℕ) → k < 1537 → one_first (day_after (first_day k) ∷ []) ≡ true)
    ((ds : List ℤ) → FirstsOf ds → one_first ds ≡ true)
one_day_alone = (first_of_month, λ w. false≢true (w (pos 0 ∷ pos 31 ∷ []) (months_of_all (pos 0 ∷ pos 31 ∷ []) two_firsts)))

-- January 2100 missing
abbrev pub firsts_to2099 : List ℤ → Bool
firsts_to2099 [] = true
firsts_to2099 (d ∷ ds) = is_first d && le_z d (last S.Tai) && firsts_to2099 ds

pub no_january_2100 : ShutOut (all_firsts (pos 36525 ∷ [])) true (firsts_to2099 (pos 36525 ∷ [])) false
unfolding is_first days_to day_after walk first_day length_of month_length leap
no_january_2100 = (refl, refl, true≢false)
