-- Days and dates computed from the stated meaning, and the scales' first and last days, which are these. Assumes nothing.
use Rattle.std.specs.Prelude.{◌≡◌, refl, true, [], ◌∷◌, ℕ, pos, negsuc}
use Rattle.scales.specs.Meaning.{first, last, answer}
use Rattle.scales.specs.declared.Scale.{Scale}
use Rattle.scales.specs.declared.Scale.TheVariants as S
use Rattle.calendar.specs.Meaning.{leap, month_length, length_of, first_day, is_date, day_after, days_to, walk, day_handed, date_handed, day_of_date, date_of_day, is_first, all_firsts}
use Rattle.calendar.specs.declared.Date.{Date}

abbrev pub on : ℕ → ℕ → ℕ → Date
on y m d = record { year = y; month = m; day = d }

pub start_1972 : day_of_date (on 1972 1 1) ≡ day_handed (answer (negsuc 10226))
unfolding day_of_date is_date day_after first_day length_of month_length leap
start_1972 = refl

pub start_1980 : day_of_date (on 1980 1 6) ≡ day_handed (answer (negsuc 7299))
unfolding day_of_date is_date day_after first_day length_of month_length leap
start_1980 = refl

pub start_2000 : day_of_date (on 2000 1 1) ≡ day_handed (answer (pos 0))
unfolding day_of_date is_date day_after first_day length_of month_length leap
start_2000 = refl

pub end_2099 : day_of_date (on 2099 12 31) ≡ day_handed (answer (pos 36524))
unfolding day_of_date is_date day_after first_day length_of month_length leap
end_2099 = refl

-- the same days are the scales' spans
pub starts : Scale → Date
starts S.Tai = on 1972 1 1
starts S.Utc = on 1972 1 1
starts S.Gps = on 1980 1 6

pub first_is : (s : Scale) → day_of_date (starts s) ≡ day_handed (answer (first s))
unfolding starts
first_is S.Tai = start_1972
first_is S.Utc = start_1972
first_is S.Gps = start_1980

pub last_is : (s : Scale) → day_of_date (on 2099 12 31) ≡ day_handed (answer (last s))
last_is S.Tai = end_2099
last_is S.Utc = end_2099
last_is S.Gps = end_2099

-- the leap day of 2000, both ways
pub leap_day : day_of_date (on 2000 2 29) ≡ day_handed (answer (pos 59))
unfolding day_of_date is_date day_after first_day length_of month_length leap
leap_day = refl

pub leap_date : date_of_day (pos 59) ≡ date_handed (answer (on 2000 2 29))
unfolding date_of_day days_to day_after walk first_day length_of month_length leap
leap_date = refl

-- firsts of months: the ends of the table's months are among them, and no day beside them
pub firsts : all_firsts (negsuc 10226 ∷ pos 0 ∷ pos 36525 ∷ []) ≡ true
unfolding is_first days_to day_after walk first_day length_of month_length leap
firsts = refl
