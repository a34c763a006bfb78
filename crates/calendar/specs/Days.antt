-- The calendar on the axis of days, where 1 January 1972 is at place 29773 and 1 January 2100 at 76525: one law for each way
-- out of a meaning. Assumes nothing.
use Rattle.std.specs.Prelude.{◌≡◌, true, false, ℕ, suc, ◌+◌, ◌-◌, ◌<◌, ◌≤◌, leb, eqb, ℤ, pos, negsuc, nat_abs, neg_ℤ, ◌+ℤ◌}
use Rattle.std.proofs.Common.{ap, ◌∙◌, arith, lit<, lit≤}
use Rattle.std.proofs.Math.IntN.{sub_ℕ}
use Rattle.std.specs.Int.Signed.{le_z}
use borrow.Author.Tests.{le-leb, lt-leb, ne_eqb}
use Rattle.axis.specs.Meaning.{place_of_day, day_at}
use Rattle.axis.specs.Axis.{day_from, day_to}
use Rattle.axis.specs.Diff.{sub_pos, sub_eq, sub_add, sub_negate, is_pos, is_negsuc}
use Rattle.scales.specs.Meaning.{first, last, refused, answer}
use Rattle.scales.specs.Place.{and_false}
use Rattle.scales.specs.declared.Scale.TheVariants as S
use Rattle.calendar.specs.Meaning.{is_date, months_to, first_day, day_after, days_to, walk, date_at, date_handed, day_handed, date_of_day, day_of_date, is_first}
use Rattle.calendar.specs.Gregorian.{first_epoch}
use Rattle.calendar.specs.Walk.{walk_end}
use Rattle.calendar.specs.declared.Date.{Date}

-- ---- days from 1 January 1972, and places
pub after_at : (n : ℕ) → day_after n ≡ day_at (n + 29773)
unfolding day_after
after_at n = ap (sub_ℕ n) first_epoch ∙ sub_eq n 10227 (n + 29773) 40000 (omega arith)

-- the days to a day that is a - b
days_sub : (a b : ℕ) → b ≤ a + 10227 → days_to (sub_ℕ a b) ≡ a + 10227 - b
unfolding days_to day_after
days_sub a b h =
    ap (λ (x : ℕ). nat_abs (sub_ℕ a b +ℤ neg_ℤ (sub_ℕ 0 x))) first_epoch
    ∙ ap (λ (x : ℤ). nat_abs (sub_ℕ a b +ℤ x)) (sub_negate 0 10227)
    ∙ ap nat_abs (sub_add a b 10227 0 ∙ sub_pos (a + 10227) (b + 0) (omega arith))
    ∙ omega arith

days_pos : (n : ℕ) → days_to (pos n) ≡ n + 10227
days_pos n = ap days_to (is_pos n) ∙ days_sub n 0 (omega arith) ∙ omega arith

days_neg : (n : ℕ) → n < 10227 → days_to (negsuc n) ≡ 10226 - n
days_neg n h = ap days_to (is_negsuc n) ∙ days_sub 0 (suc n) (omega arith) ∙ omega arith

pub days_at : (d : ℤ) → 29773 ≤ place_of_day d → place_of_day d < 100000 → days_to d ≡ place_of_day d - 29773
days_at (pos n) h k = omega (arith, days_pos n)
days_at (negsuc n) h k = let l : n < 10227 = omega arith in omega (arith, days_neg n l)

days_late : (d : ℤ) → 76525 < place_of_day d → 46752 < days_to d
days_late (pos n) h = omega (arith, days_pos n)
days_late (negsuc n) h = absurd (omega arith)

-- ---- the span
from_is : (d : ℤ) → le_z (first S.Tai) d ≡ leb 29773 (place_of_day d)
from_is d = day_from 29773 d (lit< tt) (lit≤ tt)

to_is : (d : ℤ) → le_z d (last S.Tai) ≡ leb (place_of_day d) 76524
to_is d = day_to 76524 d (lit< tt)

module _ (d : ℤ) where
  pub date_early : place_of_day d < 29773 → date_handed (refused 7) ≡ date_of_day d
  unfolding date_of_day
  date_early h = rw (from_is d, lt-leb 29773 (place_of_day d) h)

  pub date_late : 76524 < place_of_day d → date_handed (refused 7) ≡ date_of_day d
  unfolding date_of_day
  date_late h = rw (to_is d, lt-leb (place_of_day d) 76524 h, and_false (le_z (first S.Tai) d))

  pub date_within : 29773 ≤ place_of_day d → place_of_day d ≤ 76524 → date_handed (answer (date_at (walk 1536 0 (place_of_day d - 29773)))) ≡ date_of_day d
  unfolding date_of_day
  date_within h k =
      rw (from_is d, le-leb 29773 (place_of_day d) h, to_is d, le-leb (place_of_day d) 76524 k, days_at d h (omega arith))

  pub first_early : place_of_day d < 29773 → is_first d ≡ false
  unfolding is_first
  first_early h = rw (from_is d, lt-leb 29773 (place_of_day d) h)

  pub first_late : 76525 < place_of_day d → is_first d ≡ false
  unfolding is_first
  first_late h =
      let l : 46752 < days_to d = days_late d h in
      rw (walk_end (days_to d) (omega arith), ne_eqb (days_to d - 46752) 0 (λ e. omega arith), and_false (le_z (first S.Tai) d))

  pub first_within : 29773 ≤ place_of_day d → place_of_day d ≤ 76525 → is_first d ≡ eqb (walk 1536 0 (place_of_day d - 29773)).past 0
  unfolding is_first
  first_within h k = rw (from_is d, le-leb 29773 (place_of_day d) h, days_at d h (omega arith))

-- ---- the day of a date
abbrev pub days_to_date : Date → ℕ
days_to_date t = first_day (months_to t.year t.month) + (t.day - 1)

module _ (t : Date) where
  pub day_lacks : is_date t ≡ false → day_handed (refused 3) ≡ day_of_date t
  unfolding day_of_date
  day_lacks e = rw e

  module _ (e : is_date t ≡ true) where
    pub day_early : t.year < 1972 → day_handed (refused 7) ≡ day_of_date t
    unfolding day_of_date
    day_early h = rw (e, lt-leb 1972 t.year h)

    pub day_late : 2099 < t.year → day_handed (refused 7) ≡ day_of_date t
    unfolding day_of_date
    day_late h = rw (e, lt-leb t.year 2099 h, and_false (leb 1972 t.year))

    pub day_within : 1972 ≤ t.year → t.year ≤ 2099 → day_handed (answer (day_at (days_to_date t + 29773))) ≡ day_of_date t
    unfolding day_of_date
    day_within h k = rw (e, le-leb 1972 t.year h, le-leb t.year 2099 k, after_at (days_to_date t))
