-- The date of a day and the day of a date undo each other. Assumes nothing.
use Rattle.std.specs.Prelude.{◌≡◌, refl, true, ℕ, ◌+◌, ◌-◌, ℤ, pos}
use Rattle.std.proofs.Common.{sym, ap, ◌∙◌, arith, lit<, lit≤, leb-true}
use Rattle.std.specs.Int.Signed.{le_z}
use Rattle.axis.specs.Meaning.{place_of_day, day_at}
use Rattle.axis.specs.Axis.{day_from, day_to, day_place}
use Rattle.scales.specs.Meaning.{first, last, answer}
use Rattle.scales.specs.declared.Scale.TheVariants as S
use Rattle.calendar.specs.Meaning.{length_of, first_day, year_of, month_of, months_to, Spot, walk, date_in, date_at, date_handed, day_handed, date_of_day, day_of_date}
use Rattle.calendar.specs.Walk.{Located, spotted, walk_at}
use Rattle.calendar.specs.Days.{date_within, day_within, days_to_date}
use Rattle.calendar.specs.Dates.{Real, real_is, year_back, month_back, date_located, located_span}
use Rattle.calendar.specs.Told.{dated, counted}
use Rattle.calendar.specs.declared.Date.{Date}
use Rattle.calendar_laws.specs.Computed.{on, leap_day, leap_date}

-- a day of a month of the span has a date of the rule
date_real : (n k r : ℕ) → Located n k r → Real (date_in k r)
unfolding length_of
date_real n k r l =
    let h = l.early in
    let s = l.short in
    record { year_to = omega arith; month_from = omega arith; month_to = omega arith; day_from = omega arith; day_to = omega arith }

-- the day of the date of the n-th day
count_date : (n k r : ℕ) → Located n k r → day_of_date (date_in k r) ≡ day_handed (answer (day_at (n + 29773)))
count_date n k r l =
    let h = l.early in
    let w = l.whole in
    let m : months_to (year_of k) (month_of k) ≡ k = omega arith in
    let e : first_day (months_to (year_of k) (month_of k)) + (r + 1 - 1) ≡ n = omega (arith, ap first_day m) in
    sym (day_within (date_in k r) (real_is (date_in k r) (date_real n k r l)) (omega arith) (omega arith))
    ∙ ap (λ (x : ℕ). day_handed (answer (day_at (x + 29773)))) e

-- ---- the day of the date of a day is the day
pub day_of_date_lem : (d : ℤ) (t : Date) → date_of_day d ≡ date_handed (answer t) → day_of_date t ≡ day_handed (answer d)
day_of_date_lem d t e =
    let q = dated d t e in
    let f = q.from in
    let g = q.to in
    let p = place_of_day d in
    let s = spotted (p - 29773) (omega arith) in
    let x : date_in s.month s.past ≡ t = sym (ap date_at (walk_at (p - 29773) s.month s.past s.there)) ∙ q.date in
    let y : p - 29773 + 29773 ≡ p = omega arith in
    ap day_of_date (sym x)
    ∙ count_date (p - 29773) s.month s.past s.there
    ∙ ap (λ (z : ℤ). day_handed (answer z)) (ap day_at y ∙ day_place d (omega arith) (omega arith))

pub day_of_date_instance : day_of_date (on 2000 2 29) ≡ day_handed (answer (pos 59))
day_of_date_instance = day_of_date_lem (pos 59) (on 2000 2 29) leap_date

-- and every day of the span has a date
pub record HasDate (d : ℤ) : Type 0 where
  pub date : Date
  pub is : date_of_day d ≡ date_handed (answer date)

pub has_date : (d : ℤ) → le_z (first S.Tai) d ≡ true → le_z d (last S.Tai) ≡ true → HasDate d
has_date d h k =
    let f = leb-true 29773 (place_of_day d) (sym (day_from 29773 d (lit< tt) (lit≤ tt)) ∙ h) in
    let g = leb-true (place_of_day d) 76524 (sym (day_to 76524 d (lit< tt)) ∙ k) in
    record { date = date_at (walk 1536 0 (place_of_day d - 29773)); is = sym (date_within d f g) }

pub has_date_instance : date_of_day (pos 59) ≡ date_handed (answer (has_date (pos 59) refl refl).date)
has_date_instance = (has_date (pos 59) refl refl).is

-- ---- the date of the day of a date is the date
pub date_of_day_lem : (t : Date) (d : ℤ) → day_of_date t ≡ day_handed (answer d) → date_of_day d ≡ date_handed (answer t)
date_of_day_lem t d e =
    let q = counted t d e in
    let n = days_to_date t in
    let k = months_to t.year t.month in
    let l = date_located t q.rule q.from q.to in
    let h = located_span n k (t.day - 1) l in
    let x : place_of_day d - 29773 ≡ n = omega arith in
    let y : t.day - 1 + 1 ≡ t.day = omega arith in
    sym (date_within d (omega arith) (omega arith))
    ∙ ap (λ (z : ℕ). date_handed (answer (date_at (walk 1536 0 z)))) x
    ∙ ap (λ (z : Spot). date_handed (answer (date_at z))) (walk_at n k (t.day - 1) l)
    ∙ rw (year_back t q.rule q.from, month_back t q.rule q.from, y)

pub date_of_day_instance : date_of_day (pos 59) ≡ date_handed (answer (on 2000 2 29))
date_of_day_instance = date_of_day_lem (on 2000 2 29) (pos 59) leap_day
