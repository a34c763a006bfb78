-- What an answer tells of what was asked. Assumes nothing.
use Rattle.std.specs.Prelude.{◌≡◌, refl, Bool, true, false, ℕ, ◌+◌, ◌-◌, ◌<◌, ◌≤◌, ℤ}
use Rattle.std.proofs.Common.{sym, ap, ◌∙◌, arith}
use Rattle.std.proofs.lemmas.Bool.{false≢true}
use Rattle.axis.specs.Meaning.{place_of_day, day_at}
use Rattle.axis.specs.Axis.{place_day}
use Rattle.axis.specs.Diff.{Way, way, below, above}
use Rattle.scales.specs.Meaning.{answer}
use Rattle.calendar.specs.Meaning.{is_date, walk, date_at, date_handed, day_handed, date_of_day, day_of_date, is_first}
use Rattle.calendar.specs.Days.{date_early, date_late, date_within, first_early, first_late, day_lacks, day_early, day_late, day_within, days_to_date}
use Rattle.calendar.specs.Dates.{Real, real, date_located, located_span}
use Rattle.calendar.specs.declared.Date.{Date}

-- a day that has a date lies in the span, and counting finds the date
pub record Dated (d : ℤ) (t : Date) : Type 0 where
  pub from : 29773 ≤ place_of_day d
  pub to : place_of_day d ≤ 76524
  pub date : date_at (walk 1536 0 (place_of_day d - 29773)) ≡ t

pub dated : (d : ℤ) (t : Date) → date_of_day d ≡ date_handed (answer t) → Dated d t
dated d t e = go (way (place_of_day d) 29773) (way 76524 (place_of_day d))
  where
    no : ◌≡◌ {A = ℕ} 7 0 → Dated d t
    no z = absurd (omega arith)

    go : Way (place_of_day d) 29773 → Way 76524 (place_of_day d) → Dated d t
    go (below h) k = let q = date_early d h ∙ e in no (λ i. (q i).number)
    go (above h) (below k) = let q = date_late d k ∙ e in no (λ i. (q i).number)
    go (above h) (above k) =
        let q = date_within d h k ∙ e in
        record { from = h; to = k; date = λ i. (q i).value }

-- a date that has a day is one of the rule in the span, and this is its day
pub record Counted (t : Date) (d : ℤ) : Type 0 where
  pub rule : Real t
  pub from : 1972 ≤ t.year
  pub to : t.year ≤ 2099
  pub place : place_of_day d ≡ days_to_date t + 29773
  pub day : d ≡ day_at (days_to_date t + 29773)

pub counted : (t : Date) (d : ℤ) → day_of_date t ≡ day_handed (answer d) → Counted t d
counted t d e = go (is_date t) refl (way t.year 1972) (way 2099 t.year)
  where
    no : (n : ℕ) → 0 < n → n ≡ 0 → Counted t d
    no n h z = absurd (omega arith)

    go : (b : Bool) → is_date t ≡ b → Way t.year 1972 → Way 2099 t.year → Counted t d
    go false r h k = let q = day_lacks t r ∙ e in no 3 (omega arith) (λ i. (q i).number)
    go true r (below h) k = let q = day_early t r h ∙ e in no 7 (omega arith) (λ i. (q i).number)
    go true r (above h) (below k) = let q = day_late t r k ∙ e in no 7 (omega arith) (λ i. (q i).number)
    go true r (above h) (above k) =
        let q = day_within t r h k ∙ e in
        let x : d ≡ day_at (days_to_date t + 29773) = λ i. (sym q i).value in
        let l = located_span (days_to_date t) _ _ (date_located t (real t r) h k) in
        record {
          rule = real t r;
          from = h;
          to = k;
          place = ap place_of_day x ∙ place_day (days_to_date t + 29773) (omega arith);
          day = x;
        }

-- a first of a month is a day from 1 January 1972 to 1 January 2100
pub first_span : (d : ℤ) → is_first d ≡ true → (29773 ≤ place_of_day d) × (place_of_day d ≤ 76525)
first_span d e = (from (way (place_of_day d) 29773), to (way 76525 (place_of_day d)))
  where
    from : Way (place_of_day d) 29773 → 29773 ≤ place_of_day d
    from (below h) = absurd (false≢true (sym (first_early d h) ∙ e))
    from (above h) = h

    to : Way 76525 (place_of_day d) → place_of_day d ≤ 76525
    to (below h) = absurd (false≢true (sym (first_late d h) ∙ e))
    to (above h) = h
