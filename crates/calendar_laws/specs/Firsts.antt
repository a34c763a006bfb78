-- The firsts of months are the 1,537 first days that the rule gives, and no others. Assumes nothing.
use Rattle.std.specs.Prelude.{◌≡◌, refl, true, List, [], ◌∷◌, ℕ, ◌+◌, ◌-◌, ◌<◌, ◌≤◌, eqb, ℤ, pos}
use Rattle.std.proofs.Common.{sym, ap, ◌∙◌, arith, eq-eqb, eqb-true}
use Rattle.axis.specs.Meaning.{place_of_day, day_at}
use Rattle.axis.specs.Axis.{place_day, day_place}
use Rattle.axis.specs.Diff.{Way, way, below, above}
use Rattle.scales.specs.Place.{and_both}
use Rattle.calendar.specs.Meaning.{leap, month_length, length_of, first_day, day_after, walk, is_first, all_firsts}
use Rattle.calendar.specs.Gregorian.{first_end, first_mono, length_bounds}
use Rattle.calendar.specs.Walk.{spotted, walk_at, walk_end}
use Rattle.calendar.specs.Days.{after_at, first_within}
use Rattle.calendar.specs.Told.{first_span}

pub first_of_month : (k : ℕ) → k < 1537 → is_first (day_after (first_day k)) ≡ true
first_of_month k h =
    let n = first_day k in
    let b : n ≤ 46752 = omega (arith, first_mono k 1536 (omega arith), first_end) in
    let p : place_of_day (day_after n) ≡ n + 29773 = ap place_of_day (after_at n) ∙ place_day (n + 29773) (omega arith) in
    let q : place_of_day (day_after n) - 29773 ≡ n = omega arith in
    first_within (day_after n) (omega arith) (omega arith)
    ∙ ap (λ (x : ℕ). eqb (walk 1536 0 x).past 0) q
    ∙ eq-eqb (walk 1536 0 n).past 0 (none (way k 1536))
  where
    none : Way k 1536 → (walk 1536 0 (first_day k)).past ≡ 0
    none (below l) = λ i. (walk_at (first_day k) k 0 (record { early = l; whole = omega arith; short = omega (arith, length_bounds k) }) i).past
    none (above l) =
        let e : k ≡ 1536 = omega arith in
        walk_end (first_day k) (omega (arith, ap first_day e, first_end)) ∙ omega (arith, ap first_day e, first_end)

pub first_of_month_instance : is_first (pos 36525) ≡ true
unfolding day_after first_day length_of month_length leap
first_of_month_instance = first_of_month 1536 (omega arith)

pub record FirstOf (d : ℤ) : Type 0 where
  pub month : ℕ
  pub early : month < 1537
  pub is : d ≡ day_after (first_day month)

pub month_of_first : (d : ℤ) → is_first d ≡ true → FirstOf d
month_of_first d e = go (place_of_day d - 29773) (first_span d e) (omega (arith, first_span d e)) (way (place_of_day d - 29773) 46752)
  where
    day : (k : ℕ) → place_of_day d ≡ first_day k + 29773 → place_of_day d ≤ 76525 → d ≡ day_after (first_day k)
    day k p h = sym (day_place d (omega arith) (omega arith)) ∙ ap day_at p ∙ sym (after_at (first_day k))

    go : (n : ℕ) → (29773 ≤ place_of_day d) × (place_of_day d ≤ 76525) → place_of_day d ≡ n + 29773 → Way n 46752 → FirstOf d
    go n (f, t) p (above l) = record { month = 1536; early = omega arith; is = day 1536 (omega (arith, first_end)) t }
    go n (f, t) p (below l) =
        let s = spotted n l in
        let q : place_of_day d - 29773 ≡ n = omega arith in
        let r : s.past ≡ 0 =
        (λ i. (sym (walk_at n s.month s.past s.there) i).past)
        ∙ eqb-true (walk 1536 0 n).past 0 (ap (λ (x : ℕ). eqb (walk 1536 0 x).past 0) (sym q) ∙ sym (first_within d f t) ∙ e)
        in
        let w = s.there.whole in
        let m = s.there.early in
        record { month = s.month; early = omega arith; is = day s.month (omega arith) t }

pub month_of_first_instance : FirstOf (pos 36525)
month_of_first_instance = month_of_first (pos 36525) first_of_month_instance

-- ---- of a list of days: all are firsts exactly when each is the first of a month
pub data FirstsOf : List ℤ → Type 0 where
  none : FirstsOf []
  more : {d : ℤ} {ds : List ℤ} → FirstOf d → FirstsOf ds → FirstsOf (d ∷ ds)

pub all_of_months : {ds : List ℤ} → FirstsOf ds → all_firsts ds ≡ true
all_of_months none = refl
all_of_months (more f r) = rw (ap is_first f.is ∙ first_of_month f.month f.early) (all_of_months r)

pub months_of_all : (ds : List ℤ) → all_firsts ds ≡ true → FirstsOf ds
months_of_all [] e = none
months_of_all (d ∷ ds) e =
    let k = and_both (is_first d) (all_firsts ds) e in
    more (month_of_first d k.0) (months_of_all ds k.1)

pub all_of_months_instance : all_firsts (pos 36525 ∷ []) ≡ true
all_of_months_instance = all_of_months (more month_of_first_instance none)

pub months_of_all_instance : FirstsOf (pos 36525 ∷ [])
months_of_all_instance = months_of_all (pos 36525 ∷ []) all_of_months_instance
