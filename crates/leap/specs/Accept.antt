-- What acceptance says: the ways out of the test of it, and what an accepted list has. Assumes nothing.
use Rattle.std.specs.Prelude.{◌≡◌, refl, true, false, ◌&&◌, List, [], ◌∷◌, ℕ, zero, suc, ◌+◌, ◌-◌, ◌<◌, ◌≤◌, leb, eqb, ℤ, pos, negsuc, ◌+ℤ◌, length, get_or, drop}
use Rattle.std.proofs.Math.Path.{sym}
use Rattle.std.proofs.Common.{ap, ◌∙◌, arith, lit<, lit≤, leb-true, le-leb, eq-eqb, ne_eqb}
use Rattle.std.specs.Int.Signed.{le_z}
use Rattle.std.proofs.lemmas.Bool.{lt-leb}
use Rattle.axis.specs.Meaning.{place_of_day, day_at}
use Rattle.axis.specs.Axis.{day_from, day_to, day_place, day_next}
use Rattle.scales.specs.Place.{and_false, and_both}
use Rattle.calendar.specs.Meaning.{leap, month_length, length_of, walk, is_first, all_firsts}
use Rattle.calendar.specs.Days.{first_within}
use Rattle.calendar.specs.Told.{first_span}
use Rattle.leap.specs.Meaning.{same_day, are_steps, begins, rises, counts_up, ends_in, none_later, accepted}
use Rattle.leap.specs.Places.{same_at}
use Rattle.leap.specs.Follow.{rest}

-- ---- a day that is the first of a month stands well on the axis
pub first_at_lem : (d : ℤ) → is_first d ≡ true → day_at (place_of_day d) ≡ d
first_at_lem d e = let s = first_span d e in day_place d (omega (arith, s.0)) (omega (arith, s.1))

pub firsts_at : (ds : List ℤ) (k : ℕ) → all_firsts ds ≡ true → k < length ds → is_first (get_or ds k (pos 0)) ≡ true
firsts_at [] k e h = absurd (omega arith)
firsts_at (d ∷ ds) zero e h = (and_both (is_first d) (all_firsts ds) e).0
firsts_at (d ∷ ds) (suc k) e h = firsts_at ds k (and_both (is_first d) (all_firsts ds) e).1 (omega arith)

-- ---- the last day
ends_at : (e : ℤ) → 29773 ≤ place_of_day e → place_of_day e ≤ 76524 → ends_in e ≡ true
ends_at e h k =
    rw (day_from 29773 e (lit< tt) (lit≤ tt), day_to 76524 e (lit< tt), le-leb 29773 (place_of_day e) h, le-leb (place_of_day e) 76524 k)

pub ends_span : (e : ℤ) → ends_in e ≡ true → (29773 ≤ place_of_day e) × (place_of_day e ≤ 76524)
ends_span e t =
    let x = and_both (le_z (negsuc 10226) e) (le_z e (pos 36524)) t in (
      leb-true 29773 (place_of_day e) (sym (day_from 29773 e (lit< tt) (lit≤ tt)) ∙ x.0),
      leb-true (place_of_day e) 76524 (sym (day_to 76524 e (lit< tt)) ∙ x.1),
    )

-- ---- the first step: 1 January 1972
first_is : (d : ℤ) → place_of_day d ≡ 29773 → is_first d ≡ true
unfolding walk length_of month_length leap
first_is d h = first_within d (omega arith) (omega arith) ∙ ap (λ (n : ℕ). eqb (walk 1536 0 (n - 29773)).past 0) h

first_ok : (d : ℤ) (o : ℕ) → place_of_day d ≡ 29773 → o ≡ 10 → (same_day d (negsuc 10226) && eqb o 10) ≡ true
first_ok d o h k = rw (same_at d 29773 (lit< tt) (lit< tt), eq-eqb (place_of_day d) 29773 h, eq-eqb o 10 k)

-- ---- acceptance, by its parts
other_day : (ds : List ℤ) (os : List ℕ) → (place_of_day (get_or ds 0 (pos 0)) ≡ 29773 → ⊥) → begins ds os ≡ false
unfolding begins
other_day [] os h = refl
other_day (d ∷ ds) [] h = refl
other_day (d ∷ ds) (o ∷ os) h = rw (same_at d 29773 (lit< tt) (lit< tt), ne_eqb (place_of_day d) 29773 h)

other_offset : (ds : List ℤ) (os : List ℕ) → (get_or os 0 0 ≡ 10 → ⊥) → begins ds os ≡ false
unfolding begins
other_offset [] os h = refl
other_offset (d ∷ ds) [] h = refl
other_offset (d ∷ ds) (o ∷ os) h = rw (ne_eqb o 10 h, and_false (same_day d (negsuc 10226)))

-- ---- the ways out of the test, each by the part that decides
module _ (ds : List ℤ) (os : List ℕ) (e : ℤ) where
  steps_no : are_steps ds os ≡ false → false ≡ accepted ds os e
  unfolding accepted
  steps_no h = rw h

  begins_no : begins ds os ≡ false → false ≡ accepted ds os e
  unfolding accepted
  begins_no h = sym (rw (h, and_false (are_steps ds os)))

  ends_no : ends_in e ≡ false → false ≡ accepted ds os e
  unfolding accepted
  ends_no h =
      sym
      (rw (h, and_false (counts_up os), and_false (all_firsts ds), and_false (rises ds), and_false (begins ds os), and_false (are_steps ds os)))

  pub accept_empty : length ds < 1 → false ≡ accepted ds os e
  accept_empty h = steps_no (rw (lt-leb 1 (length ds) h))

  pub accept_long : 64 < length ds → false ≡ accepted ds os e
  accept_long h = steps_no (rw (lt-leb (length ds) 64 h, and_false (leb 1 (length ds))))

  pub accept_uneven : (length os ≡ length ds → ⊥) → false ≡ accepted ds os e
  accept_uneven h = steps_no (rw (ne_eqb (length os) (length ds) h, and_false (leb (length ds) 64), and_false (leb 1 (length ds))))

  pub accept_early : place_of_day e < 29773 → false ≡ accepted ds os e
  accept_early h = ends_no (rw (day_from 29773 e (lit< tt) (lit≤ tt), lt-leb 29773 (place_of_day e) h))

  pub accept_late : 76524 < place_of_day e → false ≡ accepted ds os e
  accept_late h = ends_no (rw (day_to 76524 e (lit< tt), lt-leb (place_of_day e) 76524 h, and_false (le_z (negsuc 10226) e)))

  pub accept_other_day : (place_of_day (get_or ds 0 (pos 0)) ≡ 29773 → ⊥) → false ≡ accepted ds os e
  accept_other_day h = begins_no (other_day ds os h)

  pub accept_other_offset : (get_or os 0 0 ≡ 10 → ⊥) → false ≡ accepted ds os e
  accept_other_offset h = begins_no (other_offset ds os h)

steps_ok : (ds : List ℤ) (os : List ℕ) → 1 ≤ length ds → length ds ≤ 64 → length os ≡ length ds → are_steps ds os ≡ true
steps_ok ds os a b c = rw (le-leb 1 (length ds) a, le-leb (length ds) 64 b, eq-eqb (length os) (length ds) c)

not_later : (d e : ℤ) → (0 < place_of_day d) × (place_of_day d ≤ place_of_day e) → place_of_day e ≤ 76524 → le_z d (e +ℤ pos 1) ≡ true
not_later d e h k =
    ap (λ (n : ℤ). le_z d (n +ℤ pos 1)) (sym (day_place e (omega (arith, h.0, h.1)) (omega arith)))
    ∙ ap (le_z d) (day_next (place_of_day e))
    ∙ day_to (place_of_day e + 1) d (omega arith)
    ∙ le-leb (place_of_day d) (place_of_day e + 1) (omega (arith, h.1))

-- all holds but what is said of the steps after the first
pub accept_rest : (ds : List ℤ) (os : List ℕ) (e : ℤ) → 1 ≤ length ds → length ds ≤ 64 → length os ≡ length ds → 29773 ≤ place_of_day e
    → place_of_day e ≤ 76524 → place_of_day (get_or ds 0 (pos 0)) ≡ 29773 → get_or os 0 0 ≡ 10
    → rest (e +ℤ pos 1) (get_or ds 0 (pos 0)) 10 (drop 1 ds) (drop 1 os) ≡ accepted ds os e
unfolding accepted begins rises counts_up none_later
accept_rest [] os e a b c x y p q = absurd (omega arith)
accept_rest (d ∷ ds) [] e a b c x y p q = absurd (omega arith)
accept_rest (d ∷ ds) (o ∷ os) e a b c x y p q =
    rw (steps_ok (d ∷ ds) (o ∷ os) a b c, first_ok d o p q, first_is d p, ends_at e x y, not_later d e (omega arith, omega arith) y)
    (ap (λ (n : ℕ). rest (e +ℤ pos 1) d n ds os) (sym q))
