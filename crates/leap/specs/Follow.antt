-- The steps after the first: what is said of them, and the test of them from the last down, where it goes on and where it fails.
-- Assumes nothing.
use Rattle.std.specs.Prelude.{◌≡◌, refl, Bool, true, false, not, ◌&&◌, List, ◌∷◌, ℕ, zero, suc, ◌+◌, ◌<◌, ◌≤◌, eqb, ℤ, pos, negsuc, get_or, drop}
use Rattle.std.proofs.Common.{sym, ap, ◌∙◌, add-one, arith, lit<, drop-cons}
use Rattle.std.proofs.lemmas.Bool.{false≢true}
use Rattle.std.proofs.Math.ListN.{length, drop_of_length-le}
use Rattle.std.specs.Int.Signed.{le_z, lt_z}
use borrow.Author.Tests.{leb-true, eqb-true, not-false, le-leb, eq-eqb}
use Rattle.axis.specs.Meaning.{place_of_day}
use Rattle.axis.specs.Diff.{le_not}
use Rattle.axis.specs.Axis.{day_to, day_place}
use Rattle.scales.specs.Place.{and_both}
use Rattle.calendar.specs.Meaning.{is_first, all_firsts}
use Rattle.calendar.specs.Told.{first_span}
use Rattle.leap.specs.Meaning.{rises_from, counts_from, none_later}

-- ---- the steps after the step (s, o), none of them after the day l
abbrev pub rest : ℤ → ℤ → ℕ → List ℤ → List ℕ → Bool
rest l s o ds os = rises_from s ds && (all_firsts ds && (counts_from o os && none_later ds l))

-- the step (d, p) may be the next
record Follows (l s : ℤ) (o : ℕ) (d : ℤ) (p : ℕ) : Type 0 where
  pub later : lt_z s d ≡ true
  pub first : is_first d ≡ true
  pub next : p ≡ o + 1
  pub within : le_z d l ≡ true

module _ (l s : ℤ) (o : ℕ) (d : ℤ) (ds : List ℤ) (p : ℕ) (os : List ℕ) where
  rest_on : Follows l s o d p → rest l s o (d ∷ ds) (p ∷ os) ≡ rest l d p ds os
  unfolding rises_from counts_from none_later
  rest_on f = rw (f.later, f.first, eq-eqb p (o + 1) f.next, f.within)

  rest_follows : rest l s o (d ∷ ds) (p ∷ os) ≡ true → Follows l s o d p
  unfolding rises_from counts_from none_later
  rest_follows h =
      let a = and_both (rises_from s (d ∷ ds)) (all_firsts (d ∷ ds) && (counts_from o (p ∷ os) && none_later (d ∷ ds) l)) h in
      let b = and_both (all_firsts (d ∷ ds)) (counts_from o (p ∷ os) && none_later (d ∷ ds) l) a.1 in
      let c = and_both (counts_from o (p ∷ os)) (none_later (d ∷ ds) l) b.1 in
      record {
        later = (and_both (lt_z s d) (rises_from d ds) a.0).0;
        first = (and_both (is_first d) (all_firsts ds) b.0).0;
        next = eqb-true p (o + 1) (and_both (eqb p (o + 1)) (counts_from p os) c.0).0;
        within = (and_both (le_z d l) (none_later ds l) c.1).0;
      }

-- what is tested of a list before the steps after the first are
pub record Tested (ds : List ℤ) (os : List ℕ) (l : ℤ) : Type 0 where
  pub some : 0 < length ds
  pub few : length ds ≤ 64
  pub even : length os ≡ length ds
  pub first : place_of_day (get_or ds 0 (pos 0)) ≡ 29773
  pub from : 29773 < place_of_day l
  pub to : place_of_day l ≤ 76525

-- what is said of the steps after step k, whose offset is k + 10
abbrev pub after : List ℤ → List ℕ → ℤ → ℕ → Bool
after ds os l k = rest l (get_or ds k (pos 0)) (k + 10) (drop (k + 1) ds) (drop (k + 1) os)

-- ---- two days
not_after_lem : (d l : ℤ) → place_of_day d ≤ place_of_day l → 0 < place_of_day l → place_of_day l < 100000 → le_z d l ≡ true
not_after_lem d l h f t =
    ap (le_z d) (sym (day_place l f t)) ∙ day_to (place_of_day l) d t ∙ le-leb (place_of_day d) (place_of_day l) h

not_both : (a b : ℤ) → lt_z a b ≡ true → le_z b a ≡ true → ⊥
not_both a b h k = false≢true (sym (le_not b a ∙ ap not h) ∙ k)

module _ (ds : List ℤ) (os : List ℕ) (l : ℤ) (t : Tested ds os l) where
  abbrev day : ℕ → ℤ
  day k = get_or ds k (pos 0)

  pub after_last : (k : ℕ) → length ds ≤ k + 1 → after ds os l k ≡ true
  unfolding rises_from counts_from none_later
  after_last k h = let i : length os ≤ k + 1 = omega (arith, t.even) in rw (drop_of_length-le ds h, drop_of_length-le os i)

  -- ---- step k, and step j before it
  module _ (j k : ℕ) (e : k ≡ j + 1) (h : k < length ds) where
    after_cons : after ds os l j ≡ rest l (day j) (j + 10) (day k ∷ drop (k + 1) ds) (get_or os k 0 ∷ drop (k + 1) os)
    after_cons =
        let i : k < length os = omega (arith, t.even) in
        rw (← e, add-one k, drop-cons ds k (pos 0) h, drop-cons os k 0 i)

    after_follows : after ds os l j ≡ true → Follows l (day j) (j + 10) (day k) (get_or os k 0)
    after_follows y = rest_follows l (day j) (j + 10) (day k) (drop (k + 1) ds) (get_or os k 0) (drop (k + 1) os) (sym after_cons ∙ y)

    after_on : Follows l (day j) (j + 10) (day k) (get_or os k 0) → after ds os l j ≡ after ds os l k
    after_on f =
        let q : get_or os k 0 ≡ k + 10 = omega (arith, f.next) in
        after_cons ∙ rest_on l (day j) (j + 10) (day k) (drop (k + 1) ds) (get_or os k 0) (drop (k + 1) os) f
        ∙ ap (λ (p : ℕ). rest l (day k) p (drop (k + 1) ds) (drop (k + 1) os)) q

    -- step k has passed each test
    pub after_passed : get_or os k 0 ≡ k + 10 → le_z (day k) (day j) ≡ false → is_first (day k) ≡ true → place_of_day (day k) ≤ place_of_day l
        → after ds os l j ≡ after ds os l k
    after_passed p q f b =
        after_on
        (record {
          later = not-false (lt_z (day j) (day k)) (sym (le_not (day k) (day j)) ∙ q);
          first = f;
          next = omega arith;
          within = not_after_lem (day k) l b (omega (arith, t.from)) (omega (arith, t.to));
        })

  -- ---- where all is said of the steps after the first, each follows the one before it
  module _ (y : after ds os l 0 ≡ true) where
    after_each : (k : ℕ) → k < length ds → after ds os l k ≡ true
    after_each zero h = y
    after_each (suc k) h =
        let r = after_each k (omega arith) in
        sym (after_on k (suc k) (omega arith) h (after_follows k (suc k) (omega arith) h r)) ∙ r

    each_follows : (j k : ℕ) → k ≡ j + 1 → k < length ds → Follows l (day j) (j + 10) (day k) (get_or os k 0)
    each_follows j k e h = after_follows j k e h (after_each j (omega arith))

    each_within : (k : ℕ) → k < length ds → le_z (day k) l ≡ true
    each_within zero h = not_after_lem (day 0) l (omega (arith, t.first, t.from)) (omega (arith, t.from)) (omega (arith, t.to))
    each_within (suc k) h = (each_follows k (suc k) (omega arith) h).within

    each_span : (k : ℕ) → k < length ds → (29773 ≤ place_of_day (day k)) × (place_of_day (day k) ≤ 76525)
    each_span zero h = (omega (arith, t.first), omega (arith, t.first))
    each_span (suc k) h = first_span (day (suc k)) (each_follows k (suc k) (omega arith) h).first

  -- ---- the ways out of the test
  no : (after ds os l 0 ≡ true → ⊥) → false ≡ after ds os l 0
  no h = go (after ds os l 0) h
    where
      go : (b : Bool) → (b ≡ true → ⊥) → false ≡ b
      go true n = absurd (n refl)
      go false n = refl

  pub after_late : (k : ℕ) → k < length ds → lt_z l (day k) ≡ true → false ≡ after ds os l 0
  after_late k h x = no (λ y. not_both l (day k) x (each_within y k h))

  module _ (j k : ℕ) (e : k ≡ j + 1) (h : k < length ds) where
    pub after_other_offset : (get_or os k 0 ≡ k + 10 → ⊥) → false ≡ after ds os l 0
    after_other_offset x = no (λ y. x (omega (arith, (each_follows y j k e h).next)))

    pub after_not_later : le_z (day k) (day j) ≡ true → false ≡ after ds os l 0
    after_not_later x = no (λ y. not_both (day j) (day k) (each_follows y j k e h).later x)

    pub after_early : le_z (day k) (negsuc 10226) ≡ true → false ≡ after ds os l 0
    after_early x =
        let q = leb-true (place_of_day (day k)) 29773 (sym (day_to 29773 (day k) (lit< tt)) ∙ x) in
        no
        (λ y.
        let a = each_span y j (omega arith) in
        not_both (day j) (day k) (each_follows y j k e h).later
        (not_after_lem (day k) (day j) (omega (arith, a.0)) (omega (arith, a.0)) (omega (arith, a.1))))

    pub after_other_day : is_first (day k) ≡ false → false ≡ after ds os l 0
    after_other_day x = no (λ y. false≢true (sym x ∙ (each_follows y j k e h).first))
