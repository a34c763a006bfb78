-- The offset in force and the steps, on a list as it grows: what a further step changes, and what holds of the whole.
-- Assumes nothing.
use Rattle.std.specs.Prelude.{◌≡◌, refl, Bool, true, false, cond, ◌&&◌, ◌||◌, List, [], ◌∷◌, ◌++◌, ℕ, ◌+◌, ◌<◌, ◌≤◌, leb, eqb, ℤ, length}
use Rattle.std.proofs.Common.{sym, ap, ap₂, ◌∙◌, arith, le-leb, eqb-true, eq-eqb}
use Rattle.std.proofs.lemmas.Bool.{false≢true, lt-leb}
use Rattle.axis.specs.Meaning.{day_at}
use Rattle.axis.specs.Diff.{Way, way, below, above}
use Rattle.axis.specs.Axis.{day_le}
use Rattle.leap.specs.Meaning.{same_day, through, on_or_before, offset_on, is_step}
use Rattle.leap.specs.Walk.{or_true, through_snoc, step_snoc}
use Rattle.leap.specs.Places.{both_ways}
use Rattle.leap.specs.Steps.{Grown, one, more, grown_even}

-- ---- one step more: (t, p)
module _ (ds : List ℤ) (os : List ℕ) (even : length ds ≡ length os) (t p a : ℕ) where
  snoc : offset_on (ds ++ day_at t ∷ []) (os ++ p ∷ []) (day_at a) ≡ cond (leb t a) p (offset_on ds os (day_at a))
  snoc =
      through_snoc (on_or_before (day_at a)) 0 ds os (day_at t) p even
      ∙ ap (λ (b : Bool). cond b p (offset_on ds os (day_at a))) (day_le t a)

  pub offset_from : t ≤ a → offset_on (ds ++ day_at t ∷ []) (os ++ p ∷ []) (day_at a) ≡ p
  offset_from h = snoc ∙ rw (le-leb t a h)

  pub offset_till : a < t → offset_on (ds ++ day_at t ∷ []) (os ++ p ∷ []) (day_at a) ≡ offset_on ds os (day_at a)
  offset_till h = snoc ∙ rw (lt-leb t a h)

same_days : (t a : ℕ) → same_day (day_at t) (day_at a) ≡ eqb t a
same_days t a = ap₂ ◌&&◌ (day_le t a) (day_le a t) ∙ both_ways t a

pub step_more : (ds : List ℤ) (t a : ℕ) → is_step (ds ++ day_at t ∷ []) (day_at a) ≡ (is_step ds (day_at a) || eqb t a)
step_more ds t a = step_snoc ds (day_at t) (day_at a) ∙ ap (λ (b : Bool). is_step ds (day_at a) || b) (same_days t a)

pub step_kept : (ds : List ℤ) (t a : ℕ) → is_step ds (day_at a) ≡ true → is_step (ds ++ day_at t ∷ []) (day_at a) ≡ true
step_kept ds t a h = step_more ds t a ∙ rw h

pub step_last : (ds : List ℤ) (t a : ℕ) → t ≡ a → is_step (ds ++ day_at t ∷ []) (day_at a) ≡ true
step_last ds t a h = step_more ds t a ∙ rw (eq-eqb t a h) (or_true (is_step ds (day_at a)))

-- a step of the longer list is the last or was one before
pub data Either (t a : ℕ) (b : Bool) : Type 0 where
  before : b ≡ true → Either t a b
  here : t ≡ a → Either t a b

pub which : (ds : List ℤ) (t a : ℕ) → is_step (ds ++ day_at t ∷ []) (day_at a) ≡ true → Either t a (is_step ds (day_at a))
which ds t a h = go (is_step ds (day_at a)) (sym (step_more ds t a) ∙ h)
  where
    go : (b : Bool) → (b || eqb t a) ≡ true → Either t a b
    go true e = before refl
    go false e = here (eqb-true t a e)

-- ---- the first step alone
first_offset : (a : ℕ) → offset_on (day_at 29773 ∷ []) (10 ∷ []) (day_at a) ≡ cond (leb 29773 a) 10 0
unfolding through
first_offset a = ap (λ (b : Bool). cond b 10 0) (day_le 29773 a)

first_from : (a : ℕ) → 29773 ≤ a → offset_on (day_at 29773 ∷ []) (10 ∷ []) (day_at a) ≡ 10
first_from a h = first_offset a ∙ rw (le-leb 29773 a h)

first_step : (a : ℕ) → is_step (day_at 29773 ∷ []) (day_at a) ≡ true → 29773 ≡ a
unfolding is_step
first_step a h = go (same_day (day_at 29773) (day_at a)) refl h
  where
    go : (b : Bool) → same_day (day_at 29773) (day_at a) ≡ b → (b || false) ≡ true → 29773 ≡ a
    go true e k = eqb-true 29773 a (sym (same_days 29773 a) ∙ e)
    go false e k = absurd (false≢true k)

-- ---- the whole list, up to its last step (s, o)
module _ {b : ℕ} where
  -- from the last step on its offset is in force
  pub offset_top : {ds : List ℤ} {os : List ℕ} {s o : ℕ} → Grown b ds os s o → (a : ℕ) → s ≤ a → offset_on ds os (day_at a) ≡ o
  offset_top (one k) a h = first_from a h
  offset_top (more {ds} {os} {s} {o} t g l k) a h = offset_from ds os (grown_even g) t (o + 1) a h

  pub offset_most : {ds : List ℤ} {os : List ℕ} {s o : ℕ} → Grown b ds os s o → (a : ℕ) → offset_on ds os (day_at a) ≤ o
  offset_most (one k) a = go (way a 29773)
    where
      go : Way a 29773 → offset_on (day_at 29773 ∷ []) (10 ∷ []) (day_at a) ≤ 10
      go (below x) = let q : ◌≡◌ {A = ℕ} (cond (leb 29773 a) 10 0) 0 = rw (lt-leb 29773 a x) in omega (arith, first_offset a)
      go (above x) = omega (arith, first_from a x)
  offset_most (more {ds} {os} {s} {o} t g l k) a = go (way a t) (offset_most g a)
    where
      go : Way a t → offset_on ds os (day_at a) ≤ o → offset_on (ds ++ day_at t ∷ []) (os ++ (o + 1) ∷ []) (day_at a) ≤ o + 1
      go (below x) r = omega (arith, offset_till ds os (grown_even g) t (o + 1) a x)
      go (above x) r = omega (arith, offset_from ds os (grown_even g) t (o + 1) a x)

  pub offset_mono : {ds : List ℤ} {os : List ℕ} {s o : ℕ} → Grown b ds os s o → (a c : ℕ) → 29773 ≤ a → a ≤ c → offset_on ds os (day_at a) ≤ offset_on ds os (day_at c)
  offset_mono (one k) a c f h = omega (arith, first_from a f, first_from c (omega arith))
  offset_mono (more {ds} {os} {s} {o} t g l k) a c f h = go (way a t) (way c t) (offset_mono g a c f h)
    where
      e : length ds ≡ length os
      e = grown_even g

      go : Way a t → Way c t → offset_on ds os (day_at a) ≤ offset_on ds os (day_at c)
          → offset_on (ds ++ day_at t ∷ []) (os ++ (o + 1) ∷ []) (day_at a) ≤ offset_on (ds ++ day_at t ∷ []) (os ++ (o + 1) ∷ []) (day_at c)
      go (below x) (below y) r = omega (arith, offset_till ds os e t (o + 1) a x, offset_till ds os e t (o + 1) c y)
      go (below x) (above y) r =
          omega (arith, offset_till ds os e t (o + 1) a x, offset_from ds os e t (o + 1) c y, offset_most g a)
      go (above x) y r = omega (arith, offset_from ds os e t (o + 1) a x, offset_from ds os e t (o + 1) c (omega arith))

  -- no step is after the last
  pub step_till : {ds : List ℤ} {os : List ℕ} {s o : ℕ} → Grown b ds os s o → (a : ℕ) → is_step ds (day_at a) ≡ true → a ≤ s
  step_till (one k) a h = omega (arith, first_step a h)
  step_till (more {ds} {os} {s} {o} t g l k) a h = go (which ds t a h) (λ x. step_till g a x)
    where
      go : Either t a (is_step ds (day_at a)) → (is_step ds (day_at a) ≡ true → a ≤ s) → a ≤ t
      go (before x) r = omega (arith, r x)
      go (here x) r = omega arith

  -- a step on the next day makes the offset one more
  pub step_gain : {ds : List ℤ} {os : List ℕ} {s o : ℕ} → Grown b ds os s o → (a : ℕ) → 29773 ≤ a → is_step ds (day_at (a + 1)) ≡ true
      → offset_on ds os (day_at (a + 1)) ≡ offset_on ds os (day_at a) + 1
  step_gain (one k) a f h = absurd (omega (arith, first_step (a + 1) h))
  step_gain (more {ds} {os} {s} {o} t g l k) a f h = go (which ds t (a + 1) h) (λ x. step_gain g a f x)
    where
      e : length ds ≡ length os
      e = grown_even g

      go : Either t (a + 1) (is_step ds (day_at (a + 1)))
          → (is_step ds (day_at (a + 1)) ≡ true → offset_on ds os (day_at (a + 1)) ≡ offset_on ds os (day_at a) + 1)
          → offset_on (ds ++ day_at t ∷ []) (os ++ (o + 1) ∷ []) (day_at (a + 1)) ≡ offset_on (ds ++ day_at t ∷ []) (os ++ (o + 1) ∷ []) (day_at a) + 1
      go (before x) r =
          let m = step_till g (a + 1) x in
          omega (arith, offset_till ds os e t (o + 1) (a + 1) (omega arith), offset_till ds os e t (o + 1) a (omega arith), r x)
      go (here x) r =
          omega (arith, offset_from ds os e t (o + 1) (a + 1) (omega arith), offset_till ds os e t (o + 1) a (omega arith), offset_top g a (omega arith))
