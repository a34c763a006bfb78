-- The steps one at a time: a list made of two, and the list up to step i, as a search from the end meets them. Assumes nothing.
use Rattle.std.specs.Prelude.{◌≡◌, refl, Bool, true, false, ◌||◌, List, [], ◌∷◌, ◌++◌, ℕ, ◌+◌, ◌-◌, ◌<◌, ◌≤◌, ℤ, pos, length, get_or, take}
use Rattle.std.proofs.Common.{sym, ap, ap₂, ◌∙◌, add-one, arith, take-suc, take_all, length-take-le}
use Rattle.std.proofs.Math.Seq.{take-length}
use Rattle.leap.specs.Meaning.{same_day, through, is_step}

pub through_append : {A : Type 0} (f : ℤ → ℕ → A → A) (a : A) (ds cs : List ℤ) (os ps : List ℕ) → length ds ≡ length os
    → through f a (ds ++ cs) (os ++ ps) ≡ through f (through f a ds os) cs ps
unfolding through
through_append f a [] cs [] ps h = refl
through_append f a [] cs (o ∷ os) ps h = absurd (omega arith)
through_append f a (d ∷ ds) cs [] ps h = absurd (omega arith)
through_append f a (d ∷ ds) cs (o ∷ os) ps h = through_append f (f d o a) ds cs os ps (omega arith)

pub through_snoc : {A : Type 0} (f : ℤ → ℕ → A → A) (a : A) (ds : List ℤ) (os : List ℕ) (s : ℤ) (p : ℕ) → length ds ≡ length os
    → through f a (ds ++ s ∷ []) (os ++ p ∷ []) ≡ f s p (through f a ds os)
unfolding through
through_snoc f a ds os s p h = through_append f a ds (s ∷ []) os (p ∷ []) h

pub through_take : {A : Type 0} (f : ℤ → ℕ → A → A) (a : A) (ds : List ℤ) (os : List ℕ) (i : ℕ) → length ds ≡ length os → i < length ds
    → through f a (take (i + 1) ds) (take (i + 1) os) ≡ f (get_or ds i (pos 0)) (get_or os i 0) (through f a (take i ds) (take i os))
through_take f a ds os i e h =
    let k : i < length os = omega arith in
    rw (add-one i, take-suc ds i (pos 0) h, take-suc os i 0 k)
    (through_snoc f a (take i ds) (take i os) (get_or ds i (pos 0)) (get_or os i 0)
    (length-take-le i ds (omega arith) ∙ sym (length-take-le i os (omega arith))))

pub or_true : (a : Bool) → (a || true) ≡ true
or_true true = refl
or_true false = refl

or_assoc : (a b c : Bool) → (a || (b || c)) ≡ ((a || b) || c)
or_assoc true b c = refl
or_assoc false b c = refl

pub or_false : (a : Bool) → (a || false) ≡ a
or_false true = refl
or_false false = refl

pub step_append : (ds cs : List ℤ) (d : ℤ) → is_step (ds ++ cs) d ≡ (is_step ds d || is_step cs d)
unfolding is_step
step_append [] cs d = refl
step_append (s ∷ ds) cs d = rw (step_append ds cs d) (or_assoc (same_day s d) (is_step ds d) (is_step cs d))

pub step_snoc : (ds : List ℤ) (s d : ℤ) → is_step (ds ++ s ∷ []) d ≡ (is_step ds d || same_day s d)
unfolding is_step
step_snoc ds s d = step_append ds (s ∷ []) d ∙ ap (λ (b : Bool). is_step ds d || b) (or_false (same_day s d))

pub step_take : (ds : List ℤ) (i : ℕ) (d : ℤ) → i < length ds → is_step (take (i + 1) ds) d ≡ (is_step (take i ds) d || same_day (get_or ds i (pos 0)) d)
step_take ds i d h = rw (add-one i, take-suc ds i (pos 0) h) (step_snoc (take i ds) (get_or ds i (pos 0)) d)

-- ---- a search from the end: i steps are left, and the last of them is step i - 1
pub start : {A : Type 0} (f : ℤ → ℕ → A → A) (a : A) (ds : List ℤ) (os : List ℕ) → length ds ≡ length os
    → through f a (take (length ds) ds) (take (length ds) os) ≡ through f a ds os
start f a ds os e = ap₂ (through f a) (take-length ds) (take_all (length ds) os (omega arith))

pub nothing : {A : Type 0} (f : ℤ → ℕ → A → A) (a : A) (ds : List ℤ) (os : List ℕ) (i : ℕ) → i ≤ 0 → a ≡ through f a (take i ds) (take i os)
unfolding through
nothing f a ds os i h = let e : i ≡ 0 = omega arith in rw e

module _ {A : Type 0} (f : ℤ → ℕ → A → A) (a : A) (ds : List ℤ) (os : List ℕ) (even : length ds ≡ length os) (i : ℕ) (h : 0 < i) (k : i ≤ length ds) where
  -- what step i - 1 says of what the steps before it say
  pub said : through f a (take i ds) (take i os) ≡ f (get_or ds (i - 1) (pos 0)) (get_or os (i - 1) 0) (through f a (take (i - 1) ds) (take (i - 1) os))
  said =
      let e : i ≡ i - 1 + 1 = omega arith in
      ap (λ (n : ℕ). through f a (take n ds) (take n os)) e ∙ through_take f a ds os (i - 1) even (omega arith)

pub step_start : (ds : List ℤ) (d : ℤ) → is_step (take (length ds) ds) d ≡ is_step ds d
step_start ds d = ap (λ (cs : List ℤ). is_step cs d) (take-length ds)

pub step_nothing : (ds : List ℤ) (d : ℤ) (i : ℕ) → i ≤ 0 → false ≡ is_step (take i ds) d
unfolding is_step
step_nothing ds d i h = let e : i ≡ 0 = omega arith in rw e

pub step_said : (ds : List ℤ) (d : ℤ) (i : ℕ) → 0 < i → i ≤ length ds → is_step (take i ds) d ≡ (is_step (take (i - 1) ds) d || same_day (get_or ds (i - 1) (pos 0)) d)
step_said ds d i h k =
    let e : i ≡ i - 1 + 1 = omega arith in
    ap (λ (n : ℕ). is_step (take n ds) d) e ∙ step_take ds (i - 1) d (omega arith)
