-- A turn of each pass, at packet i of n, and its end. Assumes nothing.
use Rattle.std.specs.Prelude.{◌≡◌, refl, Bool, true, false, cond, ◌&&◌, List, ◌∷◌, ℕ, zero, suc, ◌+◌, ◌-◌, ◌*◌, ◌/◌, ◌%◌, ◌≤◌, ◌<◌, eqb, leb, length, take, drop, Option, Some, None}
use Rattle.std.proofs.Common.{sym, ap, ap₂, subst, ◌∙◌, arith, lit≤, drop-drop, leb-true, eq-eqb, ne_eqb, le-leb}
use Rattle.std.proofs.lemmas.Bool.{lt-leb}
use Rattle.std.specs.List.{list_all, range_with_len}
use Rattle.axis.specs.Meaning.{held_micros_at}
use Rattle.octets.specs.Meaning.{number, part}
use Rattle.layout_fields.specs.Siral.{fields_of}
use Rattle.runs.specs.Meaning.{ahead, is_in_limits, most}
use Rattle.runs.specs.Passes.{packet_at, unroll_from, unrolled_in, limits_in, last_from, dates_from}

-- ---- where a pass begins, and where it ends, of anything that is told by how many packets are left
pub none_passed : {A : Type 0} (f : ℕ → A) (n : ℕ) → f (n - 0) ≡ f n
none_passed f n = let z : n - 0 ≡ n = omega arith in ap f z

pub all_passed : {A : Type 0} (f : ℕ → A) (n i : ℕ) → i ≤ n → n ≤ i → f (n - i) ≡ f 0
all_passed f n i h k = let z : n - i ≡ 0 = omega arith in ap f z

-- ---- a turn
module _ (s : List ℕ) (n i : ℕ) where
  -- what packet i is followed by, and its extra counter
  after : drop 10 (drop (10 * i) s) ≡ drop (10 * (i + 1)) s
  after =
      let e : 10 * i + 10 ≡ 10 * (i + 1) = omega arith in
      drop-drop 10 (10 * i) s ∙ ap (λ (k : ℕ). drop k s) e

  extra_is : part (drop (10 * i) s) 8 2 ≡ part s (10 * i + 8) 2
  extra_is = ap (λ (l : List ℕ). number (take 2 l)) (drop-drop 8 (10 * i) s)

  module _ (h : i < n) where
    left : n - i ≡ suc (n - (i + 1))
    left = omega arith

    module _ (front total : ℕ) where
      step : unroll_from (n - i) front total (drop (10 * i) s) ≡
          (let t = ahead total (part s (10 * i + 8) 2) in
          cond (eqb (part s (10 * i) 8) front) (cond (leb t most) (unroll_from (n - (i + 1)) front t (drop (10 * (i + 1)) s)) None) None)
      step =
          ap (λ (k : ℕ). unroll_from k front total (drop (10 * i) s)) left
          ∙ ap₂ (λ (x : ℕ) (l : List ℕ). let t = ahead total x in
          cond (eqb (part s (10 * i) 8) front) (cond (leb t most) (unroll_from (n - (i + 1)) front t l) None) None) extra_is after

      pub unroll_other : (part s (10 * i) 8 ≡ front → ⊥) → unroll_from (n - i) front total (drop (10 * i) s) ≡ None
      unroll_other d = step ∙ rw (ne_eqb (part s (10 * i) 8) front d)

      module _ (e : part s (10 * i) 8 ≡ front) where
        pub unroll_over : most < ahead total (part s (10 * i + 8) 2) → unroll_from (n - i) front total (drop (10 * i) s) ≡ None
        unroll_over h = step ∙ rw (eq-eqb (part s (10 * i) 8) front e, lt-leb (ahead total (part s (10 * i + 8) 2)) 484848 h)

        pub unroll_on : ahead total (part s (10 * i + 8) 2) ≤ most → unroll_from (n - i) front total (drop (10 * i) s)
            ≡ unroll_from (n - (i + 1)) front (ahead total (part s (10 * i + 8) 2)) (drop (10 * (i + 1)) s)
        unroll_on h = step ∙ rw (eq-eqb (part s (10 * i) 8) front e, le-leb (ahead total (part s (10 * i + 8) 2)) 484848 h)

    pub limits_on : limits_in (n - i) (drop (10 * i) s) ≡ (is_in_limits (fields_of (packet_at s i)) && limits_in (n - (i + 1)) (drop (10 * (i + 1)) s))
    limits_on =
        ap (λ (k : ℕ). limits_in k (drop (10 * i) s)) left
        ∙ ap (λ (l : List ℕ). is_in_limits (fields_of (packet_at s i)) && limits_in (n - (i + 1)) l) after

    pub last_on : (total : ℕ) → last_from (n - i) total (drop (10 * i) s) ≡ last_from (n - (i + 1)) (ahead total (part s (10 * i + 8) 2)) (drop (10 * (i + 1)) s)
    last_on total =
        ap (λ (k : ℕ). last_from k total (drop (10 * i) s)) left
        ∙ ap₂ (λ (x : ℕ) (l : List ℕ). last_from (n - (i + 1)) (ahead total x) l) extra_is after

    pub dates_on : (from total : ℕ) → let t = ahead total (part s (10 * i + 8) 2) in dates_from (n - i) from total (drop (10 * i) s)
        ≡ held_micros_at (from + t * 33 / 16) ∷ dates_from (n - (i + 1)) from t (drop (10 * (i + 1)) s)
    dates_on from total =
        ap (λ (k : ℕ). dates_from k from total (drop (10 * i) s)) left
        ∙ ap₂ (λ (x : ℕ) (l : List ℕ). let t = ahead total x in held_micros_at (from + t * 33 / 16) ∷ dates_from (n - (i + 1)) from t l) extra_is after

-- the limits of each packet from i on are those of the rest
pub limits_from : (s : List ℕ) (n i : ℕ) → list_all (λ (j : ℕ). is_in_limits (fields_of (packet_at s j))) (range_with_len i n) ≡ limits_in n (drop (10 * i) s)
limits_from s zero i = refl
limits_from s (suc n) i =
    ap (λ (b : Bool). is_in_limits (fields_of (packet_at s i)) && b) (limits_from s n (i + 1) ∙ ap (limits_in n) (sym (after s n i)))

-- what a told count that is not above the most leads to
pub told_is : (s : List ℕ) (n told : ℕ) → told ≤ most → unrolled_in n s told ≡ unroll_from n (part s 0 8) told s
told_is s n told h = rw (le-leb told 484848 h)

-- ---- a total leads to its extra counter, and never falls
pub ahead_leads : (total extra : ℕ) → extra < 65536 → ahead total extra % 65536 ≡ extra
ahead_leads total extra h = omega arith

pub last_from_lem : (n total : ℕ) (s : List ℕ) → total ≤ last_from n total s
last_from_lem zero total s = omega arith
last_from_lem (suc n) total s = omega (arith, last_from_lem n (ahead total (part s 8 2)) (drop 10 s))

-- ---- a pass that comes to a total comes to none above the most
abbrev total_in : Option ℕ → ℕ
total_in (Some t) = t
total_in None = 0

from_most : (n front total : ℕ) (s : List ℕ) → total ≤ most → total_in (unroll_from n front total s) ≤ most
from_most zero front total s h = h
from_most (suc n) front total s h =
    let t = ahead total (part s 8 2) in
    go (eqb (part s 0 8) front) (leb t most) refl (λ k. from_most n front t (drop 10 s) (leb-true t 484848 k))
  where
    go : (a b : Bool) → leb (ahead total (part s 8 2)) most ≡ b → (leb (ahead total (part s 8 2)) most ≡ true → total_in (unroll_from n front (ahead total (part s 8 2)) (drop 10 s)) ≤ most)
        → total_in (cond a (cond b (unroll_from n front (ahead total (part s 8 2)) (drop 10 s)) None) None) ≤ most
    go true true e f = f e
    go true false e f = lit≤ tt
    go false b e f = lit≤ tt

pub total_most : (n : ℕ) (s : List ℕ) (told t : ℕ) → unrolled_in n s told ≡ Some t → t ≤ most
total_most n s told t e = subst (λ (u : Option ℕ). total_in u ≤ most) e (go (leb told most) refl)
  where
    go : (b : Bool) → leb told most ≡ b → total_in (cond b (unroll_from n (part s 0 8) told s) None) ≤ most
    go true k = from_most n (part s 0 8) told s (leb-true told 484848 k)
    go false k = lit≤ tt

pub length_dates : (n from total : ℕ) (s : List ℕ) → length (dates_from n from total s) ≡ n
length_dates zero from total s = refl
length_dates (suc n) from total s = ap suc (length_dates n from (ahead total (part s 8 2)) (drop 10 s))
