-- The laws of `place`, over the axis's begin -b and its end t: there and back, order and sums between the numbers (ℤ) and
-- their places (ℕ). Assumes nothing.
use Rattle.std.specs.Prelude.{◌≡◌, ℕ, suc, ◌+◌, ◌-◌, ◌≤◌, ◌<◌, min, leb, ℤ, pos, negsuc, ◌+ℤ◌, ◌-ℤ◌}
use Rattle.std.proofs.Common.{sym, ap, ◌∙◌, arith}
use Rattle.std.proofs.Math.IntN.{sub_ℕ}
use Rattle.std.specs.Int.Signed.{le_z}
use Rattle.axis.specs.Meaning.{place}
use Rattle.axis.specs.Diff.{sub_pos, sub_neg, sub_eq, sub_add, sub_le, is_pos, is_negsuc, neg_pos, Way, way, below, above, tests}

module _ (b t : ℕ) where
  pub place_top : (z : ℤ) → place b t z ≤ t
  place_top (pos n) = omega arith
  place_top (negsuc n) = omega arith

  -- ---- there and back
  pub place_of : (m : ℕ) → m ≤ t → place b t (sub_ℕ m b) ≡ m
  place_of m k = go (way m b)
    where
      go : Way m b → place b t (sub_ℕ m b) ≡ m
      go (below h) = rw (sub_neg m b h) (omega arith)
      go (above h) = rw (sub_pos m b h) (omega arith)

  pub number_at : (z : ℤ) → 0 < place b t z → place b t z < t → sub_ℕ (place b t z) b ≡ z
  number_at (pos n) h k = sub_eq (min (n + b) t) b n 0 (omega arith) ∙ sym (is_pos n)
  number_at (negsuc n) h k = sub_eq (min (b - suc n) t) b 0 (suc n) (omega arith) ∙ sym (is_negsuc n)

  -- ---- a bound on a number is one on its place: from below by a place past 0, from above by one before t
  pub from_le : (f : ℕ) (z : ℤ) → 0 < f → f ≤ t → le_z (sub_ℕ f b) z ≡ leb f (place b t z)
  from_le f (pos n) h k = ap (λ (x : ℤ). le_z (sub_ℕ f b) x) (is_pos n) ∙ sub_le f b n 0 ∙
      tests (f + 0) (n + b) f (min (n + b) t) (omega arith) (omega arith)
  from_le f (negsuc n) h k = ap (λ (x : ℤ). le_z (sub_ℕ f b) x) (is_negsuc n) ∙ sub_le f b 0 (suc n) ∙
      tests (f + suc n) (0 + b) f (min (b - suc n) t) (omega arith) (omega arith)

  pub to_le : (l : ℕ) (z : ℤ) → l < t → le_z z (sub_ℕ l b) ≡ leb (place b t z) l
  to_le l (pos n) k = ap (λ (x : ℤ). le_z x (sub_ℕ l b)) (is_pos n) ∙ sub_le n 0 l b ∙
      tests (n + b) (l + 0) (min (n + b) t) l (omega arith) (omega arith)
  to_le l (negsuc n) k = ap (λ (x : ℤ). le_z x (sub_ℕ l b)) (is_negsuc n) ∙ sub_le 0 (suc n) l b ∙
      tests (0 + b) (l + suc n) (min (b - suc n) t) l (omega arith) (omega arith)

-- ---- sums
pub number_add : (b a n : ℕ) → sub_ℕ (a + n) b ≡ sub_ℕ a b +ℤ pos n
number_add b a n =
    sym (ap (λ (x : ℤ). sub_ℕ a b +ℤ x) (is_pos n) ∙ sub_add a b n 0 ∙ sub_eq (a + n) (b + 0) (a + n) b (omega arith))

pub number_minus : (b a n : ℕ) → n ≤ a → sub_ℕ a b -ℤ pos n ≡ sub_ℕ (a - n) b
number_minus b a n h =
    ap (λ (z : ℤ). sub_ℕ a b +ℤ z) (neg_pos n) ∙ sub_add a b 0 n ∙ sub_eq (a + 0) (b + n) (a - n) b (omega arith)
