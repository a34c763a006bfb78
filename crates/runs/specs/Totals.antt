-- Totals never fall, so that the last of them decides. Assumes nothing.
use Rattle.std.specs.Prelude.{◌≡◌, refl, Bool, true, false, ◌&&◌, List, [], ◌∷◌, ℕ, ◌≤◌}
use Rattle.std.proofs.Common.{ap, ◌∙◌, arith}
use Rattle.std.proofs.Math.Bool.{and-true, and-false}
use Rattle.runs.specs.Meaning.{all, ahead, unrolled, last_of}

pub last_up : (t : ℕ) (xs : List ℕ) → t ≤ last_of t (unrolled t xs)
last_up t [] = omega arith
last_up t (x ∷ xs) = omega (arith, last_up (ahead t x) xs)

-- ---- what holds of a total holds of each before it
module _ (p : ℕ → Bool) (down : (a b : ℕ) → a ≤ b → p b ≡ true → p a ≡ true) where
  told_and : (t : ℕ) (xs : List ℕ) → (p t && all p (unrolled t xs)) ≡ p (last_of t (unrolled t xs))
  told_and t [] = and-true (p t)
  told_and t (x ∷ xs) = ap (λ (b : Bool). p t && b) (told_and (ahead t x) xs) ∙ go (p last) refl
    where
      last : ℕ
      last = last_of (ahead t x) (unrolled (ahead t x) xs)

      go : (b : Bool) → p last ≡ b → (p t && p last) ≡ p last
      go true e = rw (down t last (omega (arith, last_up (ahead t x) xs)) e)
      go false e = rw (e, and-false (p t))

  pub last_decides : (t x : ℕ) (xs : List ℕ) → all p (unrolled t (x ∷ xs)) ≡ p (last_of t (unrolled t (x ∷ xs)))
  last_decides t x xs = told_and (ahead t x) xs
