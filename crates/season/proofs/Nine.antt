-- Numbers stored one after another into a slice that holds just these. Assumes nothing.
use mathlib.Core.Path.{◌≡◌, refl, sym, ap, ◌∙◌}
use mathlib.Core.List.{List, [], ◌∷◌, ◌++◌}
use Prim.Native.Nat.{ℕ, suc, ◌<◌}
use native.Mathlib.Omega.{arith}
use lib.Dec.{lit<}
use lib.IntN.{ℤ}
use lib.ListN.{length, take, set, length-set}
use lib.Seq.{take-suc-set, take_all}

-- the first n of nine are w
record Stored (l : List ℤ) (n : ℕ) (w : List ℤ) : Type 0 where
  pub nine : length l ≡ 9
  pub first : take n l ≡ w

next : {l : List ℤ} {n : ℕ} {w : List ℤ} → Stored l n w → n < 9 → (x : ℤ) → Stored (set l n x) (suc n) (w ++ (x ∷ []))
next {l} {n} {w} s h x =
    record {
      nine = length-set l n x ∙ s.nine;
      first = take-suc-set l n x (omega (arith, s.nine)) ∙ ap (λ (v : List ℤ). v ++ (x ∷ [])) s.first;
    }

pub stored : (l : List ℤ) → length l ≡ 9 → (a b c d e f g h i : ℤ) →
    set (set (set (set (set (set (set (set (set l 0 a) 1 b) 2 c) 3 d) 4 e) 5 f) 6 g) 7 h) 8 i ≡ a ∷ b ∷ c ∷ d ∷ e ∷ f ∷ g ∷ h ∷ i ∷ []
stored l n a b c d e f g h i =
    let s0 : Stored l 0 [] = record { nine = n; first = refl } in
    let s3 = next (next (next s0 (lit< tt) a) (lit< tt) b) (lit< tt) c in
    let s6 = next (next (next s3 (lit< tt) d) (lit< tt) e) (lit< tt) f in
    let s9 = next (next (next s6 (lit< tt) g) (lit< tt) h) (lit< tt) i in
    sym (take_all 9 _ (omega (arith, s9.nine))) ∙ s9.first
