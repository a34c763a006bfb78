-- Of each of the first n, and pieces one after another: each is found at its place, and pieces of a list one after another are that list.
-- Assumes nothing.
use Rattle.std.specs.Prelude.{◌≡◌, refl, Bool, true, false, ◌&&◌, List, [], ◌∷◌, ◌++◌, ℕ, zero, suc, ◌+◌, ◌*◌, ◌≤◌, ◌<◌, length, take, drop, get_or}
use Rattle.std.proofs.Common.{sym, ap, ap₂, subst, ◌∙◌, append_assoc, append-nil, mul-suc, mul-zero, arith, length-append, length-drop, take-add, take_all, drop-drop, drop-cons, get_or-take, get_or-drop}
use Rattle.std.proofs.lemmas.Bool.{false≢true}
use Rattle.std.proofs.lemmas.List.{take-append-le, drop-append-le}
use Rattle.std.proofs.Math.Seq.{drop-append-add}
use Rattle.axis.specs.Diff.{Way, way, below, above}
use Rattle.scales.specs.Place.{and_both}
use Rattle.season.specs.Meaning.{all, each}

-- ---- of each of the first n
module _ (p : ℕ → Bool) where
  pub all_at : (n k : ℕ) → all p n ≡ true → k < n → p k ≡ true
  all_at zero k e h = absurd (omega arith)
  all_at (suc n) k e h = let q = and_both (all p n) (p n) e in go (way k n) (all_at n k q.0) q.1
    where
      go : Way k n → (k < n → p k ≡ true) → p n ≡ true → p k ≡ true
      go (below l) f q = f l
      go (above l) f q = ap p (omega arith) ∙ q

  pub all_not : (n k : ℕ) → k < n → p k ≡ false → all p n ≡ false
  all_not n k h e = go (all p n) refl
    where
      go : (t : Bool) → all p n ≡ t → all p n ≡ false
      go true f = absurd (false≢true (sym e ∙ all_at n k f h))
      go false f = f

  pub all_next : (k : ℕ) → all p k ≡ true → p k ≡ true → all p (k + 1) ≡ true
  all_next k h e = let z : suc k ≡ k + 1 = omega arith in subst (λ (m : ℕ). all p m ≡ true) z (rw (h, e))

  pub all_made : (n : ℕ) → ((k : ℕ) → k < n → p k ≡ true) → all p n ≡ true
  all_made zero f = refl
  all_made (suc n) f = rw (all_made n (λ k h. f k (omega arith)), f n (omega arith))

pub all_same : (p q : ℕ → Bool) (n : ℕ) → ((k : ℕ) → k < n → p k ≡ q k) → all p n ≡ all q n
all_same p q zero f = refl
all_same p q (suc n) f = ap₂ ◌&&◌ (all_same p q n (λ k h. f k (omega arith))) (f n (omega arith))

pub all_both : (p q : ℕ → Bool) (n : ℕ) → all (λ k. p k && q k) n ≡ (all p n && all q n)
all_both p q zero = refl
all_both p q (suc n) = ap (λ (x : Bool). x && (p n && q n)) (all_both p q n) ∙ go (all p n) (all q n) (p n) (q n)
  where
    go : (a b c d : Bool) → ((a && b) && (c && d)) ≡ ((a && c) && (b && d))
    go true true c d = refl
    go true false true d = refl
    go true false false d = refl
    go false b c d = refl

-- ---- w elements from a on, of two lists one after another
module _ {A : Type 0} (p q : List A) (a w : ℕ) where
  pub in_first : a + w ≤ length p → take w (drop a (p ++ q)) ≡ take w (drop a p)
  in_first h =
      ap (take w) (drop-append-le a p q (omega arith)) ∙ take-append-le w (drop a p) q (omega (arith, length-drop a p))

  pub in_second : (n : ℕ) → length p ≡ n → take w (drop (n + a) (p ++ q)) ≡ take w (drop a q)
  in_second n e = ap (λ (m : ℕ). take w (drop (m + a) (p ++ q))) (sym e) ∙ ap (take w) (drop-append-add p q a)

-- ---- pieces of m elements
module _ {A : Type 0} (f : ℕ → List A) (m : ℕ) (l : (k : ℕ) → length (f k) ≡ m) where
  pub length_each : (n : ℕ) → length (each f n) ≡ m * n
  length_each zero = sym (mul-zero m)
  length_each (suc n) = length-append (each f n) (f n) ∙ ap₂ ◌+◌ (length_each n) (l n) ∙ sym (mul-suc m n)

  -- what stands in piece k
  pub in_each : (n k o w : ℕ) (rest : List A) → k < n → o + w ≤ m → take w (drop (m * k + o) (each f n ++ rest)) ≡ take w (drop o (f k))
  in_each zero k o w rest h i = absurd (omega arith)
  in_each (suc n) k o w rest h i =
      ap (λ (s : List A). take w (drop (m * k + o) s)) (append_assoc (each f n) (f n) rest) ∙ go (way k n) (λ j. in_each n k o w (f n ++ rest) j i)
    where
      go : Way k n → (k < n → take w (drop (m * k + o) (each f n ++ (f n ++ rest))) ≡ take w (drop o (f k))) →
          take w (drop (m * k + o) (each f n ++ (f n ++ rest))) ≡ take w (drop o (f k))
      go (below j) r = r j
      go (above j) r =
          let e : k ≡ n = omega arith in
          ap (λ (x : ℕ). take w (drop (m * x + o) (each f n ++ (f n ++ rest)))) e
          ∙ in_second (each f n) (f n ++ rest) o w (m * n) (length_each n)
          ∙ in_first (f n) rest o w (omega (arith, l n))
          ∙ ap (λ (x : ℕ). take w (drop o (f x))) (sym e)

  -- its elements
  pub at_each : (n k i a : ℕ) (d : A) → k < n → i < m → a ≡ m * k + i → get_or (each f n) a d ≡ get_or (f k) i d
  at_each n k i a d h b e =
      let j : a ≡ m * k + 0 + i = omega arith in
      ap (λ (x : ℕ). get_or (each f n) x d) j
      ∙ sym (get_or-drop (m * k + 0) (each f n) i d)
      ∙ sym (get_or-take m (drop (m * k + 0) (each f n)) i d b)
      ∙ ap (λ (t : List A). get_or t i d)
      (ap (λ (t : List A). take m (drop (m * k + 0) t)) (sym (append-nil (each f n)))
      ∙ in_each n k 0 m [] h (omega arith)
      ∙ take_all m (f k) (omega (arith, l k)))

-- ---- pieces of m elements of s, from a on
pub each_of : {A : Type 0} (f : ℕ → List A) (s : List A) (a m n : ℕ) → ((k : ℕ) → k < n → f k ≡ take m (drop (a + m * k) s)) → each f n ≡ take (m * n) (drop a s)
each_of f s a m zero e = ap (λ (x : ℕ). take x (drop a s)) (sym (mul-zero m))
each_of f s a m (suc n) e =
    ap₂ ◌++◌ (each_of f s a m n (λ k h. e k (omega arith))) (e n (omega arith) ∙ ap (take m) (sym (drop-drop (m * n) a s)))
    ∙ sym (take-add (m * n) m (drop a s))
    ∙ ap (λ (x : ℕ). take x (drop a s)) (sym (mul-suc m n))

pub each_same : {A : Type 0} (f g : ℕ → List A) (n : ℕ) → ((k : ℕ) → k < n → f k ≡ g k) → each f n ≡ each g n
each_same f g zero e = refl
each_same f g (suc n) e = ap₂ ◌++◌ (each_same f g n (λ k h. e k (omega arith))) (e n (omega arith))

-- ---- an element before the next
pub take_next : {A : Type 0} (s : List A) (a b w : ℕ) (d : A) → a < length s → b ≡ suc a → take (suc w) (drop a s) ≡ get_or s a d ∷ take w (drop b s)
take_next {A} s a b w d h e = ap (take (suc w)) (drop-cons s a d h) ∙ ap (λ (x : ℕ). get_or s a d ∷ take w (drop x s)) (sym e)
