-- Bytes moved to the front of their slice. Assumes nothing.
use Rattle.std.specs.Prelude.{◌≡◌, refl, Bool, true, false, ℕ, zero, suc, ◌+◌, ◌-◌, ◌≤◌, ◌<◌, min, leb, get_or, set}
use Rattle.std.proofs.Math.Path.{sym, ap, ap₂}
use Rattle.std.proofs.Common.{◌∙◌, arith, take_all, take-take, get_or-append-add, get_or-drop, leb-true, leb-false}
use mathlib.Core.List.{List, [], ◌∷◌, ◌++◌}
use Rattle.std.proofs.Math.ListN.{length, take, drop, length-drop, length-take, drop_of_length-le}
use Rattle.std.proofs.Math.Seq.{slice, length-take-le}
use Rattle.octets.specs.Meaning.{onto}
use Rattle.octets.specs.Place.{onto_room, onto_next}
use Rattle.lines.specs.Meaning.{kept, moved, keep}

-- a part that ends further on begins the same
take_slice : (f k t : ℕ) (l : List ℕ) → f + k ≤ t → take k (drop f (take t l)) ≡ take k (drop f l)
take_slice zero k t l h = take-take k t l (omega arith)
take_slice (suc f) k zero l h = absurd (omega arith)
take_slice (suc f) k (suc t) [] h = refl
take_slice (suc f) k (suc t) (x ∷ l) h = take_slice f k t l (omega arith)

-- as many as there are, and 32 at most
take_least : (s : List ℕ) (n : ℕ) → n ≡ min (length s) 32 → take 32 s ≡ take n s
take_least s n e = go (leb 32 (length s)) refl
  where
    go : (b : Bool) → leb 32 (length s) ≡ b → take 32 s ≡ take n s
    go true q = let k : 32 ≡ n = omega (arith, leb-true 32 (length s) q) in ap (λ (m : ℕ). take m s) k
    go false q = let k = leb-false 32 (length s) q in take_all 32 s (omega arith) ∙ sym (take_all n s (omega arith))

module _ (l : List ℕ) (from to : ℕ) where
  part_length : length (slice from to l) ≡ min to (length l) - from
  part_length = length-drop from (take to l) ∙ ap (λ (n : ℕ). n - from) (length-take to l)

  pub kept_none : min to (length l) ≤ from → moved 0 l ≡ keep l from to
  unfolding keep
  kept_none h =
      let e : slice from to l ≡ [] = drop_of_length-le (take to l) {i = from} (omega (arith, length-take to l)) in
      let k : kept l from to ≡ [] = ap (take 32) e in
      ap₂ moved (sym (ap length k)) (sym (ap (λ (x : List ℕ). onto x l) k ∙ onto_room [] l (omega arith)))

  module _ (h : from < min to (length l)) (n : ℕ) (q : n ≡ min (min to (length l) - from) 32) where
    kept_is : kept l from to ≡ take n (drop from l)
    kept_is =
        let s = slice from to l in
        take_least s n (omega (arith, part_length)) ∙ take_slice from n to l (omega arith)

    pub kept_all : (after : List ℕ) → after ≡ take n (drop from l) ++ drop n l → moved n after ≡ keep l from to
    unfolding keep
    kept_all after e =
        let t : length (take n (drop from l)) ≡ n = length-take-le n (drop from l) (omega (arith, length-drop from l)) in
        ap₂ moved (sym (ap length kept_is ∙ t))
        (e
        ∙ sym
        (ap (λ (x : List ℕ). onto x l) kept_is
        ∙ onto_room (take n (drop from l)) l (omega (arith, length-drop from l))
        ∙ ap (λ (j : ℕ). take n (drop from l) ++ drop j l) t))

    -- before the turn i the first i bytes are moved
    pub next : (i : ℕ) → i < n → set (take i (drop from l) ++ drop i l) i (get_or (take i (drop from l) ++ drop i l) (from + i) 0) ≡ take (i + 1) (drop from l) ++ drop (i + 1) l
    next i k =
        let d = drop from l in
        let t : length (take i d) ≡ i = length-take-le i d (omega (arith, length-drop from l)) in
        let g : get_or (take i d ++ drop i l) (from + i) 0 ≡ get_or d i 0 =
        ap (λ (j : ℕ). get_or (take i d ++ drop i l) j 0) (moved t) ∙ get_or-append-add (take i d) (drop i l) from 0 ∙ get_or-drop i l from 0 ∙ ap (λ (j : ℕ). get_or l j 0) (swap i) ∙ sym (get_or-drop from l i 0) in
        ap (λ (b : ℕ). set (take i d ++ drop i l) i b) g ∙ onto_next l d 0 i (omega (arith, length-drop from l)) (omega (arith, length-drop from l))
      where
        moved : {t : ℕ} → t ≡ i → from + i ≡ t + from
        moved e = omega arith

        swap : (i : ℕ) → i + from ≡ from + i
        swap i = omega arith

-- no more than 32 bytes are kept
pub kept_small : (l : List ℕ) (from to n : ℕ) (after : List ℕ) → moved n after ≡ keep l from to → n ≤ 32
unfolding keep
kept_small l from to n after e = let q : n ≡ length (kept l from to) = λ i. (e i).length in omega (arith, length-take 32 (slice from to l))
