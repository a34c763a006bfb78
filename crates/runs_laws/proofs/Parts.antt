-- A front and a rest of packets, of totals and of dates. Assumes nothing.
use mathlib.Core.Path.{◌≡◌, refl, sym, ap, ap₂, ◌∙◌}
use mathlib.Core.Bool.{Bool, true}
use mathlib.Core.List.{List, [], ◌∷◌, map}
use Prim.Native.Nat.{ℕ, zero, suc, ◌+◌, ◌-◌, ◌*◌, ◌≤◌}
use native.Mathlib.Omega.{arith}
use lib.ListN.{length, take, drop, length-drop}
use lib.Seq.{take-add, take-take, drop_at, drop-drop, length-take-le}
use Rattle.scales.specs.Place.{and_both}
use Rattle.layout_fields.specs.Siral.{fields_of}
use Rattle.layout_fields.specs.declared.siral.Fields.{Fields}
use Rattle.runs.specs.Meaning.{packets_in, all, ahead, unrolled, last_of, date_of, dates_of}

-- ---- of any list
module _ {A : Type 0} (p : A → Bool) where
  pub all_take : (k : ℕ) (xs : List A) → all p xs ≡ true → all p (take k xs) ≡ true
  all_take zero xs e = refl
  all_take (suc k) [] e = refl
  all_take (suc k) (x ∷ xs) e = let q = and_both (p x) (all p xs) e in rw (q.0, all_take k xs q.1)

  pub all_drop : (k : ℕ) (xs : List A) → all p xs ≡ true → all p (drop k xs) ≡ true
  all_drop zero xs e = e
  all_drop (suc k) [] e = refl
  all_drop (suc k) (x ∷ xs) e = all_drop k xs (and_both (p x) (all p xs) e).1

module _ {A B : Type 0} (f : A → B) where
  pub map_take : (k : ℕ) (xs : List A) → map f (take k xs) ≡ take k (map f xs)
  map_take zero xs = refl
  map_take (suc k) [] = refl
  map_take (suc k) (x ∷ xs) = ap (λ (l : List B). f x ∷ l) (map_take k xs)

  pub map_drop : (k : ℕ) (xs : List A) → map f (drop k xs) ≡ drop k (map f xs)
  map_drop zero xs = refl
  map_drop (suc k) [] = refl
  map_drop (suc k) (x ∷ xs) = map_drop k xs

  pub length_map : (xs : List A) → length (map f xs) ≡ length xs
  length_map [] = refl
  length_map (x ∷ xs) = ap suc (length_map xs)

-- ---- packets
drop_front : (m : ℕ) (s : List ℕ) → 10 ≤ length s → drop 10 (take (10 + m) s) ≡ take m (drop 10 s)
drop_front m s h = ap (drop 10) (take-add 10 m s) ∙ drop_at (take 10 s) (take m (drop 10 s)) 10 (length-take-le 10 s h)

pub packets_take : (k n : ℕ) (s : List ℕ) → k ≤ n → 10 * n ≤ length s → packets_in k (take (10 * k) s) ≡ take k (packets_in n s)
packets_take zero n s h l = refl
packets_take (suc k) zero s h l = absurd (omega arith)
packets_take (suc k) (suc n) s h l =
    let e : 10 * suc k ≡ 10 + 10 * k = omega arith in
    ap₂ ◌∷◌ (ap fields_of (take-take 10 (10 * suc k) s (omega arith)))
    (ap (λ (m : ℕ). packets_in k (drop 10 (take m s))) e ∙ ap (packets_in k) (drop_front (10 * k) s (omega arith))
    ∙ packets_take k n (drop 10 s) (omega arith) (omega (arith, length-drop 10 s)))

pub packets_drop : (k n : ℕ) (s : List ℕ) → k ≤ n → packets_in (n - k) (drop (10 * k) s) ≡ drop k (packets_in n s)
packets_drop zero n s h = let e : n - 0 ≡ n = omega arith in ap (λ (m : ℕ). packets_in m s) e
packets_drop (suc k) zero s h = absurd (omega arith)
packets_drop (suc k) (suc n) s h =
    let e : suc n - suc k ≡ n - k = omega arith in
    let d : 10 * suc k ≡ 10 + 10 * k = omega arith in
    ap₂ (λ (m j : ℕ). packets_in m (drop j s)) e d ∙ ap (packets_in (n - k)) (sym (drop-drop (10 * k) 10 s)) ∙ packets_drop k n (drop 10 s) (omega arith)

-- ---- totals
pub unrolled_take : (k t : ℕ) (xs : List ℕ) → unrolled t (take k xs) ≡ take k (unrolled t xs)
unrolled_take zero t xs = refl
unrolled_take (suc k) t [] = refl
unrolled_take (suc k) t (x ∷ xs) = ap (λ (l : List ℕ). ahead t x ∷ l) (unrolled_take k (ahead t x) xs)

pub unrolled_drop : (k t : ℕ) (xs : List ℕ) → unrolled (last_of t (take k (unrolled t xs))) (drop k xs) ≡ drop k (unrolled t xs)
unrolled_drop zero t xs = refl
unrolled_drop (suc k) t [] = refl
unrolled_drop (suc k) t (x ∷ xs) = unrolled_drop k (ahead t x) xs

pub last_drop : (k t : ℕ) (ts : List ℕ) → last_of (last_of t (take k ts)) (drop k ts) ≡ last_of t ts
last_drop zero t ts = refl
last_drop (suc k) t [] = refl
last_drop (suc k) t (u ∷ ts) = last_drop k u ts

-- ---- dates
pub dates_take : (k : ℕ) (fs : List Fields) (ts : List ℕ) → dates_of (take k fs) (take k ts) ≡ take k (dates_of fs ts)
dates_take zero fs ts = refl
dates_take (suc k) [] ts = refl
dates_take (suc k) (f ∷ fs) [] = refl
dates_take (suc k) (f ∷ fs) (t ∷ ts) = ap (λ (l : List ℕ). date_of f t ∷ l) (dates_take k fs ts)

pub dates_drop : (k : ℕ) (fs : List Fields) (ts : List ℕ) → dates_of (drop k fs) (drop k ts) ≡ drop k (dates_of fs ts)
dates_drop zero fs ts = refl
dates_drop (suc k) [] ts = refl
dates_drop (suc k) (f ∷ fs) [] = nothing (drop k fs)
  where
    nothing : (gs : List Fields) → dates_of gs [] ≡ []
    nothing [] = refl
    nothing (g ∷ gs) = refl
dates_drop (suc k) (f ∷ fs) (t ∷ ts) = dates_drop k fs ts

pub length_dates : (fs : List Fields) (ts : List ℕ) → length ts ≡ length fs → length (dates_of fs ts) ≡ length fs
length_dates [] ts e = refl
length_dates (f ∷ fs) [] e = e
length_dates (f ∷ fs) (t ∷ ts) e = ap suc (length_dates fs ts (omega (arith, e)))

pub length_unrolled : (t : ℕ) (xs : List ℕ) → length (unrolled t xs) ≡ length xs
length_unrolled t [] = refl
length_unrolled t (x ∷ xs) = ap suc (length_unrolled (ahead t x) xs)
