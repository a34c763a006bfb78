-- Laws of the lines of an input that comes in parts. Assumes nothing.
use Rattle.std.specs.Prelude.{◌≡◌, Bool, ℕ, zero, suc, ◌+◌, ◌-◌, eqb, ltb, ℤ, take, drop}
use Rattle.std.proofs.Math.Path.{refl, sym, ap}
use Rattle.std.proofs.Common.{subst, ◌∙◌, arith, drop-drop}
use Rattle.std.proofs.Math.Bool.{true, false, cond}
use mathlib.Core.List.{List, [], ◌∷◌, ◌++◌, append_assoc}
use Rattle.std.proofs.Math.ListN.{length}
use Rattle.lines.specs.Meaning.{on_first, lines_of, answer_to, answers, on_begun, whole_in, bytes_in, room_for}

-- ---- the first whole line is the first line, whatever follows
pub record First (s l : List ℕ) (ls : List (List ℕ)) : Type 0 where
  pub rest : whole_in (drop (suc (length l)) s) ≡ ls
  pub lines : (t : List ℕ) → lines_of (s ++ t) ≡ l ∷ lines_of (drop (suc (length l)) s ++ t)

abbrev count : List (List ℕ) → ℕ
count [] = 0
count (k ∷ ks) = 1

abbrev head : List (List ℕ) → List ℕ
head [] = []
head (l ∷ ls) = l

abbrev tail : List (List ℕ) → List (List ℕ)
tail [] = []
tail (l ∷ ls) = ls

renamed : (s k l : List ℕ) (ks ls : List (List ℕ)) → k ∷ ks ≡ l ∷ ls → First s k ks → First s l ls
renamed s k l ks ls q f =
    subst (λ (x : List (List ℕ)). First s l x) (ap tail q) (subst (λ (x : List ℕ). First s x ks) (ap head q) f)

pub first : (s l : List ℕ) (ls : List (List ℕ)) → whole_in s ≡ l ∷ ls → First s l ls
unfolding whole_in lines_of
first [] l ls q = absurd (let z : ◌≡◌ {A = ℕ} 0 1 = ap count q in omega arith)
first (b ∷ s) l ls q = go (eqb b 10) refl q (λ k ks p. first s k ks p)
  where
    begun : eqb b 10 ≡ false → (w : List (List ℕ)) → whole_in s ≡ w → on_begun b w ≡ l ∷ ls → ((k : List ℕ) (ks : List (List ℕ)) → whole_in s ≡ k ∷ ks → First s k ks) → First (b ∷ s) l ls
    begun e [] p q ih = absurd (let z : ◌≡◌ {A = ℕ} 0 1 = ap count q in omega arith)
    begun e (k ∷ ks) p q ih = let f = ih k ks p in renamed (b ∷ s) (b ∷ k) l ks ls q (record { rest = f.rest; lines = λ t. rw e (ap (on_first b) (f.lines t)) })

    go : (x : Bool) → eqb b 10 ≡ x → cond x ([] ∷ whole_in s) (on_begun b (whole_in s)) ≡ l ∷ ls → ((k : List ℕ) (ks : List (List ℕ)) → whole_in s ≡ k ∷ ks → First s k ks) → First (b ∷ s) l ls
    go true e q ih = renamed (b ∷ s) [] l (whole_in s) ls q (record { rest = refl; lines = λ t. rw e })
    go false e q ih = begun e (whole_in s) refl q ih

-- ---- so of any number of them
pub whole_lines : (ls : List (List ℕ)) (s : List ℕ) (more : List (List ℕ)) → whole_in s ≡ ls ++ more → (t : List ℕ) → lines_of (s ++ t) ≡ ls ++ lines_of (drop (bytes_in ls) s ++ t)
unfolding bytes_in
whole_lines [] s more q t = refl
whole_lines (l ∷ ls) s more q t =
    let f = first s l (ls ++ more) q in
    let on : suc (length l) + bytes_in ls ≡ length l + 1 + bytes_in ls = omega arith in
    f.lines t
    ∙ ap (λ (x : List (List ℕ)). l ∷ x)
    (whole_lines ls (drop (suc (length l)) s) more f.rest t
    ∙ ap (λ (x : List ℕ). ls ++ lines_of (x ++ t)) (drop-drop (bytes_in ls) (suc (length l)) s ∙ ap (λ (i : ℕ). drop i s) on))

-- behind all whole lines none ends
pub whole_rest : (ls : List (List ℕ)) (s : List ℕ) → whole_in s ≡ ls → whole_in (drop (bytes_in ls) s) ≡ []
unfolding bytes_in
whole_rest [] s q = q
whole_rest (l ∷ ls) s q =
    let f = first s l ls q in
    let on : suc (length l) + bytes_in ls ≡ length l + 1 + bytes_in ls = omega arith in
    ap whole_in (sym (drop-drop (bytes_in ls) (suc (length l)) s ∙ ap (λ (i : ℕ). drop i s) on)) ∙ whole_rest ls (drop (suc (length l)) s) f.rest

module _ (ds : List ℤ) (os : List ℕ) (e : ℤ) where
  pub answers_join : (ls ks : List (List ℕ)) → answers ds os e (ls ++ ks) ≡ answers ds os e ls ++ answers ds os e ks
  unfolding answers
  answers_join [] ks = refl
  answers_join (l ∷ ls) ks = ap (λ (x : List ℕ). answer_to ds os e l ++ x) (answers_join ls ks) ∙ sym (append_assoc (answer_to ds os e l) (answers ds os e ls) (answers ds os e ks))

  -- the lines that find no room are the last ones
  abbrev pub no_room : ℕ → List (List ℕ) → List (List ℕ)
  no_room room [] = []
  no_room room (l ∷ ls) = cond (ltb room 32) (l ∷ ls) (no_room (room - length (answer_to ds os e l)) ls)

  pub room_is : (room : ℕ) (ls : List (List ℕ)) → ls ≡ room_for ds os e room ls ++ no_room room ls
  unfolding room_for
  room_is room [] = refl
  room_is room (l ∷ ls) = go (ltb room 32) (room_is (room - length (answer_to ds os e l)) ls)
    where
      go : (x : Bool) → ls ≡ room_for ds os e (room - length (answer_to ds os e l)) ls ++ no_room (room - length (answer_to ds os e l)) ls
          → l ∷ ls ≡ cond x [] (l ∷ room_for ds os e (room - length (answer_to ds os e l)) ls) ++ cond x (l ∷ ls) (no_room (room - length (answer_to ds os e l)) ls)
      go true h = refl
      go false h = ap (λ (x : List (List ℕ)). l ∷ x) h

-- ---- a line that has begun
-- no newline stands in s
abbrev pub Begun : List ℕ → Type 0
Begun s = whole_in s ≡ []

-- before what follows: onto its first line, or a line of its own
abbrev pub before : List ℕ → List (List ℕ) → List (List ℕ)
before [] ls = ls
before (b ∷ s) ls = on_first b (before s ls)

nothing : (b : ℕ) (w : List (List ℕ)) → on_begun b w ≡ [] → w ≡ []
nothing b [] q = refl
nothing b (l ∷ ls) q = absurd (let z : ◌≡◌ {A = ℕ} 1 0 = ap count q in omega arith)

pub begun_next : (b : ℕ) (s : List ℕ) → Begun (b ∷ s) → (eqb b 10 ≡ false) × Begun s
unfolding whole_in
begun_next b s q = go (eqb b 10) refl q
  where
    go : (x : Bool) → eqb b 10 ≡ x → cond x ([] ∷ whole_in s) (on_begun b (whole_in s)) ≡ [] → (eqb b 10 ≡ false) × Begun s
    go true e q = absurd (let z : ◌≡◌ {A = ℕ} 1 0 = ap count q in omega arith)
    go false e q = (e, nothing b (whole_in s) q)

pub begun_lines : (s t : List ℕ) → Begun s → lines_of (s ++ t) ≡ before s (lines_of t)
unfolding lines_of
begun_lines [] t q = refl
begun_lines (b ∷ s) t q = let n = begun_next b s q in rw n.0 (ap (on_first b) (begun_lines s t n.1))

pub begun_front : (n : ℕ) (s : List ℕ) → Begun s → Begun (take n s)
unfolding whole_in
begun_front zero s q = refl
begun_front (suc n) [] q = refl
begun_front (suc n) (b ∷ s) q = let k = begun_next b s q in rw k.0 (ap (on_begun b) (begun_front n s k.1))

-- with a newline behind it, it is a whole line
pub begun_ends : (s : List ℕ) → Begun s → whole_in (s ++ (10 ∷ [])) ≡ s ∷ []
unfolding whole_in
begun_ends [] q = refl
begun_ends (b ∷ s) q = let k = begun_next b s q in rw k.0 (ap (on_begun b) (begun_ends s k.1))

pub before_one : (b : ℕ) (s : List ℕ) → before (b ∷ s) [] ≡ (b ∷ s) ∷ []
before_one b [] = refl
before_one b (c ∷ s) = ap (on_first b) (before_one c s)

pub before_first : (s l : List ℕ) (ls : List (List ℕ)) → before s (l ∷ ls) ≡ (s ++ l) ∷ ls
before_first [] l ls = refl
before_first (b ∷ s) l ls = ap (on_first b) (before_first s l ls)
