-- Demand 1, said once for every function: what it judges are these rows, each a number and a condition on what is handed in; its number
-- is that of the first row that applies in the slip's order, and a number other than 0 comes with the empty values and the same lent
-- bytes. Assumes nothing.
use Rattle.std.specs.Prelude.{◌≡◌, Bool, false, cond, not, ◌&&◌, ◌||◌, List, [], ◌∷◌, ℕ, eqb}
use Rattle.scales.specs.Meaning.{Judged, given, gives, Outcome, refused, answer, order}

-- ---- what a function judges, as rows: each test's number, and whether the test fails
abbrev pub tests : {A : Type 0} → Judged A → List (ℕ × Bool)
tests (given t n rest) = (n, not t) ∷ tests rest
tests (gives a) = []

-- a row with the number n applies
abbrev pub applies : List (ℕ × Bool) → ℕ → Bool
applies [] n = false
applies (r ∷ rs) n = (eqb r.0 n && r.1) || applies rs n

-- ---- the first of some numbers that applies, and 0 where none does
abbrev pub first_of : List ℕ → (ℕ → Bool) → ℕ
first_of [] p = 0
first_of (n ∷ ns) p = cond (p n) n (first_of ns p)

-- ---- what a kind of answer hands back of an outcome: the number of a refusal, and 0 of an answer
pub record Kind {A R : Type 0} (hand : Outcome A → R) (number : R → ℕ) : Type 0 where
  pub of_refusal : (n : ℕ) → number (hand (refused n)) ≡ n
  pub of_answer : (a : A) → number (hand (answer a)) ≡ 0

-- the promise: of what r is handed back for a function that judges j, by its rows
pub record Promise {A R : Type 0} (hand : Outcome A → R) (number : R → ℕ) (r : R) (j : Judged A) (rows : List (ℕ × Bool)) : Type 0 where
  pub judges : tests j ≡ rows
  pub first : number r ≡ first_of order (applies rows)
  pub empty : (number r ≡ 0 → ⊥) → r ≡ hand (refused (number r))

-- ---- the numbers of some rows, without repeats and in the slip's order: what a function can refuse with
abbrev pub member : ℕ → List ℕ → Bool
member n [] = false
member n (o ∷ os) = eqb n o || member n os

abbrev pub numbers_in : List (ℕ × Bool) → List ℕ
numbers_in [] = []
numbers_in (r ∷ rs) = r.0 ∷ numbers_in rs

abbrev pub among : List ℕ → List ℕ → List ℕ
among [] ns = []
among (o ∷ os) ns = cond (member o ns) (o ∷ among os ns) (among os ns)

abbrev pub refusals : List (ℕ × Bool) → List ℕ
refusals rows = among order (numbers_in rows)
