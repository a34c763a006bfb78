-- "The first that applies in this order is given, never otherwise": of any chain of tests. Assumes nothing.
use Rattle.std.specs.Prelude.{◌≡◌, refl, Bool, true, false, ◌&&◌, ℕ, ltb}
use Rattle.std.proofs.Common.{sym, subst, arith}
use Rattle.scales.specs.Meaning.{and_then, Judged, given, gives, Outcome, refused, answer, outcome}

-- a chain refuses with n: the test beside n fails, and every test before it holds
pub data Refuses {A : Type 0} : Judged A → ℕ → Type 0 where
  here : {t : Bool} {n : ℕ} {rest : Judged A} → t ≡ false → Refuses (given t n rest) n
  later : {t : Bool} {m n : ℕ} {rest : Judged A} → t ≡ true → Refuses rest n → Refuses (given t m rest) n

-- a chain answers with a: every test holds, and a is what it gives
pub data Answers {A : Type 0} : Judged A → A → Type 0 where
  last : {a : A} → Answers (gives a) a
  next : {t : Bool} {n : ℕ} {rest : Judged A} {a : A} → t ≡ true → Answers rest a → Answers (given t n rest) a

-- a refusal is no answer
pub no_answer : {A : Type 0} {n : ℕ} {a : A} → refused n ≡ answer a → ⊥
no_answer e = let z : ◌≡◌ {A = ℕ} 0 1 = cc in omega arith

module _ {A : Type 0} where
  pub refuses_is : {j : Judged A} {n : ℕ} → Refuses j n → outcome j ≡ refused n
  refuses_is (here e) = rw e
  refuses_is (later e r) = rw e (refuses_is r)

  pub answers_is : {j : Judged A} {a : A} → Answers j a → outcome j ≡ answer a
  answers_is last = refl
  answers_is (next e r) = rw e (answers_is r)

  pub is_refuses : (j : Judged A) (n : ℕ) → outcome j ≡ refused n → Refuses j n
  is_refuses (given true m rest) n e = later refl (is_refuses rest n e)
  is_refuses (given false m rest) n e = let q : m ≡ n = cc in subst (λ (k : ℕ). Refuses (given false m rest) k) q (here refl)
  is_refuses (gives a) n e = absurd (no_answer (sym e))

  pub is_answers : (j : Judged A) (a : A) → outcome j ≡ answer a → Answers j a
  is_answers (given true m rest) a e = next refl (is_answers rest a e)
  is_answers (given false m rest) a e = absurd (no_answer e)
  is_answers (gives b) a e = let q : b ≡ a = cc in subst (λ (x : A). Answers (gives b) x) q last

-- an answer has passed every test
pub passed : {A : Type 0} (t : Bool) (n : ℕ) (rest : Judged A) (a : A) → outcome (given t n rest) ≡ answer a → (t ≡ true) × (outcome rest ≡ answer a)
passed true n rest a e = (refl, e)
passed false n rest a e = absurd (no_answer e)

-- no refusal of the chain has the number 0, which an answer has
abbrev pub numbered : {A : Type 0} → Judged A → Bool
numbered (given t n rest) = ltb 0 n && numbered rest
numbered (gives a) = true

-- ---- one chain after another: what an outcome leads to
abbrev pub onward : {A B : Type 0} → (A → Judged B) → Outcome A → Outcome B
onward f (refused n) = refused n
onward f (answer a) = outcome (f a)

pub then_is : {A B : Type 0} (j : Judged A) (f : A → Judged B) → outcome (and_then j f) ≡ onward f (outcome j)
then_is (given true n rest) f = then_is rest f
then_is (given false n rest) f = refl
then_is (gives a) f = refl

-- an answer of a chain has what its end has, given the tests before
abbrev pub Ends : {A : Type 0} → (A → Type 0) → Judged A → Type 0
Ends P (given t n rest) = t ≡ true → Ends P rest
Ends P (gives a) = P a

pub ends : {A : Type 0} (P : A → Type 0) (j : Judged A) (b : A) → Ends P j → outcome j ≡ answer b → P b
ends P (given true n rest) b w q = ends P rest b (w refl) q
ends P (given false n rest) b w q = absurd (no_answer q)
ends P (gives a) b w q = let y : a ≡ b = cc in subst P y w
