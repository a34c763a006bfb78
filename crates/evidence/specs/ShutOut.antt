-- What shuts a wrong program out: an input at which its answer is not the meaning's, both computed. Assumes nothing.
use Rattle.std.specs.Prelude.{◌≡◌, List, ℕ, get_or}
use Rattle.std.proofs.Common.{sym, ap, ◌∙◌}

-- the right answer is a, the wrong one b, and they are not the same
abbrev pub ShutOut : {A : Type 0} → A → A → A → A → Type 0
ShutOut right a wrong b = (right ≡ a) × (wrong ≡ b) × (right ≡ wrong → ⊥)

-- both answers found by laws, and what was found differs
pub shut : {A : Type 0} {right a wrong b : A} → right ≡ a → wrong ≡ b → (a ≡ b → ⊥) → ShutOut right a wrong b
shut p q d = (p, q, λ e. d (sym p ∙ e ∙ q))

-- a wrong program meets an older statement, and does not meet the one that stands in its place
abbrev pub Outgrown : Type 0 → Type 0 → Type 0
Outgrown old new = old × (new → ⊥)

-- two answers are not the same where a number read off them differs
pub differ : {A : Type 0} {x y : A} (f : A → ℕ) → (f x ≡ f y → ⊥) → x ≡ y → ⊥
differ f d e = d (ap f e)

-- two lists are not the same where the elements at k differ
pub differ_at : (k : ℕ) {x y : List ℕ} → (get_or x k 0 ≡ get_or y k 0 → ⊥) → x ≡ y → ⊥
differ_at k d e = differ (λ (l : List ℕ). get_or l k 0) d e
