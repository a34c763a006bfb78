-- What is handed back fixes the answer and the bytes. Assumes nothing.
use Rattle.std.specs.Prelude.{◌≡◌, List, ℕ}
use Rattle.lines.specs.Meaning.{done, moved}
use Rattle.lines.specs.declared.Progress.{Progress}

pub same_done : (a b : Progress) (x y : List ℕ) → done a x ≡ done b y → (a ≡ b) × (x ≡ y)
same_done a b x y e = (λ i. record { consumed = (e i).consumed; written = (e i).written }, λ i. (e i).bytes)

pub same_moved : (a b : ℕ) (x y : List ℕ) → moved a x ≡ moved b y → (a ≡ b) × (x ≡ y)
same_moved a b x y e = (λ i. (e i).length, λ i. (e i).bytes)
