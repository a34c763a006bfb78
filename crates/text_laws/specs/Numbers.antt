-- The numbers that reading and writing may refuse with, whatever is handed in. Assumes nothing.
use Rattle.std.specs.Prelude.{◌≡◌, refl, List, [], ◌∷◌, ℕ, ℤ}
use Rattle.scales.specs.Meaning.{numbers}
use Rattle.handed.specs.declared.Handed.{Handed}
use Rattle.text_read.specs.Meaning.{reading}
use Rattle.text_write.specs.Meaning.{writing}
use Rattle.text_write.specs.declared.Form.{Form}

module _ (ds : List ℤ) (os : List ℕ) (e : ℤ) where
  pub read_numbers : (s : List ℕ) → numbers (reading s ds os e) ≡ 1 ∷ 3 ∷ 5 ∷ 7 ∷ 9 ∷ 10 ∷ []
  read_numbers s = refl

  pub write_numbers : (h : Handed) (f : Form) (out : List ℕ) → numbers (writing h f ds os e out) ≡ 4 ∷ 5 ∷ 7 ∷ 9 ∷ 10 ∷ 12 ∷ 13 ∷ []
  write_numbers h f out = refl
