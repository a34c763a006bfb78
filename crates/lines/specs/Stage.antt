-- The stages that the private functions answer for. Assumes nothing.
use Rattle.std.specs.Prelude.{◌≡◌, cond, List, [], ◌∷◌, ◌++◌, ℕ, suc, eqb, length}
use Rattle.octets.specs.Meaning.{onto}
use Rattle.lines.specs.Meaning.{refused_text}

-- how many bytes stand before the first newline, or in all
unfoldable pub before_newline : List ℕ → ℕ
before_newline [] = 0
before_newline (b ∷ s) = cond (eqb b 10) 0 (suc (before_newline s))

unfoldable pub refused_line : ℕ → List ℕ
refused_line n = refused_text n ++ (10 ∷ [])

-- an answer of n bytes stands on the front of the lent slice
pub record Put (image out left : List ℕ) (n : ℕ) : Type 0 where
  pub length_is : n ≡ length image
  pub bytes_are : left ≡ onto image out
