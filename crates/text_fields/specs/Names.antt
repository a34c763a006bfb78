-- The name of a month as one number, for both ways. Assumes nothing.
use Rattle.std.specs.Prelude.{◌≡◌, refl, Bool, true, ◌&&◌, List, [], ◌∷◌, ℕ, zero, suc, ◌+◌, ◌-◌, ◌*◌, ◌<◌, ltb, get_or}
use Rattle.std.proofs.Common.{arith, ltb-true}
use Rattle.scales.specs.Place.{and_both}
use Rattle.text_fields.specs.Meaning.{names, letter}

-- three letters as one number, and those of a month
abbrev pub number_of : ℕ → ℕ → ℕ → ℕ
number_of a b c = (a * 256 + b) * 256 + c

abbrev pub name_of : ℕ → ℕ
name_of m = number_of (letter m 0) (letter m 1) (letter m 2)

-- ---- a letter is a byte
abbrev small : List ℕ → Bool
small [] = true
small (b ∷ s) = ltb b 256 && small s

small_at : (s : List ℕ) (k : ℕ) → small s ≡ true → get_or s k 0 < 256
small_at [] k e = omega arith
small_at (b ∷ s) zero e = ltb-true b 256 (and_both (ltb b 256) (small s) e).0
small_at (b ∷ s) (suc k) e = small_at s k (and_both (ltb b 256) (small s) e).1

pub letter_small : (m j : ℕ) → letter m j < 256
unfolding letter names
letter_small m j = small_at names ((m - 1) * 3 + j) refl
