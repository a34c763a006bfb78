-- Small files, byte by byte: of SBT's marked correlation, day 0 and ten ticks either way, and of another a day later. Assumes nothing.
use mathlib.Core.Path.{◌≡◌}
use mathlib.Core.List.{List, [], ◌∷◌, ◌++◌}
use Prim.Native.Nat.{ℕ}
use lib.IntN.{ℤ, pos, negsuc}
use lib.ListN.{replicate}
use Rattle.evidence.specs.ShutOut.{differ}
use Rattle.scales.specs.Meaning.{Valued}
use Rattle.clock.specs.Meaning.{Cover}

-- ---- covers, from -39,063 to 39,062 and from 86,399,996,093 to 86,400,007,812
abbrev pub marked_cover : List ℕ
marked_cover = 255 ∷ 255 ∷ 255 ∷ 255 ∷ 255 ∷ 255 ∷ 103 ∷ 105 ∷ 0 ∷ 0 ∷ 0 ∷ 0 ∷ 0 ∷ 0 ∷ 152 ∷ 150 ∷ []

abbrev pub next_cover : List ℕ
next_cover = 0 ∷ 0 ∷ 0 ∷ 20 ∷ 29 ∷ 215 ∷ 80 ∷ 189 ∷ 0 ∷ 0 ∷ 0 ∷ 20 ∷ 29 ∷ 215 ∷ 126 ∷ 132 ∷ []

-- a cover from x to y, both below 256
abbrev pub small_cover : ℕ → ℕ → List ℕ
small_cover x y = 0 ∷ 0 ∷ 0 ∷ 0 ∷ 0 ∷ 0 ∷ 0 ∷ x ∷ 0 ∷ 0 ∷ 0 ∷ 0 ∷ 0 ∷ 0 ∷ 0 ∷ y ∷ []

abbrev pub position : ℕ → List ℕ
position p = 0 ∷ 0 ∷ 0 ∷ p ∷ []

-- ---- bodies: P = 3,906,250,000
abbrev pub marked_body : List ℕ
marked_body = 255 ∷ 255 ∷ 255 ∷ 255 ∷ 0 ∷ 0 ∷ 0 ∷ 0 ∷ 0 ∷ 0 ∷ 0 ∷ 0 ∷ 0 ∷ 0 ∷ 0 ∷ 0 ∷ 232 ∷ 212 ∷ 165 ∷ 16 ∷ 0 ∷ 0 ∷ 0 ∷ 10 ∷ 0 ∷ 0 ∷ 0 ∷ 10 ∷ []

abbrev pub next_body : List ℕ
next_body = 0 ∷ 0 ∷ 0 ∷ 7 ∷ 0 ∷ 0 ∷ 0 ∷ 20 ∷ 29 ∷ 215 ∷ 96 ∷ 0 ∷ 0 ∷ 0 ∷ 0 ∷ 0 ∷ 232 ∷ 212 ∷ 165 ∷ 16 ∷ 0 ∷ 0 ∷ 0 ∷ 1 ∷ 0 ∷ 0 ∷ 0 ∷ 2 ∷ []

-- a period of 0, which is not accepted
abbrev pub no_body : List ℕ
no_body = replicate 28 0

-- ---- files of one correlation and of two
abbrev pub file_one : List ℕ → ℕ → List ℕ → List ℕ
file_one v p b = 0 ∷ 1 ∷ (v ++ position p ++ b)

abbrev pub file_two : List ℕ → ℕ → List ℕ → ℕ → List ℕ → List ℕ → List ℕ
file_two v p w q b c = 0 ∷ 2 ∷ (v ++ position p ++ w ++ position q ++ b ++ c)

abbrev pub none : List ℕ
none = 0 ∷ 0 ∷ []

abbrev pub next : List ℕ
next = file_one next_cover 22 next_body

abbrev pub two : List ℕ
two = file_two marked_cover 42 next_cover 70 marked_body next_body

abbrev pub cover_from : ℤ → ℤ → Cover
cover_from x y = record { from = x; to = y }

abbrev pub marked_is : Cover
marked_is = cover_from (negsuc 39062) (pos 39062)

abbrev pub next_is : Cover
next_is = cover_from (pos 86399996093) (pos 86400007812)

-- ---- the words of both, as they are handed in
abbrev pub marked_words : List ℤ
marked_words = pos 4294967295 ∷ pos 0 ∷ pos 0 ∷ pos 0 ∷ pos 3906250000 ∷ pos 10 ∷ pos 10 ∷ []

abbrev pub next_words : List ℤ
next_words = pos 7 ∷ pos 0 ∷ pos 1 ∷ pos 0 ∷ pos 3906250000 ∷ pos 1 ∷ pos 2 ∷ []

abbrev pub two_words : List ℤ
two_words = marked_words ++ next_words

-- what is lent, so that a word that was written shows
abbrev pub lent : ℕ → List ℤ
lent n = replicate n (pos 7)

-- ---- two answers of the question with other numbers
pub by_number : {x y : Valued Cover} → (x.number ≡ y.number → ⊥) → x ≡ y → ⊥
by_number d e = differ (λ (v : Valued Cover). v.number) d e
