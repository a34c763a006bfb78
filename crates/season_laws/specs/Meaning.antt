-- What is promised of the season's file, in the ticket's words. Assumes nothing.
use Rattle.std.specs.Prelude.{◌≡◌, true, false, List, ◌∷◌, ◌++◌, ℕ, ◌+◌, ◌*◌, ◌/◌, ◌≤◌, ◌<◌, ℤ, pos, length, take, drop}
use Rattle.axis.specs.Meaning.{since}
use Rattle.octets.specs.Field.{Bytes}
use Rattle.scales.specs.Meaning.{in_span, Outcome, refused, answer, Valued, valued, written}
use Rattle.scales.specs.declared.Scale.TheVariants as S
use Rattle.clock.specs.Meaning.{Cover, within}
use Rattle.season.specs.Meaning.{each, count_of, cover_in, correlation_in, cover_of, is_season, Entered, read, correlation_at, file_of, write, covering}

-- what the question hands back: "first and last 0" of a refusal
abbrev pub handed_back : Outcome Cover → Valued Cover
handed_back o = valued (record { from = pos 0; to = pos 0 }) o

-- "which correlation covers this receipt?" v k is the cover of correlation k: the answer is the cover of the one that has the receipt, "15,
-- given exactly if no entry covers the receipt", and 7 stands before it
pub record Answered (v : ℕ → Cover) (s : List ℕ) (d : ℤ) (u : ℕ) : Type 0 where
  pub outside : in_span S.Tai d u ≡ false → covering s d u ≡ handed_back (refused 7)
  pub covered : in_span S.Tai d u ≡ true → (k : ℕ) → k < count_of s → within (v k) (since d u) ≡ true → covering s d u ≡ handed_back (answer (v k))
  pub uncovered : in_span S.Tai d u ≡ true → ((k : ℕ) → k < count_of s → within (v k) (since d u) ≡ false) → covering s d u ≡ handed_back (refused 15)
  pub exactly : covering s d u ≡ handed_back (refused 15) → (k : ℕ) → k < count_of s → within (v k) (since d u) ≡ false

-- two files that "agree in length, count and contents": in all bytes before the bodies
pub record SameContents (s t : List ℕ) : Type 0 where
  pub size : length s ≡ length t
  pub front : take (2 + 20 * count_of s) s ≡ take (2 + 20 * count_of s) t

-- "every cover of the old file is one of the new", "inserted anywhere"
abbrev pub Added : List ℕ → List ℕ → Type 0
Added s t = (k : ℕ) → k < count_of s → (j : ℕ) × (j < count_of t) × (cover_in t j ≡ cover_in s k)

-- ---- "written then read the same correlations"
pub record WrittenRead (ws : List ℤ) : Type 0 where
  pub season : is_season (file_of ws) ≡ true
  pub count : count_of (file_of ws) ≡ length ws / 7
  pub correlations : (k : ℕ) → k < length ws / 7 → correlation_in (file_of ws) k ≡ correlation_at ws k
  pub covers : (k : ℕ) → k < length ws / 7 → cover_in (file_of ws) k ≡ cover_of (correlation_at ws k)

-- and as words: for each correlation first and last of its cover, then the seven that were handed in
abbrev pub entries_of : List ℤ → List ℤ
entries_of ws = each (λ k. (cover_of (correlation_at ws k)).from ∷ (cover_of (correlation_at ws k)).to ∷ take 7 (drop (7 * k) ws)) (length ws / 7)

abbrev pub ReadBack : List ℤ → List ℕ → Type 0
ReadBack ws out =
    let w = write ws out in
    w.number ≡ 0 → (words : List ℤ) → 9 * (length ws / 7) ≤ length words →
    read (take w.length w.lent) words ≡ record { number = 0; count = length ws / 7; lent = entries_of ws ++ drop (9 * (length ws / 7)) words }

-- ---- "Read then written is the same bytes": the words of the entries as reading gave them, without first and last
abbrev pub bodies_in : Entered → List ℤ
bodies_in e = each (λ k. take 7 (drop (9 * k + 2) e.lent)) e.count

abbrev pub WrittenAgain : List ℕ → List ℤ → Type 0
WrittenAgain s words = Bytes s → (read s words).number ≡ 0 → (out : List ℕ) → length s ≤ length out → write (bodies_in (read s words)) out ≡ written out (answer s)

-- "written then read the same correlations": the words that were handed in
abbrev pub SameWords : List ℤ → List ℕ → Type 0
SameWords ws out =
    let w = write ws out in
    w.number ≡ 0 → (words : List ℤ) → 9 * (length ws / 7) ≤ length words → bodies_in (read (take w.length w.lent) words) ≡ ws
