-- The line program, from the bytes of its whole input to the bytes of its whole output, and what it does with a block of them. A leap
-- list is its steps' days ds, its offsets os and its last day e. Assumes nothing.
use Rattle.std.specs.Prelude.{cond, List, [], ◌∷◌, ◌++◌, ℕ, ◌+◌, ◌-◌, ◌/◌, ◌%◌, eqb, ltb, ℤ, length, take}
use Rattle.std.proofs.Math.Seq.{slice}
use Rattle.axis.specs.Meaning.{Moment}
use Rattle.octets.specs.Meaning.{onto}
use Rattle.scales.specs.Meaning.{Judged, Outcome, refused, answer, outcome}
use Rattle.scales.specs.declared.Scale.TheVariants as S
use Rattle.leap.specs.Meaning.{published_days, published_offsets, published_last}
use Rattle.text_read.specs.Meaning.{reading_in}
use Rattle.text_write.specs.Meaning.{image_of}
use Rattle.text_write.specs.declared.Form.TheVariants as F
use Rattle.lines.specs.declared.Progress.{Progress}

-- ---- the lines of an input: a newline ends a line, and a last line without one counts
abbrev pub on_first : ℕ → List (List ℕ) → List (List ℕ)
on_first b [] = (b ∷ []) ∷ []
on_first b (l ∷ ls) = (b ∷ l) ∷ ls

unfoldable pub lines_of : List ℕ → List (List ℕ)
lines_of [] = []
lines_of (b ∷ s) = cond (eqb b 10) ([] ∷ lines_of s) (on_first b (lines_of s))

-- ---- what is printed for a line, "a newline after each"
abbrev pub digit : ℕ → ℕ
digit n = 48 + n % 10

-- `refused N`
unfoldable pub refused_text : ℕ → List ℕ
refused_text n =
    114 ∷ 101 ∷ 102 ∷ 117 ∷ 115 ∷ 101 ∷ 100 ∷ 32
    ∷ cond (ltb n 10) (digit n ∷ []) (digit (n / 10) ∷ digit n ∷ [])

-- "prints each as TAI with prefix and microseconds"
abbrev pub told : Outcome Moment → List ℕ
told (refused n) = refused_text n
told (answer m) = image_of F.PrefixedMicros S.Tai m

module _ (ds : List ℤ) (os : List ℕ) (e : ℤ) where
  -- the time that the text stands for, changed to TAI
  abbrev pub line_dating : List ℕ → Judged Moment
  line_dating s = reading_in S.Tai s ds os e

  unfoldable pub answer_to : List ℕ → List ℕ
  answer_to s = told (outcome (line_dating s)) ++ (10 ∷ [])

  unfoldable pub answers : List (List ℕ) → List ℕ
  answers [] = []
  answers (l ∷ ls) = answer_to l ++ answers ls

-- ---- "uses the 28 steps with E = 9131": the whole output for the whole input
unfoldable pub desk : List ℕ → List ℕ
desk input = answers published_days published_offsets published_last (lines_of input)

-- ---- a block: the lines that end in it
abbrev pub on_begun : ℕ → List (List ℕ) → List (List ℕ)
on_begun b [] = []
on_begun b (l ∷ ls) = (b ∷ l) ∷ ls

unfoldable pub whole_in : List ℕ → List (List ℕ)
whole_in [] = []
whole_in (b ∷ s) = cond (eqb b 10) ([] ∷ whole_in s) (on_begun b (whole_in s))

-- the bytes of whole lines
unfoldable pub bytes_in : List (List ℕ) → ℕ
bytes_in [] = 0
bytes_in (l ∷ ls) = length l + 1 + bytes_in ls

-- what is handed back: how many bytes of the input were dated, how many were written, and all bytes of the lent slice
pub record Done : Type 0 where
  pub consumed : ℕ
  pub written : ℕ
  pub bytes : List ℕ

abbrev pub done : Progress → List ℕ → Done
done p out = record { consumed = p.consumed; written = p.written; bytes = out }

module _ (ds : List ℤ) (os : List ℕ) (e : ℤ) where
  -- as many lines as find room for the longest answer, 32 bytes
  unfoldable pub room_for : ℕ → List (List ℕ) → List (List ℕ)
  room_for room [] = []
  room_for room (l ∷ ls) = cond (ltb room 32) [] (l ∷ room_for (room - length (answer_to ds os e l)) ls)

  abbrev pub lines_dated : List ℕ → ℕ → List (List ℕ)
  lines_dated input room = room_for room (whole_in input)

  abbrev pub done_under : List ℕ → List ℕ → Done
  done_under input out =
      let ls = lines_dated input (length out) in
      let a = answers ds os e ls in
      record { consumed = bytes_in ls; written = length a; bytes = onto a out }

unfoldable pub date_lines : List ℕ → List ℕ → Done
date_lines input out = done_under published_days published_offsets published_last input out

-- ---- between two blocks: of a line that has begun 32 bytes are enough, since no form has as many
abbrev pub kept : List ℕ → ℕ → ℕ → List ℕ
kept buf from to = take 32 (slice from to buf)

pub record Kept : Type 0 where
  pub length : ℕ
  pub bytes : List ℕ

abbrev pub moved : ℕ → List ℕ → Kept
moved n buf = record { length = n; bytes = buf }

unfoldable pub keep : List ℕ → ℕ → ℕ → Kept
keep buf from to = moved (length (kept buf from to)) (onto (kept buf from to) buf)
