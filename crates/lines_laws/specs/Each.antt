-- Any line of any bytes gets exactly one line of output. Assumes nothing.
use Rattle.std.specs.Prelude.{◌≡◌, Bool, true, false, cond, not, ◌&&◌, ℕ, zero, suc, ◌+◌, ◌-◌, ◌*◌, ◌/◌, ◌%◌, eqb, ltb, length, get_or}
use Rattle.std.proofs.Math.Path.{refl, ap}
use Rattle.std.proofs.Common.{◌∙◌, arith, ne_eqb}
use mathlib.Core.List.{List, [], ◌∷◌, ◌++◌, append-nil, append_assoc}
use Rattle.std.proofs.lemmas.Bool.{not-true}
use Rattle.axis.specs.Meaning.{Moment}
use Rattle.scales.specs.Meaning.{Outcome, refused, answer}
use Rattle.scales.specs.Place.{and_both}
use Rattle.text_fields.specs.Meaning.{names, letter, prefix_of}
use Rattle.text_write.specs.Meaning.{text_of}
use Rattle.lines.specs.Meaning.{lines_of, digit, refused_text, told, answer_to, answers, desk, on_begun, whole_in}
use Rattle.lines_laws.specs.Lines.{Begun, begun_lines, before_first}
use Rattle.lines_laws.specs.Run.{printed}
use Rattle.lines_laws.specs.Computed.{dates}

-- ---- no newline stands in what is printed for a line
abbrev clean : List ℕ → Bool
clean [] = true
clean (b ∷ s) = not (eqb b 10) && clean s

begun : (s : List ℕ) → clean s ≡ true → Begun s
unfolding whole_in
begun [] e = refl
begun (b ∷ s) e = let k = and_both (not (eqb b 10)) (clean s) e in rw (not-true (eqb b 10) k.0) (ap (on_begun b) (begun s k.1))

-- a digit, and a letter of a month
from_48 : (n : ℕ) → eqb (48 + n) 10 ≡ false
from_48 n = ne_eqb (48 + n) 10 (λ q. omega arith)

no_newline : (s : List ℕ) (i : ℕ) → clean s ≡ true → eqb (get_or s i 0) 10 ≡ false
no_newline [] i e = refl
no_newline (b ∷ s) zero e = not-true (eqb b 10) (and_both (not (eqb b 10)) (clean s) e).0
no_newline (b ∷ s) (suc i) e = no_newline s i (and_both (not (eqb b 10)) (clean s) e).1

letters : (m j : ℕ) → eqb (letter m j) 10 ≡ false
unfolding letter names
letters m j = no_newline names ((m - 1) * 3 + j) refl

told_clean : (o : Outcome Moment) → clean (told o) ≡ true
unfolding refused_text prefix_of text_of
told_clean (refused n) = go (ltb n 10)
  where
    go : (x : Bool) → clean (cond x (digit n ∷ []) (digit (n / 10) ∷ digit n ∷ [])) ≡ true
    go true = rw (from_48 (n % 10))
    go false = rw (from_48 (n / 10 % 10), from_48 (n % 10))
told_clean (answer m) = simp (from_48, letters)

-- ---- a desk that tells an outcome for each line: the lines of what it prints are what it tells, in order
module _ (tells : List ℕ → Outcome Moment) where
  abbrev pub printed_by : List (List ℕ) → List ℕ
  printed_by [] = []
  printed_by (l ∷ ls) = (told (tells l) ++ (10 ∷ [])) ++ printed_by ls

  abbrev pub texts_by : List (List ℕ) → List (List ℕ)
  texts_by [] = []
  texts_by (l ∷ ls) = told (tells l) ∷ texts_by ls

  pub each_by : (ls : List (List ℕ)) → lines_of (printed_by ls) ≡ texts_by ls
  unfolding lines_of
  each_by [] = refl
  each_by (l ∷ ls) =
      let t = told (tells l) in
      ap lines_of (append_assoc t (10 ∷ []) (printed_by ls))
      ∙ begun_lines t (10 ∷ printed_by ls) (begun t (told_clean (tells l)))
      ∙ before_first t [] (lines_of (printed_by ls))
      ∙ ap (λ (x : List ℕ). x ∷ lines_of (printed_by ls)) (append-nil t)
      ∙ ap (λ (x : List (List ℕ)). t ∷ x) (each_by ls)

-- ---- the lines of the output are what is printed for the lines of the input, in order
abbrev pub texts : List (List ℕ) → List (List ℕ)
texts ls = texts_by dates ls

printed_by_lem : (ls : List (List ℕ)) → printed ls ≡ printed_by dates ls
unfolding answers answer_to
printed_by_lem [] = refl
printed_by_lem (l ∷ ls) = ap (λ (x : List ℕ). (told (dates l) ++ (10 ∷ [])) ++ x) (printed_by_lem ls)

pub one_each : (input : List ℕ) → lines_of (desk input) ≡ texts (lines_of input)
unfolding desk
one_each input = ap lines_of (printed_by_lem (lines_of input)) ∙ each_by dates (lines_of input)

pub as_many : (input : List ℕ) → length (lines_of (desk input)) ≡ length (lines_of input)
as_many input = ap length (one_each input) ∙ same (lines_of input)
  where
    same : (ls : List (List ℕ)) → length (texts ls) ≡ length ls
    same [] = refl
    same (l ∷ ls) = ap suc (same ls)
