-- What an answer tells of the chain of tests, and exactness both ways from one fact for each way. Assumes nothing.
use mathlib.Core.Path.{◌≡◌, refl, ap, ◌∙◌}
use mathlib.Core.Bool.{Bool, true, false, ◌&&◌}
use mathlib.Core.List.{List}
use Prim.Native.Nat.{ℕ, ◌≤◌}
use native.Mathlib.Omega.{arith}
use lib.Dec.{ltb}
use lib.ListN.{length, drop}
use lib.Seq.{take-append_seam}
use borrow.Author.Tests.{ltb-true}
use Rattle.octets.specs.Field.{Bytes}
use Rattle.scales.specs.Meaning.{Judged, given, gives, answer, outcome, Wrote, written, valued}
use Rattle.scales.specs.Order.{Answers, last, next, answers_is, numbered}
use Rattle.scales.specs.Place.{and_both}
use Rattle.layout_laws.specs.Meaning.{image, Exact}

pub both_true : {a b : Bool} → a ≡ true → b ≡ true → a && b ≡ true
both_true e f = rw (e, f)

-- ---- the number 0 is an answer's: every test of the chain held
module _ {A : Type 0} where
  pub answered : (z : A) (j : Judged A) → numbered j ≡ true → (valued z (outcome j)).number ≡ 0 → Answers j (valued z (outcome j)).value
  answered z (given true m rest) p e = next refl (answered z rest (and_both (ltb 0 m) (numbered rest) p).1 e)
  answered z (given false m rest) p e = absurd (omega (arith, ltb-true 0 m (and_both (ltb 0 m) (numbered rest) p).0))
  answered z (gives a) p e = last

-- what the writer of a chain answered with
pub record Wrought (out : List ℕ) (j : Judged (List ℕ)) : Type 0 where
  pub bytes : List ℕ
  pub answers : Answers j bytes
  pub is : written out (outcome j) ≡ written out (answer bytes)

pub wrought : (out : List ℕ) (j : Judged (List ℕ)) → numbered j ≡ true → (written out (outcome j)).number ≡ 0 → Wrought out j
wrought out (given true m rest) p e =
    let w = wrought out rest (and_both (ltb 0 m) (numbered rest) p).1 e in
    record { bytes = w.bytes; answers = next refl w.answers; is = w.is }
wrought out (given false m rest) p e = absurd (omega (arith, ltb-true 0 m (and_both (ltb 0 m) (numbered rest) p).0))
wrought out (gives a) p e = record { bytes = a; answers = last; is = refl }

-- the image is on the front of the slice
pub image_is : (out bytes : List ℕ) → image (written out (answer bytes)) ≡ bytes
image_is out bytes = take-append_seam bytes (drop (length bytes) out)

-- ---- exact both ways: what a reader answers is written as the bytes that it read, and what is written is read as it was
module _ {A : Type 0} (zero : A) (Fits : A → Type 0) (reading : List ℕ → Judged A) (writing : A → List ℕ → Judged (List ℕ))
    (p : (s : List ℕ) → numbered (reading s) ≡ true) (q : (a : A) (out : List ℕ) → numbered (writing a out) ≡ true)
    (back : (s : List ℕ) (a : A) → Bytes s → Answers (reading s) a → (out : List ℕ) → length s ≤ length out → Answers (writing a out) s)
    (forth : (a : A) (out s : List ℕ) → Fits a → Answers (writing a out) s → Answers (reading s) a) where
  pub exact : Exact zero Fits (λ (s : List ℕ). valued zero (outcome (reading s))) (λ (a : A) (out : List ℕ). written out (outcome (writing a out)))
  exact =
      record {
        bytes_back = λ s out b e h. ap (written out) (answers_is (back s _ b (answered zero (reading s) (p s) e) out h));
        fields_back = λ a out f e. let w = wrought out (writing a out) (q a out) e in
            ap (λ (x : Wrote ℕ). valued zero (outcome (reading (image x)))) w.is
            ∙ ap (λ (s : List ℕ). valued zero (outcome (reading s))) (image_is out w.bytes)
            ∙ ap (valued zero) (answers_is (forth a out w.bytes f w.answers));
      }
