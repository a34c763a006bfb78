-- Chains of tests one after the other, what an answer tells of its chain, and the ways out of readers and writers of times.
-- Assumes nothing.
use Rattle.std.specs.Prelude.{◌≡◌, Bool, true, false, List, ℕ, ltb, ℤ, Result, Ok, Err}
use Rattle.std.proofs.Common.{sym, ap, ◌∙◌, arith, ltb-true}
use Rattle.std.specs.Result.{MatchResult, IsErrAnd}
use Rattle.std.proofs.lemmas.Result.{err_from_is_err_and}
use Rattle.axis.specs.Meaning.{Moment}
use Rattle.scales.specs.Meaning.{and_then, Judged, given, gives, refused, answer, outcome, dated, slip, spanned_as, spanned, number_of, Wrote, wrote, written, refused_of, valued, value_slip}
use Rattle.scales.specs.Place.{and_both}
use Rattle.scales.specs.Same.{no_zero}
use Rattle.scales.specs.declared.Scale.{Scale}
use Rattle.scales.specs.Order.{onward, then_is, numbered}
use Rattle.scales.specs.declared.Refusal.{Refusal}
use Rattle.scales.specs.declared.Refused.{Refused}
use Rattle.layout_fields.specs.Meaning.{placing}
use Rattle.layout_times.specs.Meaning.{moment_from, judged}

-- ---- one chain after the other
module _ {A B : Type 0} (f : A → Judged B) where
  pub then_refused : (j : Judged A) (n : ℕ) → outcome j ≡ refused n → outcome (and_then j f) ≡ refused n
  then_refused j n e = then_is j f ∙ ap (onward f) e

  then_answer : (j : Judged A) (a : A) → outcome j ≡ answer a → outcome (and_then j f) ≡ outcome (f a)
  then_answer j a e = then_is j f ∙ ap (onward f) e

-- ---- what a slip tells of its chain
module _ {A : Type 0} (z : A) where
  pub told_answer : (j : Judged A) → numbered j ≡ true → (a : A) → value_slip z (Ok a) ≡ valued z (outcome j) → outcome j ≡ answer a
  told_answer (given true m rest) p a e = told_answer rest (and_both (ltb 0 m) (numbered rest) p).1 a e
  told_answer (given false m rest) p a e =
      absurd (let n : ◌≡◌ {A = ℕ} 0 m = λ i. (e i).number in omega (arith, ltb-true 0 m (and_both (ltb 0 m) (numbered rest) p).0))
  told_answer (gives b) p a e = ap answer (λ i. (sym e i).value)

  pub told_refused : (j : Judged A) (f : Refusal) → value_slip z (Err f) ≡ valued z (outcome j) → outcome j ≡ refused (number_of f)
  told_refused (given true m rest) f e = told_refused rest f e
  told_refused (given false m rest) f e = ap refused (λ i. (sym e i).number)
  told_refused (gives b) f e = absurd (no_zero f (λ i. (e i).number))

-- ---- the ways out of a reader of times, over its scale and first day, the microseconds of its fields and their chain
module _ {A : Type 0} (s : Scale) (epoch : ℤ) (micros : A → ℕ) (z : A) (j : Judged A) where
  abbrev fields_dating : A → Judged Moment
  fields_dating a = judged s (moment_from epoch (micros a))

  pub read_no : (f : Refusal) → value_slip z (Err f) ≡ valued z (outcome j) → slip (Err (refused_of s f)) ≡ dated s (outcome (and_then j fields_dating))
  read_no f e = ap (dated s) (sym (then_refused fields_dating j (number_of f) (told_refused z j f e)))

  pub read_at : numbered j ≡ true → (a : A) → value_slip z (Ok a) ≡ valued z (outcome j) → (n : ℕ) → n ≡ micros a →
      spanned s (moment_from epoch n).day (moment_from epoch n).micro ≡ dated s (outcome (and_then j fields_dating))
  unfolding spanned_as
  read_at p a e n q = rw q (ap (dated s) (sym (then_answer fields_dating j a (told_answer z j p a e))))

  -- the same where what was read, r, was given the scale on its way, m
  pub scaled_no : (r : Result A Refusal) (m : Result A Refused) {Q : Refusal → Refused → Type 0} → MatchResult r (λ x. m ≡ Ok x) (λ f. IsErrAnd m (Q f)) →
      ((f : Refusal) (e : Refused) → Q f e → e ≡ refused_of s f) → value_slip z r ≡ valued z (outcome j) →
      (e : Refused) → m ≡ Err e → slip (Err e) ≡ dated s (outcome (and_then j fields_dating))
  scaled_no (Ok a) m k q v e w = absurd (let z : ◌≡◌ {A = ℕ} 0 1 = cc in omega arith)
  scaled_no (Err f) m k q v e w =
      let p = err_from_is_err_and m k in
      let d : e ≡ refused_of s f = cc (q f p.0 p.2) in
      rw d (read_no f v)

  pub scaled_at : (r : Result A Refusal) (m : Result A Refused) (Q : Refusal → Refused → Type 0) → MatchResult r (λ x. m ≡ Ok x) (λ f. IsErrAnd m (Q f)) →
      value_slip z r ≡ valued z (outcome j) → (a : A) → m ≡ Ok a → value_slip z (Ok a) ≡ valued z (outcome j)
  scaled_at (Ok b) m Q k v a w =
      let e : b ≡ a = cc in
      rw (← e) v
  scaled_at (Err f) m Q k v a w =
      let p = err_from_is_err_and m k in
      absurd (let z : ◌≡◌ {A = ℕ} 0 1 = cc in omega arith)

-- ---- the ways out of a writer of times, over the chain of what it takes of a handed time and the image of that;
-- the limits t of fields that were reckoned from a time always hold
module _ (image : ℕ → List ℕ) (out : List ℕ) (j : Judged ℕ) where
  abbrev laying : ℕ → Judged (List ℕ)
  laying n = placing (image n) out

  pub write_no : (f : Refusal) → value_slip 0 (Err f) ≡ valued 0 (outcome j) → wrote (Err f) out ≡ written out (outcome (and_then j laying))
  write_no f e = ap (written out) (sym (then_refused laying j (number_of f) (told_refused 0 j f e)))

  pub write_at : numbered j ≡ true → (n : ℕ) → value_slip 0 (Ok n) ≡ valued 0 (outcome j) → (t : Bool) → t ≡ true →
      {v : Wrote ℕ} → v ≡ written out (outcome (given t 3 (laying n))) → v ≡ written out (outcome (and_then j laying))
  write_at p n e t q r = r ∙ rw q (ap (written out) (sym (then_answer laying j n (told_answer 0 j p n e))))
