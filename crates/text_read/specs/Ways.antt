-- The ways out of reading: a law for each. Assumes nothing.
use Rattle.std.specs.Prelude.{◌≡◌, true, not, ◌&&◌, List, ℕ, ℤ, Result, Ok, Err}
use Rattle.std.specs.Result.{MatchResult}
use Rattle.std.proofs.Common.{sym, ◌∙◌}
use Rattle.std.proofs.Math.Path.{ap, ap₂, subst}
use Rattle.axis.specs.Meaning.{Moment}
use Rattle.scales.specs.Meaning.{Outcome, refused, answer, outcome, dated, number_of, slip, refused_of}
use Rattle.scales.specs.declared.Scale.{Scale}
use Rattle.scales.specs.declared.Scale.TheVariants as S
use Rattle.scales.specs.declared.Record.{Record}
use Rattle.scales.specs.declared.Refusal.{Refusal}
use Rattle.scales.specs.declared.Refused.{Refused}
use Rattle.leap.specs.Meaning.{accepted}
use Rattle.via_tai.specs.Meaning.{is_utc}
use Rattle.changes.specs.Asked.{record_asked, list_lacks, slip_refused, lacking}
use Rattle.text_read.specs.Meaning.{dated_in, scale_in, read_text}
use Rattle.text_read.specs.Stage.{ParsesText}

-- ---- reading: an answer keeps its scale, a refusal gives TAI's empty record
module _ (z : Scale) (o : Outcome Moment) where
  pub in_answer : (o ≡ refused 0 → ⊥) → (r : Record) → slip (Ok r) ≡ dated z o → slip (Ok r) ≡ dated_in z o
  in_answer w r q = go o w q
    where
      go : (o : Outcome Moment) → (o ≡ refused 0 → ⊥) → slip (Ok r) ≡ dated z o → slip (Ok r) ≡ dated_in z o
      go (refused n) w q = absurd (w (ap refused (λ i. (sym q i).number)))
      go (answer m) w q = q

  pub in_refused : (f : Refusal) (y : Scale) → slip (Err (refused_of y f)) ≡ dated z o → dated S.Tai (refused (number_of f)) ≡ dated_in z o
  in_refused f y q = ap (dated_in z) (sym (slip_refused z o f y q))

-- what was judged in the text's scale, with TAI's in place of a refusal's scale
pub in_tai : (z : Scale) (o : Outcome Moment) → (o ≡ refused 0 → ⊥) → (q m : Result Record Refused) → slip q ≡ dated z o
    → MatchResult q (λ r. m ≡ Ok r) (λ e. m ≡ Err (refused_of S.Tai e.refusal)) → slip m ≡ dated_in z o
in_tai z o w (Ok r) m q k = ap slip k ∙ in_answer z o w r q
in_tai z o w (Err e) m q k = ap slip k ∙ in_refused z o e.refusal e.scale q

module _ (s : List ℕ) (ds : List ℤ) (os : List ℕ) (e : ℤ) (r : Result Record Refusal) (w : ParsesText s r) where
  pub read_refused : (f : Refusal) → r ≡ Err f → dated S.Tai (refused (number_of f)) ≡ read_text s ds os e
  unfolding read_text
  read_refused f q = ap (dated_in (scale_in s)) ((subst (ParsesText s) q w).is ds os e)

  pub read_parsed : (t : Record) → r ≡ Ok t → dated_in t.scale (outcome (record_asked t ds os e)) ≡ read_text s ds os e
  unfolding read_text
  read_parsed t q = let x = subst (ParsesText s) q w in ap₂ dated_in x.is.0 (x.is.1 ds os e)

  pub read_lacks : (t : Record) → r ≡ Ok t → (is_utc t.scale && not (accepted ds os e)) ≡ true → dated S.Tai (refused 5) ≡ read_text s ds os e
  read_lacks t q l =
      let x = lacking (is_utc t.scale) (accepted ds os e) l in
      ap (dated_in t.scale) (sym (list_lacks ds os e t x.0 x.1)) ∙ read_parsed t q
