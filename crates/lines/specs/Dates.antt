-- What the answer for a line tells. Assumes nothing.
use Rattle.std.specs.Prelude.{◌≡◌, refl, true, List, ℕ, ℤ, Ok, Err}
use Rattle.std.proofs.Common.{sym, ◌∙◌}
use Rattle.axis.specs.Meaning.{Moment}
use Rattle.scales.specs.Meaning.{in_span, Outcome, refused, answer, outcome, dated, number_of, slip, record_moment, refused_of}
use Rattle.scales.specs.Order.{onward, then_is, ends, no_answer}
use Rattle.scales.specs.declared.Scale.{Scale}
use Rattle.scales.specs.declared.Scale.TheVariants as S
use Rattle.scales.specs.declared.Record.{Record}
use Rattle.scales.specs.declared.Refusal.{Refusal}
use Rattle.changes.specs.Asked.{sound, slip_answer, slip_refused}
use Rattle.text_read.specs.Meaning.{scale_in, reading}
use Rattle.text_read.specs.In.{into}
use Rattle.lines.specs.Meaning.{line_dating}

module _ (ds : List ℤ) (os : List ℕ) (e : ℤ) where
  abbrev Inside : Moment → Type 0
  Inside m = in_span S.Tai m.day m.micro ≡ true

  inside : (z : Scale) (m n : Moment) → outcome (into S.Tai ds os e z m) ≡ answer n → Inside n
  inside S.Tai m n = ends Inside (into S.Tai ds os e S.Tai m) n (λ h. h)
  inside S.Utc m n = ends Inside (into S.Tai ds os e S.Utc m) n (λ a b c h. h)
  inside S.Gps m n = ends Inside (into S.Tai ds os e S.Gps m) n (λ a h. h)

  passes : (z : Scale) (m : Moment) → outcome (into S.Tai ds os e z m) ≡ refused 0 → ⊥
  passes S.Tai m = sound (into S.Tai ds os e S.Tai m) refl
  passes S.Utc m = sound (into S.Tai ds os e S.Utc m) refl
  passes S.Gps m = sound (into S.Tai ds os e S.Gps m) refl

  module _ (s : List ℕ) where
    never : outcome (line_dating ds os e s) ≡ refused 0 → ⊥
    never q = go (outcome (reading s ds os e)) refl (sym (then_is (reading s ds os e) (into S.Tai ds os e (scale_in s))) ∙ q)
      where
        go : (o : Outcome Moment) → outcome (reading s ds os e) ≡ o → onward (into S.Tai ds os e (scale_in s)) o ≡ refused 0 → ⊥
        go (refused n) p q = sound (reading s ds os e) refl (p ∙ q)
        go (answer m) p q = passes (scale_in s) m q

    pub line_answer : (t : Record) → slip (Ok t) ≡ dated S.Tai (outcome (line_dating ds os e s)) → (t.scale ≡ S.Tai) × (outcome (line_dating ds os e s) ≡ answer (record_moment t))
    line_answer t q = slip_answer S.Tai (outcome (line_dating ds os e s)) never t q

    pub line_refused : (f : Refusal) (z : Scale) → slip (Err (refused_of z f)) ≡ dated S.Tai (outcome (line_dating ds os e s)) → outcome (line_dating ds os e s) ≡ refused (number_of f)
    line_refused f z q = slip_refused S.Tai (outcome (line_dating ds os e s)) f z q

    pub line_inside : (n : Moment) → outcome (line_dating ds os e s) ≡ answer n → Inside n
    line_inside n q = go (outcome (reading s ds os e)) (sym (then_is (reading s ds os e) (into S.Tai ds os e (scale_in s))) ∙ q)
      where
        go : (o : Outcome Moment) → onward (into S.Tai ds os e (scale_in s)) o ≡ answer n → Inside n
        go (refused k) q = absurd (no_answer q)
        go (answer m) q = inside (scale_in s) m n q
