-- The time of a text in a scale that is wanted: a law for each way out. Assumes nothing.
use Rattle.std.specs.Prelude.{◌≡◌, refl, Bool, true, false, not, List, ℕ, ℤ, ◌+ℤ◌, Result, Ok, Err}
use Rattle.std.specs.Result.{MatchResult}
use Rattle.std.proofs.Common.{sym, ap, ap₂, subst, ◌∙◌, arith}
use Rattle.axis.specs.Meaning.{Moment, since}
use Rattle.scales.specs.Meaning.{and_then, in_span, Judged, given, gives, Outcome, refused, outcome, dated, slip, number_of, moment_at, time_scale, time_count, slip_timed, spanned, record_moment, refused_of}
use Rattle.scales.specs.Order.{onward, then_is}
use Rattle.scales.specs.Place.{count_of, moment_of_lem}
use Rattle.scales.specs.Counts.{timed_at, timed_no}
use Rattle.scales.specs.Same.{time_scale_lem, time_count_lem}
use Rattle.scales.specs.declared.Scale.{Scale}
use Rattle.scales.specs.declared.Scale.TheVariants as S
use Rattle.scales.specs.declared.Time.{Time}
use Rattle.scales.specs.declared.Record.{Record}
use Rattle.scales.specs.declared.Refusal.{Refusal}
use Rattle.scales.specs.declared.Refused.{Refused}
use Rattle.leap.specs.Meaning.{seconds, accepted, tai_of, has_micro, is_expired_day}
use Rattle.via_tai.specs.Meaning.{of_count}
use Rattle.changes.specs.Meaning.{settled, moving, asked}
use Rattle.changes.specs.Asked.{record_asked, list_passes}
use Rattle.text_read.specs.Meaning.{scale_in, reading, reading_in}
use Rattle.text_read.specs.Stage.{ParsesText}

module _ (to : Scale) (ds : List ℤ) (os : List ℕ) (e : ℤ) where
  abbrev pub into : Scale → Moment → Judged Moment
  into z m = moving z to ds os e (in_span z m.day m.micro) m

  -- of a record that a text stands for
  abbrev pub record_in : Record → Judged Moment
  record_in r = and_then (record_asked r ds os e) (into r.scale)

  module _ (w : accepted ds os e ≡ true) where
    -- what was judged once is judged the same again
    once : (a b c : Bool) (k : Judged Moment)
        → outcome (given a 7 (given b 9 (given c 10 k))) ≡ outcome (given a 7 (given b 9 (given c 10 (given a 7 (given b 9 (given c 10 k))))))
    once true true true k = refl
    once true true false k = refl
    once true false c k = refl
    once false b c k = refl

    again : (a : Bool) (k : Judged Moment) → outcome (given a 7 k) ≡ outcome (given a 7 (given a 7 k))
    again true k = refl
    again false k = refl

    twice : (z : Scale) (m : Moment) → outcome (into z m) ≡ outcome (and_then (asked z ds os e (in_span z m.day m.micro) m (gives m)) (into z))
    twice S.Tai m = again (in_span S.Tai m.day m.micro) (settled S.Tai to ds os e m (since m.day m.micro))
    twice S.Utc m =
        once (in_span S.Utc m.day m.micro) (not (is_expired_day e m.day)) (has_micro ds m.day m.micro) (settled S.Utc to ds os e m (tai_of ds os m.day m.micro))
        ∙ sym (rw w)
    twice S.Gps m = again (in_span S.Gps m.day m.micro) (settled S.Gps to ds os e m (since m.day m.micro +ℤ seconds 19))

    module _ (r : Record) where
      pub in_at : (t : Time) → slip_timed (Ok t) ≡ spanned r.scale r.day r.micro
          → dated to (outcome (of_count (time_scale t) (time_count t) (moving (time_scale t) to ds os e))) ≡ dated to (outcome (record_in r))
      in_at t q =
          let k = timed_at r.scale r.day r.micro t q in
          let n = count_of r.scale r.day r.micro in
          ap (dated to)
          (ap (λ (x : Time). outcome (into (time_scale x) (moment_at (time_scale x) (time_count x)))) k.1
          ∙ ap₂ (λ (z : Scale) (m : ℕ). outcome (into z (moment_at z m))) (time_scale_lem r.scale n) (time_count_lem r.scale n)
          ∙ ap (λ (m : Moment). outcome (into r.scale m)) (moment_of_lem r.scale r.day r.micro k.0)
          ∙ twice r.scale (record_moment r))

      pub in_outside : (f : Refusal) (z : Scale) → slip_timed (Err (refused_of z f)) ≡ spanned r.scale r.day r.micro → dated to (refused (number_of f)) ≡ dated to (outcome (record_in r))
      in_outside f z q =
          let k = timed_no r.scale r.day r.micro f z q in
          ap (λ (g : Refusal). dated to (refused (number_of g))) k.1.0 ∙ sym (rw (list_passes ds os e r.scale (λ h. w), k.0))

      -- a record outside its span, refused in the scale that is wanted
      pub in_lacks : (t m : Result Time Refused) → slip_timed t ≡ spanned r.scale r.day r.micro → MatchResult t (λ x. m ≡ Ok x) (λ d. m ≡ Err (refused_of to d.refusal))
          → (f : Refused) → m ≡ Err f → slip (Err f) ≡ dated to (outcome (record_in r))
      in_lacks (Ok x) m q k f p = absurd (let z : ◌≡◌ {A = ℕ} 0 1 = cc in omega arith)
      in_lacks (Err d) m q k f p = let z : f ≡ refused_of to d.refusal = cc in rw z (in_outside d.refusal d.scale q)

  -- ---- a text that was parsed
  module _ (s : List ℕ) (r : Result Record Refusal) (p : ParsesText s r) where
    pub in_refused : (f : Refusal) → r ≡ Err f → dated to (refused (number_of f)) ≡ dated to (outcome (reading_in to s ds os e))
    in_refused f q =
        let x = (subst (ParsesText s) q p).is ds os e in
        ap (dated to) (ap (onward (into (scale_in s))) x ∙ sym (then_is (reading s ds os e) (into (scale_in s))))

    pub in_parsed : (t : Record) → r ≡ Ok t → dated to (outcome (record_in t)) ≡ dated to (outcome (reading_in to s ds os e))
    in_parsed t q =
        let x = (subst (ParsesText s) q p).is in
        ap (dated to)
        (then_is (record_asked t ds os e) (into t.scale)
        ∙ ap₂ (λ (z : Scale) (o : Outcome Moment). onward (into z) o) x.0 (x.1 ds os e)
        ∙ sym (then_is (reading s ds os e) (into (scale_in s))))
