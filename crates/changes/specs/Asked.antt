-- What a list is asked for a record that stays in its scale: the stages, a law for each way out, and what an answer tells. Assumes nothing.
use Rattle.std.specs.Prelude.{◌≡◌, refl, Bool, true, false, not, ◌&&◌, ◌||◌, List, ℕ, ◌<◌, ◌≤◌, ltb, ℤ, Ok, Err}
use Rattle.std.proofs.Common.{sym, ap, ap₂, ◌∙◌, arith, ltb-true, lt-ltb, le-ltb}
use Rattle.std.proofs.lemmas.Bool.{false≢true}
use Rattle.axis.specs.Meaning.{place_of_day, day_at, Moment}
use Rattle.axis.specs.Axis.{day_place}
use Rattle.scales.specs.Meaning.{in_span, Judged, given, gives, Outcome, refused, answer, outcome, Slip, dated, number_of, slip, slip_timed, spanned, record_moment, refused_of}
use Rattle.scales.specs.Order.{no_answer, numbered}
use Rattle.scales.specs.Same.{no_zero}
use Rattle.scales.specs.Place.{and_both, apart, placed, spanned_out}
use Rattle.scales.specs.Counts.{timed_at, timed_no}
use Rattle.scales.specs.declared.Scale.{Scale}
use Rattle.scales.specs.declared.Scale.TheVariants as S
use Rattle.scales.specs.declared.Record.{Record}
use Rattle.scales.specs.declared.Refusal.{Refusal}
use Rattle.scales.specs.declared.Time.{Time}
use Rattle.handed.specs.Meaning.{scale_of, is_finite, is_in_span, moment_in}
use Rattle.handed.specs.Laid.{LaidAt}
use Rattle.handed.specs.declared.Handed.{Handed}
use Rattle.leap.specs.Meaning.{accepted, has_micro, is_expired_day}
use Rattle.leap.specs.Whole.{expired_at}
use Rattle.via_tai.specs.Meaning.{is_utc}
use Rattle.changes.specs.Meaning.{asked}

-- ---- the stages: whether a list is lacking, and what it is asked of a record
-- a list is used that is not accepted
abbrev pub lacks_list : Bool → List ℤ → List ℕ → ℤ → Bool
lacks_list used ds os e = used && not (accepted ds os e)

abbrev pub record_asked : Record → List ℤ → List ℕ → ℤ → Judged Moment
record_asked r ds os e = asked r.scale ds os e (in_span r.scale r.day r.micro) (record_moment r) (gives (record_moment r))

pub lacking : (u a : Bool) → (u && not a) ≡ true → (u ≡ true) × (a ≡ false)
lacking true true e = absurd (false≢true e)
lacking true false e = (refl, refl)
lacking false a e = absurd (false≢true e)

module _ (ds : List ℤ) (os : List ℕ) (e : ℤ) where
  -- ---- the list is judged before
  pub list_passes : (z : Scale) → (is_utc z ≡ true → accepted ds os e ≡ true) → (not (is_utc z) || accepted ds os e) ≡ true
  list_passes S.Tai w = refl
  list_passes S.Utc w = w refl
  list_passes S.Gps w = refl

  -- a list that is used and not accepted is refused first of all that a record brings
  pub list_lacks : (r : Record) → is_utc r.scale ≡ true → accepted ds os e ≡ false → outcome (record_asked r ds os e) ≡ refused 5
  list_lacks r u w = rw (u, w)

  -- ---- the ways out of a record that is judged
  module _ (r : Record) (w : is_utc r.scale ≡ true → accepted ds os e ≡ true) where
    abbrev Judges : Slip → Type 0
    Judges x = x ≡ dated r.scale (outcome (record_asked r ds os e))

    pub judge_outside : (f : Refusal) (y : Scale) → slip_timed (Err (refused_of y f)) ≡ spanned r.scale r.day r.micro → Judges (slip (Err (refused_of y f)))
    judge_outside f y q =
        let k = timed_no r.scale r.day r.micro f y q in
        q ∙ spanned_out r.scale r.day r.micro k.0 ∙ sym (rw (list_passes r.scale w, k.0))

    pub judge_plain : in_span r.scale r.day r.micro ≡ true → is_utc r.scale ≡ false → Judges (dated r.scale (answer (record_moment r)))
    judge_plain i u = sym (rw (i, u))

    -- of a record that was taken as a time
    pub judge_taken : (t : Time) → slip_timed (Ok t) ≡ spanned r.scale r.day r.micro → is_utc r.scale ≡ false → Judges (dated r.scale (answer (record_moment r)))
    judge_taken t q u = judge_plain (timed_at r.scale r.day r.micro t q).0 u

    -- of UTC also 9 and 10, by the place of the day
    pub record InUtc (p : ℕ) : Type 0 where
      pub inside : in_span r.scale r.day r.micro ≡ true
      pub utc : is_utc r.scale ≡ true
      pub place : p ≡ place_of_day r.day

    -- a record that was taken as a time, of UTC
    pub in_utc : (t : Time) (p : ℕ) → slip_timed (Ok t) ≡ spanned r.scale r.day r.micro → is_utc r.scale ≡ true → p ≡ place_of_day r.day → InUtc p
    in_utc t p q u e = record { inside = (timed_at r.scale r.day r.micro t q).0; utc = u; place = e }

    module _ (p : ℕ) (k : InUtc p) where
      pub judge_place : p < 99999
      judge_place = omega (arith, k.place, (placed r.scale r.day r.micro k.inside).to, (apart r.scale).to)

      day_is : day_at p ≡ r.day
      day_is =
          let l = placed r.scale r.day r.micro k.inside in
          ap day_at k.place ∙ day_place r.day (omega (arith, l.from, (apart r.scale).from)) (omega (arith, judge_place, k.place))

      after : is_expired_day e r.day ≡ ltb (place_of_day e) p
      after = ap (is_expired_day e) (sym day_is) ∙ expired_at ds os e (w k.utc) p

      has : (b : Bool) → has_micro ds (day_at p) r.micro ≡ b → has_micro ds r.day r.micro ≡ b
      has b m = ap (λ (d : ℤ). has_micro ds d r.micro) (sym day_is) ∙ m

      pub judge_expired : place_of_day e < p → Judges (dated r.scale (refused 9))
      judge_expired l = sym (rw (k.utc, w k.utc, k.inside, after, lt-ltb (place_of_day e) p l))

      pub judge_lacking : p ≤ place_of_day e → has_micro ds (day_at p) r.micro ≡ false → Judges (dated r.scale (refused 10))
      judge_lacking l m = sym (rw (k.utc, w k.utc, k.inside, after, le-ltb (place_of_day e) p l, has false m))

      pub judge_stands : p ≤ place_of_day e → has_micro ds (day_at p) r.micro ≡ true → Judges (dated r.scale (answer (record_moment r)))
      judge_stands l m = sym (rw (k.utc, w k.utc, k.inside, after, le-ltb (place_of_day e) p l, has true m))

  -- ---- a handed time that was laid out as a record
  abbrev pub handed_asked : Handed → Judged Moment
  handed_asked h = given (is_finite h) 4 (asked (scale_of h) ds os e (is_in_span h) (moment_in h) (gives (moment_in h)))

  pub nothing_asked : (h : Handed) → is_finite h ≡ false → outcome (handed_asked h) ≡ refused 4
  nothing_asked h p = rw p

  pub laid_is : (h : Handed) (r : Record) → LaidAt h r → outcome (record_asked r ds os e) ≡ outcome (handed_asked h)
  laid_is h r w =
      ap₂ (λ (z : Scale) (b : Bool). outcome (asked z ds os e b (record_moment r) (gives (record_moment r)))) w.scale w.spans
      ∙ go (is_in_span h) refl
      ∙ sym (rw w.finite)
    where
      go : (b : Bool) → is_in_span h ≡ b
          → outcome (asked (scale_of h) ds os e b (record_moment r) (gives (record_moment r))) ≡ outcome (asked (scale_of h) ds os e b (moment_in h) (gives (moment_in h)))
      go true p = ap (λ (m : Moment). outcome (asked (scale_of h) ds os e true m (gives m))) (w.moment p)
      go false p = refl

-- ---- what an answer tells: none of a chain's numbers is 0
pub sound : {A : Type 0} (j : Judged A) → numbered j ≡ true → outcome j ≡ refused 0 → ⊥
sound (given true n rest) w q = sound rest (and_both (ltb 0 n) (numbered rest) w).1 q
sound (given false n rest) w q =
    let z : n ≡ 0 = cc in
    omega (arith, z, ltb-true 0 n (and_both (ltb 0 n) (numbered rest) w).0)
sound (gives a) w q = no_answer (sym q)

pub asked_sound : (r : Record) (ds : List ℤ) (os : List ℕ) (e : ℤ) → outcome (record_asked r ds os e) ≡ refused 0 → ⊥
asked_sound r ds os e = sound (record_asked r ds os e) refl

-- an answer: its moment, and its scale
pub slip_answer : (s : Scale) (o : Outcome Moment) → (o ≡ refused 0 → ⊥) → (r : Record) → slip (Ok r) ≡ dated s o → (r.scale ≡ s) × (o ≡ answer (record_moment r))
slip_answer s (refused n) w r q = absurd (w (ap refused (λ i. (sym q i).number)))
slip_answer s (answer m) w r q = (λ i. (q i).scale, λ i. answer (record { day = (sym q i).day; micro = (sym q i).micro }))

pub slip_refused : (s : Scale) (o : Outcome Moment) (f : Refusal) (z : Scale) → slip (Err (refused_of z f)) ≡ dated s o → o ≡ refused (number_of f)
slip_refused s (refused n) f z q = ap refused (λ i. (sym q i).number)
slip_refused s (answer m) f z q = absurd (no_zero f (λ i. (q i).number))
