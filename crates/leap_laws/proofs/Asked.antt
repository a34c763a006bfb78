-- Demand 3 of what a list is asked for a time that stays in its scale: under a list that extends the one in use every answer is the same,
-- and every refusal but 9 stays. Assumes nothing.
use mathlib.Core.Path.{◌≡◌, refl, sym, ap, ◌∙◌}
use mathlib.Core.Bool.{Bool, true, false, not, ◌||◌}
use mathlib.Core.List.{List}
use Prim.Native.Nat.{ℕ}
use lib.IntN.{ℤ, pos}
use Rattle.axis.specs.Meaning.{Moment}
use Rattle.scales.specs.Meaning.{in_span, Judged, given, gives, refused, answer, outcome, dated_as, record_of}
use Rattle.scales.specs.Order.{onward, then_is, no_answer}
use Rattle.scales.specs.declared.Scale.{Scale}
use Rattle.scales.specs.declared.Scale.TheVariants as S
use Rattle.handed.specs.Meaning.{scale_of, mark_of, is_finite, is_in_span, moment_in}
use Rattle.handed.specs.declared.Handed.{Handed}
use Rattle.handed.specs.declared.Handed.TheVariants as H
use Rattle.leap.specs.Meaning.{accepted, is_step, published_days, published_offsets, published_last}
use Rattle.leap.specs.Published.{published}
use Rattle.changes.specs.Meaning.{change_uses_list, moving, changing, change_of, asked}
use Rattle.changes.specs.Asked.{handed_asked, list_passes, sound}
use Rattle.leap_laws.proofs.Slips.{by_nine, same}
use Rattle.leap_laws.proofs.Promises.{Fresh, fresh}
use Rattle.leap_laws.proofs.Computed.{published_6209, extended}

-- a change to the same scale asks the same
own : (z : Scale) (ds : List ℤ) (os : List ℕ) (e : ℤ) (finite inside : Bool) (m : Moment)
    → outcome (given finite 4 (given (not (change_uses_list z z) || accepted ds os e) 5 (moving z z ds os e inside m))) ≡ outcome (given finite 4 (asked z ds os e inside m (gives m)))
own S.Tai ds os e finite inside m = refl
own S.Utc ds os e finite inside m = refl
own S.Gps ds os e finite inside m = refl

module _ (ds : List ℤ) (os : List ℕ) (e : ℤ) (cs : List ℤ) (ps : List ℕ) (f : ℤ) (a : accepted ds os e ≡ true) (b : accepted cs ps f ≡ true) (w : Fresh ds os e cs ps f) where
  -- of any time that is handed in
  pub handed_again : (h : Handed) → (outcome (handed_asked ds os e h) ≡ refused 9 → ⊥) → outcome (handed_asked cs ps f h) ≡ outcome (handed_asked ds os e h)
  unfolding change_of
  handed_again h n =
      let z = scale_of h in
      let o : outcome (changing h z ds os e) ≡ outcome (handed_asked ds os e h) = own z ds os e (is_finite h) (is_in_span h) (moment_in h) in
      let p : outcome (changing h z cs ps f) ≡ outcome (handed_asked cs ps f h) = own z cs ps f (is_finite h) (is_in_span h) (moment_in h) in
      let k = w.change h z (λ q. n (sym o ∙ by_nine (mark_of h) z (outcome (changing h z ds os e)) q)) in
      same (mark_of h) z (outcome (handed_asked cs ps f h)) (outcome (handed_asked ds os e h)) (sound (handed_asked cs ps f h) refl) (sound (handed_asked ds os e h) refl)
      (ap (dated_as (mark_of h) z) (sym p) ∙ k ∙ ap (dated_as (mark_of h) z) o)

  -- of a moment of scale z, which is outside its span or was found to lie in it, whatever is judged after
  module _ (z : Scale) (inside : Bool) (m : Moment) (i : inside ≡ true → in_span z m.day m.micro ≡ true) where
    abbrev before : Judged Moment
    before = asked z ds os e inside m (gives m)

    abbrev after : Judged Moment
    after = asked z cs ps f inside m (gives m)

    moment_again : (outcome before ≡ refused 9 → ⊥) → outcome after ≡ outcome before
    moment_again n = go inside refl n
      where
        at : Bool → Judged Moment
        at t = asked z ds os e t m (gives m)

        at' : Bool → Judged Moment
        at' t = asked z cs ps f t m (gives m)

        go : (t : Bool) → inside ≡ t → (outcome (at inside) ≡ refused 9 → ⊥) → outcome (at' inside) ≡ outcome (at inside)
        go true q n =
            let x : inside ≡ in_span z m.day m.micro = q ∙ sym (i q) in
            ap (λ (t : Bool). outcome (at' t)) x
            ∙ handed_again (H.Record (record_of z m.day m.micro)) (λ k. n (ap (λ (t : Bool). outcome (at t)) x ∙ k))
            ∙ ap (λ (t : Bool). outcome (at t)) (sym x)
        go false q n = rw (q, list_passes cs ps f z (λ k. b), list_passes ds os e z (λ k. a))

    pub asked_again : {A : Type 0} (rest : Judged A) → (outcome before ≡ refused 9 → ⊥) → outcome (asked z cs ps f inside m rest) ≡ outcome (asked z ds os e inside m rest)
    asked_again {A} rest n =
        then_is after next ∙ ap (onward next) (moment_again n) ∙ sym (then_is before next)
      where
        next : Moment → Judged A
        next x = rest

-- the last second of 2016, known to a list up to that day, under the published one
abbrev last_second : Moment
last_second = record { day = pos 6209; micro = 86400999999 }

known : outcome (asked S.Utc published_days published_offsets (pos 6209) true last_second (gives last_second)) ≡ answer last_second
unfolding is_step
known = rw published_6209

pub asked_again_instance : outcome (asked S.Utc published_days published_offsets published_last true last_second (gives last_second))
    ≡ outcome (asked S.Utc published_days published_offsets (pos 6209) true last_second (gives last_second))
asked_again_instance =
    asked_again published_days published_offsets (pos 6209) published_days published_offsets published_last published_6209 published
    (fresh published_days published_offsets (pos 6209) published_days published_offsets published_last published_6209 published extended)
    S.Utc true last_second (λ q. refl) (gives last_second) (λ q. no_answer (sym q ∙ known))
