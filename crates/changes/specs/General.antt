-- The ways out of the one change of any time to any scale. Assumes nothing.
use Rattle.std.specs.Prelude.{◌≡◌, refl, Bool, true, false, not, ◌&&◌, ◌||◌, List, ℕ, ℤ, Result, Ok, Err}
use Rattle.std.proofs.Math.Path.{sym, ap, ap₂}
use Rattle.std.proofs.Common.{◌∙◌}
use Rattle.std.proofs.lemmas.Bool.{false≢true}
use Rattle.axis.specs.Meaning.{micros_at, Moment}
use Rattle.scales.specs.Meaning.{same_scale, in_span, Judged, refused, answer, outcome, Slip, dated_as, dated, remark, number_of, moment_at, time_scale, time_count}
use Rattle.scales.specs.Order.{numbered}
use Rattle.scales.specs.Marks.{remark_is}
use Rattle.scales.specs.Same.{same_scale_lem}
use Rattle.scales.specs.declared.Scale.{Scale}
use Rattle.scales.specs.declared.Scale.TheVariants as S
use Rattle.scales.specs.declared.Refusal.{Refusal}
use Rattle.scales.specs.declared.Tai.{Tai}
use Rattle.scales.specs.declared.Time.{Time}
use Rattle.handed.specs.declared.Handed.{Handed}
use Rattle.handed.specs.Told.{Told, told_scale, told_moment}
use Rattle.handed.specs.Meaning.{scale_of, mark_of, is_finite, is_in_span, moment_in}
use Rattle.leap.specs.Meaning.{accepted}
use Rattle.leap.specs.Walk.{or_true}
use Rattle.via_tai.specs.Meaning.{from_scale, to_scale, is_utc, of_count}
use Rattle.via_tai.specs.Ways.{Left, way_on, way_out}
use Rattle.changes.specs.Meaning.{change_uses_list, settled, moving, change_of}
use Rattle.changes.specs.Asked.{lacking}

-- ---- the list is used where UTC stands on either side
pub uses_from : (s to : Scale) → is_utc s ≡ true → change_uses_list s to ≡ true
uses_from s to e = rw e

pub uses_to : (s to : Scale) → is_utc to ≡ true → change_uses_list s to ≡ true
uses_to s to e = rw e (or_true (is_utc s))

-- ---- to its own scale, or to another
module _ (s : Scale) (n : ℕ) (ds : List ℤ) (os : List ℕ) (e : ℤ) {r : Result Tai Refusal} (w : Left (of_count s n (from_scale s ds os e)) r) (to : Scale) where
  abbrev Moves : Slip → Type 0
  Moves x = x ≡ dated to (outcome (of_count s n (moving s to ds os e)))

  abbrev next : ℤ → Judged Moment
  next = settled s to ds os e (moment_at s n)

  pub move_stays : {t : Tai} → r ≡ Ok t → same_scale s to ≡ true → Moves (dated s (answer (moment_at s n)))
  move_stays g h = way_on w to next g (ap (λ (x : Scale). dated x (answer (moment_at s n))) (same_scale_lem s to h) ∙ sym (rw h))

  pub move_goes : {t : Tai} {x : Slip} → r ≡ Ok t → same_scale s to ≡ false → x ≡ dated to (outcome (to_scale to ds os e (micros_at t.0))) → Moves x
  move_goes g h i = way_on w to next g (i ∙ sym (rw h))

  pub move_out : {f : Refusal} → r ≡ Err f → Moves (dated to (refused (number_of f)))
  move_out g = way_out w to next g

-- none of its refusals has the number of an answer
pub moving_numbered : (s to : Scale) (ds : List ℤ) (os : List ℕ) (e : ℤ) (inside : Bool) (m : Moment) → numbered (moving s to ds os e inside m) ≡ true
moving_numbered S.Tai S.Tai ds os e inside m = refl
moving_numbered S.Tai S.Utc ds os e inside m = refl
moving_numbered S.Tai S.Gps ds os e inside m = refl
moving_numbered S.Utc S.Tai ds os e inside m = refl
moving_numbered S.Utc S.Utc ds os e inside m = refl
moving_numbered S.Utc S.Gps ds os e inside m = refl
moving_numbered S.Gps S.Tai ds os e inside m = refl
moving_numbered S.Gps S.Utc ds os e inside m = refl
moving_numbered S.Gps S.Gps ds os e inside m = refl

-- ---- what is judged before
pub having : (u a : Bool) → (u && not a) ≡ false → (not u || a) ≡ true
having true true e = refl
having true false e = absurd (false≢true (sym e))
having false a e = refl

module _ (h : Handed) (to : Scale) (ds : List ℤ) (os : List ℕ) (e : ℤ) where
  abbrev lacks : Bool
  lacks = change_uses_list (scale_of h) to && not (accepted ds os e)

  pub change_infinite : is_finite h ≡ false → dated to (refused 4) ≡ change_of h to ds os e
  unfolding change_of
  change_infinite f = sym (rw f)

  pub change_unlisted : is_finite h ≡ true → lacks ≡ true → dated to (refused 5) ≡ change_of h to ds os e
  unfolding change_of
  change_unlisted f l = let x = lacking (change_uses_list (scale_of h) to) (accepted ds os e) l in sym (rw (f, x.0, x.1))

  pub seven : (s : Scale) (m : Moment) → outcome (moving s to ds os e false m) ≡ refused 7
  seven S.Tai m = refl
  seven S.Utc m = refl
  seven S.Gps m = refl

  pub change_outside : is_finite h ≡ true → lacks ≡ false → is_in_span h ≡ false → dated to (refused 7) ≡ change_of h to ds os e
  unfolding change_of
  change_outside f l i =
      sym (rw (f, having (change_uses_list (scale_of h) to) (accepted ds os e) l, i) (ap (dated_as (mark_of h) to) (seven (scale_of h) (moment_in h))))

  pub change_at : (t : Time) → Told h t → lacks ≡ false
      → remark (mark_of h) (dated to (outcome (of_count (time_scale t) (time_count t) (moving (time_scale t) to ds os e)))) ≡ change_of h to ds os e
  unfolding change_of
  change_at t w l =
      remark_is (mark_of h) to (of_count (time_scale t) (time_count t) (moving (time_scale t) to ds os e)) (moving_numbered (time_scale t) to ds os e _ _)
      ∙ ap₂ (λ (s : Scale) (m : Moment). dated_as (mark_of h) to (outcome (moving s to ds os e (in_span s m.day m.micro) m))) (told_scale h t w) (told_moment h t w)
      ∙ ap (λ (b : Bool). dated_as (mark_of h) to (outcome (moving (scale_of h) to ds os e b (moment_in h)))) (w.kept ∙ sym w.inside)
      ∙ sym (rw (w.finite, having (change_uses_list (scale_of h) to) (accepted ds os e) l))
