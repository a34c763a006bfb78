-- What is promised of the changes' meanings: demand 3, round trips, order, and the one UTC record of a TAI time; each beside an
-- instance under the published list that meets its hypotheses. Assumes nothing.
use mathlib.Core.Path.{◌≡◌, refl, sym, ap, ap₂, subst, ◌∙◌}
use mathlib.Core.Bool.{Bool, true, false, not, ◌||◌}
use mathlib.Core.List.{List, ◌++◌}
use Prim.Native.Nat.{ℕ, ◌/◌, ◌%◌}
use native.Mathlib.Omega.{arith}
use lib.IntN.{ℤ, pos, ◌+ℤ◌}
use lib.Signed.{le_z}
use Rattle.axis.specs.Meaning.{place_of_day, Moment}
use Rattle.axis.specs.Axis.{day_place}
use Rattle.scales.specs.Meaning.{bound, in_span, given, refused, outcome, Slip, dated_as, dated, moment_at}
use Rattle.scales.specs.Place.{apart}
use Rattle.scales.specs.declared.Scale.{Scale}
use Rattle.scales.specs.declared.Scale.TheVariants as S
use Rattle.scales.specs.declared.Mark.TheVariants as M
use Rattle.handed.specs.declared.Handed.{Handed}
use Rattle.handed.specs.Told.{loose}
use Rattle.handed.specs.Meaning.{scale_of, mark_of, is_finite, is_in_span, day_of, micro_of, moment_in}
use Rattle.leap.specs.Meaning.{accepted, Extends, all_later, published_days, published_offsets, published_last}
use Rattle.changes.specs.Meaning.{with_list, change_uses_list, moving, utc_to_tai, utc_to_gps, tai_to_utc, gps_to_utc, change_of}
use Rattle.changes.specs.Ways.{list_in}
use Rattle.changes.specs.General.{seven}
use Rattle.leap_laws.proofs.Slips.{nine}
use Rattle.leap_laws.proofs.Stands.{moment}
use Rattle.leap_laws.proofs.Fresh.{kept}
use Rattle.leap.specs.Published.{published}
use Rattle.leap_laws.proofs.Computed.{published_6209, extended}

-- ---- demand 3, for lists A (ds, os, e) and B (cs, ps, f): but for 9, what A said B says
pub record Fresh (ds : List ℤ) (os : List ℕ) (e : ℤ) (cs : List ℤ) (ps : List ℕ) (f : ℤ) : Type 0 where
  pub change : (h : Handed) (to : Scale) → ((change_of h to ds os e).number ≡ 9 → ⊥) → change_of h to cs ps f ≡ change_of h to ds os e
  pub utc_tai : (n : ℕ) → ((utc_to_tai n ds os e).number ≡ 9 → ⊥) → utc_to_tai n cs ps f ≡ utc_to_tai n ds os e
  pub utc_gps : (n : ℕ) → ((utc_to_gps n ds os e).number ≡ 9 → ⊥) → utc_to_gps n cs ps f ≡ utc_to_gps n ds os e
  pub tai_utc : (n : ℕ) → ((tai_to_utc n ds os e).number ≡ 9 → ⊥) → tai_to_utc n cs ps f ≡ tai_to_utc n ds os e
  pub gps_utc : (n : ℕ) → ((gps_to_utc n ds os e).number ≡ 9 → ⊥) → gps_to_utc n cs ps f ≡ gps_to_utc n ds os e

module _ (ds : List ℤ) (os : List ℕ) (e : ℤ) (w : accepted ds os e ≡ true) (cs : List ℤ) (ps : List ℕ) (f : ℤ)
    (v : accepted (ds ++ cs) (os ++ ps) f ≡ true) (far : all_later cs (e +ℤ pos 1) ≡ true) (ends : le_z e f ≡ true) where
  -- a count, typed
  typed : (s to : Scale) (n : ℕ) → let j = in_span s (moment_at s n).day (moment_at s n).micro in
      ((dated to (outcome (with_list ds os e (moving s to ds os e j (moment_at s n))))).number ≡ 9 → ⊥)
      → dated to (outcome (with_list (ds ++ cs) (os ++ ps) f (moving s to (ds ++ cs) (os ++ ps) f j (moment_at s n))))
      ≡ dated to (outcome (with_list ds os e (moving s to ds os e j (moment_at s n))))
  typed s to n h =
      let j = in_span s (moment_at s n).day (moment_at s n).micro in
      let A = moving s to ds os e j (moment_at s n) in
      let B = moving s to (ds ++ cs) (os ++ ps) f j (moment_at s n) in
      let p = list_in to ds os e A w in
      sym (list_in to (ds ++ cs) (os ++ ps) f B v)
      ∙ ap (dated to) (kept ds os e w cs ps f v far ends s to j (n / bound s) (n % bound s) (λ q. h (ap (λ (y : Slip). y.number) (sym p) ∙ nine M.Plain to (outcome A) q)))
      ∙ p

  -- what is handed in
  handed : (h : Handed) (to : Scale) → ((change_of h to ds os e).number ≡ 9 → ⊥) → change_of h to (ds ++ cs) (os ++ ps) f ≡ change_of h to ds os e
  unfolding change_of
  handed h to k = go (is_finite h) refl (is_in_span h) refl k
    where
      used : (b c : Bool) → c ≡ true → (b || c) ≡ true
      used true c q = refl
      used false c q = q

      m : Moment
      m = moment_in h

      slip_a : Bool → Bool → Slip
      slip_a p q = dated_as (mark_of h) to (outcome (given p 4 (given (not (change_uses_list (scale_of h) to) || accepted ds os e) 5 (moving (scale_of h) to ds os e q m))))

      slip_b : Bool → Bool → Slip
      slip_b p q =
          dated_as (mark_of h) to
          (outcome
          (given p 4 (given (not (change_uses_list (scale_of h) to) || accepted (ds ++ cs) (os ++ ps) f) 5 (moving (scale_of h) to (ds ++ cs) (os ++ ps) f q m))))

      A : (q : Bool) → slip_a true q ≡ dated_as (mark_of h) to (outcome (moving (scale_of h) to ds os e q m))
      A q = rw (used (not (change_uses_list (scale_of h) to)) (accepted ds os e) w)

      B : (q : Bool) → slip_b true q ≡ dated_as (mark_of h) to (outcome (moving (scale_of h) to (ds ++ cs) (os ++ ps) f q m))
      B q = rw (used (not (change_uses_list (scale_of h) to)) (accepted (ds ++ cs) (os ++ ps) f) v)

      go : (p : Bool) → is_finite h ≡ p → (q : Bool) → is_in_span h ≡ q → ((slip_a p q).number ≡ 9 → ⊥) → slip_b p q ≡ slip_a p q
      go false x q y k = refl
      go true x false y k =
          B false ∙ ap (dated_as (mark_of h) to) (seven h to (ds ++ cs) (os ++ ps) f (scale_of h) m ∙ sym (seven h to ds os e (scale_of h) m)) ∙ sym (A false)
      go true x true y k =
          let l = loose h x y in
          let a = place_of_day (day_of h) in
          let d : m ≡ moment a (micro_of h) =
          ap {B = Moment} (λ (z : ℤ). record { day = z; micro = micro_of h })
          (sym (day_place (day_of h) (omega (arith, l.from, (apart (scale_of h)).from)) (omega (arith, l.to)))) in
          let z = subst (λ (n : Moment). (outcome (moving (scale_of h) to ds os e true n) ≡ refused 9 → ⊥)
          → outcome (moving (scale_of h) to (ds ++ cs) (os ++ ps) f true n) ≡ outcome (moving (scale_of h) to ds os e true n)) (sym d)
          (kept ds os e w cs ps f v far ends (scale_of h) to true a (micro_of h)) in
          B true
          ∙ ap (dated_as (mark_of h) to) (z (λ r. k (ap (λ (s : Slip). s.number) (A true) ∙ nine (mark_of h) to (outcome (moving (scale_of h) to ds os e true m)) r)))
          ∙ sym (A true)

  core : Fresh ds os e (ds ++ cs) (os ++ ps) f
  unfolding utc_to_tai utc_to_gps tai_to_utc gps_to_utc
  core =
      record {
        change = handed;
        utc_tai = typed S.Utc S.Tai;
        utc_gps = typed S.Utc S.Gps;
        tai_utc = typed S.Tai S.Utc;
        gps_utc = typed S.Gps S.Utc;
      }

pub fresh : (ds : List ℤ) (os : List ℕ) (e : ℤ) (cs : List ℤ) (ps : List ℕ) (f : ℤ) → accepted ds os e ≡ true → accepted cs ps f ≡ true
    → Extends ds os e cs ps f → Fresh ds os e cs ps f
fresh ds os e cs ps f w v x =
    let ms = x.more_days in
    let ns = x.more_offsets in
    let v' : accepted (ds ++ ms) (os ++ ns) f ≡ true = ap₂ (λ (c : List ℤ) (p : List ℕ). accepted c p f) (sym x.days) (sym x.offsets) ∙ v in
    subst (λ (c : List ℤ). Fresh ds os e c ps f) (sym x.days)
    (subst (λ (p : List ℕ). Fresh ds os e (ds ++ ms) p f) (sym x.offsets) (core ds os e w ms ns f v' x.further x.ends))

-- the published steps with E = 6209 and with E = 9131: day 6210, 0 UTC was 9 and is TAI 37 s of that day (marked case 3)
pub published_fresh : Fresh published_days published_offsets (pos 6209) published_days published_offsets published_last
published_fresh = fresh published_days published_offsets (pos 6209) published_days published_offsets published_last published_6209 published extended
