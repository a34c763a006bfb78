-- The ways out of the two halves: the TAI count on the way, and a law for each refusal and each answer. Assumes nothing.
use Rattle.std.specs.Prelude.{◌≡◌, Bool, true, false, List, ℕ, ◌+◌, ◌-◌, ◌*◌, ◌/◌, ◌%◌, ◌<◌, ◌≤◌, leb, ltb, ℤ, pos, ◌+ℤ◌, Result, Ok, Err}
use Rattle.std.proofs.Common.{sym, ap, subst, ◌∙◌, arith, leb-false, lt-ltb, le-ltb}
use Rattle.std.specs.Int.Signed.{le_z}
use Rattle.axis.specs.Meaning.{place_of_day, day_at, micros_at, Moment, day_micros, since, moment_of}
use Rattle.axis.specs.Diff.{sub_inj_same}
use Rattle.axis.specs.Axis.{since_at, day_next, micros_le, micros_add, micros_minus, moment_at_lem}
use Rattle.scales.specs.Meaning.{and_then, bound, in_span, Judged, Outcome, refused, answer, outcome, Slip, dated, number_of, moment_at, resulting}
use Rattle.scales.specs.Order.{onward, then_is, no_answer}
use Rattle.scales.specs.Place.{first_at, span_early, span_late, span_in}
use Rattle.scales.specs.Same.{refusals}
use Rattle.scales.specs.declared.Scale.{Scale}
use Rattle.scales.specs.declared.Scale.TheVariants as S
use Rattle.scales.specs.declared.Refusal.{Refusal}
use Rattle.scales.specs.declared.Refusal.TheVariants as R
use Rattle.scales.specs.declared.Tai.{Tai}
use Rattle.leap.specs.Meaning.{seconds, accepted, offset_on, tai_of, is_step, has_micro, is_expired_day, is_expired_tai, utc_of}
use Rattle.leap.specs.Places.{tai_at_lem}
use Rattle.leap.specs.Steps.{steps}
use Rattle.leap.specs.Back.{forth, none_before}
use Rattle.leap.specs.Whole.{tai_at, expired_at, offset_small, before_known}
use Rattle.via_tai.specs.Meaning.{from_tai, from_gps, from_utc, to_tai, to_gps, to_utc, of_count}

-- ---- a TAI count on the way: its span is not tested, and it is well on the axis
pub record OnTheWay (c : ℕ) : Type 0 where
  pub from : 2572387200000000 ≤ c
  pub to : c < 6611846400000000

-- far enough on for the first offset to be taken away
pub far_on : {c : ℕ} → OnTheWay c → 10000000 ≤ c
far_on w = omega (arith, w.from)

abbrev pub counted : Result Tai Refusal → Outcome ℤ
counted (Ok t) = answer (micros_at t.0)
counted (Err f) = refused (number_of f)

abbrev Held : Result Tai Refusal → Type 0
Held (Ok t) = OnTheWay t.0
Held (Err f) = 0 ≤ 0

pub record Left (j : Judged ℤ) (r : Result Tai Refusal) : Type 0 where
  pub is : counted r ≡ outcome j
  pub held : Held r

-- a chain leaves one answer
counted_one : (a b : Result Tai Refusal) → counted a ≡ counted b → a ≡ b
counted_one (Ok x) (Ok y) e =
    let z : micros_at x.0 ≡ micros_at y.0 = cc in
    let q : x.0 ≡ y.0 = sub_inj_same 3456000000000000 x.0 y.0 z in
    λ i. Ok (record { 0 = q i })
counted_one (Ok x) (Err g) e = absurd (no_answer (sym e))
counted_one (Err f) (Ok y) e = absurd (no_answer e)
counted_one (Err f) (Err g) e = let q : number_of f ≡ number_of g = cc in ap Err (refusals f g q)

pub left_one : (j : Judged ℤ) (a b : Result Tai Refusal) → Left j a → Left j b → a ≡ b
left_one j a b p q = counted_one a b (p.is ∙ sym q.is)

-- ---- what is left of a change when its time was taken to a TAI count, or was refused
module _ {j : Judged ℤ} {r : Result Tai Refusal} (w : Left j r) where
  pub way_held : {t : Tai} → r ≡ Ok t → OnTheWay t.0
  way_held g = subst Held g w.held

  module _ (to : Scale) (next : ℤ → Judged Moment) where
    passes : (d : Result Tai Refusal) → r ≡ d → dated to (onward next (counted d)) ≡ dated to (outcome (and_then j next))
    passes d g = ap (dated to) (sym (then_is j next ∙ ap (onward next) (sym w.is ∙ ap counted g)))

    pub way_on : {t : Tai} {x : Slip} → r ≡ Ok t → x ≡ dated to (outcome (next (micros_at t.0))) → x ≡ dated to (outcome (and_then j next))
    way_on {t} g h = h ∙ passes (Ok t) g

    pub way_out : {f : Refusal} → r ≡ Err f → dated to (refused (number_of f)) ≡ dated to (outcome (and_then j next))
    way_out {f} g = passes (Err f) g

-- ---- to the TAI count: 7 of each scale
module _ (s : Scale) (n : ℕ) (f : Bool → Moment → Judged ℤ) (seven : refused 7 ≡ outcome (f false (moment_at s n))) where
  left_out : in_span s (moment_at s n).day (moment_at s n).micro ≡ false → Left (of_count s n f) (Err R.OutsideSpan)
  left_out e = record { is = seven ∙ ap (λ (b : Bool). outcome (f b (moment_at s n))) (sym e); held = omega arith }

  pub left_early : n / bound s < first_at s → Left (of_count s n f) (Err R.OutsideSpan)
  left_early h = left_out (span_early s (n / bound s) (n % bound s) h)

  pub left_late : 76524 < n / bound s → Left (of_count s n f) (Err R.OutsideSpan)
  left_late h = left_out (span_late s (n / bound s) (n % bound s) h)

module _ (n : ℕ) where
  pub count_is : since (day_at (n / day_micros)) (n % day_micros) ≡ micros_at n
  count_is = let e : n / day_micros * day_micros + n % day_micros ≡ n = omega arith in since_at (n / day_micros) (n % day_micros) ∙ ap micros_at e

  pub left_tai : 29773 ≤ n / day_micros → n / day_micros ≤ 76524 → (t : Tai) → t.0 ≡ n → Left (of_count S.Tai n from_tai) (Ok t)
  left_tai h k t q =
      record {
        is =
            ap (λ (x : ℕ). answer (micros_at x)) q
            ∙ sym (rw (span_in S.Tai (n / day_micros) (n % day_micros) h k (omega arith)) (ap answer count_is));
        held = record { from = omega arith; to = omega arith };
      }

  pub left_gps : 32700 ≤ n / day_micros → n / day_micros ≤ 76524 → (t : Tai) → t.0 ≡ n + 19000000 → Left (of_count S.Gps n from_gps) (Ok t)
  left_gps h k t q =
      record {
        is =
            ap (λ (x : ℕ). answer (micros_at x)) q
            ∙ sym
            (rw (span_in S.Gps (n / day_micros) (n % day_micros) h k (omega arith))
            (ap answer (ap (λ (z : ℤ). z +ℤ seconds 19) count_is ∙ micros_add n 19000000)));
        held = record { from = omega arith; to = omega arith };
      }

-- ---- of UTC also 9 and 10
module _ (ds : List ℤ) (os : List ℕ) (e : ℤ) (w : accepted ds os e ≡ true) (n : ℕ) where
  abbrev day : ℕ
  day = n / 86401000000

  abbrev micro : ℕ
  micro = n % 86401000000

  after : is_expired_day e (day_at day) ≡ ltb (place_of_day e) day
  after = expired_at ds os e w day

  module _ (h : 29773 ≤ day) (k : day ≤ 76524) where
    inside : in_span S.Utc (day_at day) micro ≡ true
    inside = span_in S.Utc day micro h k (omega arith)

    pub left_expired : place_of_day e < day → Left (of_count S.Utc n (from_utc ds os e)) (Err R.ListExpired)
    left_expired l = record { is = sym (rw (inside, after, lt-ltb (place_of_day e) day l)); held = omega arith }

    pub left_second : day ≤ place_of_day e → has_micro ds (day_at day) micro ≡ false → Left (of_count S.Utc n (from_utc ds os e)) (Err R.SecondLacking)
    left_second l m = record { is = sym (rw (inside, after, le-ltb (place_of_day e) day l, m)); held = omega arith }

    pub left_utc : day ≤ place_of_day e → has_micro ds (day_at day) micro ≡ true → (t : Tai) → t.0 ≡ day * day_micros + micro + offset_on ds os (day_at day) * 1000000
        → Left (of_count S.Utc n (from_utc ds os e)) (Ok t)
    left_utc l m t q =
        let b = offset_small ds os e w day in
        record {
          is =
              ap (λ (x : ℕ). answer (micros_at x)) q
              ∙ sym (rw (inside, after, le-ltb (place_of_day e) day l, m) (ap answer (tai_at_lem ds os day micro)));
          held = record { from = omega arith; to = omega arith };
        }

pub has_plain : (ds : List ℤ) (d : ℤ) (u : ℕ) → u < day_micros → true ≡ has_micro ds d u
has_plain ds d u h = sym (rw (lt-ltb u day_micros h))

pub has_sixty : (ds : List ℤ) (a u : ℕ) → day_micros ≤ u → is_step ds (day_at (a + 1)) ≡ has_micro ds (day_at a) u
has_sixty ds a u h = sym (rw (le-ltb u day_micros h, day_next a))

-- ---- from the TAI count
-- a TAI count is expired from the TAI of 00:00:00 UTC on E+1 on
module _ (ds : List ℤ) (os : List ℕ) (e : ℤ) (v : accepted ds os e ≡ true) (c : ℕ) where
  abbrev pub limit : ℕ
  limit = tai_at ds os (place_of_day e + 1) 0

  pub expires : is_expired_tai ds os e (micros_at c) ≡ leb limit c
  expires =
      ap (λ (z : ℤ). le_z (tai_of ds os z 0) (micros_at c)) (ap (λ (z : ℤ). z +ℤ pos 1) (sym (steps ds os e v).day) ∙ day_next (place_of_day e))
      ∙ ap (λ (z : ℤ). le_z z (micros_at c)) (tai_at_lem ds os (place_of_day e + 1) 0)
      ∙ micros_le limit c

module _ (s : Scale) (m : Moment) where
  within_out : in_span s m.day m.micro ≡ false → refused 11 ≡ outcome (resulting s m)
  within_out e = sym (rw e)

  within_in : in_span s m.day m.micro ≡ true → answer m ≡ outcome (resulting s m)
  within_in e = sym (rw e)

module _ (c : ℕ) (w : OnTheWay c) where
  at_tai : outcome (to_tai (micros_at c)) ≡ outcome (resulting S.Tai (moment_at S.Tai c))
  at_tai = ap (λ (m : Moment). outcome (resulting S.Tai m)) (moment_at_lem c)

  pub tai_late : 76524 < c / day_micros → dated S.Tai (refused 11) ≡ dated S.Tai (outcome (to_tai (micros_at c)))
  tai_late h = ap (dated S.Tai) (within_out S.Tai (moment_at S.Tai c) (span_late S.Tai (c / day_micros) (c % day_micros) h) ∙ sym at_tai)

  pub tai_in : c / day_micros ≤ 76524 → dated S.Tai (answer (moment_at S.Tai c)) ≡ dated S.Tai (outcome (to_tai (micros_at c)))
  tai_in h =
      ap (dated S.Tai)
      (within_in S.Tai (moment_at S.Tai c) (span_in S.Tai (c / day_micros) (c % day_micros) (omega (arith, w.from)) h (omega arith)) ∙ sym at_tai)

  abbrev less : ℕ
  less = c - 19000000

  at_gps : outcome (to_gps (micros_at c)) ≡ outcome (resulting S.Gps (moment_at S.Gps less))
  at_gps =
      ap (λ (z : ℤ). outcome (resulting S.Gps (moment_of z))) (micros_minus c 19000000 (omega (arith, w.from)))
      ∙ ap (λ (m : Moment). outcome (resulting S.Gps m)) (moment_at_lem less)

  gps_out : in_span S.Gps (day_at (less / day_micros)) (less % day_micros) ≡ false → dated S.Gps (refused 11) ≡ dated S.Gps (outcome (to_gps (micros_at c)))
  gps_out e = ap (dated S.Gps) (within_out S.Gps (moment_at S.Gps less) e ∙ sym at_gps)

  pub gps_early : less / day_micros < 32700 → dated S.Gps (refused 11) ≡ dated S.Gps (outcome (to_gps (micros_at c)))
  gps_early h = gps_out (span_early S.Gps (less / day_micros) (less % day_micros) h)

  pub gps_late : 76524 < less / day_micros → dated S.Gps (refused 11) ≡ dated S.Gps (outcome (to_gps (micros_at c)))
  gps_late h = gps_out (span_late S.Gps (less / day_micros) (less % day_micros) h)

  pub gps_in : 32700 ≤ less / day_micros → less / day_micros ≤ 76524 → dated S.Gps (answer (moment_at S.Gps less)) ≡ dated S.Gps (outcome (to_gps (micros_at c)))
  gps_in h k =
      ap (dated S.Gps) (within_in S.Gps (moment_at S.Gps less) (span_in S.Gps (less / day_micros) (less % day_micros) h k (omega arith)) ∙ sym at_gps)

module _ (c : ℕ) (ds : List ℤ) (os : List ℕ) (e : ℤ) (v : accepted ds os e ≡ true) where
  abbrev Given : Slip → Type 0
  Given r = r ≡ dated S.Utc (outcome (to_utc ds os e (micros_at c)))

  pub utc_expired : is_expired_tai ds os e (micros_at c) ≡ true → Given (dated S.Utc (refused 9))
  utc_expired x = sym (rw x)

  module _ (x : is_expired_tai ds os e (micros_at c) ≡ false) where
    unexpired : c < limit ds os e v c
    unexpired = leb-false (limit ds os e v c) c (sym (expires ds os e v c) ∙ x)

    pub unexpired_few : c < 8640000000000000
    unexpired_few = omega (arith, unexpired, (steps ds os e v).to, offset_small ds os e v (place_of_day e + 1))

    is_utc_lem : outcome (to_utc ds os e (micros_at c)) ≡ outcome (resulting S.Utc (utc_of ds os (micros_at c)))
    is_utc_lem = rw x

    pub utc_early : 10000000 ≤ c → c < 29773 * day_micros + 10000000 → Given (dated S.Utc (refused 11))
    utc_early l k =
        let b = none_before (steps ds os e v).grown c l k in
        let m : Moment = record { day = day_at b.place; micro = b.micro } in
        ap (dated S.Utc)
        (within_out S.Utc m (span_early S.Utc b.place b.micro b.early) ∙ sym (is_utc_lem ∙ ap (λ (y : Moment). outcome (resulting S.Utc y)) b.is))

    pub utc_in_lem : 29773 * day_micros + 10000000 ≤ c → (n : ℕ) → moment_at S.Utc n ≡ utc_of ds os (micros_at c) → Given (dated S.Utc (answer (moment_at S.Utc n)))
    utc_in_lem k n i =
        let l = steps ds os e v in
        let r = forth l.grown c k in
        let a = r.real in
        let j = before_known ds os e v c r unexpired in
        let m : Moment = record { day = day_at r.place; micro = r.micro } in
        ap (dated S.Utc)
        (ap answer (i ∙ r.is) ∙ within_in S.Utc m (span_in S.Utc r.place r.micro a.from (omega (arith, l.to)) a.under)
        ∙ sym (is_utc_lem ∙ ap (λ (y : Moment). outcome (resulting S.Utc y)) r.is))
