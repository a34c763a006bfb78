-- A time later than its receipt: no date is, 17 is the one refusal that the test brings, and what it leaves to 9 and 11. In TAI under a
-- UTC correlation. Assumes nothing.
use mathlib.Core.Path.{◌≡◌, refl, sym, ap, ◌∙◌}
use mathlib.Core.Bool.{Bool, true, false, cond, not, ◌&&◌, false≢true}
use mathlib.Core.List.{List}
use Prim.Native.Nat.{ℕ, ◌/◌, ◌%◌, ◌≤◌, ◌<◌}
use native.Mathlib.Omega.{arith}
use lib.IntN.{ℤ, pos, ◌+ℤ◌}
use lib.Signed.{lt_z, le_z}
use borrow.Author.Tests.{leb-true, lt-ltb, not-true}
use Rattle.axis.specs.Meaning.{day_at, micros_at, Moment, day_micros, since, moment_of}
use Rattle.axis.specs.Axis.{day_lt, micros_le, moment_at_lem}
use Rattle.axis.specs.Diff.{Way, way, below, above, le_not}
use Rattle.scales.specs.Meaning.{first, last, in_span, Judged, given, Outcome, refused, answer, outcome, resulting}
use Rattle.scales.specs.Order.{Refuses, here, later, no_answer, refuses_is, is_refuses}
use Rattle.scales.specs.Place.{first_at, apart, and_both, and_false, placed, span_in}
use Rattle.scales.specs.declared.Scale.{Scale}
use Rattle.scales.specs.declared.Scale.TheVariants as S
use Rattle.leap.specs.Meaning as Leap
use Rattle.via_tai.specs.Known.{current_to}
use Rattle.leap_laws.proofs.Never.{tai_early}
use Rattle.clock.specs.Meaning.{Clock, instant, moment_after, list_serves, is_current, is_current_at, has_second, is_known, elapsed, time, both_known, in_force, dating}
use Rattle.clock.specs.Places.{time_at, count_from, Based, counted_place, time_far}
use Rattle.clock.specs.Signs.{le_trans, above_next}
use Rattle.clock.specs.Stage.{spot, held, since_place}
use Rattle.clock_laws.proofs.Answers.{dates, exact}

-- ---- the chain without the test
abbrev pub untested : Bool → Clock → ℕ → ℤ → ℕ → List ℤ → List ℕ → ℤ → Judged Moment
untested accepted c t d u ds os e =
    given (list_serves c.scale ds os e) 5
    (given accepted 6
    (given (in_span c.scale d u) 7
    (given (in_force c (elapsed c t) d u ds os e) 8
    (given (is_current c.scale e c.day && (is_current c.scale e d && is_current_at c.scale ds os e (time c (elapsed c t)))) 9
    (given (has_second c.scale ds d u) 10
    (resulting c.scale (moment_after c.scale ds os (time c (elapsed c t)))))))))

-- it passes 8
abbrev pub passes8 : Bool → Clock → ℕ → ℤ → ℕ → List ℤ → List ℕ → ℤ → Bool
passes8 accepted c t d u ds os e =
    list_serves c.scale ds os e && (accepted && (in_span c.scale d u && in_force c (elapsed c t) d u ds os e))

-- reference and receipt are known, and the receipt is before time(k)
abbrev pub is_later : Clock → ℕ → ℤ → ℕ → List ℤ → List ℕ → ℤ → Bool
is_later c t d u ds os e = both_known c d u ds e && lt_z (instant c.scale ds os d u) (time c (elapsed c t))

-- the test, in those words
late_is : (k b : Bool) → cond k (not b) true ≡ not (k && b)
late_is true b = refl
late_is false b = refl

-- and among the others
among : {A : Type 0} (l a s f b : Bool) (o : Outcome A) →
    cond l (cond a (cond s (cond f (cond (not b) o (refused 17)) (refused 8)) (refused 7)) (refused 6)) (refused 5)
    ≡ cond ((l && (a && (s && f))) && b) (refused 17) (cond l (cond a (cond s (cond f o (refused 8)) (refused 7)) (refused 6)) (refused 5))
among false a s f b o = refl
among true false s f b o = refl
among true true false f b o = refl
among true true true false b o = refl
among true true true true true o = refl
among true true true true false o = refl

pub only_later : (accepted : Bool) (c : Clock) (t : ℕ) (d : ℤ) (u : ℕ) (ds : List ℤ) (os : List ℕ) (e : ℤ) →
    outcome (dating accepted c t d u ds os e)
    ≡ cond (passes8 accepted c t d u ds os e && is_later c t d u ds os e) (refused 17) (outcome (untested accepted c t d u ds os e))
only_later accepted c t d u ds os e =
    let s = c.scale in
    let i = instant s ds os d u in
    let z = time c (elapsed c t) in
    rw (le_not z i, late_is (both_known c d u ds e) (lt_z i z))
    (among (list_serves s ds os e) accepted (in_span s d u) (in_force c (elapsed c t) d u ds os e) (is_later c t d u ds os e)
    (outcome
    (given (is_current s e c.day && (is_current s e d && is_current_at s ds os e z)) 9
    (given (has_second s ds d u) 10
    (resulting s (moment_after s ds os z))))))

-- ---- a known time of its span, and a place that is not later
module _ (ds : List ℤ) (os : List ℕ) (e : ℤ) (d : ℤ) (u : ℕ) where
  -- the list has no end between them
  current_at : (s : Scale) → list_serves s ds os e ≡ true → in_span s d u ≡ true → is_known s ds e d u ≡ true → (w : ℕ) →
      le_z (micros_at w) (instant s ds os d u) ≡ true → is_current_at s ds os e (micros_at w) ≡ true
  current_at S.Tai l p k w h = refl
  current_at S.Gps l p k w h = refl
  current_at S.Utc l p k w h =
      let b = and_both (is_current S.Utc e d) (has_second S.Utc ds d u) k in
      let q = placed S.Utc d u p in
      ap not (current_to ds os e l d u q.from (not-true (Leap.is_expired_day e d) b.0) q.under b.1 w h)

  -- nor has the span
  module _ (w : ℕ) (h : le_z (micros_at w) (since d u) ≡ true) where
    own_early : (s : Scale) → in_span s d u ≡ true → u < day_micros → in_span s (moment_of (micros_at w)).day (moment_of (micros_at w)).micro ≡ false →
        lt_z (moment_of (micros_at w)).day (day_at (first_at s)) ≡ true
    own_early s p under o = go (way (w / day_micros) (first_at s))
      where
        not_past : w ≤ spot d u
        not_past = leb-true w (spot d u) (sym (ap (le_z (micros_at w)) (since_place d u (held s d u p)) ∙ micros_le w (spot d u)) ∙ h)

        go : Way (w / day_micros) (first_at s) → lt_z (moment_of (micros_at w)).day (day_at (first_at s)) ≡ true
        go (below x) =
            ap (λ (m : Moment). lt_z m.day (day_at (first_at s))) (moment_at_lem w) ∙ day_lt (w / day_micros) (first_at s) ∙ lt-ltb (w / day_micros) (first_at s) x
        go (above x) =
            let q = placed s d u p in
            absurd
            (false≢true
            (sym o
            ∙ ap (λ (m : Moment). in_span s m.day m.micro) (moment_at_lem w)
            ∙ span_in s (w / day_micros) (w % day_micros) x (omega (arith, not_past, q.to, (apart s).to)) (omega (arith, (apart s).whole))))

  result_early : (s : Scale) → list_serves s ds os e ≡ true → in_span s d u ≡ true → is_known s ds e d u ≡ true → (w : ℕ) → 10000000 ≤ w →
      le_z (micros_at w) (instant s ds os d u) ≡ true → let m = moment_after s ds os (micros_at w) in in_span s m.day m.micro ≡ false → lt_z m.day (first s) ≡ true
  result_early S.Tai l p k w far h o = own_early w h S.Tai p (placed S.Tai d u p).under o
  result_early S.Gps l p k w far h o = own_early w h S.Gps p (placed S.Gps d u p).under o
  result_early S.Utc l p k w far h o =
      tai_early ds os e l w far (not-true (Leap.is_expired_tai ds os e (micros_at w)) (current_at S.Utc l p k w h)) o

-- what is after the last day is outside the span, and not before its first
outside : (s : Scale) (m : Moment) → lt_z (last s) m.day ≡ true → in_span s m.day m.micro ≡ false
outside s m h = rw (le_not m.day (last s), h, and_false (le_z (first s) m.day))

not_both : (s : Scale) (d : ℤ) → lt_z (last s) d ≡ true → lt_z d (first s) ≡ false
not_both s d h =
    not-true (lt_z d (first s))
    (sym (le_not (first s) d) ∙ le_trans (first s) (last s +ℤ pos 1) d (begins s) (above_next d (last s) (le_not d (last s) ∙ ap not h)))
  where
    begins : (s : Scale) → le_z (first s) (last s +ℤ pos 1) ≡ true
    begins S.Tai = refl
    begins S.Utc = refl
    begins S.Gps = refl

-- ---- the date of a counter whose clock stands on the axis where it is accepted
module _ (accepted : Bool) (c : Clock) (r : ℕ) (based : accepted ≡ true → Based c r) (t : ℕ) (d : ℤ) (u : ℕ) (ds : List ℤ) (os : List ℕ) (e : ℤ) where
  abbrev s : Scale
  s = c.scale

  -- time(k)
  abbrev z : ℤ
  z = time c (elapsed c t)

  -- no answer is later than its receipt
  pub not_after_lem : (m : Moment) → outcome (dating accepted c t d u ds os e) ≡ answer m →
      le_z (instant c.scale ds os m.day m.micro) (instant c.scale ds os d u) ≡ true
  not_after_lem m h =
      ap (λ (y : ℤ). le_z y (instant s ds os d u)) (exact accepted c r based t d u ds os e m h) ∙ (dates accepted c t d u ds os e m h).not_later

  -- what is before the receipt and outside the span is before its first day
  module _ (l : list_serves s ds os e ≡ true) (a : accepted ≡ true) (p : in_span s d u ≡ true) (k : is_known s ds e d u ≡ true)
      (h : le_z z (instant s ds os d u) ≡ true) where
    abbrev w : ℕ
    w = time_at r c.gain c.per c.half (count_from c.half t c.reference)

    place : z ≡ micros_at w
    place = counted_place c r (based a) t

    not_past : le_z (micros_at w) (instant s ds os d u) ≡ true
    not_past = ap (λ (y : ℤ). le_z y (instant s ds os d u)) (sym place) ∙ h

    early : let m = moment_after s ds os z in in_span s m.day m.micro ≡ false → lt_z m.day (first s) ≡ true
    early o =
        ap (λ (y : ℤ). lt_z (moment_after s ds os y).day (first s)) place
        ∙ result_early ds os e d u s l p k w (time_far c r (based a) (count_from c.half t c.reference)) not_past
        (ap (λ (y : ℤ). in_span s (moment_after s ds os y).day (moment_after s ds os y).micro) (sym place) ∙ o)

    -- and not expired
    current : is_current_at s ds os e z ≡ true
    current = ap (is_current_at s ds os e) place ∙ current_at ds os e d u s l p k w not_past

  -- ---- 8 has passed, reference and receipt being known
  module _ (v : passes8 accepted c t d u ds os e ≡ true) (k : both_known c d u ds e ≡ true) where
    record Passed : Type 0 where
      serves : list_serves s ds os e ≡ true
      accepts : accepted ≡ true
      received : in_span s d u ≡ true
      known : is_known s ds e d u ≡ true

    has_passed : Passed
    has_passed =
        let f = in_force c (elapsed c t) d u ds os e in
        let x = and_both (list_serves s ds os e) (accepted && (in_span s d u && f)) v in
        let y = and_both accepted (in_span s d u && f) x.1 in
        record {
          serves = x.0;
          accepts = y.0;
          received = (and_both (in_span s d u) f y.1).0;
          known = (and_both (is_current s e c.day) (is_known s ds e d u) k).1;
        }

    -- 17, where time(k) cannot but be later
    is_17 : (le_z z (instant s ds os d u) ≡ true → ⊥) → outcome (dating accepted c t d u ds os e) ≡ refused 17
    is_17 f = go (lt_z (instant s ds os d u) z) refl
      where
        go : (b : Bool) → lt_z (instant s ds os d u) z ≡ b → outcome (dating accepted c t d u ds os e) ≡ refused 17
        go true q = only_later accepted c t d u ds os e ∙ rw (v, k, q)
        go false q = absurd (f (le_not z (instant s ds os d u) ∙ ap not q))

    -- past the list's end, or past the span's: always 17
    pub past_list : is_current_at c.scale ds os e (time c (elapsed c t)) ≡ false → outcome (dating accepted c t d u ds os e) ≡ refused 17
    past_list x =
        let q = has_passed in
        is_17 (λ h. false≢true (sym x ∙ current q.serves q.accepts q.received q.known h))

    pub past_span : lt_z (last c.scale) (moment_after c.scale ds os (time c (elapsed c t))).day ≡ true → outcome (dating accepted c t d u ds os e) ≡ refused 17
    past_span x =
        let q = has_passed in
        is_17
        (λ h.
        false≢true
        (sym (not_both s (moment_after s ds os z).day x)
        ∙ early q.serves q.accepts q.received q.known h (outside s (moment_after s ds os z) x)))

  -- ---- what is left to 11: before the first day
  pub eleven_early : outcome (dating accepted c t d u ds os e) ≡ refused 11 → lt_z (moment_after c.scale ds os (time c (elapsed c t))).day (first c.scale) ≡ true
  eleven_early h = told (is_refuses (dating accepted c t d u ds os e) 11 h)
    where
      told : Refuses (dating accepted c t d u ds os e) 11 → lt_z (moment_after s ds os z).day (first s) ≡ true
      told (later l (later a (later i (later f (later p (later g (later n (here o)))))))) =
          let x = and_both (is_current s e c.day) (is_current s e d && is_current_at s ds os e z) g in
          let y = and_both (is_current s e d) (is_current_at s ds os e z) x.1 in
          early l a i (rw (y.0, n)) (rw (x.0, y.0, n) at p) o
      told (later l (later a (later i (later f (later p (later g (later n (later o w)))))))) = elim w [ ]

  -- ---- and to the result's 9: the receipt's second is lacking
  pub nine_lacking : outcome (dating accepted c t d u ds os e) ≡ refused 9 → is_current c.scale e c.day ≡ true → is_current c.scale e d ≡ true → has_second c.scale ds d u ≡ false
  nine_lacking h b q = go (has_second s ds d u) refl (is_refuses (dating accepted c t d u ds os e) 9 h)
    where
      go : (n : Bool) → has_second s ds d u ≡ n → Refuses (dating accepted c t d u ds os e) 9 → n ≡ false
      go false n o = refl
      go true n (later l (later a (later i (later f (later p (here o)))))) =
          absurd (false≢true (sym (rw (b, q) at o) ∙ current l a i (rw (q, n)) (rw (b, q, n) at p)))
      go true n (later l (later a (later i (later f (later p (later g (later m (later o w)))))))) = absurd (no_answer (sym (refuses_is w)))
