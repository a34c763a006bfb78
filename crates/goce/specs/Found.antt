-- What the code finds, and the meanings by it: one law for each way out of `dated` and of `count_of`. Assumes nothing.
use Rattle.std.specs.Prelude.{◌≡◌, Bool, true, false, cond, List, ℕ, ◌+◌, ◌*◌, ◌/◌, ◌≤◌, ◌<◌, ℤ, Result, Option, Some, None}
use Rattle.std.proofs.Math.Path.{refl, ap}
use Rattle.std.proofs.Common.{sym, ◌∙◌, arith, mul-le-mul, lit<, lit≤, lt-ltb, le-ltb}
use Rattle.axis.specs.Meaning.{day_at, micros_at, floor_z, Moment}
use Rattle.axis.specs.Diff.{sub_floor}
use Rattle.scales.specs.Meaning.{dated, remark, refused, answer, Outcome, outcome, Slip, valued}
use Rattle.scales.specs.Marks.{remark_is}
use Rattle.scales.specs.declared.Scale.TheVariants as S
use Rattle.handed.specs.declared.Handed.{Handed}
use Rattle.leap.specs.Meaning as Leap
use Rattle.leap.specs.Meaning.{offset_on}
use Rattle.leap.specs.Whole.{offset_small}
use Rattle.clock.specs.Meaning as K
use Rattle.clock.specs.Places as C
use Rattle.clock.specs.Places.{base_as}
use Rattle.clock.specs.Dating.{date_found}
use Rattle.clock.specs.declared.inner.Base.{Base}
use Rattle.clock.specs.declared.inner.Ends.{Ends}
use Rattle.scales.specs.declared.Refusal.{Refusal}
use Rattle.clock.specs.declared.inner.Reckoned.{Reckoned}
use Rattle.clock.specs.Stage.{judging, covering, landed, unaccepted_by, based_at, based_none}
use Rattle.clock.specs.Turning as T
use Rattle.goce.specs.Meaning.{day_counts, day_on, accepted, clock_of, dating, date_of, obt_of}
use Rattle.goce.specs.Places.{unmarked_of, spot, place_of, shifted, base_of, base_at, Few, reckoned_at, count_from, ends_at, last_at, obt_from, Windowed, Near}
use Rattle.goce.specs.Accepted.{Sound, sound, reference_place}
use Rattle.goce.specs.Accepted as A
use Rattle.goce.specs.declared.Correlation.{Correlation}

-- the UTC day of the reference, from its place
day_at_lem : (c : Correlation) → Sound c → day_at (spot c / 5662310400) ≡ day_on c
day_at_lem c s =
    sym (ap (λ (z : ℤ). floor_z z day_counts) (reference_place c s.offset) ∙ sub_floor (spot c) 40000 day_counts (lit< tt))

-- ---- the reference in TAI, from its place in UTC
module _ (c : Correlation) where
  pub place_few : Few (place_of c)
  place_few = go (accepted c) refl
    where
      go : (b : Bool) → accepted c ≡ b → Few (cond b (Some (spot c)) None)
      go true p = (sound c p).late
      go false p = lit≤ tt

  pub base_is : (ds : List ℤ) (os : List ℕ) (e : ℤ) → base_at (place_of c) ds os e ≡ base_of c ds os e
  base_is ds os e = go (accepted c) refl
    where
      go : (b : Bool) → accepted c ≡ b →
          base_at (cond b (Some (spot c)) None) ds os e ≡ cond b (Some (base_as (shifted c ds os) (K.is_current S.Utc e (day_on c)))) None
      go true p = ap (λ (d : ℤ). Some (base_as (spot c + offset_on ds os d * 65536) (K.is_current S.Utc e d))) (day_at_lem c (sound c p))
      go false p = refl

-- what was found of the reference in TAI
pub based : (c : Correlation) (ds : List ℤ) (os : List ℕ) (e : ℤ) (p : Option ℕ) → p ≡ place_of c → (o : Option Base) → o ≡ base_at p ds os e →
    (x : Option Base) → o ≡ x → base_of c ds os e ≡ x
based c ds os e p f o g x q = sym (base_is c ds os e) ∙ ap (λ (y : Option ℕ). base_at y ds os e) (sym f) ∙ sym g ∙ q

-- ---- a count too wide, and a list that is not accepted
module _ (c : Correlation) (ds : List ℤ) (os : List ℕ) (e : ℤ) (t : ℕ) (d : ℤ) (u : ℕ) where
  pub date_3 : 281474976710656 ≤ t → dated S.Utc (refused 3) ≡ unmarked_of c t d u ds os e
  unfolding unmarked_of
  date_3 l = rw (le-ltb t 281474976710656 l)

  pub date_at_lem : t < 281474976710656 → (o : Outcome Moment) → o ≡ outcome (K.dating (accepted c) (clock_of c ds os) t d u ds os e) →
      dated S.Utc o ≡ unmarked_of c t d u ds os e
  unfolding unmarked_of
  date_at_lem l o q = ap (dated S.Utc) q ∙ rw (lt-ltb t 281474976710656 l)

  pub date_5 : t < 281474976710656 → Leap.accepted ds os e ≡ false → dated S.Utc (refused 5) ≡ unmarked_of c t d u ds os e
  unfolding unmarked_of
  date_5 l q = rw (lt-ltb t 281474976710656 l, q)

  -- the mark is laid on the unmarked date
  pub marked_is : remark (K.mark_of (clock_of c ds os)) (unmarked_of c t d u ds os e) ≡ date_of c t d u ds os e
  unfolding date_of unmarked_of
  marked_is = remark_is (K.mark_of (clock_of c ds os)) S.Utc (dating c t d u ds os e) refl

  -- the same of the marked date: a refusal bears no mark
  abbrev marks : Slip → Slip
  marks x = remark (K.mark_of (clock_of c ds os)) x

  pub dated_3 : 281474976710656 ≤ t → dated S.Utc (refused 3) ≡ date_of c t d u ds os e
  dated_3 l = ap marks (date_3 l) ∙ marked_is

  pub dated_at_lem : t < 281474976710656 → (o : Outcome Moment) → o ≡ outcome (K.dating (accepted c) (clock_of c ds os) t d u ds os e) →
      remark (K.mark_of (clock_of c ds os)) (dated S.Utc o) ≡ date_of c t d u ds os e
  dated_at_lem l o q = ap marks (date_at_lem l o q) ∙ marked_is

  pub dated_5 : t < 281474976710656 → Leap.accepted ds os e ≡ false → dated S.Utc (refused 5) ≡ date_of c t d u ds os e
  dated_5 l q = ap marks (date_5 l q) ∙ marked_is

pub count_listless : (c : Correlation) (ds : List ℤ) (os : List ℕ) (e : ℤ) → Leap.accepted ds os e ≡ false → (h : Handed) →
    valued 0 (refused (unaccepted_by h 5)) ≡ obt_of c h ds os e
unfolding obt_of
count_listless c ds os e q h = ap (valued 0) (T.turn_listless (accepted c) (clock_of c ds os) h ds os e q)

module _ (c : Correlation) (ds : List ℤ) (os : List ℕ) (e : ℤ) (l : Leap.accepted ds os e ≡ true) where
  -- ---- not accepted
  module _ (q : base_of c ds os e ≡ None) where
    not_accepted : accepted c ≡ false
    not_accepted = based_none (accepted c) (shifted c ds os) (K.is_current S.Utc e (day_on c)) q

    pub date_6 : (t : ℕ) (d : ℤ) (u : ℕ) → t < 281474976710656 → dated S.Utc (refused 6) ≡ unmarked_of c t d u ds os e
    unfolding unmarked_of
    date_6 t d u k = rw (lt-ltb t 281474976710656 k, l, not_accepted)

    pub dated_6 : (t : ℕ) (d : ℤ) (u : ℕ) → t < 281474976710656 → dated S.Utc (refused 6) ≡ date_of c t d u ds os e
    dated_6 t d u k = ap (λ (x : Slip). remark (K.mark_of (clock_of c ds os)) x) (date_6 t d u k) ∙ marked_is c ds os e t d u

    pub count_unaccepted : (h : Handed) → valued 0 (refused (unaccepted_by h 6)) ≡ obt_of c h ds os e
    unfolding obt_of
    count_unaccepted h = ap (valued 0) (T.turn_unaccepted (accepted c) (clock_of c ds os) h ds os e l not_accepted)

  -- ---- accepted, with its reference at s; n says whether its day is not expired
  module _ (s : ℕ) (n : Bool) (q : base_of c ds os e ≡ Some (base_as s n)) where
    known : (accepted c ≡ true) × ((shifted c ds os ≡ s) × (K.is_current S.Utc e (day_on c) ≡ n))
    known = based_at (accepted c) (shifted c ds os) s (K.is_current S.Utc e (day_on c)) n q

    pub is_accepted_lem : accepted c ≡ true
    is_accepted_lem = known.0

    pub current_is : n ≡ K.is_current S.Utc e (day_on c)
    current_is = sym known.1.1

    sounds_at : Sound c
    sounds_at = sound c is_accepted_lem

    pub counter : c.obt0 < 281474976710656
    counter = sounds_at.counter

    small : offset_on ds os (day_on c) ≤ 73
    small = omega (arith, ap (offset_on ds os) (day_at_lem c sounds_at), offset_small ds os e l (spot c / 5662310400))

    pub window_of : Windowed s c.gradient c.back c.ahead
    window_of =
        let a = sounds_at in
        rw (← known.1.0) record {
          based = record { early = omega (arith, a.offset.from); late = omega (arith, a.late, small); slow = a.slow; fast = a.fast };
          back_to = a.back_to;
          ahead_to = a.ahead_to;
        }

    pub clock_based : C.Based (clock_of c ds os) (s * 1000000000)
    clock_based = rw (← known.1.0) (A.based c is_accepted_lem ds os)

    -- ---- the date, from what was reckoned
    module _ (t : ℕ) (k : Reckoned) (f : k ≡ reckoned_at s c.gradient c.back c.ahead (count_from t c.obt0)) where
      pub far : 10000000 ≤ k.at
      far = omega (arith, ap (λ (x : Reckoned). x.at) f, C.time_far (clock_of c ds os) (s * 1000000000) clock_based (count_from t c.obt0))

      pub dates : (d : ℤ) (u : ℕ) → t < 281474976710656 →
          dated S.Utc (outcome (judging S.Utc n k.inside (C.cover_of k.ends) (micros_at k.at) d u ds os e)) ≡ unmarked_of c t d u ds os e
      dates d u h =
          date_at_lem c ds os e t d u h _
          (date_found (accepted c) is_accepted_lem (clock_of c ds os) ds os e l (s * 1000000000) clock_based t n current_is k f d d refl u e refl)

    -- ---- the way back
    module _ (h : Handed) where
      pub lands : (v : Ends) → v ≡ ends_at s c.gradient c.back c.ahead → (p : Result ℕ Refusal) → landed p ≡ outcome (covering S.Utc n (C.cover_of v) h ds os e) →
          landed p ≡ outcome (covering S.Utc n (C.cover_of (ends_at s c.gradient c.back c.ahead)) h ds os e)
      lands v g p f = f ∙ ap (λ (w : Ends). outcome (covering S.Utc n (C.cover_of w) h ds os e)) g

      pub count_not : (j : ℕ) → refused j ≡ outcome (covering S.Utc n (C.cover_of (ends_at s c.gradient c.back c.ahead)) h ds os e) →
          valued 0 (refused j) ≡ obt_of c h ds os e
      unfolding obt_of
      count_not j f = ap (valued 0) (T.turn_not (accepted c) is_accepted_lem (clock_of c ds os) ds os e l (s * 1000000000) clock_based h j (rw current_is at f))

      module _ (w : ℕ) (f : answer (micros_at w) ≡ outcome (covering S.Utc n (C.cover_of (ends_at s c.gradient c.back c.ahead)) h ds os e)) where
        covered : answer (micros_at w) ≡ outcome (covering S.Utc (K.is_current S.Utc e (day_on c)) (C.cover_of (ends_at s c.gradient c.back c.ahead)) h ds os e)
        covered = rw current_is at f

        pub near : Near s c.gradient w
        near =
            let m = T.near (accepted c) is_accepted_lem (clock_of c ds os) ds os e l (s * 1000000000) clock_based h w covered in
            let p : c.ahead * c.gradient ≤ 140878225843683328000000 = mul-le-mul {n₂ = 140737488355328} {m₂ = 1001000000} (omega (arith, window_of.ahead_to)) sounds_at.fast in
            record { based = window_of.based; low = m.low; high = omega (arith, m.high, p, window_of.based.late) }

        pub few : last_at s c.gradient w < 281474976710656
        few = T.few (accepted c) is_accepted_lem (clock_of c ds os) ds os e l (s * 1000000000) clock_based h w covered

        pub count_is : valued 0 (answer (obt_from c.obt0 (last_at s c.gradient w))) ≡ obt_of c h ds os e
        unfolding obt_of
        count_is = ap (valued 0) (T.turn_is (accepted c) is_accepted_lem (clock_of c ds os) ds os e l (s * 1000000000) clock_based h w covered)
