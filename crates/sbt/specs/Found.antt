-- What the code finds, and the meanings by it: one law for each way out of the dates and of the ways back. Assumes nothing.
use Rattle.std.specs.Prelude.{◌≡◌, refl, Bool, true, false, List, ℕ, ◌+◌, ◌*◌, ◌/◌, ◌≤◌, ◌<◌, ℤ, Result, Ok, Err, Some, None}
use Rattle.std.proofs.Common.{sym, ap₂, ◌∙◌, mul-le-mul}
use Rattle.std.proofs.Math.Path.{ap}
use native.Mathlib.Omega.{arith}
use Rattle.axis.specs.Meaning.{day_at, micros_at, place_of_day}
use Rattle.axis.specs.Axis.{day_place}
use Rattle.scales.specs.Meaning.{dated, remark, refused, outcome, valued, number_of}
use Rattle.scales.specs.Marks.{remark_is}
use Rattle.scales.specs.Place.{day_part}
use Rattle.scales.specs.declared.Scale.{Scale}
use Rattle.scales.specs.declared.Scale.TheVariants as S
use Rattle.handed.specs.declared.Handed.{Handed}
use Rattle.leap.specs.Meaning as Leap
use Rattle.leap.specs.Meaning.{offset_on}
use Rattle.leap.specs.Whole.{offset_small}
use Rattle.via_tai.specs.Meaning.{is_utc}
use Rattle.clock.specs.Meaning.{list_serves, is_current, mark_of}
use Rattle.clock.specs.Dating.{date_found}
use Rattle.clock.specs.declared.inner.Ends.{Ends}
use Rattle.clock.specs.declared.inner.Reckoned.{Reckoned}
use Rattle.clock.specs.Places as C
use Rattle.clock.specs.Places.{base_as}
use Rattle.clock.specs.Stage.{spot, seconds_in, judging, judging_own, judging_own_lem, covering, covering_own, covering_own_lem, current_own, unaccepted_by, landed, found, none, based_at, based_none, serves_own, utc_is}
use Rattle.clock.specs.Turning as T
use Rattle.sbt.specs.Meaning.{accepted, clock_of, dating, date_of, tick_of}
use Rattle.sbt.specs.Places.{unmarked_of, place_of, shifted, base_of, ends_at, covered_by, reckoned_at, count_from, last_at, last_in, ticked_as, Windowed, Near, Reached, Few}
use Rattle.sbt.specs.Accepted.{sound, based}
use Rattle.sbt.specs.declared.Correlation.{Correlation}
use Rattle.scales.specs.declared.Refusal.{Refusal}

-- ---- an accepted correlation with its reference at r of the clock's axis, and a list that serves
pub record Standing (c : Correlation) (ds : List ℤ) (os : List ℕ) (e : ℤ) (r : ℕ) : Type 0 where
  pub serves : list_serves c.scale ds os e ≡ true
  pub accepts : accepted c ≡ true
  pub based : C.Based (clock_of c ds os) (r * 1000000)
  pub windowed : Windowed r c.period c.back c.ahead

-- the last count of a handed time, or its refusal
abbrev pub Lasts : Correlation → Handed → List ℤ → List ℕ → ℤ → Result ℕ Refusal → Type 0
Lasts c h ds os e k = (Few k) × (ticked_as c.tick.0 k ≡ tick_of c h ds os e)

-- the reference's place, and up to 73 s later in TAI
pub windowed_at : (c : Correlation) → accepted c ≡ true → (r : ℕ) → spot c.day c.micro ≤ r → r ≤ spot c.day c.micro + 73000000 →
    Windowed r c.period c.back c.ahead
windowed_at c a r l m =
    let s = sound c a in
    record {
      based = record {
        early = omega (arith, s.day.from);
        late = omega (arith, s.day.to, s.under);
        fast = s.fast;
        slow = s.slow;
      };
      back_to = s.back_to;
      ahead_to = s.ahead_to;
    }

-- the cover of a correlation by its reference's place
module _ (c : Correlation) where
  pub cover_windowed : (r : ℕ) → place_of c ≡ Some r → Windowed r c.period c.back c.ahead
  cover_windowed r q =
      let k = found (accepted c) (spot c.day c.micro) r q in windowed_at c k.0 r (omega (arith, k.1)) (omega (arith, k.1))

  pub cover_at_lem : (r : ℕ) → place_of c ≡ Some r → Some (ends_at r c.period c.back c.ahead) ≡ covered_by c
  cover_at_lem r q = let k = found (accepted c) (spot c.day c.micro) r q in rw (k.0, ← k.1)

  pub cover_none : place_of c ≡ None → None ≡ covered_by c
  cover_none q = rw (none (accepted c) (spot c.day c.micro) q)

module _ (c : Correlation) (ds : List ℤ) (os : List ℕ) (e : ℤ) where
  standing : (r : ℕ) → list_serves c.scale ds os e ≡ true → accepted c ≡ true → seconds_in c.scale c.day ds os ≤ 73 → shifted c ds os ≡ r →
      Standing c ds os e r
  standing r l a j q =
      rw (← q) record {
        serves = l;
        accepts = a;
        based = based c a ds os;
        windowed = windowed_at c a (shifted c ds os) (omega arith) (omega (arith, j));
      }

  -- the date, from what was reckoned; n says whether the reference's day is not expired
  module _ (r : ℕ) (s : Standing c ds os e r) (t : ℕ) (d : ℤ) (u : ℕ) (k : Reckoned)
      (f : k ≡ reckoned_at r c.period c.back c.ahead (count_from t c.tick.0)) where
    pub dates : (n : Bool) → n ≡ is_current c.scale e c.day →
        dated c.scale (outcome (judging c.scale n k.inside (C.cover_of k.ends) (micros_at k.at) d u ds os e)) ≡ unmarked_of c t d u ds os e
    unfolding unmarked_of
    dates n g = ap (dated c.scale) (date_found (accepted c) s.accepts (clock_of c ds os) ds os e s.serves (r * 1000000) s.based t n g k f d d refl u e refl)

    pub own_dates : is_utc c.scale ≡ false →
        dated c.scale (outcome (judging_own c.scale k.inside (C.cover_of k.ends) (micros_at k.at) d u)) ≡ unmarked_of c t d u ds os e
    own_dates i =
        ap (dated c.scale) (judging_own_lem c.scale i ds os e k.inside (C.cover_of k.ends) (micros_at k.at) d u)
        ∙ dates true (sym (current_own c.scale i ds os e c.day))

    pub far : 10000000 ≤ k.at
    far = omega (arith, ap (λ (x : Reckoned). x.at) f, C.time_far (clock_of c ds os) (r * 1000000) s.based (count_from t c.tick.0))

  -- the way back, from what was found in the cover
  module _ (r : ℕ) (s : Standing c ds os e r) (h : Handed) where
    abbrev pub Lands : Result ℕ Refusal → Type 0
    Lands p = landed p ≡ outcome (covering c.scale (is_current c.scale e c.day) (C.cover_of (ends_at r c.period c.back c.ahead)) h ds os e)

    pub reached : (w : ℕ) → Lands (Ok w) → Near r c.period w
    reached w f =
        let m = T.near (accepted c) s.accepts (clock_of c ds os) ds os e s.serves (r * 1000000) s.based h w f in
        let p : c.ahead * c.period ≤ 8389144870912000000 =
        mul-le-mul {n₂ = 2147483648} {m₂ = 3906500000} (omega (arith, s.windowed.ahead_to)) s.windowed.based.slow in
        record { based = s.windowed.based; low = m.low; high = omega (arith, m.high, p) }

    pub lasts : (w : ℕ) → Lands (Ok w) → Lasts c h ds os e (Ok (last_at r c.period w))
    unfolding tick_of
    lasts w f = (
      T.few (accepted c) s.accepts (clock_of c ds os) ds os e s.serves (r * 1000000) s.based h w f,
      ap (valued 0) (T.turn_is (accepted c) s.accepts (clock_of c ds os) ds os e s.serves (r * 1000000) s.based h w f),
    )

    pub lacks : (g : Refusal) → Lands (Err g) → Lasts c h ds os e (Err g)
    unfolding tick_of
    lacks g f =
        (omega arith, ap (valued 0) (T.turn_not (accepted c) s.accepts (clock_of c ds os) ds os e s.serves (r * 1000000) s.based h (number_of g) f))

    -- the same of a place that was found or not
    pub reached_in : (p : Result ℕ Refusal) → Lands p → Reached r c.period p
    reached_in (Ok w) f = reached w f
    reached_in (Err g) f = omega arith

    pub lasts_in : (p : Result ℕ Refusal) → Lands p → Lasts c h ds os e (last_in r c.period p)
    lasts_in (Ok w) f = lasts w f
    lasts_in (Err g) f = lacks g f

  -- ---- not accepted, and a list that serves
  module _ (l : list_serves c.scale ds os e ≡ true) (a : accepted c ≡ false) where
    pub date_6 : (t : ℕ) (d : ℤ) (u : ℕ) → dated c.scale (refused 6) ≡ unmarked_of c t d u ds os e
    unfolding unmarked_of
    date_6 t d u = rw (l, a)

    pub tick_unaccepted : (h : Handed) → valued 0 (refused (unaccepted_by h 6)) ≡ tick_of c h ds os e
    unfolding tick_of
    tick_unaccepted h = ap (valued 0) (T.turn_unaccepted (accepted c) (clock_of c ds os) h ds os e l a)

  -- ---- a TAI or GPS correlation, by its reference's place
  module _ (i : is_utc c.scale ≡ false) where
    pub serves_it : list_serves c.scale ds os e ≡ true
    serves_it = serves_own c.scale i ds os e

    pub own_none : place_of c ≡ None → accepted c ≡ false
    own_none q = none (accepted c) (spot c.day c.micro) q

    pub own_stands : (r : ℕ) → place_of c ≡ Some r → Standing c ds os e r
    own_stands r q =
        let k = found (accepted c) (spot c.day c.micro) r q in
        let z : seconds_in c.scale c.day ds os ≡ 0 = rw i in
        standing r serves_it k.0 (omega (arith, z)) (omega (arith, z, k.1))

  -- ---- a UTC correlation
  module _ (i : is_utc c.scale ≡ true) where
    pub utc_scale : {A : Type 0} (f : Scale → A) → f S.Utc ≡ f c.scale
    utc_scale f = ap f (sym (utc_is c.scale i))

    seconds_is : (d : ℤ) → seconds_in c.scale d ds os ≡ offset_on ds os d
    seconds_is d = rw i

    -- a list that is not accepted
    module _ (l : Leap.accepted ds os e ≡ false) where
      not_serves : list_serves c.scale ds os e ≡ false
      not_serves = rw (i, l)

      pub date_5 : (t : ℕ) (d : ℤ) (u : ℕ) → dated S.Utc (refused 5) ≡ unmarked_of c t d u ds os e
      unfolding unmarked_of
      date_5 t d u = utc_scale (λ (z : Scale). dated z (refused 5)) ∙ rw not_serves

      pub tick_listless : (h : Handed) → valued 0 (refused (unaccepted_by h 5)) ≡ tick_of c h ds os e
      unfolding tick_of
      tick_listless h = ap (valued 0) (T.turn_listless (accepted c) (clock_of c ds os) h ds os e not_serves)

    -- the reference in TAI, from its place in UTC
    pub base_none : place_of c ≡ None → None ≡ base_of c ds os e
    base_none q = rw (none (accepted c) (spot c.day c.micro) q)

    module _ (p : ℕ) (q : place_of c ≡ Some p) where
      known : (accepted c ≡ true) × (spot c.day c.micro ≡ p)
      known = found (accepted c) (spot c.day c.micro) p q

      pub place_few : p < 6611760000000000
      place_few = let s = sound c known.0 in omega (arith, known.1, s.day.to, s.under)

      day_is : day_at (p / 86400000000) ≡ c.day
      day_is =
          let s = sound c known.0 in
          ap (λ (x : ℕ). day_at (x / 86400000000)) (sym known.1)
          ∙ ap day_at (day_part 86400000000 (place_of_day c.day) c.micro s.under)
          ∙ day_place c.day (omega (arith, s.day.from)) (omega (arith, s.day.to))

      pub base_is : (j : ℕ) → j ≡ offset_on ds os (day_at (p / 86400000000)) → (n : Bool) → n ≡ is_current S.Utc e (day_at (p / 86400000000)) →
          Some (base_as (p + j * 1000000) n) ≡ base_of c ds os e
      base_is j f n g =
          ap₂ (λ (x : ℕ) (y : Bool). Some (base_as (p + x * 1000000) y))
          (f ∙ ap (offset_on ds os) day_is ∙ sym (seconds_is c.day)) (g ∙ ap (is_current S.Utc e) day_is ∙ utc_scale (λ (z : Scale). is_current z e c.day))
          ∙ ap (λ (x : ℕ). Some (base_as (x + seconds_in c.scale c.day ds os * 1000000) (is_current c.scale e c.day))) (sym known.1)
          ∙ rw known.0

    -- accepted, with its reference at r in TAI; n says whether its day is not expired
    module _ (l : Leap.accepted ds os e ≡ true) where
      pub serves_utc : list_serves c.scale ds os e ≡ true
      serves_utc = rw (i, l)

      pub utc_none : base_of c ds os e ≡ None → accepted c ≡ false
      utc_none q = based_none (accepted c) (shifted c ds os) (is_current c.scale e c.day) q

      pub utc_date_6 : base_of c ds os e ≡ None → (t : ℕ) (d : ℤ) (u : ℕ) → dated S.Utc (refused 6) ≡ unmarked_of c t d u ds os e
      utc_date_6 q t d u = utc_scale (λ (z : Scale). dated z (refused 6)) ∙ date_6 serves_utc (utc_none q) t d u

      module _ (r : ℕ) (n : Bool) (q : base_of c ds os e ≡ Some (base_as r n)) where
        told : (accepted c ≡ true) × ((shifted c ds os ≡ r) × (is_current c.scale e c.day ≡ n))
        told = based_at (accepted c) (shifted c ds os) r (is_current c.scale e c.day) n q

        pub current_is : n ≡ is_current c.scale e c.day
        current_is = sym told.1.1

        pub utc_stands : Standing c ds os e r
        utc_stands =
            let s = sound c told.0 in
            let d = day_place c.day (omega (arith, s.day.from)) (omega (arith, s.day.to)) in
            standing r serves_utc told.0
            (omega (arith, seconds_is c.day, ap (offset_on ds os) d, offset_small ds os e l (place_of_day c.day))) told.1.0

        pub utc_dates : (t : ℕ) (d : ℤ) (u : ℕ) (k : Reckoned) → k ≡ reckoned_at r c.period c.back c.ahead (count_from t c.tick.0) →
            dated S.Utc (outcome (judging S.Utc n k.inside (C.cover_of k.ends) (micros_at k.at) d u ds os e)) ≡ unmarked_of c t d u ds os e
        utc_dates t d u k f =
            utc_scale (λ (z : Scale). dated z (outcome (judging z n k.inside (C.cover_of k.ends) (micros_at k.at) d u ds os e)))
            ∙ dates r utc_stands t d u k f n current_is

        -- the same of the way back
        pub utc_lands : (h : Handed) (v : Ends) → v ≡ ends_at r c.period c.back c.ahead → (p : Result ℕ Refusal) →
            landed p ≡ outcome (covering S.Utc n (C.cover_of v) h ds os e) → Lands r utc_stands h p
        utc_lands h v g p f =
            f ∙ ap₂ (λ (w : Ends) (x : Bool). outcome (covering S.Utc x (C.cover_of w) h ds os e)) g current_is
            ∙ utc_scale (λ (z : Scale). outcome (covering z (is_current c.scale e c.day) (C.cover_of (ends_at r c.period c.back c.ahead)) h ds os e))

pub own_lands : (c : Correlation) (ds : List ℤ) (os : List ℕ) (e : ℤ) (i : is_utc c.scale ≡ false) (r : ℕ) (s : Standing c ds os e r)
    (h : Handed) (v : Ends) → v ≡ ends_at r c.period c.back c.ahead → (p : Result ℕ Refusal) →
    landed p ≡ outcome (covering_own c.scale (C.cover_of v) h) → Lands c ds os e r s h p
own_lands c ds os e i r s h v g p f =
    f ∙ covering_own_lem c.scale i ds os e (C.cover_of v) h
    ∙ ap₂ (λ (w : Ends) (x : Bool). outcome (covering c.scale x (C.cover_of w) h ds os e)) g (sym (current_own c.scale i ds os e c.day))

-- the mark is laid on the unmarked date
pub marked_is : (c : Correlation) (ds : List ℤ) (os : List ℕ) (e : ℤ) (t : ℕ) (d : ℤ) (u : ℕ) →
    remark (mark_of (clock_of c ds os)) (unmarked_of c t d u ds os e) ≡ date_of c t d u ds os e
unfolding date_of unmarked_of
marked_is c ds os e t d u = remark_is (mark_of (clock_of c ds os)) c.scale (dating c t d u ds os e) refl
