-- Fresh paper never changes an old date: under a list that extends the one in use and a window that is no narrower at either end, both at
-- once, a counter gives what it gave, answer or refusal, but for 8 and 9. Assumes nothing.
use mathlib.Core.Path.{◌≡◌, refl, sym, ap, ◌∙◌}
use mathlib.Core.Bool.{Bool, true, false, cond, not, ◌&&◌, ◌||◌, false≢true}
use mathlib.Core.List.{List}
use Prim.Native.Nat.{ℕ, ◌≤◌, ◌<◌}
use native.Mathlib.Omega.{arith}
use lib.IntN.{ℤ, pos, neg_ℤ, ◌+ℤ◌}
use lib.Signed.{le_z}
use borrow.Author.Tests.{le-leb, not-true}
use Rattle.axis.specs.Meaning.{place_of_day, micros_at, since, moment_of}
use Rattle.scales.specs.Meaning.{in_span, Outcome, outcome, refused, answer}
use Rattle.scales.specs.Order.{no_answer}
use Rattle.scales.specs.Place.{apart, and_both}
use Rattle.scales.specs.declared.Scale.{Scale}
use Rattle.handed.specs.declared.Handed.{Handed}
use Rattle.handed.specs.Meaning.{scale_of, is_finite, is_in_span, day_of, micro_of}
use Rattle.handed.specs.Told.{loose}
use Rattle.leap.specs.Meaning as Leap
use Rattle.via_tai.specs.Meaning.{is_utc}
use Rattle.leap_laws.proofs.Kept.{Follows, kept}
use Rattle.clock.specs.Meaning.{Clock, instant, moment_after, is_current, is_current_at, has_second, elapsed, time, in_window, within, covers, covers_time, in_force, not_later, dating, last_count, count_at, instant_of, has_image, turning}
use Rattle.clock.specs.Places.{time_at, count_from, Based, counted_place}
use Rattle.clock.specs.Signs.{le_trans}
use Rattle.clock.specs.Stage.{held}
use Rattle.clock.specs.Window.{Runs, rises, last_is}
use Rattle.clock_laws.proofs.Counts.{further}
use Rattle.clock_laws.proofs.Window.{widened}

-- the same clock, started at r
abbrev pub restarted : Clock → ℤ → Clock
restarted c r =
    record {
      scale = c.scale;
      half = c.half;
      reference = c.reference;
      day = c.day;
      start = r;
      gain = c.gain;
      per = c.per;
      back = c.back;
      ahead = c.ahead;
    }

-- ---- what list B, (cs, ps, f), says of a scale where list A, (ds, os, e), has said it; only UTC asks them, so only there B must follow A
pub record Again (utc : Bool) (ds : List ℤ) (os : List ℕ) (e : ℤ) (cs : List ℤ) (ps : List ℕ) (f : ℤ) : Type 0 where
  pub serves_old : (not utc || Leap.accepted ds os e) ≡ true
  pub serves : (not utc || Leap.accepted cs ps f) ≡ true
  pub current : (d : ℤ) → (not utc || not (Leap.is_expired_day e d)) ≡ true → (not utc || not (Leap.is_expired_day f d)) ≡ true
  pub second : (d : ℤ) (u : ℕ) → 0 < place_of_day d → (not utc || not (Leap.is_expired_day e d)) ≡ true →
      (not utc || Leap.has_micro cs d u) ≡ (not utc || Leap.has_micro ds d u)
  pub instant : (d : ℤ) (u : ℕ) → 0 < place_of_day d → (not utc || not (Leap.is_expired_day e d)) ≡ true →
      cond utc (Leap.tai_of cs ps d u) (since d u) ≡ cond utc (Leap.tai_of ds os d u) (since d u)
  pub current_at : (c : ℕ) → (not utc || not (Leap.is_expired_tai ds os e (micros_at c))) ≡ true → (not utc || not (Leap.is_expired_tai cs ps f (micros_at c))) ≡ true
  pub moment : (c : ℕ) → (not utc || not (Leap.is_expired_tai ds os e (micros_at c))) ≡ true →
      cond utc (Leap.utc_of cs ps (micros_at c)) (moment_of (micros_at c)) ≡ cond utc (Leap.utc_of ds os (micros_at c)) (moment_of (micros_at c))

pub again : (utc : Bool) (ds : List ℤ) (os : List ℕ) (e : ℤ) (cs : List ℤ) (ps : List ℕ) (f : ℤ) → (utc ≡ true → Follows ds os e cs ps f) → Again utc ds os e cs ps f
again false ds os e cs ps f w =
    record {
      serves_old = refl;
      serves = refl;
      current = λ d h. refl;
      second = λ d u l h. refl;
      instant = λ d u l h. refl;
      current_at = λ c h. refl;
      moment = λ c h. refl;
    }
again true ds os e cs ps f w =
    let k = kept ds os e cs ps f (w refl) in
    let day : (d : ℤ) → not (Leap.is_expired_day e d) ≡ true → Leap.is_expired_day e d ≡ false = λ d h. not-true (Leap.is_expired_day e d) h in
    let count : (c : ℕ) → not (Leap.is_expired_tai ds os e (micros_at c)) ≡ true → Leap.is_expired_tai ds os e (micros_at c) ≡ false =
    λ c h. not-true (Leap.is_expired_tai ds os e (micros_at c)) h in
    record {
      serves_old = (w refl).old;
      serves = (w refl).fresh;
      current = λ d h. ap not (k.current d (day d h));
      second = λ d u l h. k.second d u l (day d h);
      instant = λ d u l h. ap (λ (o : ℕ). since d u +ℤ Leap.seconds o) (k.offset d l (day d h));
      current_at = λ c h. ap not (k.instant c (count c h));
      moment = λ c h. k.utc c (count c h);
    }

-- ---- a window that is no narrower
module _ (c : Clock) (b a : ℕ) (l : c.back ≤ b) (m : c.ahead ≤ a) (w : Runs (widened c b a)) where
  -- the narrower window runs too
  runs : Runs c
  runs = record { whole = w.whole; fast = w.fast; back_to = omega (arith, w.back_to); ahead_to = omega (arith, w.ahead_to) }

  window_kept : (k : ℤ) → in_window c k ≡ true → in_window (widened c b a) k ≡ true
  unfolding in_window
  window_kept k e =
      let v = and_both (le_z (neg_ℤ (pos c.back)) k) (le_z k (pos c.ahead)) e in
      rw (
        le_trans (neg_ℤ (pos b)) (neg_ℤ (pos c.back)) k (further c.back b l) v.0,
        le_trans k (pos c.ahead) (pos a) v.1 (le-leb c.ahead a m),
      )

  covers_kept : (z : ℤ) → covers c z ≡ true → covers (widened c b a) z ≡ true
  unfolding within
  covers_kept z e =
      let v = and_both (le_z (time c (neg_ℤ (pos c.back))) z) (le_z z (time c (pos c.ahead))) e in
      rw (
        le_trans (time c (neg_ℤ (pos b))) (time c (neg_ℤ (pos c.back))) z (rises c runs (neg_ℤ (pos b)) (neg_ℤ (pos c.back)) (further c.back b l)) v.0,
        le_trans z (time c (pos c.ahead)) (time c (pos a)) v.1 (rises c runs (pos c.ahead) (pos a) (le-leb c.ahead a m)),
      )

  last_kept : (z : ℤ) → covers c z ≡ true → last_count (widened c b a) z ≡ last_count c z
  last_kept z e = last_is (widened c b a) w z (covers_kept z e) ∙ sym (last_is c runs z e)

-- ---- a clock c on the axis under list A, and the same under list B with a window no narrower, started where c was if its reference was
-- current: but for 8 and 9, what it said it says
module _ (c : Clock) (q : ℕ) (axis : Based c q) (r : ℤ) (b a : ℕ) (l : c.back ≤ b) (m : c.ahead ≤ a) (runs_on : Runs (widened (restarted c r) b a))
    (ds : List ℤ) (os : List ℕ) (e : ℤ) (cs : List ℤ) (ps : List ℕ) (f : ℤ) (follows : is_utc c.scale ≡ true → Follows ds os e cs ps f)
    (start : is_current c.scale e c.day ≡ true → r ≡ c.start) where
  abbrev s : Scale
  s = c.scale

  abbrev w : Clock
  w = widened c b a

  abbrev k : Clock
  k = widened (restarted c r) b a

  wide : Runs w
  wide = record { whole = runs_on.whole; fast = runs_on.fast; back_to = runs_on.back_to; ahead_to = runs_on.ahead_to }

  A : Again (is_utc s) ds os e cs ps f
  A = again (is_utc s) ds os e cs ps f follows

  -- a day on the axis that is current under A, where the reference is
  module _ (d : ℤ) (u : ℕ) (on : 0 < place_of_day d) (at : is_current s e c.day ≡ true) (day : is_current s e d ≡ true) where
    cover_kept : covers_time c d u ds os e ≡ true → covers_time w d u cs ps f ≡ true
    cover_kept h =
        go (has_second s ds d u) refl (rw (at, day) at h)
      where
        go : (i : Bool) → has_second s ds d u ≡ i → cond i (covers c (instant s ds os d u)) true ≡ true → covers_time w d u cs ps f ≡ true
        go true g h = rw (A.current c.day at, A.current d day, A.second d u on day, g, A.instant d u on day, covers_kept c b a l m wide (instant s ds os d u) h)
        go false g h = rw (A.current c.day at, A.current d day, A.second d u on day, g)

    later_kept : (z : ℤ) → not_later w z d u cs ps f ≡ not_later c z d u ds os e
    later_kept z = rw (at, day, A.current c.day at, A.current d day, A.second d u on day, A.instant d u on day)

  -- a clock that starts where c does
  started : {B : Type 0} (F : Clock → B) → is_current s e c.day ≡ true → F k ≡ F w
  started F at = ap (λ (z : ℤ). F (widened (restarted c z) b a)) (start at)

  -- the time of a count is on the axis
  module _ (t : ℕ) (h : is_current_at s ds os e (time c (elapsed c t)) ≡ true) where
    n : ℕ
    n = time_at q c.gain c.per c.half (count_from c.half t c.reference)

    placed : time c (elapsed c t) ≡ micros_at n
    unfolding n
    placed = counted_place c q axis t

    current_there : is_current_at s ds os e (micros_at n) ≡ true
    current_there = ap (is_current_at s ds os e) (sym placed) ∙ h

    time_kept : is_current_at s cs ps f (time c (elapsed c t)) ≡ true
    time_kept = ap (is_current_at s cs ps f) placed ∙ A.current_at n current_there

    moment_kept : moment_after s cs ps (time c (elapsed c t)) ≡ moment_after s ds os (time c (elapsed c t))
    moment_kept = ap (moment_after s cs ps) placed ∙ A.moment n current_there ∙ ap (moment_after s ds os) (sym placed)

  -- what 9 tests of a date
  abbrev nine : ℕ → ℤ → Bool
  nine t d = is_current s e c.day && (is_current s e d && is_current_at s ds os e (time c (elapsed c t)))

  module _ (x y : Bool) (px : x ≡ true) (py : y ≡ true) where
    pub date_kept : (t : ℕ) (d : ℤ) (u : ℕ) → (outcome (dating x c t d u ds os e) ≡ refused 8 → ⊥) → (outcome (dating x c t d u ds os e) ≡ refused 9 → ⊥) →
        outcome (dating y k t d u cs ps f) ≡ outcome (dating x c t d u ds os e)
    date_kept t d u n8 n9 = go (in_span s d u) refl (in_force c (elapsed c t) d u ds os e) refl (not_later c (time c (elapsed c t)) d u ds os e) refl (nine t d) refl
      where
        Same : Type 0
        Same = outcome (dating y k t d u cs ps f) ≡ outcome (dating x c t d u ds os e)

        on : in_span s d u ≡ true → 0 < place_of_day d
        on p = omega (arith, (held s d u p).from)

        -- 17 is given where reference and receipt are known
        later : in_span s d u ≡ true → in_force c (elapsed c t) d u ds os e ≡ true → not_later c (time c (elapsed c t)) d u ds os e ≡ false →
            (i : Bool) → is_current s e c.day ≡ i → (o : Bool) → is_current s e d ≡ o → Same
        later p g v false h o q = absurd (false≢true (sym v ∙ rw h))
        later p g v true h false q = absurd (false≢true (sym v ∙ rw (h, q)))
        later p g v true h true q =
            let j = and_both (in_window c (elapsed c t)) (covers_time c d u ds os e) g in
            started (λ (z : Clock). outcome (dating y z t d u cs ps f)) h
            ∙ rw (
              A.serves,
              A.serves_old,
              px,
              py,
              p,
              g,
              window_kept c b a l m wide (elapsed c t) j.0,
              cover_kept d u (on p) h q j.1,
              later_kept d u (on p) h q (time c (elapsed c t)),
              v,
            )

        go : (i : Bool) → in_span s d u ≡ i → (j : Bool) → in_force c (elapsed c t) d u ds os e ≡ j →
            (v : Bool) → not_later c (time c (elapsed c t)) d u ds os e ≡ v → (o : Bool) → nine t d ≡ o → Same
        go false p j g v q o h = rw (A.serves, A.serves_old, px, py, p)
        go true p false g v q o h = absurd (n8 (rw (A.serves_old, px, p, g)))
        go true p true g false q o h = later p g q (is_current s e c.day) refl (is_current s e d) refl
        go true p true g true q false h = absurd (n9 (rw (A.serves_old, px, p, g, q, h)))
        go true p true g true q true h =
            let v = and_both (is_current s e c.day) (is_current s e d && is_current_at s ds os e (time c (elapsed c t))) h in
            let o = and_both (is_current s e d) (is_current_at s ds os e (time c (elapsed c t))) v.1 in
            let j = and_both (in_window c (elapsed c t)) (covers_time c d u ds os e) g in
            started (λ (z : Clock). outcome (dating y z t d u cs ps f)) v.0
            ∙ rw (
              A.serves,
              A.serves_old,
              px,
              py,
              p,
              g,
              h,
              window_kept c b a l m wide (elapsed c t) j.0,
              cover_kept d u (on p) v.0 o.0 j.1,
              later_kept d u (on p) v.0 o.0 (time c (elapsed c t)),
              q,
              A.current c.day v.0,
              A.current d o.0,
              time_kept t o.1,
              A.second d u (on p) o.0,
              moment_kept t o.1,
            )

    pub count_kept : (h : Handed) → (outcome (turning x c h ds os e) ≡ refused 8 → ⊥) → (outcome (turning x c h ds os e) ≡ refused 9 → ⊥) →
        outcome (turning y k h cs ps f) ≡ outcome (turning x c h ds os e)
    count_kept h n8 n9 = go (is_finite h) refl (is_in_span h) refl (has_image s h) refl (is_current s e c.day) refl
      where
        Same : Type 0
        Same = outcome (turning y k h cs ps f) ≡ outcome (turning x c h ds os e)

        -- the last count of a time that its day has
        last : is_current s e c.day ≡ true → covers_time c (day_of h) (micro_of h) ds os e ≡ true → is_current s e (day_of h) ≡ true → (i : Bool) → has_second s ds (day_of h) (micro_of h) ≡ i →
            cond i (answer (count_at w (last_count w (instant_of s ds os h)))) (refused 10) ≡ cond i (answer (count_at c (last_count c (instant_of s ds os h)))) (refused 10)
        last t z n false i = refl
        last t z n true i = ap (λ (j : ℤ). answer (count_at c j)) (last_kept c b a l m wide (instant_of s ds os h) (rw (t, n, i) at z))

        -- a time of the clock's scale, the reference being current
        own : is_finite h ≡ true → is_in_span h ≡ true → has_image s h ≡ true → is_current s e c.day ≡ true →
            (v : Bool) → covers_time c (day_of h) (micro_of h) ds os e ≡ v → (j : Bool) → is_current s e (day_of h) ≡ j → Same
        own o p g t false z j n = absurd (n8 (rw (o, A.serves_old, px, p, g, z)))
        own o p g t true z false n = absurd (n9 (rw (o, A.serves_old, px, p, g, z, t, n)))
        own o p g t true z true n =
            let on : 0 < place_of_day (day_of h) = omega (arith, (loose h o p).from, (apart (scale_of h)).from) in
            started (λ (x : Clock). outcome (turning y x h cs ps f)) t
            ∙ rw (
              o,
              A.serves,
              A.serves_old,
              px,
              py,
              p,
              g,
              z,
              cover_kept (day_of h) (micro_of h) on t n z,
              t,
              n,
              A.current c.day t,
              A.current (day_of h) n,
              A.second (day_of h) (micro_of h) on n,
              A.instant (day_of h) (micro_of h) on n,
            )
            (last t z n (has_second s ds (day_of h) (micro_of h)) refl)

        go : (i : Bool) → is_finite h ≡ i → (j : Bool) → is_in_span h ≡ j → (g : Bool) → has_image s h ≡ g → (t : Bool) → is_current s e c.day ≡ t → Same
        go false o j p g q t n = rw o
        go true o false p g q t n = rw (o, A.serves, A.serves_old, px, py, p)
        go true o true p false q false n = absurd (n9 (rw (o, A.serves_old, px, p, q, n)))
        go true o true p false q true n = rw (o, A.serves, A.serves_old, px, py, p, q, n, A.current c.day n)
        go true o true p true q false n = absurd (n9 (rw (o, A.serves_old, px, p, q, n)))
        go true o true p true q true n =
            own o p q n (covers_time c (day_of h) (micro_of h) ds os e) refl (is_current s e (day_of h)) refl

-- ---- what is neither 8 nor 9, for those who know the outcome
pub not_refused : {A : Type 0} {o : Outcome A} {a : A} {n : ℕ} → o ≡ answer a → o ≡ refused n → ⊥
not_refused p q = no_answer (sym q ∙ p)

pub other_refusal : {A : Type 0} {o : Outcome A} {m n : ℕ} → (m ≡ n → ⊥) → o ≡ refused m → o ≡ refused n → ⊥
other_refusal {m} {n} d p q = d (let z : m ≡ n = cc in z)
