-- "TAI to UTC gives the one UTC record whose TAI is the input": there is one (`forth`), and there is no other (`back`), for every
-- list as it grows. Assumes nothing.
use Rattle.std.specs.Prelude.{◌≡◌, true, List, [], ◌∷◌, ◌++◌, ℕ, ◌+◌, ◌-◌, ◌*◌, ◌/◌, ◌%◌, ◌<◌, ◌≤◌, leb, ℤ, length}
use Rattle.std.proofs.Common.{ap, ◌∙◌, arith, le-leb}
use Rattle.std.specs.Int.Signed.{le_z}
use Rattle.std.proofs.lemmas.Bool.{lt-leb}
use Rattle.axis.specs.Meaning.{day_at, micros_at, Moment, day_micros}
use Rattle.axis.specs.Diff.{Way, way, below, above}
use Rattle.axis.specs.Axis.{micros_le}
use Rattle.leap.specs.Meaning.{through, begun, plain, tai_of_start, offset_on, is_step, utc_of}
use Rattle.leap.specs.Places.{start_at, plain_at, plain_at_lem, sixty_at, sixty_at_lem}
use Rattle.leap.specs.Walk.{through_snoc}
use Rattle.leap.specs.Steps.{Grown, one, more, grown_even, grown_last}
use Rattle.leap.specs.Force.{offset_from, offset_till, offset_top, offset_most, step_till, step_gain, step_kept, step_last, Either, which, before, here}

starts : (t p c : ℕ) → le_z (tai_of_start (day_at t) p) (micros_at c) ≡ leb (t * day_micros + p * 1000000) c
starts t p c = ap (λ (z : ℤ). le_z z (micros_at c)) (start_at t p) ∙ micros_le (t * day_micros + p * 1000000) c

-- ---- what the step (t, p) says at the TAI count c
module _ (t p c : ℕ) (m : Moment) where
  said_plain : t * day_micros + p * 1000000 ≤ c → begun (micros_at c) (day_at t) p m ≡ plain_at p c
  said_plain h = rw (starts t p c, le-leb (t * day_micros + p * 1000000) c h) (plain_at_lem p c (omega arith))

  said_sixty : 0 < t → c < t * day_micros + p * 1000000 → t * day_micros + (p - 1) * 1000000 ≤ c → begun (micros_at c) (day_at t) p m ≡ sixty_at t p c
  said_sixty f h k =
      rw (starts t p c, lt-leb (t * day_micros + p * 1000000) c h, starts t (p - 1) c, le-leb (t * day_micros + (p - 1) * 1000000) c k)
      (sixty_at_lem t p c f (omega arith))

  pub said_nothing : c < t * day_micros + (p - 1) * 1000000 → begun (micros_at c) (day_at t) p m ≡ m
  said_nothing h =
      rw (starts t p c, lt-leb (t * day_micros + p * 1000000) c (omega arith), starts t (p - 1) c, lt-leb (t * day_micros + (p - 1) * 1000000) c h)

-- one step more
last : (ds : List ℤ) (os : List ℕ) → length ds ≡ length os → (t p c : ℕ)
    → utc_of (ds ++ day_at t ∷ []) (os ++ p ∷ []) (micros_at c) ≡ begun (micros_at c) (day_at t) p (utc_of ds os (micros_at c))
last ds os e t p c = through_snoc (begun (micros_at c)) (plain 10 (micros_at c)) ds os (day_at t) p e

first : (c : ℕ) → 29773 * day_micros + 10 * 1000000 ≤ c → utc_of (day_at 29773 ∷ []) (10 ∷ []) (micros_at c) ≡ plain_at 10 c
unfolding through
first c h = said_plain 29773 10 c (plain 10 (micros_at c)) h

-- ---- a UTC day at place a and a microsecond of it that its day has
pub record Real (ds : List ℤ) (a u : ℕ) : Type 0 where
  pub from : 29773 ≤ a
  pub under : u < 86401000000
  pub has : day_micros ≤ u → is_step ds (day_at (a + 1)) ≡ true

moment : (d : ℕ) (u x y : ℕ) → x ≡ d → y ≡ u → ◌≡◌ {A = Moment} (record { day = day_at x; micro = y }) (record { day = day_at d; micro = u })
moment d u x y p q = λ i. record { day = day_at (p i); micro = q i }

-- ---- UTC to TAI and back is the same
pub back : {b : ℕ} {ds : List ℤ} {os : List ℕ} {s o : ℕ} → Grown b ds os s o → (a u : ℕ) → Real ds a u
    → utc_of ds os (micros_at (a * day_micros + u + offset_on ds os (day_at a) * 1000000)) ≡ record { day = day_at a; micro = u }
back {ds} {os} (one k) a u r =
    let o = offset_top (one k) a r.from in
    let c = a * day_micros + u + offset_on ds os (day_at a) * 1000000 in
    first c (omega (arith, r.from)) ∙ go (way u day_micros) c (omega (arith, o))
  where
    go : Way u day_micros → (c : ℕ) → c ≡ a * day_micros + u + 10000000 → plain_at 10 c ≡ record { day = day_at a; micro = u }
    go (below l) c e = moment a u ((c - 10 * 1000000) / day_micros) ((c - 10 * 1000000) % day_micros) (omega arith) (omega arith)
    go (above l) c e = absurd (let n = step_till (one k) (a + 1) (r.has l) in omega (arith, r.from))
back {ds = _} {os = _} (more {ds} {os} {s} {o} t g l k) a u r = go (way a t) (way u day_micros) (λ x. back g a u x)
  where
    e : length ds ≡ length os
    e = grown_even g

    off : ℕ
    off = offset_on (ds ++ day_at t ∷ []) (os ++ (o + 1) ∷ []) (day_at a)

    old : ℕ
    old = offset_on ds os (day_at a)

    c : ℕ
    c = a * day_micros + u + off * 1000000

    m : Moment
    m = utc_of ds os (micros_at c)

    is : utc_of (ds ++ day_at t ∷ []) (os ++ (o + 1) ∷ []) (micros_at c) ≡ begun (micros_at c) (day_at t) (o + 1) m
    is = last ds os e t (o + 1) c

    Same : Type 0
    Same = utc_of (ds ++ day_at t ∷ []) (os ++ (o + 1) ∷ []) (micros_at c) ≡ record { day = day_at a; micro = u }

    -- the new step has not begun: the list before it decides
    early : off ≡ old → c < t * day_micros + o * 1000000 → utc_of ds os (micros_at (a * day_micros + u + old * 1000000)) ≡ record { day = day_at a; micro = u } → Same
    early q h r =
        is ∙ said_nothing t (o + 1) c m (omega arith) ∙ ap (λ (n : ℕ). utc_of ds os (micros_at (a * day_micros + u + n * 1000000))) q ∙ r

    go : Way a t → Way u day_micros → (Real ds a u → utc_of ds os (micros_at (a * day_micros + u + old * 1000000)) ≡ record { day = day_at a; micro = u }) → Same
    go (above x) (below y) f =
        let q = offset_from ds os e t (o + 1) a x in
        is ∙ said_plain t (o + 1) c m (omega arith)
        ∙ moment a u ((c - (o + 1) * 1000000) / day_micros) ((c - (o + 1) * 1000000) % day_micros) (omega arith) (omega arith)
    go (above x) (above y) f = absurd (let n = step_till (more t g l k) (a + 1) (r.has y) in omega arith)
    go (below x) (below y) f =
        let q = offset_till ds os e t (o + 1) a x in
        early q (omega (arith, offset_most g a))
        (f (record { from = r.from; under = r.under; has = λ h. absurd (omega arith) }))
    go (below x) (above y) f = sixtieth (which ds t (a + 1) (r.has y))
      where
        q : off ≡ old
        q = offset_till ds os e t (o + 1) a x

        sixtieth : Either t (a + 1) (is_step ds (day_at (a + 1))) → Same
        sixtieth (before z) =
            let n = step_till g (a + 1) z in
            let i = step_gain g a r.from z in
            early q (omega (arith, q, offset_most g (a + 1), r.under)) (f (record { from = r.from; under = r.under; has = λ h. z }))
        sixtieth (here z) =
            let n = offset_top g a (omega arith) in
            is ∙ said_sixty t (o + 1) c m (omega arith) (omega (arith, q, r.under)) (omega (arith, q))
            ∙ moment a u (t - 1) (day_micros + (c - (o + 1 - 1) * 1000000) % day_micros) (omega arith) (omega (arith, q, r.under))

-- ---- every TAI count from the first step on is the TAI of a UTC day and a microsecond that its day has
pub record Right (ds : List ℤ) (os : List ℕ) (c : ℕ) : Type 0 where
  pub place : ℕ
  pub micro : ℕ
  pub is : utc_of ds os (micros_at c) ≡ record { day = day_at place; micro = micro }
  pub real : Real ds place micro
  pub tai : place * day_micros + micro + offset_on ds os (day_at place) * 1000000 ≡ c

pub forth : {b : ℕ} {ds : List ℤ} {os : List ℕ} {s o : ℕ} → Grown b ds os s o → (c : ℕ) → 29773 * day_micros + 10 * 1000000 ≤ c → Right ds os c
forth (one k) c h =
    let q = offset_top (one k) ((c - 10 * 1000000) / day_micros) (omega arith) in
    record {
      place = (c - 10 * 1000000) / day_micros;
      micro = (c - 10 * 1000000) % day_micros;
      is = first c h;
      real = record { from = omega arith; under = omega arith; has = λ x. absurd (omega arith) };
      tai = omega (arith, q);
    }
forth (more {ds} {os} {s} {o} t g l k) c h =
    go (way c (t * day_micros + (o + 1) * 1000000)) (way c (t * day_micros + o * 1000000)) (forth g c h)
  where
    e : length ds ≡ length os
    e = grown_even g

    m : Moment
    m = utc_of ds os (micros_at c)

    is : utc_of (ds ++ day_at t ∷ []) (os ++ (o + 1) ∷ []) (micros_at c) ≡ begun (micros_at c) (day_at t) (o + 1) m
    is = last ds os e t (o + 1) c

    go : Way c (t * day_micros + (o + 1) * 1000000) → Way c (t * day_micros + o * 1000000) → Right ds os c
        → Right (ds ++ day_at t ∷ []) (os ++ (o + 1) ∷ []) c
    go (above x) y r =
        let a = (c - (o + 1) * 1000000) / day_micros in
        let n = grown_last g in
        let q = offset_from ds os e t (o + 1) a (omega arith) in
        record {
          place = a;
          micro = (c - (o + 1) * 1000000) % day_micros;
          is = is ∙ said_plain t (o + 1) c m x;
          real = record { from = omega (arith, n.from); under = omega arith; has = λ z. absurd (omega arith) };
          tai = omega (arith, q);
        }
    go (below x) (above y) r =
        let n = grown_last g in
        let q = offset_till ds os e t (o + 1) (t - 1) (omega (arith, n.from)) in
        let p = offset_top g (t - 1) (omega arith) in
        record {
          place = t - 1;
          micro = day_micros + (c - (o + 1 - 1) * 1000000) % day_micros;
          is = is ∙ said_sixty t (o + 1) c m (omega (arith, n.from)) x (omega arith);
          real = record { from = omega (arith, n.from); under = omega arith; has = λ z. step_last ds t (t - 1 + 1) (omega (arith, n.from)) };
          tai = omega (arith, q, p, n.from);
        }
    go (below x) (below y) r =
        let a = r.place in
        let i = early (way a t) in
        let q = offset_till ds os e t (o + 1) a i in
        record {
          place = a;
          micro = r.micro;
          is = is ∙ said_nothing t (o + 1) c m (omega arith) ∙ r.is;
          real = record { from = r.real.from; under = r.real.under; has = λ z. step_kept ds t (a + 1) (r.real.has z) };
          tai = omega (arith, q, r.tai);
        }
      where
        early : Way r.place t → r.place < t
        early (below z) = z
        early (above z) = absurd (omega (arith, r.tai, offset_top g r.place (omega arith)))

-- ---- before the first step there is no UTC: what stands there lies before the span
pub record Before (ds : List ℤ) (os : List ℕ) (c : ℕ) : Type 0 where
  pub place : ℕ
  pub micro : ℕ
  pub is : utc_of ds os (micros_at c) ≡ record { day = day_at place; micro = micro }
  pub early : place < 29773

pub none_before : {b : ℕ} {ds : List ℤ} {os : List ℕ} {s o : ℕ} → Grown b ds os s o → (c : ℕ) → 10000000 ≤ c → c < 29773 * day_micros + 10 * 1000000 → Before ds os c
unfolding through
none_before (one k) c f h = go (way c (29773 * day_micros + 9 * 1000000))
  where
    go : Way c (29773 * day_micros + 9 * 1000000) → Before (day_at 29773 ∷ []) (10 ∷ []) c
    go (below x) =
        record {
          place = (c - 10 * 1000000) / day_micros;
          micro = (c - 10 * 1000000) % day_micros;
          is = said_nothing 29773 10 c (plain 10 (micros_at c)) x ∙ plain_at_lem 10 c f;
          early = omega arith;
        }
    go (above x) =
        record {
          place = 29772;
          micro = day_micros + (c - 9 * 1000000) % day_micros;
          is = said_sixty 29773 10 c (plain 10 (micros_at c)) (omega arith) h x;
          early = omega arith;
        }
none_before (more {ds} {os} {s} {o} t g l k) c f h =
    let w = none_before g c f h in
    let n = grown_last g in
    record {
      place = w.place;
      micro = w.micro;
      is = last ds os (grown_even g) t (o + 1) c ∙ said_nothing t (o + 1) c (utc_of ds os (micros_at c)) (omega (arith, n.from, n.ten)) ∙ w.is;
      early = w.early;
    }
