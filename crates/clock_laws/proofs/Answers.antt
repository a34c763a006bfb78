-- What an answer tells of a correlated counter, both ways. A list is its steps' days ds, its offsets os and its last day e. Assumes
-- nothing.
use mathlib.Core.Path.{◌≡◌, refl, sym, ap, subst, ◌∙◌}
use mathlib.Core.Bool.{Bool, true, not, ◌&&◌, ◌||◌}
use mathlib.Core.List.{List}
use Prim.Native.Nat.{ℕ, ◌-◌, ◌*◌, ◌%◌, ◌≤◌}
use native.Mathlib.Omega.{arith}
use lib.IntN.{ℤ, pos, neg_ℤ}
use lib.Signed.{le_z}
use borrow.Author.Tests.{le-leb}
use Rattle.axis.specs.Meaning.{micros_at, Moment, since, moment_of}
use Rattle.scales.specs.Meaning.{in_span, Judged, given, answer, outcome, resulting}
use Rattle.scales.specs.Place.{and_both}
use Rattle.scales.specs.declared.Scale.{Scale}
use Rattle.scales.specs.declared.Scale.TheVariants as S
use Rattle.handed.specs.declared.Handed.{Handed}
use Rattle.scales.specs.Order.{Answers, next, last, is_answers, ends}
use Rattle.handed.specs.Meaning.{is_finite, is_in_span, day_of, micro_of}
use Rattle.clock.specs.Meaning.{Clock, instant, moment_after, list_serves, is_current, is_current_at, has_second, is_known, elapsed, time, in_window, covers, covers_time, dating, last_count, count_at, instant_of, has_image, turning}
use Rattle.clock.specs.Signs.{le_trans}
use Rattle.clock.specs.Stage.{placing, at_place}
use Rattle.clock.specs.Window.{Runs}
use Rattle.clock.specs.Places.{time_at, count_from, Based, counted_place, time_far}
use Rattle.leap_laws.proofs.Stands.{leaves}
use Rattle.leap_laws.proofs.Arrives.{found_utc}
use Rattle.clock_laws.proofs.Counts.{further, whole, elapsed_one}

-- ---- a date
pub record Dates (accepted : Bool) (c : Clock) (t : ℕ) (d : ℤ) (u : ℕ) (ds : List ℤ) (os : List ℕ) (e : ℤ) (m : Moment) : Type 0 where
  pub serves : list_serves c.scale ds os e ≡ true
  pub accepts : accepted ≡ true
  pub received : in_span c.scale d u ≡ true
  pub window : in_window c (elapsed c t) ≡ true
  pub reference : is_current c.scale e c.day ≡ true
  pub known : is_known c.scale ds e d u ≡ true
  pub cover : covers c (instant c.scale ds os d u) ≡ true
  pub not_later : le_z (time c (elapsed c t)) (instant c.scale ds os d u) ≡ true
  pub current : is_current_at c.scale ds os e (time c (elapsed c t)) ≡ true
  pub span : in_span c.scale m.day m.micro ≡ true
  pub is : moment_after c.scale ds os (time c (elapsed c t)) ≡ m

pub dates : (accepted : Bool) (c : Clock) (t : ℕ) (d : ℤ) (u : ℕ) (ds : List ℤ) (os : List ℕ) (e : ℤ) (m : Moment) →
    outcome (dating accepted c t d u ds os e) ≡ answer m → Dates accepted c t d u ds os e m
dates accepted c t d u ds os e m h = told (is_answers (dating accepted c t d u ds os e) m h)
  where
    told : {m : Moment} → Answers (dating accepted c t d u ds os e) m → Dates accepted c t d u ds os e m
    told (next l (next a (next i (next f (next p (next g (next n (next s last)))))))) =
        let k = elapsed c t in
        let w = and_both (in_window c k) (covers_time c d u ds os e) f in
        let x = and_both (is_current c.scale e c.day) (is_current c.scale e d && is_current_at c.scale ds os e (time c k)) g in
        let y = and_both (is_current c.scale e d) (is_current_at c.scale ds os e (time c k)) x.1 in
        record {
          serves = l;
          accepts = a;
          received = i;
          window = w.0;
          reference = x.0;
          known = rw (y.0, n);
          cover = rw (x.0, y.0, n) at w.1;
          not_later = rw (x.0, y.0, n) at p;
          current = y.1;
          span = s;
          is = refl;
        }

-- ---- a count
pub record Turns (accepted : Bool) (c : Clock) (h : Handed) (ds : List ℤ) (os : List ℕ) (e : ℤ) (n : ℕ) : Type 0 where
  pub finite : is_finite h ≡ true
  pub serves : list_serves c.scale ds os e ≡ true
  pub accepts : accepted ≡ true
  pub inside : is_in_span h ≡ true
  pub image : has_image c.scale h ≡ true
  pub reference : is_current c.scale e c.day ≡ true
  pub known : is_known c.scale ds e (day_of h) (micro_of h) ≡ true
  pub cover : covers c (instant_of c.scale ds os h) ≡ true
  pub is : count_at c (last_count c (instant_of c.scale ds os h)) ≡ n

pub turns : (accepted : Bool) (c : Clock) (h : Handed) (ds : List ℤ) (os : List ℕ) (e : ℤ) (n : ℕ) →
    outcome (turning accepted c h ds os e) ≡ answer n → Turns accepted c h ds os e n
turns accepted c h ds os e n q = told (is_answers (turning accepted c h ds os e) n q)
  where
    told : {n : ℕ} → Answers (turning accepted c h ds os e) n → Turns accepted c h ds os e n
    told (next f (next l (next a (next i (next v (next g (next z (next p last)))))))) =
        let w = and_both (is_current c.scale e c.day) (not (has_image c.scale h) || is_current c.scale e (day_of h)) g in
        let x : is_current c.scale e (day_of h) ≡ true = rw p at w.1 in
        let y : has_second c.scale ds (day_of h) (micro_of h) ≡ true = rw p at z in
        record {
          finite = f;
          serves = l;
          accepts = a;
          inside = i;
          image = p;
          reference = w.0;
          known = rw (x, y);
          cover = rw (p, w.0, x, y) at v;
          is = refl;
        }

-- ---- a known time m of scale s that stands at the instant z
pub record KnownAt (s : Scale) (m : Moment) (ds : List ℤ) (os : List ℕ) (e z : ℤ) : Type 0 where
  pub current : is_current s e m.day ≡ true
  pub second : has_second s ds m.day m.micro ≡ true
  pub is : instant s ds os m.day m.micro ≡ z

-- an instant, brought back to a scale
abbrev settling : Scale → ℤ → List ℤ → List ℕ → ℤ → Judged Moment
settling s z ds os e =
    given (is_current_at s ds os e z) 9
    (resulting s (moment_after s ds os z))

-- ---- an instant that comes back as a moment is that moment's, which is known: of every scale, wherever the first offset of a list can be
-- taken away
module _ (ds : List ℤ) (os : List ℕ) (e : ℤ) (w : ℕ) (m : Moment) where
  even : (s : Scale) → outcome (resulting s (moment_of (micros_at w))) ≡ answer m → since m.day m.micro ≡ micros_at w
  even s h = ends (λ (y : Moment). since y.day y.micro ≡ micros_at w) (resulting s (moment_of (micros_at w))) m (λ i. whole (micros_at w)) h

  pub settles : (s : Scale) → list_serves s ds os e ≡ true → 10000000 ≤ w → outcome (settling s (micros_at w) ds os e) ≡ answer m → KnownAt s m ds os e (micros_at w)
  settles S.Tai l f h = record { current = refl; second = refl; is = even S.Tai h }
  settles S.Gps l f h = record { current = refl; second = refl; is = even S.Gps h }
  settles S.Utc l f h =
      let q = found_utc ds os e l w f m h in
      let a =
      at_place m ds os e (micros_at w)
      (sym (ap (λ (x : Moment). outcome (placing x ds os e)) q.is
      ∙ leaves ds os e l S.Utc q.place q.micro q.stands
      ∙ ap (λ (n : ℕ). answer (micros_at n)) q.tai)) in
      record { current = rw a.current; second = a.second; is = a.is }

-- ---- an answered date is time(k) of the elapsed count, in TAI under a UTC correlation
module _ (accepted : Bool) (c : Clock) (r : ℕ) (based : accepted ≡ true → Based c r) (t : ℕ) (d : ℤ) (u : ℕ)
    (ds : List ℤ) (os : List ℕ) (e : ℤ) (m : Moment) (h : outcome (dating accepted c t d u ds os e) ≡ answer m) where
  -- and a known time
  pub exactly : KnownAt c.scale m ds os e (time c (elapsed c t))
  exactly =
      let q = dates accepted c t d u ds os e m h in
      let b = based q.accepts in
      let n = count_from c.half t c.reference in
      let w = time_at r c.gain c.per c.half n in
      let p = counted_place c r b t in
      subst (KnownAt c.scale m ds os e) (sym p)
      (settles ds os e w m c.scale q.serves (time_far c r b n)
      (ap (λ (z : ℤ). outcome (settling c.scale z ds os e)) (sym p) ∙ rw (q.current, q.is, q.span)))

  pub exact : instant c.scale ds os m.day m.micro ≡ time c (elapsed c t)
  exact = exactly.is

-- a count of the window is the elapsed count of every t that equals the reference plus it modulo 2 * half
pub window_elapsed : (c : Clock) → Runs c → (t : ℕ) (k : ℤ) → in_window c k ≡ true → count_at c k ≡ t % (2 * c.half) → k ≡ elapsed c t
unfolding in_window
window_elapsed c a t k e f =
    let w = and_both (le_z (neg_ℤ (pos c.back)) k) (le_z k (pos c.ahead)) e in
    elapsed_one c (omega (arith, a.ahead_to)) t k
    (le_trans (neg_ℤ (pos c.half)) (neg_ℤ (pos c.back)) k (further c.back c.half a.back_to) w.0)
    (le_trans k (pos c.ahead) (pos (c.half - 1)) w.1 (le-leb c.ahead (c.half - 1) (omega (arith, a.ahead_to))))
    f
