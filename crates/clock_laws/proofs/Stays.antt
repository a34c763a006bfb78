-- What stays of document 01's rule, by which every day had 86,400 s, UTC's too: under a TAI or GPS correlation all of it, under any list;
-- under a UTC correlation every answer where the days of reference, receipt (or time handed in) and result are not expired and have one
-- offset. Assumes nothing.
use mathlib.Core.Path.{◌≡◌, refl, sym, ap, ap₂, ◌∙◌}
use mathlib.Core.Bool.{Bool, true, false, cond, ◌&&◌, false≢true}
use mathlib.Core.List.{List}
use Prim.Native.Nat.{ℕ, zero, suc, ◌+◌, ◌-◌, ◌*◌, ◌/◌, ◌≤◌, ◌<◌}
use native.Mathlib.Nat.{add-mul, add-mul-div_right}
use native.Mathlib.Omega.{arith}
use lib.Dec.{eqb, ltb, lit<}
use lib.IntN.{ℤ, pos, neg_ℤ, sub_ℕ, ◌+ℤ◌, ◌*ℤ◌, +ℤ_assoc, +ℤ_comm}
use lib.Signed.{lt_z, le_z}
use borrow.Author.Tests.{lt-ltb, eqb-true}
use Rattle.axis.specs.Meaning.{place_of_day, floor_z, Moment, day_micros, since, moment_of}
use Rattle.axis.specs.Diff.{tests, up, down, parts, sub_eq, sub_mul, sub_le, sub_floor}
use Rattle.axis.specs.Shift.{number_add}
use Rattle.scales.specs.Meaning.{code_of, bound, in_span, same_scale, Judged, given, gives, refused, answer, outcome, resulting}
use Rattle.scales.specs.Order.{Answers, last, next, is_answers}
use Rattle.scales.specs.Place.{apart, and_both, placed}
use Rattle.scales.specs.declared.Scale.{Scale}
use Rattle.scales.specs.declared.Scale.TheVariants as S
use Rattle.handed.specs.declared.Handed.{Handed}
use Rattle.handed.specs.Meaning.{scale_of, is_finite, is_in_span, day_of, micro_of}
use Rattle.handed.specs.Told.{loose}
use Rattle.leap.specs.Meaning as Leap
use Rattle.via_tai.specs.Meaning.{is_utc}
use Rattle.via_tai.specs.Ways.{has_plain}
use Rattle.via_tai.specs.Known.{tai_current, utc_back}
use Rattle.clock.specs.Meaning.{Clock, elapsed, clock, time, in_window, within, covers, dating, latest, last_count, count_at, has_image, turning}
use Rattle.clock.specs.Signs.{plus}
use Rattle.clock_laws.proofs.Counts.{whole, left_under}
use Rattle.clock_laws.proofs.Later.{only_later}
use Rattle.clock_laws.proofs.Wider.{restarted}

-- ---- document 01's rule, over a clock that counts the microseconds since day 0 of its own scale: dates refused 6, 7, 8, 11, ways back 4, 6,
-- 7, 8, 12
-- "the receipt time, a day and a microsecond below 86,400,000,000 in the correlation's scale"
abbrev pub receivable : Scale → ℤ → ℕ → Bool
receivable s d u = in_span s d u && ltb u day_micros

abbrev pub base_dating : Bool → Clock → ℕ → ℤ → ℕ → Judged Moment
base_dating accepted c t d u =
    given accepted 6
    (given (receivable c.scale d u) 7
    (given (in_window c (elapsed c t) && covers c (since d u)) 8
    (resulting c.scale (moment_of (time c (elapsed c t))))))

-- it passes 8
abbrev pub base_passes8 : Bool → Clock → ℕ → ℤ → ℕ → Bool
base_passes8 accepted c t d u = accepted && (receivable c.scale d u && (in_window c (elapsed c t) && covers c (since d u)))

-- "A time of another scale, or in second 60, gets 12, and 8 is not judged for it"
abbrev pub had_image : Scale → Handed → Bool
had_image s h = same_scale (scale_of h) s && ltb (micro_of h) day_micros

abbrev pub base_turning : Bool → Clock → Handed → Judged ℕ
base_turning accepted c h =
    given (is_finite h) 4
    (given accepted 6
    (given (is_in_span h) 7
    (given (cond (had_image c.scale h) (covers c (since (day_of h) (micro_of h))) true) 8
    (given (had_image c.scale h) 12
    (gives (count_at c (last_count c (since (day_of h) (micro_of h)))))))))

-- ---- TAI and GPS: second 60 is in no span, and no list is looked at
no_sixty_lem : (s : Scale) (u : ℕ) → is_utc s ≡ false → u < bound s → ltb u day_micros ≡ true
no_sixty_lem S.Tai u p h = lt-ltb u day_micros h
no_sixty_lem S.Utc u p h = absurd (false≢true (sym p))
no_sixty_lem S.Gps u p h = lt-ltb u day_micros h

module _ (x : Bool) (c : Clock) (p : is_utc c.scale ≡ false) (ds : List ℤ) (os : List ℕ) (e : ℤ) where
  pub date_base : (t : ℕ) (d : ℤ) (u : ℕ) → outcome (dating x c t d u ds os e)
      ≡ cond (base_passes8 x c t d u && lt_z (since d u) (time c (elapsed c t))) (refused 17) (outcome (base_dating x c t d u))
  date_base t d u = go (in_span c.scale d u) refl
    where
      go : (i : Bool) → in_span c.scale d u ≡ i → outcome (dating x c t d u ds os e)
          ≡ cond (base_passes8 x c t d u && lt_z (since d u) (time c (elapsed c t))) (refused 17) (outcome (base_dating x c t d u))
      go true i = only_later x c t d u ds os e ∙ rw (p, i, no_sixty_lem c.scale u p (placed c.scale d u i).under)
      go false i = only_later x c t d u ds os e ∙ rw (p, i)

  pub count_base : (h : Handed) → outcome (turning x c h ds os e) ≡ outcome (base_turning x c h)
  count_base h = go (is_finite h) refl (is_in_span h) refl (has_image c.scale h) refl
    where
      go : (i : Bool) → is_finite h ≡ i → (j : Bool) → is_in_span h ≡ j → (g : Bool) → has_image c.scale h ≡ g → outcome (turning x c h ds os e) ≡ outcome (base_turning x c h)
      go false i j q g k = rw i
      go true i false q g k = rw (i, p, q)
      go true i true q false k = rw (i, p, q, k)
      go true i true q true k =
          let n : is_utc (scale_of h) ≡ false = ap (λ (n : ℕ). eqb n 1) (eqb-true (code_of (scale_of h)) (code_of c.scale) k) ∙ p in
          rw (i, p, q, k, no_sixty_lem (scale_of h) (micro_of h) n (loose h i q).under)

-- ---- a clock that is n microseconds ahead of another shows each count n microseconds later
floor_ahead : (x : ℤ) (n m : ℕ) → 0 < m → floor_z (x +ℤ pos (n * m)) m ≡ floor_z x m +ℤ pos n
floor_ahead x n m p =
    ap (λ (z : ℤ). floor_z z m) (ap (λ (z : ℤ). z +ℤ pos (n * m)) at ∙ sym (number_add (down x * m) a (n * m)))
    ∙ sub_floor (a + n * m) (down x) m p
    ∙ ap (λ (k : ℕ). sub_ℕ k (down x)) (add-mul-div_right a n p)
    ∙ number_add (down x) (a / m) n
    ∙ ap (λ (z : ℤ). z +ℤ pos n) (sym (ap (λ (z : ℤ). floor_z z m) at ∙ sub_floor a (down x) m p))
  where
    a : ℕ
    a = up x + down x * (m - 1)

    around : (k l : ℕ) → l ≡ suc k → down x * l ≡ down x * k + down x
    around k l e = omega (arith, ap (λ (y : ℕ). down x * y) e)

    at : x ≡ sub_ℕ a (down x * m)
    at = parts x ∙ sub_eq (up x) (down x) a (down x * m) (omega (arith, around (m - 1) m (omega arith)))

pub product_ahead : (x : ℤ) (n m : ℕ) → (x +ℤ pos n) *ℤ pos m ≡ x *ℤ pos m +ℤ pos (n * m)
product_ahead x n m =
    ap (λ (z : ℤ). z *ℤ pos m) (plus x n)
    ∙ sub_mul (up x + n) (down x) m
    ∙ ap (λ (k : ℕ). sub_ℕ k (down x * m)) (add-mul (up x) n m)
    ∙ number_add (down x * m) (up x * m) (n * m)
    ∙ ap (λ (z : ℤ). z +ℤ pos (n * m)) (sym (ap (λ (z : ℤ). z *ℤ pos m) (parts x) ∙ sub_mul (up x) (down x) m))

le_ahead : (x y : ℤ) (n : ℕ) → le_z (x +ℤ pos n) (y +ℤ pos n) ≡ le_z x y
le_ahead x y n =
    ap₂ le_z (plus x n) (plus y n)
    ∙ sub_le (up x + n) (down x) (up y + n) (down y)
    ∙ tests (up x + n + down y) (up y + n + down x) (up x + down y) (up y + down x) (λ h. omega arith) (λ h. omega arith)
    ∙ sym (ap₂ le_z (parts x) (parts y) ∙ sub_le (up x) (down x) (up y) (down y))

latest_same : (f g : ℤ → ℤ) (y z lo : ℤ) (n : ℕ) → ((k : ℤ) → le_z (f k) y ≡ le_z (g k) z) → latest f y lo n ≡ latest g z lo n
unfolding latest
latest_same f g y z lo zero h = refl
latest_same f g y z lo (suc n) h =
    ap₂ (λ (t : Bool) (k : ℤ). cond t (lo +ℤ pos (suc n)) k) (h (lo +ℤ pos (suc n))) (latest_same f g y z lo n h)

module _ (c : Clock) (p : 0 < c.per) (n : ℕ) (r : ℤ) (q : r ≡ c.start +ℤ pos (n * c.per)) where
  time_ahead : (k : ℤ) → time (restarted c r) k ≡ time c k +ℤ pos n
  unfolding clock
  time_ahead k =
      let x = pos (n * c.per) in
      let y = k *ℤ pos c.gain in
      ap (λ (z : ℤ). floor_z z c.per)
      (ap (λ (z : ℤ). z +ℤ y) q ∙ +ℤ_assoc c.start x y ∙ ap (λ (z : ℤ). c.start +ℤ z) (+ℤ_comm x y) ∙ sym (+ℤ_assoc c.start y x))
      ∙ floor_ahead (c.start +ℤ y) n c.per p

  covers_ahead : (z : ℤ) → covers (restarted c r) (z +ℤ pos n) ≡ covers c z
  unfolding within
  covers_ahead z =
      let x = time c (neg_ℤ (pos c.back)) in
      let y = time c (pos c.ahead) in
      ap₂ ◌&&◌
      (ap (λ (v : ℤ). le_z v (z +ℤ pos n)) (time_ahead (neg_ℤ (pos c.back))) ∙ le_ahead x z n)
      (ap (le_z (z +ℤ pos n)) (time_ahead (pos c.ahead)) ∙ le_ahead z y n)

  last_ahead : (z : ℤ) → last_count (restarted c r) (z +ℤ pos n) ≡ last_count c z
  last_ahead z =
      latest_same (time (restarted c r)) (time c) (z +ℤ pos n) z (neg_ℤ (pos c.back)) (c.back + c.ahead)
      (λ k. ap (λ (v : ℤ). le_z v (z +ℤ pos n)) (time_ahead k) ∙ le_ahead (time c k) z n)

-- ---- UTC: the day d is not expired and has the offset of day r
pub record Like (ds : List ℤ) (os : List ℕ) (e r d : ℤ) : Type 0 where
  pub current : Leap.is_expired_day e d ≡ false
  pub offset : Leap.offset_on ds os d ≡ Leap.offset_on ds os r

-- under the published list days 6000 and 6001 have the offset 36
pub same_day_lem : Like Leap.published_days Leap.published_offsets Leap.published_last (pos 6000) (pos 6000)
same_day_lem = record { current = refl; offset = refl }

pub next_day : Like Leap.published_days Leap.published_offsets Leap.published_last (pos 6000) (pos 6001)
unfolding Leap.through
next_day = record { current = refl; offset = refl }

-- a UTC clock c of the base, and the same started in TAI, at r
module _ (c : Clock) (p : is_utc c.scale ≡ true) (per : 0 < c.per) (ds : List ℤ) (os : List ℕ) (e : ℤ) (w : Leap.accepted ds os e ≡ true) (r : ℤ)
    (start : r ≡ c.start +ℤ pos (Leap.offset_on ds os c.day * 1000000 * c.per)) (reference : Leap.is_expired_day e c.day ≡ false) (x : Bool) where
  abbrev k : Clock
  k = restarted c r

  abbrev n : ℕ
  n = Leap.offset_on ds os c.day * 1000000

  window_same : (j : ℤ) → in_window (restarted c r) j ≡ in_window c j
  unfolding in_window
  window_same j = refl

  -- the TAI of a day like the reference's
  tai_ahead : (d : ℤ) (u : ℕ) → Like ds os e c.day d → Leap.tai_of ds os d u ≡ since d u +ℤ pos n
  tai_ahead d u a = ap (λ (o : ℕ). since d u +ℤ Leap.seconds o) a.offset

  covers_same : (d : ℤ) (u : ℕ) → Like ds os e c.day d → covers c (since d u) ≡ true → covers k (Leap.tai_of ds os d u) ≡ true
  covers_same d u a h = ap (covers k) (tai_ahead d u a) ∙ covers_ahead c per n r start (since d u) ∙ h

  -- a result of the base, z microseconds since day 0, on a day like the reference's
  module _ (z : ℤ) (inside : in_span c.scale (moment_of z).day (moment_of z).micro ≡ true) (b : Like ds os e c.day (moment_of z).day) where
    from : 29773 ≤ place_of_day (moment_of z).day
    from = omega (arith, (placed c.scale (moment_of z).day (moment_of z).micro inside).from, (apart c.scale).from)

    tai : z +ℤ pos n ≡ Leap.tai_of ds os (moment_of z).day (moment_of z).micro
    tai = ap (λ (y : ℤ). y +ℤ pos n) (sym (whole z)) ∙ sym (tai_ahead (moment_of z).day (moment_of z).micro b)

    plain : (moment_of z).micro < 86400000000
    plain = left_under 86400000000 (lit< tt) z

    result_current : Leap.is_expired_tai ds os e (z +ℤ pos n) ≡ false
    result_current =
        ap (Leap.is_expired_tai ds os e) tai
        ∙ tai_current ds os e w (moment_of z).day (moment_of z).micro from b.current (omega (arith, plain)) (sym (has_plain ds (moment_of z).day (moment_of z).micro plain))

    result_same : Leap.utc_of ds os (z +ℤ pos n) ≡ moment_of z
    result_same =
        ap (Leap.utc_of ds os) tai
        ∙ utc_back ds os e w (moment_of z).day (moment_of z).micro from b.current (omega (arith, plain)) (sym (has_plain ds (moment_of z).day (moment_of z).micro plain))

  pub date_stays : (t : ℕ) (d : ℤ) (u : ℕ) (m : Moment) → outcome (base_dating x c t d u) ≡ answer m → Like ds os e c.day d → Like ds os e c.day m.day →
      outcome (dating x (restarted c r) t d u ds os e) ≡ cond (le_z (time c (elapsed c t)) (since d u)) (answer m) (refused 17)
  date_stays t d u m h a b = go (is_answers (base_dating x c t d u) m h) b
    where
      go : {m : Moment} → Answers (base_dating x c t d u) m → Like ds os e c.day m.day →
          outcome (dating x (restarted c r) t d u ds os e) ≡ cond (le_z (time c (elapsed c t)) (since d u)) (answer m) (refused 17)
      go (next accepts (next receives (next forces (next inside last)))) b =
          let z = time c (elapsed c t) in
          let received = and_both (in_span c.scale d u) (ltb u day_micros) receives in
          let forced = and_both (in_window c (elapsed c t)) (covers c (since d u)) forces in
          rw (
            p,
            w,
            accepts,
            received.0,
            window_same (elapsed c t) ∙ forced.0,
            reference,
            a.current,
            received.1,
            covers_same d u a forced.1,
            time_ahead c per n r start (elapsed c t),
            result_current z inside b,
            result_same z inside b,
            inside,
          )
          (ap (λ (b : Bool). cond b (answer (moment_of z)) (refused 17)) (ap (le_z (z +ℤ pos n)) (tai_ahead d u a) ∙ le_ahead z (since d u) n))

  pub count_stays : (h : Handed) (i : ℕ) → outcome (base_turning x c h) ≡ answer i → Like ds os e c.day (day_of h) →
      outcome (turning x (restarted c r) h ds os e) ≡ answer i
  count_stays h i g a = go (is_answers (base_turning x c h) i g)
    where
      go : {i : ℕ} → Answers (base_turning x c h) i → outcome (turning x (restarted c r) h ds os e) ≡ answer i
      go (next finite (next accepts (next spans (next covered (next image last))))) =
          let both = and_both (same_scale (scale_of h) c.scale) (ltb (micro_of h) day_micros) image in
          rw (
            p,
            w,
            finite,
            accepts,
            spans,
            both.0,
            both.1,
            reference,
            a.current,
            covers_same (day_of h) (micro_of h) a (rw image at covered),
          )
          (ap (λ (j : ℤ). answer (count_at c j)) (ap (last_count k) (tai_ahead (day_of h) (micro_of h) a) ∙ last_ahead c per n r start (since (day_of h) (micro_of h))))
