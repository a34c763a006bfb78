-- Reading what was written of a time, over the scale, the place p of the epoch's day and the microseconds of the fields: where the
-- fields are the last that are not later, so is the time. Assumes nothing.
use mathlib.Core.Path.{◌≡◌, refl, ap, ◌∙◌}
use mathlib.Core.Bool.{Bool, true, false}
use mathlib.Core.List.{List}
use Prim.Native.Nat.{ℕ, suc, ◌+◌, ◌*◌, ◌/◌, ◌%◌, ◌≤◌, ◌<◌}
use native.Mathlib.Nat.{mul-le-mul_right}
use native.Mathlib.Omega.{arith}
use lib.Dec.{ltb}
use borrow.Author.Tests.{ltb-true}
use Rattle.axis.specs.Meaning.{place_of_day, day_at, Moment}
use Rattle.axis.specs.Diff.{Way, way, below, above, sub_pos}
use Rattle.axis.specs.Axis.{place_day}
use Rattle.octets.specs.Field.{Bytes}
use Rattle.scales.specs.Meaning.{and_then, bound, in_span, Judged, given, gives, answer, outcome, Slip, dated_as}
use Rattle.scales.specs.Order.{Answers, last, next, numbered}
use Rattle.scales.specs.Place.{first_at, apart, placed, in_span_lem, and_both}
use Rattle.scales.specs.declared.Scale.{Scale}
use Rattle.scales.specs.declared.Mark.{Mark}
use Rattle.handed.specs.declared.Handed.{Handed}
use Rattle.handed.specs.declared.Handed.TheVariants as H
use Rattle.handed.specs.Told.{count_in}
use Rattle.handed.proofs.Ways.{kept_decimal}
use Rattle.handed.specs.Meaning.{scale_of, is_finite, is_in_span, day_of, micro_of}
use Rattle.layout_times.specs.Meaning.{moment_from, judged}
use Rattle.layout_times.specs.Days.{day_is, place_is}
use Rattle.layout_laws.specs.Meaning.{Real, place_at, LastNotLater}

-- a handed time in its span is so as a day and a microsecond
pub kept : (h : Handed) → Real h → is_finite h ≡ true → is_in_span h ≡ true → in_span (scale_of h) (day_of h) (micro_of h) ≡ true
kept (H.Record r) d e f = f
kept (H.Decimal x s) d e f = kept_decimal x s d e f

-- ---- n microseconds after day p as a count of a scale with b microseconds a day: later is later
abbrev pub count_from : ℕ → ℕ → ℕ → ℕ
count_from b p n = (p + n / 86400000000) * b + n % 86400000000

module _ (b p : ℕ) (w : 86400000000 ≤ b) where
  pub count_lt : (x y : ℕ) → x < y → count_from b p x < count_from b p y
  count_lt x y h = go (way (x / 86400000000) (y / 86400000000))
    where
      go : Way (x / 86400000000) (y / 86400000000) → count_from b p x < count_from b p y
      go (below l) = omega (arith, mul-le-mul_right {m = suc (p + x / 86400000000)} {n = p + y / 86400000000} b (omega arith))
      go (above l) =
          let e : x / 86400000000 ≡ y / 86400000000 = omega arith in
          omega (arith, ap (λ (q : ℕ). (p + q) * b) e)

  pub count_le : (x y : ℕ) → x ≤ y → count_from b p x ≤ count_from b p y
  count_le x y h = go (way x y)
    where
      go : Way x y → count_from b p x ≤ count_from b p y
      go (below l) = omega (arith, count_lt x y l)
      go (above l) = let e : x ≡ y = omega arith in omega (arith, ap (count_from b p) e)

  pub le_count : (x y : ℕ) → count_from b p x ≤ count_from b p y → x ≤ y
  le_count x y h = go (way y x)
    where
      go : Way y x → x ≤ y
      go (below l) = absurd (omega (arith, count_lt y x l))
      go (above l) = l

-- a day of the axis is on it
on_axis : (m : ℕ) → place_of_day (day_at m) ≤ 76524 → m ≤ 76524
on_axis m h = go (way 100000 m)
  where
    far : 100000 < m → place_of_day (day_at m) ≡ 100000
    far l = ap place_of_day (sub_pos m 40000 (omega arith)) ∙ omega arith

    go : Way 100000 m → m ≤ 76524
    go (below l) = absurd (omega (arith, far l))
    go (above l) = omega (arith, place_day m l)

module _ {A : Type 0} (s : Scale) (p : ℕ) (micros_of : A → ℕ) where
  abbrev time_of : A → Moment
  time_of a = moment_from (day_at p) (micros_of a)

  -- with a mark
  abbrev pub read_of : Mark → Judged A → Slip
  read_of m j = dated_as m s (outcome (and_then j (λ (a : A). judged s (time_of a))))

  -- ---- what an answer tells, and how it comes about
  pub record ReadAs (j : Judged A) : Type 0 where
    pub fields : A
    pub answers : Answers j fields
    pub inside : in_span s (time_of fields).day (time_of fields).micro ≡ true

  pub read_as : (m : Mark) (j : Judged A) → numbered j ≡ true → (read_of m j).number ≡ 0 → ReadAs j
  read_as m (given true n rest) q e =
      let r = read_as m rest (and_both (ltb 0 n) (numbered rest) q).1 e in
      record { fields = r.fields; answers = next refl r.answers; inside = r.inside }
  read_as m (given false n rest) q e = absurd (omega (arith, ltb-true 0 n (and_both (ltb 0 n) (numbered rest) q).0))
  read_as m (gives a) q e = go (in_span s (time_of a).day (time_of a).micro) refl e
    where
      go : (t : Bool) → in_span s (time_of a).day (time_of a).micro ≡ t → (dated_as m s (outcome (given t 7 (gives (time_of a))))).number ≡ 0 → ReadAs (gives a)
      go true x e = record { fields = a; answers = last; inside = x }
      go false x e = absurd (omega arith)

  pub reads : (m : Mark) {j : Judged A} {a : A} → Answers j a → in_span s (time_of a).day (time_of a).micro ≡ true → read_of m j ≡ dated_as m s (answer (time_of a))
  reads m last e = rw e
  reads m (next t r) e = rw t (reads m r e)

  -- ---- the place of an answered time
  pub in_from : (a : A) → first_at s ≤ p → p + micros_of a / 86400000000 ≤ 76524 → in_span s (time_of a).day (time_of a).micro ≡ true
  in_from a f h =
      let q = place_is p (micros_of a) (omega arith) in
      in_span_lem s (time_of a).day (time_of a).micro (record { from = omega arith; to = omega (arith, (apart s).to); under = omega (arith, (apart s).whole) })

  pub on_from : (a : A) → in_span s (time_of a).day (time_of a).micro ≡ true → p + micros_of a / 86400000000 ≤ 76524
  on_from a e =
      let w = placed s (time_of a).day (time_of a).micro e in
      let d = ap place_of_day (day_is p (micros_of a)) in
      on_axis (p + micros_of a / 86400000000) (omega (arith, w.to, (apart s).to, d))

  pub place_from : (m : Mark) {j : Judged A} (a : A) → Answers j a → in_span s (time_of a).day (time_of a).micro ≡ true → place_at (read_of m j) ≡ count_from (bound s) p (micros_of a)
  place_from m a r e =
      let l = on_from a e in
      ap place_at (reads m r e) ∙ ap (λ (x : ℕ). x * bound s + micros_of a % 86400000000) (place_is p (micros_of a) (omega arith))

  -- ---- the last fields that are not later give the last time that is not later, marked as its bytes are
  module _ (h : Handed) (n : ℕ) (k : s ≡ scale_of h) (c : count_in h ≡ count_from (bound s) p n) (f : first_at s ≤ p) (l : p + n / 86400000000 ≤ 76524)
      (marks : List ℕ → Mark) (reading : List ℕ → Judged A) (q : (t : List ℕ) → numbered (reading t) ≡ true) where
    pub last_time : (image : List ℕ) (a : A) → Answers (reading image) a → micros_of a ≤ n →
        ((t : List ℕ) (b : A) → Bytes t → Answers (reading t) b → micros_of b ≤ n → micros_of b ≤ micros_of a) →
        LastNotLater (λ (t : List ℕ). read_of (marks t) (reading t)) (marks image) h image
    last_time image a r m best =
        let e = in_from a f (omega arith) in
        let i = place_from (marks image) a r e in
        let w = reads (marks image) r e in
        record {
          answered = ap (λ (x : Slip). x.number) w;
          scale = ap (λ (x : Slip). x.scale) w ∙ k;
          not_later = omega (arith, count_le (bound s) p (apart s).whole (micros_of a) n m);
          last = λ t b x y.
              let z = read_as (marks t) (reading t) (q t) x in
              let j = place_from (marks t) z.fields z.answers z.inside in
              let o = best t z.fields b z.answers (le_count (bound s) p (apart s).whole (micros_of z.fields) n (omega arith)) in
              omega (arith, count_le (bound s) p (apart s).whole (micros_of z.fields) (micros_of a) o);
          marked = ap (λ (x : Slip). x.mark) w;
        }
