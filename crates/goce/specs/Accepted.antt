-- The tests of acceptance, on the places, and what they tell together. Assumes nothing.
use Rattle.std.specs.Prelude.{◌≡◌, true, false, ◌&&◌, List, ℕ, ◌+◌, ◌*◌, ◌≤◌, ◌<◌, leb, ltb, ℤ, pos, ◌+ℤ◌, ◌*ℤ◌, Some, None}
use Rattle.std.proofs.Common.{sym, ap, ap₂, ◌∙◌, arith, lit<, lit≤}
use Rattle.std.specs.Int.Signed.{le_z, lt_z}
use borrow.Author.Tests.{leb-true, ltb-true, le-leb, lt-leb, lt-ltb, le-ltb}
use Rattle.axis.specs.Meaning.{place_of_counts, counts_at}
use Rattle.axis.specs.Axis.{counts_place, counts_from_lem, counts_to}
use Rattle.axis.specs.Diff.{Way, way, below, above, is_pos, sub_add, sub_mul, sub_le_same, sub_lt}
use Rattle.axis.specs.Shift.{number_add}
use Rattle.scales.specs.Meaning.{first, last}
use Rattle.scales.specs.Place.{and_both, and_false}
use Rattle.scales.specs.declared.Scale.TheVariants as S
use Rattle.leap.specs.Meaning.{offset_on}
use Rattle.clock.specs.Places.{Based}
use Rattle.clock.specs.Window.{Runs}
use Rattle.goce.specs.Meaning.{day_counts, in_limits, is_offset, reference, is_in_utc, accepted, day_on, clock_of}
use Rattle.goce.specs.Places.{spot, place_of, shifted}
use Rattle.goce.specs.declared.Correlation.{Correlation}

-- ---- Offset: within a day of the axis's day 0
pub offset_is : (o : ℤ) → is_offset o ≡ (leb 226486753689600 (place_of_counts o) && leb (place_of_counts o) 226498078310400)
offset_is o = ap₂ ◌&&◌ (counts_from_lem 226486753689600 o (lit< tt) (lit≤ tt)) (counts_to 226498078310400 o (lit< tt))

pub record Offset (o : ℤ) : Type 0 where
  pub from : 226486753689600 ≤ place_of_counts o
  pub to : place_of_counts o ≤ 226498078310400

pub offset : (o : ℤ) → is_offset o ≡ true → Offset o
offset o e =
    let v = and_both (leb 226486753689600 (place_of_counts o)) (leb (place_of_counts o) 226498078310400) (sym (offset_is o) ∙ e) in
    record { from = leb-true 226486753689600 (place_of_counts o) v.0; to = leb-true (place_of_counts o) 226498078310400 v.1 }

-- ---- the ends of the UTC span, in counts
from_first : (s : ℕ) → le_z (first S.Utc *ℤ pos day_counts) (counts_at s) ≡ leb 168583967539200 s
from_first s = sub_le_same 226492416000000 168583967539200 s

before_last : (s : ℕ) → lt_z (counts_at s) ((last S.Utc +ℤ pos 1) *ℤ pos day_counts) ≡ ltb s 433308303360000
before_last s = sub_lt s 226492416000000 433308303360000 226492416000000 ∙ same (way s 433308303360000)
  where
    same : Way s 433308303360000 → ltb (s + 226492416000000) (433308303360000 + 226492416000000) ≡ ltb s 433308303360000
    same (below h) = lt-ltb (s + 226492416000000) 659800719360000 (omega arith) ∙ sym (lt-ltb s 433308303360000 h)
    same (above h) = le-ltb (s + 226492416000000) 659800719360000 (omega arith) ∙ sym (le-ltb s 433308303360000 h)

-- ---- UTC0 plus Offset stands at their sum, and is never before day -1
module _ (c : Correlation) (n : Offset c.offset) where
  pub reference_place : reference c ≡ counts_at (spot c)
  reference_place =
      ap₂ ◌+ℤ◌ (is_pos c.utc0) (sym (counts_place c.offset (omega (arith, n.from)) (omega (arith, n.to))))
      ∙ sub_add c.utc0 0 (place_of_counts c.offset) 226492416000000

  pub span_is : is_in_utc (reference c) ≡ ltb (spot c) 433308303360000
  span_is =
      ap is_in_utc reference_place ∙ ap₂ ◌&&◌ (from_first (spot c)) (before_last (spot c)) ∙ rw (le-leb 168583967539200 (spot c) (omega (arith, n.from)))

-- ---- the ways out of `in_limits`, its first four tests at once, and of `reference_of`
pub window_left : (c : Correlation) → c.obt0 < 281474976710656 → c.utc0 < 281474976710656 → 999000000 ≤ c.gradient → c.gradient ≤ 1001000000 →
    in_limits c ≡ (leb c.back 140737488355328 && ltb c.ahead 140737488355328)
window_left c a b f g =
    rw (lt-ltb c.obt0 281474976710656 a, lt-ltb c.utc0 281474976710656 b, le-leb 999000000 c.gradient f, le-leb c.gradient 1001000000 g)

module _ (c : Correlation) where
  pub not_limited : in_limits c ≡ false → None ≡ place_of c
  unfolding accepted
  not_limited e = rw e

  module _ (l : in_limits c ≡ true) where
    pub utc_few : c.utc0 < 281474976710656
    utc_few = ltb-true c.utc0 281474976710656 (and_both (ltb c.utc0 281474976710656) _ (and_both (ltb c.obt0 281474976710656) _ l).1).0

    not_offset : is_offset c.offset ≡ false → None ≡ place_of c
    unfolding accepted
    not_offset e = rw (l, e)

    pub too_early : place_of_counts c.offset < 226486753689600 → None ≡ place_of c
    too_early h = not_offset (offset_is c.offset ∙ rw (lt-leb 226486753689600 (place_of_counts c.offset) h))

    module _ (f : 226486753689600 ≤ place_of_counts c.offset) where
      pub too_late : 226498078310400 < place_of_counts c.offset → None ≡ place_of c
      too_late h =
          not_offset (offset_is c.offset
          ∙ rw (lt-leb (place_of_counts c.offset) 226498078310400 h) (and_false (leb 226486753689600 (place_of_counts c.offset))))

      module _ (t : place_of_counts c.offset ≤ 226498078310400) where
        is_offset_lem : is_offset c.offset ≡ true
        is_offset_lem =
            offset_is c.offset
            ∙ rw (le-leb 226486753689600 (place_of_counts c.offset) f, le-leb (place_of_counts c.offset) 226498078310400 t)

        span_at : is_in_utc (reference c) ≡ ltb (spot c) 433308303360000
        span_at = span_is c (record { from = f; to = t })

        pub past_span : 433308303360000 ≤ spot c → None ≡ place_of c
        unfolding accepted
        past_span h = rw (l, is_offset_lem, span_at, le-ltb (spot c) 433308303360000 h)

        pub reference_is : spot c < 433308303360000 → Some (spot c) ≡ place_of c
        unfolding accepted
        reference_is h = rw (l, is_offset_lem, span_at, lt-ltb (spot c) 433308303360000 h)

-- ---- what acceptance tells
pub record Sound (c : Correlation) : Type 0 where
  pub counter : c.obt0 < 281474976710656
  pub offset : Offset c.offset
  pub late : spot c < 433308303360000
  pub slow : 999000000 ≤ c.gradient
  pub fast : c.gradient ≤ 1001000000
  pub back_to : c.back ≤ 140737488355328
  pub ahead_to : c.ahead < 140737488355328

pub sound : (c : Correlation) → accepted c ≡ true → Sound c
unfolding accepted
sound c e =
    let x = and_both (in_limits c) _ e in
    let y = and_both (is_offset c.offset) (is_in_utc (reference c)) x.1 in
    let n = offset c.offset y.0 in
    let a = and_both (ltb c.obt0 281474976710656) _ x.0 in
    let b = and_both (ltb c.utc0 281474976710656) _ a.1 in
    let f = and_both (leb 999000000 c.gradient) _ b.1 in
    let g = and_both (leb c.gradient 1001000000) _ f.1 in
    let h = and_both (leb c.back 140737488355328) (ltb c.ahead 140737488355328) g.1 in
    record {
      counter = ltb-true c.obt0 281474976710656 a.0;
      offset = n;
      late = ltb-true (spot c) 433308303360000 (sym (span_is c n) ∙ y.1);
      slow = leb-true 999000000 c.gradient f.0;
      fast = leb-true c.gradient 1001000000 g.0;
      back_to = leb-true c.back 140737488355328 h.0;
      ahead_to = ltb-true c.ahead 140737488355328 h.1;
    }

pub runs : (c : Correlation) → accepted c ≡ true → (ds : List ℤ) (os : List ℕ) → Runs (clock_of c ds os)
runs c e ds os =
    let s = sound c e in
    record { whole = lit< tt; fast = omega (arith, s.slow); back_to = s.back_to; ahead_to = s.ahead_to }

-- the clock stands on the axis, at the reference's place
pub based : (c : Correlation) → accepted c ≡ true → (ds : List ℤ) (os : List ℕ) → Based (clock_of c ds os) (shifted c ds os * 1000000000)
based c e ds os =
    let s = sound c e in
    let n = offset_on ds os (day_on c) * 65536 in
    record {
      runs = runs c e ds os;
      start =
          ap (λ (x : ℤ). x *ℤ pos 1000000000)
          (ap (λ (x : ℤ). x +ℤ pos n) (reference_place c s.offset) ∙ sym (number_add 226492416000000 (spot c) n))
          ∙ sub_mul (shifted c ds os) 226492416000000 1000000000;
      early = omega (arith, s.offset.from, s.fast);
    }
