-- The tests of acceptance, one after the other, and what they tell together. Assumes nothing.
use Rattle.std.specs.Prelude.{◌≡◌, true, List, ℕ, ◌*◌, ◌≤◌, ◌<◌, leb, ltb, ℤ, pos, ◌*ℤ◌, None}
use Rattle.std.proofs.Common.{ap, ◌∙◌, arith, lit<}
use borrow.Author.Tests.{leb-true, ltb-true, le-leb, lt-leb}
use Rattle.axis.specs.Meaning.{day_micros}
use Rattle.axis.specs.Diff.{sub_mul}
use Rattle.scales.specs.Meaning.{in_span}
use Rattle.scales.specs.Place.{and_both}
use Rattle.sbt.specs.Meaning.{accepted, clock_of}
use Rattle.clock.specs.Places.{Based}
use Rattle.clock.specs.Stage.{place_in, Held, held, instant_place}
use Rattle.clock.specs.Window.{Runs}
use Rattle.sbt.specs.Places.{place_of, shifted}
use Rattle.sbt.specs.declared.Correlation.{Correlation}

-- ---- the tests of acceptance, one after the other
module _ (c : Correlation) where
  pub not_fast : c.period < 3906000000 → None ≡ place_of c
  unfolding accepted
  not_fast h = rw (lt-leb 3906000000 c.period h)

  module _ (f : 3906000000 ≤ c.period) where
    pub not_slow : 3906500000 < c.period → None ≡ place_of c
    unfolding accepted
    not_slow h = rw (le-leb 3906000000 c.period f, lt-leb c.period 3906500000 h)

    module _ (s : c.period ≤ 3906500000) where
      pub not_back : 2147483648 < c.back → None ≡ place_of c
      unfolding accepted
      not_back h = rw (le-leb 3906000000 c.period f, le-leb c.period 3906500000 s, lt-leb c.back 2147483648 h)

      module _ (b : c.back ≤ 2147483648) where
        pub not_ahead : 2147483647 < c.ahead → None ≡ place_of c
        unfolding accepted
        not_ahead h =
            rw (le-leb 3906000000 c.period f, le-leb c.period 3906500000 s, le-leb c.back 2147483648 b, lt-leb c.ahead 2147483647 h)

        pub reference_is : c.ahead ≤ 2147483647 → place_in c.scale c.day c.micro ≡ place_of c
        unfolding accepted
        reference_is h =
            rw (le-leb 3906000000 c.period f, le-leb c.period 3906500000 s, le-leb c.back 2147483648 b, le-leb c.ahead 2147483647 h)

pub record Sound (c : Correlation) : Type 0 where
  pub day : Held c.day
  pub under : c.micro < 86400000000
  pub fast : 3906000000 ≤ c.period
  pub slow : c.period ≤ 3906500000
  pub back_to : c.back ≤ 2147483648
  pub ahead_to : c.ahead ≤ 2147483647

pub sound : (c : Correlation) → accepted c ≡ true → Sound c
unfolding accepted
sound c e =
    let x = and_both (leb 3906000000 c.period) _ e in
    let y = and_both (leb c.period 3906500000) _ x.1 in
    let z = and_both (leb c.back 2147483648) _ y.1 in
    let v = and_both (leb c.ahead 2147483647) _ z.1 in
    let w = and_both (in_span c.scale c.day c.micro) (ltb c.micro day_micros) v.1 in
    record {
      day = held c.scale c.day c.micro w.0;
      under = ltb-true c.micro 86400000000 w.1;
      fast = leb-true 3906000000 c.period x.0;
      slow = leb-true c.period 3906500000 y.0;
      back_to = leb-true c.back 2147483648 z.0;
      ahead_to = leb-true c.ahead 2147483647 v.0;
    }

pub runs : (c : Correlation) → accepted c ≡ true → (ds : List ℤ) (os : List ℕ) → Runs (clock_of c ds os)
runs c e ds os =
    let s = sound c e in
    record { whole = lit< tt; fast = omega (arith, s.fast); back_to = s.back_to; ahead_to = omega (arith, s.ahead_to) }

-- the clock stands on the axis, at the reference's place
pub based : (c : Correlation) → accepted c ≡ true → (ds : List ℤ) (os : List ℕ) → Based (clock_of c ds os) (shifted c ds os * 1000000)
based c e ds os =
    let s = sound c e in
    record {
      runs = runs c e ds os;
      start =
          ap (λ (x : ℤ). x *ℤ pos 1000000) (instant_place c.scale c.day c.micro ds os s.day)
          ∙ sub_mul (shifted c ds os) 3456000000000000 1000000;
      early = omega (arith, s.day.from, s.slow);
    }
