-- The round trips. Where both ways are answered, a tick turned into a time and back is the same tick, second 60 included; a time turned
-- into a tick and back is never later, and at most 3,906 microseconds earlier, in TAI under a UTC correlation. They speak of the time,
-- whatever its mark; `Marks.antt` has a date's. Assumes nothing.
use mathlib.Core.Path.{◌≡◌}
use mathlib.Core.Bool.{true}
use mathlib.Core.List.{List}
use Prim.Native.Nat.{ℕ, ◌*◌, ◌<◌}
use native.Mathlib.Omega.{arith}
use lib.IntN.{ℤ, pos, ◌+ℤ◌}
use lib.Signed.{le_z}
use Rattle.axis.specs.Meaning.{Moment}
use Rattle.scales.specs.Meaning.{answer, outcome, record_of, marked_record}
use Rattle.scales.specs.declared.Mark.{Mark}
use Rattle.handed.specs.declared.Handed.{Handed}
use Rattle.handed.specs.declared.Handed.TheVariants as H
use Rattle.handed.specs.Meaning.{is_finite, is_in_span}
use Rattle.clock.specs.Meaning.{instant, instant_of}
use Rattle.clock.specs.Places.{Based}
use Rattle.clock_laws.proofs.Trips.{Stands}
use Rattle.clock_laws.proofs.Trips as G
use Rattle.sbt.specs.Meaning.{accepted, clock_of, dating, turning}
use Rattle.sbt.specs.Accepted.{sound, based}
use Rattle.sbt.specs.Places.{shifted}
use Rattle.sbt.specs.declared.Correlation.{Correlation}

module _ (c : Correlation) (ds : List ℤ) (os : List ℕ) (e : ℤ) where
  stands : accepted c ≡ true → Based (clock_of c ds os) (shifted c ds os * 1000000)
  stands a = based c a ds os

  module _ (t : ℕ) (d : ℤ) (u : ℕ) (m : Moment) (g : outcome (dating c t d u ds os e) ≡ answer m) where
    -- a time that stands for a tick's date and is finite and of its span is answered with that tick
    pub comes_back : (h : Handed) → Stands h c.scale m → t < 4294967296 → is_finite h ≡ true → is_in_span h ≡ true →
        outcome (turning c h ds os e) ≡ answer t
    comes_back = G.comes_back (accepted c) (clock_of c ds os) (shifted c ds os * 1000000) stands ds os e t d u m g

    -- wherever both ways are answered
    pub same_tick : (h : Handed) → Stands h c.scale m → t < 4294967296 → (n : ℕ) → outcome (turning c h ds os e) ≡ answer n → n ≡ t
    same_tick = G.same_count (accepted c) (clock_of c ds os) (shifted c ds os * 1000000) stands ds os e t d u m g

    -- the record of a date is answered always, with the date's own mark or any other
    pub record_back : (k : Mark) → t < 4294967296 →
        outcome (turning c (H.Record (marked_record k (record_of c.scale m.day m.micro))) ds os e) ≡ answer t
    record_back = G.record_back (accepted c) (clock_of c ds os) (shifted c ds os * 1000000) stands ds os e t d u m g

  module _ (h : Handed) (n : ℕ) (g : outcome (turning c h ds os e) ≡ answer n)
      (d : ℤ) (u : ℕ) (m : Moment) (f : outcome (dating c n d u ds os e) ≡ answer m) where
    pub never_later : le_z (instant c.scale ds os m.day m.micro) (instant_of c.scale ds os h) ≡ true
    never_later = G.never_later (accepted c) (clock_of c ds os) (shifted c ds os * 1000000) stands ds os e h n g d u m f

    pub little_earlier : le_z (instant_of c.scale ds os h) (instant c.scale ds os m.day m.micro +ℤ pos 3906) ≡ true
    little_earlier =
        G.little_earlier (accepted c) (clock_of c ds os) (shifted c ds os * 1000000) stands ds os e h n g d u m f 3906 (λ a. omega (arith, (sound c a).slow))
