-- The round trips. Where both ways are answered, a count turned into a time and back is the same count, second 60 included; a time turned
-- into a count and back is never later, and at most 15 microseconds earlier, in TAI. They speak of the time, whatever its mark;
-- `Marks.antt` has a date's. Assumes nothing.
use mathlib.Core.Path.{◌≡◌}
use mathlib.Core.Bool.{true}
use mathlib.Core.List.{List}
use Prim.Native.Nat.{ℕ, ◌*◌}
use native.Mathlib.Omega.{arith}
use lib.IntN.{ℤ, pos, ◌+ℤ◌}
use lib.Signed.{le_z}
use Rattle.axis.specs.Meaning.{Moment}
use Rattle.scales.specs.Meaning.{answer, outcome, record_of, marked_record}
use Rattle.scales.specs.declared.Scale.TheVariants as S
use Rattle.scales.specs.declared.Mark.{Mark}
use Rattle.handed.specs.declared.Handed.{Handed}
use Rattle.handed.specs.declared.Handed.TheVariants as H
use Rattle.handed.specs.Meaning.{is_finite, is_in_span, day_of, micro_of}
use Rattle.leap.specs.Meaning.{tai_of}
use Rattle.clock.specs.Places.{Based}
use Rattle.clock_laws.proofs.Trips.{Stands}
use Rattle.clock_laws.proofs.Trips as G
use Rattle.goce.specs.Meaning.{accepted, clock_of, dating, turning}
use Rattle.goce.specs.Accepted.{sound, based}
use Rattle.goce.specs.Places.{shifted}
use Rattle.goce.specs.declared.Correlation.{Correlation}
use Rattle.goce_laws.proofs.Answers.{few, clocked}

module _ (c : Correlation) (ds : List ℤ) (os : List ℕ) (e : ℤ) where
  stands : accepted c ≡ true → Based (clock_of c ds os) (shifted c ds os * 1000000000)
  stands a = based c a ds os

  module _ (t : ℕ) (d : ℤ) (u : ℕ) (m : Moment) (g : outcome (dating c t d u ds os e) ≡ answer m) where
    -- a time that stands for a count's date and is finite and of its span is answered with that count
    pub comes_back : (h : Handed) → Stands h S.Utc m → is_finite h ≡ true → is_in_span h ≡ true → outcome (turning c h ds os e) ≡ answer t
    comes_back h s =
        G.comes_back (accepted c) (clock_of c ds os) (shifted c ds os * 1000000000) stands ds os e t d u m (clocked c t d u ds os e m g) h s
        (few c t d u ds os e m g)

    -- wherever both ways are answered
    pub same_count : (h : Handed) → Stands h S.Utc m → (n : ℕ) → outcome (turning c h ds os e) ≡ answer n → n ≡ t
    same_count h s =
        G.same_count (accepted c) (clock_of c ds os) (shifted c ds os * 1000000000) stands ds os e t d u m (clocked c t d u ds os e m g) h s
        (few c t d u ds os e m g)

    -- the record of a date is answered always, with the date's own mark or any other
    pub record_back : (k : Mark) → outcome (turning c (H.Record (marked_record k (record_of S.Utc m.day m.micro))) ds os e) ≡ answer t
    record_back k =
        G.record_back (accepted c) (clock_of c ds os) (shifted c ds os * 1000000000) stands ds os e t d u m (clocked c t d u ds os e m g) k
        (few c t d u ds os e m g)

  module _ (h : Handed) (n : ℕ) (g : outcome (turning c h ds os e) ≡ answer n)
      (d : ℤ) (u : ℕ) (m : Moment) (f : outcome (dating c n d u ds os e) ≡ answer m) where
    pub never_later : le_z (tai_of ds os m.day m.micro) (tai_of ds os (day_of h) (micro_of h)) ≡ true
    never_later =
        G.never_later (accepted c) (clock_of c ds os) (shifted c ds os * 1000000000) stands ds os e h n g d u m (clocked c n d u ds os e m f)

    pub little_earlier : le_z (tai_of ds os (day_of h) (micro_of h)) (tai_of ds os m.day m.micro +ℤ pos 15) ≡ true
    little_earlier =
        G.little_earlier (accepted c) (clock_of c ds os) (shifted c ds os * 1000000000) stands ds os e h n g d u m (clocked c n d u ds os e m f) 15
        (λ a. omega (arith, (sound c a).fast))
