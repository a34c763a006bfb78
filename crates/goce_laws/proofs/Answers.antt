-- What an answer tells of an accepted correlation, both ways. Assumes nothing.
use mathlib.Core.Path.{◌≡◌}
use mathlib.Core.List.{List}
use Prim.Native.Nat.{ℕ, ◌*◌, ◌^◌, ◌<◌}
use lib.Dec.{ltb}
use lib.IntN.{ℤ, pos, ◌+ℤ◌, ◌*ℤ◌}
use borrow.Author.Tests.{ltb-true}
use Rattle.axis.specs.Meaning.{floor_z, Moment}
use Rattle.scales.specs.Meaning.{answer, outcome}
use Rattle.scales.specs.Order.{passed}
use Rattle.handed.specs.declared.Handed.{Handed}
use Rattle.leap.specs.Meaning.{tai_of}
use Rattle.clock.specs.Meaning as C
use Rattle.clock_laws.proofs.Answers as G
use Rattle.goce.specs.Meaning.{accepted, tai_reference, clock_of, dating, turning}
use Rattle.goce.specs.Accepted.{based}
use Rattle.goce.specs.Places.{shifted}
use Rattle.goce.specs.declared.Correlation.{Correlation}

-- ---- a date: the count was one of 48 bits
module _ (c : Correlation) (t : ℕ) (d : ℤ) (u : ℕ) (ds : List ℤ) (os : List ℕ) (e : ℤ) (m : Moment)
    (h : outcome (dating c t d u ds os e) ≡ answer m) where
  pub few : t < 281474976710656
  few = ltb-true t 281474976710656 (passed (ltb t (2 ^ 48)) 3 (C.dating (accepted c) (clock_of c ds os) t d u ds os e) m h).0

  pub clocked : outcome (C.dating (accepted c) (clock_of c ds os) t d u ds os e) ≡ answer m
  clocked = (passed (ltb t (2 ^ 48)) 3 (C.dating (accepted c) (clock_of c ds os) t d u ds os e) m h).1

  pub dates : G.Dates (accepted c) (clock_of c ds os) t d u ds os e m
  dates = G.dates (accepted c) (clock_of c ds os) t d u ds os e m clocked

  -- "UTC = Gradient x (OBT - OBT0) + Offset + UTC0", "rounded down once to the microsecond": its TAI is, from the reference's TAI on
  pub exact : tai_of ds os m.day m.micro
      ≡ floor_z (tai_reference c ds os *ℤ pos 1000000000 +ℤ C.elapsed (clock_of c ds os) t *ℤ pos c.gradient) 65536000
  unfolding C.clock
  exact = G.exact (accepted c) (clock_of c ds os) (shifted c ds os * 1000000000) (λ a. based c a ds os) t d u ds os e m clocked

-- ---- a count
pub turns : (c : Correlation) (h : Handed) (ds : List ℤ) (os : List ℕ) (e : ℤ) (n : ℕ) → outcome (turning c h ds os e) ≡ answer n →
    G.Turns (accepted c) (clock_of c ds os) h ds os e n
turns c h ds os = G.turns (accepted c) (clock_of c ds os) h ds os
