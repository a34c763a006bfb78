-- What an answer tells of an accepted correlation, both ways. Assumes nothing.
use mathlib.Core.Path.{◌≡◌}
use mathlib.Core.List.{List}
use Prim.Native.Nat.{ℕ, ◌*◌}
use lib.IntN.{ℤ}
use Rattle.axis.specs.Meaning.{Moment}
use Rattle.scales.specs.Meaning.{answer, outcome}
use Rattle.handed.specs.declared.Handed.{Handed}
use Rattle.clock.specs.Meaning.{instant, elapsed, time}
use Rattle.clock_laws.proofs.Answers as G
use Rattle.sbt.specs.Meaning.{accepted, clock_of, dating, turning}
use Rattle.sbt.specs.Accepted.{based}
use Rattle.sbt.specs.Places.{shifted}
use Rattle.sbt.specs.declared.Correlation.{Correlation}

-- ---- a date
module _ (c : Correlation) (t : ℕ) (d : ℤ) (u : ℕ) (ds : List ℤ) (os : List ℕ) (e : ℤ) (m : Moment)
    (h : outcome (dating c t d u ds os e) ≡ answer m) where
  pub dates : G.Dates (accepted c) (clock_of c ds os) t d u ds os e m
  dates = G.dates (accepted c) (clock_of c ds os) t d u ds os e m h

  -- its TAI is exactly time(k) under a UTC correlation, and its own count under the others
  pub exact : instant c.scale ds os m.day m.micro ≡ time (clock_of c ds os) (elapsed (clock_of c ds os) t)
  exact = G.exact (accepted c) (clock_of c ds os) (shifted c ds os * 1000000) (λ a. based c a ds os) t d u ds os e m h

-- ---- a tick
pub turns : (c : Correlation) (h : Handed) (ds : List ℤ) (os : List ℕ) (e : ℤ) (n : ℕ) → outcome (turning c h ds os e) ≡ answer n →
    G.Turns (accepted c) (clock_of c ds os) h ds os e n
turns c h ds os = G.turns (accepted c) (clock_of c ds os) h ds os
