-- Fresh paper never changes an old date: of two accepted correlations equal but for a window that in the second is no narrower at
-- either end, the second, under a list that extends the first's, gives what the first gave, answer or refusal, but for 8 and 9. A TAI or
-- GPS correlation looks at no list: there any two will do. Assumes nothing.
use mathlib.Core.Path.{◌≡◌, ap}
use mathlib.Core.Bool.{true}
use mathlib.Core.List.{List}
use Prim.Native.Nat.{ℕ, ◌*◌, ◌≤◌}
use native.Mathlib.Omega.{arith}
use lib.IntN.{ℤ, pos, ◌*ℤ◌}
use Rattle.scales.specs.Meaning.{outcome, refused}
use Rattle.handed.specs.declared.Handed.{Handed}
use Rattle.via_tai.specs.Meaning.{is_utc}
use Rattle.leap_laws.proofs.Kept.{Follows}
use Rattle.clock.specs.Meaning.{is_current}
use Rattle.clock_laws.proofs.Wider as G
use Rattle.sbt.specs.Meaning.{accepted, clock_of, dating, turning}
use Rattle.sbt.specs.Accepted.{sound, runs, based}
use Rattle.sbt.specs.Places.{shifted}
use Rattle.sbt.specs.declared.Correlation.{Correlation}
use Rattle.sbt_laws.proofs.Window.{widened}

-- list A is ds, os, e; list B is cs, ps, f
module _ (c : Correlation) (b a : ℕ) (l : c.back ≤ b) (m : c.ahead ≤ a) (x : accepted c ≡ true) (y : accepted (widened c b a) ≡ true)
    (ds : List ℤ) (os : List ℕ) (e : ℤ) (cs : List ℤ) (ps : List ℕ) (f : ℤ) (follows : is_utc c.scale ≡ true → Follows ds os e cs ps f) where
  -- a reference that is current under A starts the clock at the same instant under B
  start : is_current c.scale e c.day ≡ true → (clock_of c cs ps).start ≡ (clock_of c ds os).start
  start h =
      ap (λ (z : ℤ). z *ℤ pos 1000000)
      ((G.again (is_utc c.scale) ds os e cs ps f follows).instant c.day c.micro (omega (arith, (sound c x).day.from)) h)

  pub date_kept : (t : ℕ) (d : ℤ) (u : ℕ) → (outcome (dating c t d u ds os e) ≡ refused 8 → ⊥) → (outcome (dating c t d u ds os e) ≡ refused 9 → ⊥) →
      outcome (dating (widened c b a) t d u cs ps f) ≡ outcome (dating c t d u ds os e)
  date_kept =
      G.date_kept (clock_of c ds os) (shifted c ds os * 1000000) (based c x ds os) (clock_of c cs ps).start b a l m (runs (widened c b a) y cs ps) ds os e cs ps f
      follows start (accepted c) (accepted (widened c b a)) x y

  pub tick_kept : (h : Handed) → (outcome (turning c h ds os e) ≡ refused 8 → ⊥) → (outcome (turning c h ds os e) ≡ refused 9 → ⊥) →
      outcome (turning (widened c b a) h cs ps f) ≡ outcome (turning c h ds os e)
  tick_kept =
      G.count_kept (clock_of c ds os) (shifted c ds os * 1000000) (based c x ds os) (clock_of c cs ps).start b a l m (runs (widened c b a) y cs ps) ds os e cs ps f
      follows start (accepted c) (accepted (widened c b a)) x y
