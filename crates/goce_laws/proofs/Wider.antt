-- Fresh paper never changes an old date: of two accepted correlations equal but for a window that in the second is no narrower at
-- either end, the second, under a list that extends the first's, gives what the first gave, answer or refusal, but for 8 and 9. Assumes
-- nothing.
use mathlib.Core.Path.{◌≡◌, refl, ap, ◌∙◌}
use mathlib.Core.Bool.{Bool, true, false}
use mathlib.Core.List.{List}
use Prim.Native.Nat.{ℕ, ◌*◌, ◌/◌, ◌^◌, ◌≤◌, ◌<◌}
use native.Mathlib.Omega.{arith}
use lib.Dec.{ltb, lit<}
use lib.IntN.{ℤ, pos, ◌+ℤ◌, ◌*ℤ◌}
use borrow.Author.Tests.{not-true}
use Rattle.axis.specs.Meaning.{place_of_day, day_at, floor_z}
use Rattle.axis.specs.Axis.{place_day}
use Rattle.axis.specs.Diff.{sub_floor}
use Rattle.scales.specs.Meaning.{given, outcome, refused}
use Rattle.scales.specs.declared.Scale.TheVariants as S
use Rattle.handed.specs.declared.Handed.{Handed}
use Rattle.leap.specs.Meaning.{is_expired_day}
use Rattle.leap_laws.proofs.Kept.{Follows, kept}
use Rattle.clock.specs.Meaning as C
use Rattle.clock_laws.proofs.Wider as G
use Rattle.goce.specs.Meaning.{day_counts, reference, accepted, day_on, clock_of, dating, turning}
use Rattle.goce.specs.Accepted.{reference_place, sound, runs, based}
use Rattle.goce.specs.Places.{spot, shifted}
use Rattle.goce.specs.declared.Correlation.{Correlation}
use Rattle.goce_laws.proofs.Window.{widened}

-- the reference's day is on the axis
module _ (c : Correlation) (x : accepted c ≡ true) where
  pub day_is : day_on c ≡ day_at (spot c / 5662310400)
  day_is = ap (λ (z : ℤ). floor_z z day_counts) (reference_place c (sound c x).offset) ∙ sub_floor (spot c) 40000 5662310400 (lit< tt)

  pub day_on_lem : 0 < place_of_day (day_on c)
  day_on_lem =
      let s = sound c x in
      let n = place_day (spot c / 5662310400) (omega (arith, s.late)) in
      omega (arith, ap place_of_day day_is, n, s.offset.from)

-- list A is ds, os, e; list B is cs, ps, f
module _ (c : Correlation) (b a : ℕ) (l : c.back ≤ b) (m : c.ahead ≤ a) (x : accepted c ≡ true) (y : accepted (widened c b a) ≡ true)
    (ds : List ℤ) (os : List ℕ) (e : ℤ) (cs : List ℤ) (ps : List ℕ) (f : ℤ) (follows : Follows ds os e cs ps f) where
  -- a reference that is current under A starts the clock at the same instant under B
  start : C.is_current S.Utc e (day_on c) ≡ true → (clock_of c cs ps).start ≡ (clock_of c ds os).start
  start h =
      ap (λ (n : ℕ). (reference c +ℤ pos (n * 65536)) *ℤ pos 1000000000)
      ((kept ds os e cs ps f follows).offset (day_on c) (day_on_lem c x) (not-true (is_expired_day e (day_on c)) h))

  pub date_kept : (t : ℕ) (d : ℤ) (u : ℕ) → (outcome (dating c t d u ds os e) ≡ refused 8 → ⊥) → (outcome (dating c t d u ds os e) ≡ refused 9 → ⊥) →
      outcome (dating (widened c b a) t d u cs ps f) ≡ outcome (dating c t d u ds os e)
  date_kept t d u = go (ltb t (2 ^ 48))
    where
      go : (i : Bool) → let old = outcome (given i 3 (C.dating (accepted c) (clock_of c ds os) t d u ds os e)) in
          (old ≡ refused 8 → ⊥) → (old ≡ refused 9 → ⊥) →
          outcome (given i 3 (C.dating (accepted (widened c b a)) (clock_of (widened c b a) cs ps) t d u cs ps f)) ≡ old
      go true =
          G.date_kept (clock_of c ds os) (shifted c ds os * 1000000000) (based c x ds os) (clock_of c cs ps).start b a l m (runs (widened c b a) y cs ps) ds os e cs ps f
          (λ q. follows) start (accepted c) (accepted (widened c b a)) x y t d u
      go false = λ n8 n9. refl

  pub count_kept : (h : Handed) → (outcome (turning c h ds os e) ≡ refused 8 → ⊥) → (outcome (turning c h ds os e) ≡ refused 9 → ⊥) →
      outcome (turning (widened c b a) h cs ps f) ≡ outcome (turning c h ds os e)
  count_kept =
      G.count_kept (clock_of c ds os) (shifted c ds os * 1000000000) (based c x ds os) (clock_of c cs ps).start b a l m (runs (widened c b a) y cs ps) ds os e cs ps f
      (λ q. follows) start (accepted c) (accepted (widened c b a)) x y
