-- The mark of a tick's date, and of a time that is turned into a tick. Assumes nothing.
use mathlib.Core.Path.{◌≡◌, refl, ap}
use mathlib.Core.Bool.{cond}
use mathlib.Core.List.{List}
use Prim.Native.Nat.{ℕ}
use lib.Dec.{eqb}
use lib.IntN.{ℤ}
use Rattle.axis.specs.Meaning.{Moment}
use Rattle.scales.specs.Meaning.{answer, outcome, dated_as, marked_record}
use Rattle.scales.specs.declared.Record.{Record}
use Rattle.scales.specs.declared.Mark.{Mark}
use Rattle.scales.specs.declared.Mark.TheVariants as M
use Rattle.handed.specs.declared.Handed.TheVariants as H
use Rattle.clock_laws.proofs.Marks as G
use Rattle.sbt.specs.Meaning.{clock_of, dating, date_of, tick_of}
use Rattle.sbt.specs.declared.Correlation.{Correlation}

module _ (c : Correlation) (ds : List ℤ) (os : List ℕ) (e : ℤ) where
  -- an answered date has the reference tick, and a refused one is plain
  pub correlated : (t : ℕ) (d : ℤ) (u : ℕ) →
      (date_of c t d u ds os e).mark ≡ cond (eqb (date_of c t d u ds os e).number 0) (M.Correlated c.tick.0) M.Plain
  unfolding date_of
  correlated t d u = G.correlated (clock_of c ds os) (dating c t d u ds os e) refl

  pub marked_date : (t : ℕ) (d : ℤ) (u : ℕ) (m : Moment) → outcome (dating c t d u ds os e) ≡ answer m →
      date_of c t d u ds os e ≡ dated_as (M.Correlated c.tick.0) c.scale (answer m)
  unfolding date_of
  marked_date t d u m h = ap (dated_as (M.Correlated c.tick.0) c.scale) h

  -- two records that differ in the mark alone have one tick, or one refusal
  pub mark_ignored : (m : Mark) (r : Record) → tick_of c (H.Record (marked_record m r)) ds os e ≡ tick_of c (H.Record r) ds os e
  unfolding tick_of
  mark_ignored m r = refl
