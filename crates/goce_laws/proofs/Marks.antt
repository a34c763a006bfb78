-- The mark of a count's date, and of a time that is turned into a count. Assumes nothing.
use mathlib.Core.Path.{◌≡◌, refl, ap}
use mathlib.Core.Bool.{cond}
use mathlib.Core.List.{List}
use Prim.Native.Nat.{ℕ}
use lib.Dec.{eqb}
use lib.IntN.{ℤ}
use Rattle.axis.specs.Meaning.{Moment}
use Rattle.scales.specs.Meaning.{answer, outcome, dated_as, marked_record}
use Rattle.scales.specs.declared.Scale.TheVariants as S
use Rattle.scales.specs.declared.Record.{Record}
use Rattle.scales.specs.declared.Mark.{Mark}
use Rattle.scales.specs.declared.Mark.TheVariants as M
use Rattle.handed.specs.declared.Handed.TheVariants as H
use Rattle.clock_laws.proofs.Marks as G
use Rattle.goce.specs.Meaning.{clock_of, dating, date_of, obt_of}
use Rattle.goce.specs.declared.Correlation.{Correlation}

module _ (c : Correlation) (ds : List ℤ) (os : List ℕ) (e : ℤ) where
  -- an answered date has OBT0, and a refused one is plain
  pub correlated : (t : ℕ) (d : ℤ) (u : ℕ) →
      (date_of c t d u ds os e).mark ≡ cond (eqb (date_of c t d u ds os e).number 0) (M.Correlated c.obt0) M.Plain
  unfolding date_of
  correlated t d u = G.correlated (clock_of c ds os) (dating c t d u ds os e) refl

  pub marked_date : (t : ℕ) (d : ℤ) (u : ℕ) (m : Moment) → outcome (dating c t d u ds os e) ≡ answer m →
      date_of c t d u ds os e ≡ dated_as (M.Correlated c.obt0) S.Utc (answer m)
  unfolding date_of
  marked_date t d u m h = ap (dated_as (M.Correlated c.obt0) S.Utc) h

  -- two records that differ in the mark alone have one count, or one refusal
  pub mark_ignored : (m : Mark) (r : Record) → obt_of c (H.Record (marked_record m r)) ds os e ≡ obt_of c (H.Record r) ds os e
  unfolding obt_of
  mark_ignored m r = refl
