-- The mark in a change: an answer has the one that was handed in, and the number and the time are the same whatever it is.
-- Assumes nothing.
use mathlib.Core.Path.{◌≡◌, refl, sym, ap}
use mathlib.Core.Bool.{true}
use mathlib.Core.List.{List}
use Prim.Native.Nat.{ℕ}
use lib.IntN.{ℤ, pos}
use Rattle.axis.specs.Meaning.{Moment}
use Rattle.scales.specs.Meaning.{Outcome, refused, answer, outcome, dated_as, remark, record_of, marked_record, spanned_as, spanning}
use Rattle.scales.specs.Order.{numbered}
use Rattle.scales.specs.Marks.{remarked}
use Rattle.scales.specs.declared.Scale.{Scale}
use Rattle.scales.specs.declared.Scale.TheVariants as S
use Rattle.scales.specs.declared.Record.{Record}
use Rattle.scales.specs.declared.Mark.{Mark}
use Rattle.scales.specs.declared.Mark.TheVariants as M
use Rattle.handed.specs.Meaning.{scale_of, mark_of, is_in_span, moment_in}
use Rattle.handed.specs.declared.Handed.{Handed}
use Rattle.handed.specs.declared.Handed.TheVariants as H
use Rattle.leap.specs.Meaning.{through, is_step, published_days, published_offsets, published_last}
use Rattle.leap.specs.Published.{published}
use Rattle.changes.specs.Meaning.{changing, change_of}
use Rattle.changes.specs.General.{moving_numbered}
use Rattle.changes.specs.Asked.{sound}

module _ (ds : List ℤ) (os : List ℕ) (e : ℤ) where
  changing_numbered : (h : Handed) (to : Scale) → numbered (changing h to ds os e) ≡ true
  changing_numbered h to = moving_numbered (scale_of h) to ds os e (is_in_span h) (moment_in h)

  -- "Scale changes keep the mark"
  pub keeps_mark : (h : Handed) (to : Scale) → (change_of h to ds os e).number ≡ 0 → (change_of h to ds os e).mark ≡ mark_of h
  unfolding change_of
  keeps_mark h to q = go (outcome (changing h to ds os e)) (sound (changing h to ds os e) (changing_numbered h to)) q
    where
      go : (o : Outcome Moment) → (o ≡ refused 0 → ⊥) → (dated_as (mark_of h) to o).number ≡ 0 → (dated_as (mark_of h) to o).mark ≡ mark_of h
      go (refused n) w p = absurd (w (ap refused p))
      go (answer t) w p = refl

  -- two records that differ in the mark alone change to the same number and time
  pub change_ignores : (m : Mark) (r : Record) (to : Scale) → change_of (H.Record (marked_record m r)) to ds os e ≡ remark m (change_of (H.Record r) to ds os e)
  unfolding change_of
  change_ignores m r to = sym (remarked m r.mark to (changing (H.Record r) to ds os e) (changing_numbered (H.Record r) to))

-- and are judged so
pub judged_ignores : (m : Mark) (r : Record) → spanned_as m r.scale r.day r.micro ≡ remark m (spanned_as r.mark r.scale r.day r.micro)
unfolding spanned_as
judged_ignores m r = sym (remarked m r.mark r.scale (spanning r.scale r.day r.micro) refl)

-- ---- a correlated record of the last second of 2016, changed to TAI
abbrev last_second : Record
last_second = marked_record (M.Correlated 9) (record_of S.Utc (pos 6209) 86400000000)

changed : change_of (H.Record last_second) S.Tai published_days published_offsets published_last ≡ dated_as (M.Correlated 9) S.Tai (answer (record { day = pos 6210; micro = 36000000 }))
unfolding change_of through is_step
changed = rw published

pub keeps_mark_instance : (change_of (H.Record last_second) S.Tai published_days published_offsets published_last).mark ≡ M.Correlated 9
keeps_mark_instance =
    keeps_mark published_days published_offsets published_last (H.Record last_second) S.Tai (λ i. (changed i).number)

-- the same with the mark of Proteus
pub change_ignores_instance : change_of (H.Record (marked_record (M.Proteus true) last_second)) S.Tai published_days published_offsets published_last
    ≡ remark (M.Proteus true) (change_of (H.Record last_second) S.Tai published_days published_offsets published_last)
change_ignores_instance = change_ignores published_days published_offsets published_last (M.Proteus true) last_second S.Tai
