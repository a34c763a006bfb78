-- "Order and comparison of times ignore it": two handed records that differ in the mark alone get the same of every function, but for
-- H3 among the bytes of Proteus, and a change and a judging give the same number and time with the mark handed in. Assumes nothing.
use Rattle.std.specs.Prelude.{Float, ◌≡◌, refl, true, List, ℕ, ℤ, pos, Result}
use Rattle.scales.specs.Meaning.{remark, spanned_as, record_of, marked_record}
use Rattle.scales.specs.declared.Scale.{Scale}
use Rattle.scales.specs.declared.Scale.TheVariants as S
use Rattle.scales.specs.declared.Record.{Record}
use Rattle.scales.specs.declared.Mark.{Mark}
use Rattle.scales.specs.declared.Mark.TheVariants as M
use Rattle.handed.specs.declared.Handed.TheVariants as H
use Rattle.decimal.specs.Meaning.{WroteDay}
use Rattle.changes.specs.Meaning.{change_of}
use Rattle.leap_laws.proofs.Marks.{change_ignores, judged_ignores}
use Rattle.sbt.specs.Meaning.{tick_of}
use Rattle.sbt.specs.declared.Correlation as SbtDeclared
use Rattle.sbt_laws.proofs.Marks as SbtMarks
use Rattle.goce.specs.Meaning.{obt_of}
use Rattle.goce.specs.declared.Correlation as GoceDeclared
use Rattle.goce_laws.proofs.Marks as GoceMarks
use Rattle.layout_times.specs.Cuc as Cuc
use Rattle.layout_times.specs.Proteus as Proteus
use Rattle.layout_times.specs.Cryosat as Cryosat
use Rattle.layout_times.specs.Siral as Siral
use Rattle.layout_laws.specs.Meaning.{SameButH3}
use Rattle.layout_laws.proofs.Marks.{cuc_mark_ignored, cryosat_mark_ignored, siral_mark_ignored, proteus_mark_ignored}
use Rattle.text_write.specs.Meaning.{write_text}
use Rattle.text_write.specs.declared.Form.{Form}
use Rattle.scales.specs.declared.Refusal.{Refusal}

pub record MarkIgnored (m : Mark) (r : Record) : Type 0 where
  pub decimal : (x : Result Float Refusal) → WroteDay (H.Record r) x → WroteDay (H.Record (marked_record m r)) x
  pub text : (f : Form) (ds : List ℤ) (os : List ℕ) (e : ℤ) (out : List ℕ)
      → write_text (H.Record (marked_record m r)) f ds os e out ≡ write_text (H.Record r) f ds os e out
  pub cuc : (out : List ℕ) → Cuc.write (H.Record (marked_record m r)) out ≡ Cuc.write (H.Record r) out
  pub cryosat : (out : List ℕ) → Cryosat.write (H.Record (marked_record m r)) out ≡ Cryosat.write (H.Record r) out
  pub siral : (out : List ℕ) → Siral.write (H.Record (marked_record m r)) out ≡ Siral.write (H.Record r) out
  pub proteus : (out : List ℕ) → SameButH3 (Proteus.write (H.Record (marked_record m r)) out) (Proteus.write (H.Record r) out)
  pub tick : (c : SbtDeclared.Correlation) (ds : List ℤ) (os : List ℕ) (e : ℤ) → tick_of c (H.Record (marked_record m r)) ds os e ≡ tick_of c (H.Record r) ds os e
  pub count : (c : GoceDeclared.Correlation) (ds : List ℤ) (os : List ℕ) (e : ℤ) → obt_of c (H.Record (marked_record m r)) ds os e ≡ obt_of c (H.Record r) ds os e
  pub change : (to : Scale) (ds : List ℤ) (os : List ℕ) (e : ℤ)
      → change_of (H.Record (marked_record m r)) to ds os e ≡ remark m (change_of (H.Record r) to ds os e)
  pub judged : spanned_as m r.scale r.day r.micro ≡ remark m (spanned_as r.mark r.scale r.day r.micro)

pub mark_ignored : (m : Mark) (r : Record) → MarkIgnored m r
unfolding write_text
mark_ignored m r =
    record {
      decimal = λ x w. w;
      text = λ f ds os e out. refl;
      cuc = cuc_mark_ignored m r;
      cryosat = cryosat_mark_ignored m r;
      siral = siral_mark_ignored m r;
      proteus = proteus_mark_ignored m r;
      tick = λ c ds os e. SbtMarks.mark_ignored c ds os e m r;
      count = λ c ds os e. GoceMarks.mark_ignored c ds os e m r;
      change = λ to ds os e. change_ignores ds os e m r to;
      judged = judged_ignores m r;
    }

-- UTC day 0, plain and from Proteus with H3
pub mark_ignored_instance : MarkIgnored (M.Proteus true) (record_of S.Utc (pos 0) 0)
mark_ignored_instance = mark_ignored (M.Proteus true) (record_of S.Utc (pos 0) 0)
