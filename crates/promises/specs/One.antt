-- Demand 1 of every function that can refuse: "The first that applies in this order is given, never otherwise. Every refusal returns
-- its number, .. and lent memory keeps all its bytes." Assumes nothing.
use Rattle.std.specs.Prelude.{◌≡◌, refl, Bool, true, List, [], ◌∷◌, ◌++◌, ℕ, Float, ℤ, pos, length, drop, Result}
use Rattle.std.proofs.Common.{sym, ap, subst, ◌∙◌, drop_at}
use Rattle.axis.specs.Meaning.{Moment}
use Rattle.octets.specs.Meaning.{field}
use Rattle.scales.specs.Meaning.{Judged, Outcome, refused, answer, outcome, numbers, order, stands_in, Slip, dated_as, dated, spanning, spanned_as, Wrote, written, Valued, valued}
use Rattle.scales.specs.declared.Scale.{Scale}
use Rattle.scales.specs.declared.Scale.TheVariants as S
use Rattle.scales.specs.declared.Mark.{Mark}
use Rattle.scales.specs.declared.Mark.TheVariants as M
use Rattle.handed.specs.Meaning.{scale_of, mark_of, Took, taken_slip, taking}
use Rattle.handed.specs.Told.{taken_is}
use Rattle.handed.specs.declared.Handed.{Handed}
use Rattle.handed.specs.declared.Untaken.{Untaken}
use Rattle.scales.specs.declared.Time.{Time}
use Rattle.calendar.specs.Meaning as Calendar
use Rattle.calendar.specs.declared.Date.{Date}
use Rattle.double.specs.Meaning.{plus_zero}
use Rattle.decimal.specs.Meaning.{reading, read_of, writing, Allowed, WroteDay, decimal_slip}
use Rattle.changes.specs.Meaning as Changes
use Rattle.leap_laws.proofs.Order.{any}
use Rattle.clock.specs.Meaning as Clock
use Rattle.sbt.specs.Meaning as Sbt
use Rattle.sbt.specs.declared.Correlation.{Correlation}
use Rattle.goce.specs.Meaning as Goce
use Rattle.goce.specs.declared.Correlation as GoceDeclared
use Rattle.layout_fields.specs.Cuc as CucFields
use Rattle.layout_fields.specs.Goce as GoceFields
use Rattle.layout_fields.specs.Obet as ObetFields
use Rattle.layout_fields.specs.Proteus as ProteusFields
use Rattle.layout_fields.specs.Cryosat as CryosatFields
use Rattle.layout_fields.specs.Siral as SiralFields
use Rattle.layout_fields.specs.Sbt as SbtFields
use Rattle.layout_fields.specs.declared.cuc.Fields as CucDeclared
use Rattle.layout_fields.specs.declared.proteus.Fields as ProteusDeclared
use Rattle.layout_fields.specs.declared.cryosat.Fields as CryosatDeclared
use Rattle.layout_fields.specs.declared.siral.Fields as SiralDeclared
use Rattle.layout_times.specs.Cuc as Cuc
use Rattle.layout_times.specs.Proteus as Proteus
use Rattle.layout_times.specs.Cryosat as Cryosat
use Rattle.layout_times.specs.Siral as Siral
use Rattle.text_read.specs.Meaning as TextRead
use Rattle.text_write.specs.Meaning as TextWrite
use Rattle.text_write.specs.declared.Form.{Form}
use Rattle.lines.specs.Meaning.{refused_text, told, line_dating, answer_to}
use Rattle.lines_laws.specs.First.{line_judging, line_outcome, line_order}
use Rattle.promises.specs.Meaning.{tests, applies, first_of, Promise}
use Rattle.promises.specs.Conditions as C
use Rattle.promises.specs.Rows as Rows
use Rattle.promises.specs.Judging.{change_rows, list_rows, dating_rows, turning_rows, text_read_rows, text_write_rows, line_rows}
use Rattle.promises.specs.First.{number_in, order_clear, first_is, promised}
use Rattle.scales.specs.declared.Refusal.{Refusal}

-- ---- the kinds of answers
-- a time whose answer has a mark; a refusal's empty record is plain
abbrev pub Marked : Mark → Scale → Slip → Judged Moment → List (ℕ × Bool) → Type 0
Marked m s r j rows = Promise (dated_as m s) (λ (x : Slip). x.number) r j rows

marked : (m : Mark) (s : Scale) (j : Judged Moment) {rows : List (ℕ × Bool)} → tests j ≡ rows → stands_in (numbers j) order ≡ true → Marked m s (dated_as m s (outcome j)) j rows
marked m s j {rows} e r = promised (record { of_refusal = λ n. refl; of_answer = λ a. refl }) j e r

abbrev pub Times : Scale → Slip → Judged Moment → List (ℕ × Bool) → Type 0
Times s r j rows = Marked M.Plain s r j rows

times : (s : Scale) (j : Judged Moment) {rows : List (ℕ × Bool)} → tests j ≡ rows → stands_in (numbers j) order ≡ true → Times s (dated s (outcome j)) j rows
times s j {rows} e r = marked M.Plain s j e r

abbrev pub Writes : List ℕ → Wrote ℕ → Judged (List ℕ) → List (ℕ × Bool) → Type 0
Writes out r j rows = Promise (written out) (λ (x : Wrote ℕ). x.number) r j rows

pub writes : (out : List ℕ) (j : Judged (List ℕ)) {rows : List (ℕ × Bool)} → tests j ≡ rows → stands_in (numbers j) order ≡ true → Writes out (written out (outcome j)) j rows
writes out j {rows} e r = promised (record { of_refusal = λ n. refl; of_answer = λ a. refl }) j e r

abbrev pub Values : {A : Type 0} → A → Valued A → Judged A → List (ℕ × Bool) → Type 0
Values {A} zero r j rows = Promise (valued zero) (λ (x : Valued A). x.number) r j rows

pub values : {A : Type 0} (zero : A) (j : Judged A) {rows : List (ℕ × Bool)} → tests j ≡ rows → stands_in (numbers j) order ≡ true → Values zero (valued zero (outcome j)) j rows
values zero j {rows} e r = promised (record { of_refusal = λ n. refl; of_answer = λ a. refl }) j e r

-- "An answer returns 0"
pub answer_returns_0 : {A : Type 0} (s : Scale) (m : Moment) (out image : List ℕ) (zero a : A)
    → ((dated s (answer m)).number ≡ 0) × ((written out (answer image)).number ≡ 0) × ((valued zero (answer a)).number ≡ 0)
answer_returns_0 s m out image zero a = (refl, refl, refl)

-- "bytes after the written part stay"
pub rest_stays : (out image : List ℕ) → let w = written out (answer image) in drop w.length w.lent ≡ drop w.length out
rest_stays out image = drop_at image (drop (length image) out) (length image) refl

-- a decimal day that is written is allowed by a relation
pub record Allows (w : Valued Float) (j : Judged ℤ) (rows : List (ℕ × Bool)) : Type 0 where
  pub judges : tests j ≡ rows
  pub first : w.number ≡ first_of order (applies rows)
  pub empty : (w.number ≡ 0 → ⊥) → w.value ≡ plus_zero

pub allows : (j : Judged ℤ) {rows : List (ℕ × Bool)} → tests j ≡ rows → stands_in (numbers j) order ≡ true → (w : Valued Float) → Allowed (outcome j) w → Allows w j rows
allows j {rows} e r w q =
    record {
      judges = e;
      first = numbered (outcome j) q ∙ first_is order j order_clear r ∙ ap (λ (rs : List (ℕ × Bool)). first_of order (applies rs)) e;
      empty = bare (outcome j) q;
    }
  where
    numbered : (o : Outcome ℤ) → Allowed o w → w.number ≡ number_in o
    numbered (refused n) q = q.0
    numbered (answer z) q = q.0

    bare : (o : Outcome ℤ) → Allowed o w → (w.number ≡ 0 → ⊥) → w.value ≡ plus_zero
    bare (refused n) q k = q.1
    bare (answer z) q k = absurd (k q.0)

-- ---- records, dates, handed times and decimal days

pub record_judged_lem : (m : Mark) (s : Scale) (d : ℤ) (u : ℕ) → Marked m s (spanned_as m s d u) (spanning s d u) (Rows.record_judged s (record { day = d; micro = u }))
unfolding spanned_as
record_judged_lem m s d u = marked m s (spanning s d u) refl refl

pub date_of_lem : (d : ℤ) → Values Calendar.no_date (Calendar.date_of_day d) (Calendar.giving_date d) (Rows.date_of d)
unfolding Calendar.date_of_day
date_of_lem d = values Calendar.no_date (Calendar.giving_date d) refl refl

pub day_of_lem : (t : Date) → Values (pos 0) (Calendar.day_of_date t) (Calendar.giving_day t) (Rows.day_of t)
unfolding Calendar.day_of_date
day_of_lem t = values (pos 0) (Calendar.giving_day t) refl refl

-- what is taken apart, by the number and values of each case
pub take : (h : Handed) (t : Result Time Untaken) → Took h t → Times (scale_of h) (taken_slip t) (taking h) (Rows.take h)
take h t w = subst (λ (r : Slip). Times (scale_of h) r (taking h) (Rows.take h)) (sym (taken_is h t w)) (times (scale_of h) (taking h) refl refl)

pub decimal_read_lem : (x : Float) (s : Scale) → Times s (read_of x s) (reading x s) (Rows.decimal_read x s)
unfolding read_of
decimal_read_lem x s = times s (reading x s) refl refl

pub decimal_write_lem : (h : Handed) (r : Result Float Refusal) → WroteDay h r → Allows (decimal_slip r) (writing h) (Rows.decimal_write h)
decimal_write_lem h r q = allows (writing h) refl refl (decimal_slip r) q

-- ---- changes of scale

pub change : (h : Handed) (to : Scale) (ds : List ℤ) (os : List ℕ) (e : ℤ) → Marked (mark_of h) to (Changes.change_of h to ds os e) (Changes.changing h to ds os e) (Rows.change h to ds os e)
unfolding Changes.change_of
change h to ds os e = marked (mark_of h) to (Changes.changing h to ds os e) (change_rows ds os e h to) (any h to ds os e)

pub tai_to_gps_lem : (n : ℕ) → Times S.Gps (Changes.tai_to_gps n) (Changes.tai_in_gps n) (Rows.tai_to_gps n)
unfolding Changes.tai_to_gps
tai_to_gps_lem n = times S.Gps (Changes.tai_in_gps n) refl refl

pub gps_to_tai_lem : (n : ℕ) → Times S.Tai (Changes.gps_to_tai n) (Changes.gps_in_tai n) (Rows.gps_to_tai n)
unfolding Changes.gps_to_tai
gps_to_tai_lem n = times S.Tai (Changes.gps_in_tai n) refl refl

pub utc_to_tai_lem : (n : ℕ) (ds : List ℤ) (os : List ℕ) (e : ℤ) → Times S.Tai (Changes.utc_to_tai n ds os e) (Changes.with_list ds os e (Changes.utc_in_tai ds os e n)) (Rows.by_list S.Utc S.Tai n ds os e)
unfolding Changes.utc_to_tai
utc_to_tai_lem n ds os e = times S.Tai (Changes.with_list ds os e (Changes.utc_in_tai ds os e n)) (list_rows ds os e S.Utc S.Tai n) refl

pub utc_to_gps_lem : (n : ℕ) (ds : List ℤ) (os : List ℕ) (e : ℤ) → Times S.Gps (Changes.utc_to_gps n ds os e) (Changes.with_list ds os e (Changes.utc_in_gps ds os e n)) (Rows.by_list S.Utc S.Gps n ds os e)
unfolding Changes.utc_to_gps
utc_to_gps_lem n ds os e = times S.Gps (Changes.with_list ds os e (Changes.utc_in_gps ds os e n)) (list_rows ds os e S.Utc S.Gps n) refl

pub tai_to_utc_lem : (n : ℕ) (ds : List ℤ) (os : List ℕ) (e : ℤ) → Times S.Utc (Changes.tai_to_utc n ds os e) (Changes.with_list ds os e (Changes.tai_in_utc ds os e n)) (Rows.by_list S.Tai S.Utc n ds os e)
unfolding Changes.tai_to_utc
tai_to_utc_lem n ds os e = times S.Utc (Changes.with_list ds os e (Changes.tai_in_utc ds os e n)) (list_rows ds os e S.Tai S.Utc n) refl

pub gps_to_utc_lem : (n : ℕ) (ds : List ℤ) (os : List ℕ) (e : ℤ) → Times S.Utc (Changes.gps_to_utc n ds os e) (Changes.with_list ds os e (Changes.gps_in_utc ds os e n)) (Rows.by_list S.Gps S.Utc n ds os e)
unfolding Changes.gps_to_utc
gps_to_utc_lem n ds os e = times S.Utc (Changes.with_list ds os e (Changes.gps_in_utc ds os e n)) (list_rows ds os e S.Gps S.Utc n) refl

-- ---- SBT correlation

pub sbt_date_lem : (c : Correlation) (t : ℕ) (d : ℤ) (u : ℕ) (ds : List ℤ) (os : List ℕ) (e : ℤ) → Marked (Clock.mark_of (Sbt.clock_of c ds os)) c.scale (Sbt.date_of c t d u ds os e) (Sbt.dating c t d u ds os e) (Rows.sbt_date c t d u ds os e)
unfolding Sbt.date_of
sbt_date_lem c t d u ds os e = marked (Clock.mark_of (Sbt.clock_of c ds os)) c.scale (Sbt.dating c t d u ds os e) (dating_rows (Sbt.accepted c) (Sbt.clock_of c ds os) t d u ds os e) refl

pub sbt_tick_lem : (c : Correlation) (h : Handed) (ds : List ℤ) (os : List ℕ) (e : ℤ) → Values 0 (Sbt.tick_of c h ds os e) (Sbt.turning c h ds os e) (Rows.sbt_tick c h ds os e)
unfolding Sbt.tick_of
sbt_tick_lem c h ds os e = values 0 (Sbt.turning c h ds os e) (turning_rows (Sbt.accepted c) (Sbt.clock_of c ds os) h ds os e) refl

-- ---- GOCE's correlation

pub goce_date : (c : GoceDeclared.Correlation) (t : ℕ) (d : ℤ) (u : ℕ) (ds : List ℤ) (os : List ℕ) (e : ℤ) → Marked (Clock.mark_of (Goce.clock_of c ds os)) S.Utc (Goce.date_of c t d u ds os e) (Goce.dating c t d u ds os e) (Rows.goce_date c t d u ds os e)
unfolding Goce.date_of
goce_date c t d u ds os e =
    marked (Clock.mark_of (Goce.clock_of c ds os)) S.Utc (Goce.dating c t d u ds os e)
    (ap (λ (rs : List (ℕ × Bool)). (3, C.count_over 48 t) ∷ rs) (dating_rows (Goce.accepted c) (Goce.clock_of c ds os) t d u ds os e)) refl

pub goce_count : (c : GoceDeclared.Correlation) (h : Handed) (ds : List ℤ) (os : List ℕ) (e : ℤ) → Values 0 (Goce.obt_of c h ds os e) (Goce.turning c h ds os e) (Rows.goce_count c h ds os e)
unfolding Goce.obt_of
goce_count c h ds os e = values 0 (Goce.turning c h ds os e) (turning_rows (Goce.accepted c) (Goce.clock_of c ds os) h ds os e) refl

-- ---- bytes and fields

pub cuc_fields_read_lem : (s : List ℕ) → Values CucFields.empty (CucFields.read s) (CucFields.reading s) (Rows.cuc_fields_read s)
unfolding CucFields.read
cuc_fields_read_lem s = values CucFields.empty (CucFields.reading s) refl refl

pub cuc_fields_write_lem : (f : CucDeclared.Fields) (out : List ℕ) → Writes out (CucFields.write f out) (CucFields.writing f out) (Rows.cuc_fields_write out)
unfolding CucFields.write field
cuc_fields_write_lem f out = writes out (CucFields.writing f out) refl refl

pub goce_read_lem : (s : List ℕ) → Values 0 (GoceFields.read s) (GoceFields.reading s) (Rows.goce_read s)
unfolding GoceFields.read
goce_read_lem s = values 0 (GoceFields.reading s) refl refl

pub goce_write_lem : (f : ℕ) (out : List ℕ) → Writes out (GoceFields.write f out) (GoceFields.writing f out) (Rows.goce_write f out)
unfolding GoceFields.write field
goce_write_lem f out = writes out (GoceFields.writing f out) refl refl

pub obet_read_lem : (s : List ℕ) → Values 0 (ObetFields.read s) (ObetFields.reading s) (Rows.obet_read s)
unfolding ObetFields.read
obet_read_lem s = values 0 (ObetFields.reading s) refl refl

pub obet_write_lem : (f : ℕ) (out : List ℕ) → Writes out (ObetFields.write f out) (ObetFields.writing f out) (Rows.obet_write f out)
unfolding ObetFields.write field
obet_write_lem f out = writes out (ObetFields.writing f out) refl refl

pub proteus_fields_read_lem : (s : List ℕ) → Values ProteusFields.empty (ProteusFields.read s) (ProteusFields.reading s) (Rows.proteus_fields_read s)
unfolding ProteusFields.read
proteus_fields_read_lem s = values ProteusFields.empty (ProteusFields.reading s) refl refl

pub proteus_fields_write_lem : (f : ProteusDeclared.Fields) (out : List ℕ) → Writes out (ProteusFields.write f out) (ProteusFields.writing f out) (Rows.proteus_fields_write f out)
unfolding ProteusFields.write field
proteus_fields_write_lem f out = writes out (ProteusFields.writing f out) refl refl

pub cryosat_fields_read_lem : (s : List ℕ) → Values CryosatFields.empty (CryosatFields.read s) (CryosatFields.reading s) (Rows.cryosat_fields_read s)
unfolding CryosatFields.read
cryosat_fields_read_lem s = values CryosatFields.empty (CryosatFields.reading s) refl refl

pub cryosat_fields_write_lem : (f : CryosatDeclared.Fields) (out : List ℕ) → Writes out (CryosatFields.write f out) (CryosatFields.writing f out) (Rows.cryosat_fields_write f out)
unfolding CryosatFields.write field
cryosat_fields_write_lem f out = writes out (CryosatFields.writing f out) refl refl

pub siral_fields_read_lem : (s : List ℕ) → Values SiralFields.empty (SiralFields.read s) (SiralFields.reading s) (Rows.siral_fields_read s)
unfolding SiralFields.read
siral_fields_read_lem s = values SiralFields.empty (SiralFields.reading s) refl refl

pub siral_fields_write_lem : (f : SiralDeclared.Fields) (out : List ℕ) → Writes out (SiralFields.write f out) (SiralFields.writing f out) (Rows.siral_fields_write f out)
unfolding SiralFields.write field
siral_fields_write_lem f out = writes out (SiralFields.writing f out) refl refl

pub sbt_read_lem : (s : List ℕ) → Values 0 (SbtFields.read s) (SbtFields.reading s) (Rows.sbt_read s)
unfolding SbtFields.read
sbt_read_lem s = values 0 (SbtFields.reading s) refl refl

pub sbt_write_lem : (f : ℕ) (out : List ℕ) → Writes out (SbtFields.write f out) (SbtFields.writing f out) (Rows.sbt_write out)
unfolding SbtFields.write field
sbt_write_lem f out = writes out (SbtFields.writing f out) refl refl

-- ---- bytes and times

pub cuc_read_lem : (s : List ℕ) → Times S.Gps (Cuc.read s) (Cuc.reading s) (Rows.cuc_read s)
unfolding Cuc.read
cuc_read_lem s = times S.Gps (Cuc.reading s) refl refl

pub cuc_write_lem : (h : Handed) (out : List ℕ) → Writes out (Cuc.write h out) (Cuc.writing h out) (Rows.cuc_write h out)
unfolding Cuc.write field
cuc_write_lem h out = writes out (Cuc.writing h out) refl refl

pub cryosat_read_lem : (s : List ℕ) → Times S.Tai (Cryosat.read s) (Cryosat.reading s) (Rows.cryosat_read s)
unfolding Cryosat.read
cryosat_read_lem s = times S.Tai (Cryosat.reading s) refl refl

pub cryosat_write_lem : (h : Handed) (out : List ℕ) → Writes out (Cryosat.write h out) (Cryosat.writing h out) (Rows.cryosat_write h out)
unfolding Cryosat.write field
cryosat_write_lem h out = writes out (Cryosat.writing h out) refl refl

pub siral_read_lem : (s : List ℕ) → Times S.Tai (Siral.read s) (Siral.reading s) (Rows.siral_read s)
unfolding Siral.read
siral_read_lem s = times S.Tai (Siral.reading s) refl refl

pub siral_write_lem : (h : Handed) (out : List ℕ) → Writes out (Siral.write h out) (Siral.writing h out) (Rows.siral_write h out)
unfolding Siral.write field
siral_write_lem h out = writes out (Siral.writing h out) refl refl

pub proteus_read_lem : (s : List ℕ) → Marked (M.Proteus (ProteusFields.fields_of s).h3) S.Utc (Proteus.read s) (Proteus.reading s) (Rows.proteus_read s)
unfolding Proteus.read
proteus_read_lem s = marked (M.Proteus (ProteusFields.fields_of s).h3) S.Utc (Proteus.reading s) refl refl

pub proteus_write_lem : (h : Handed) (out : List ℕ) → Writes out (Proteus.write h out) (Proteus.writing h out) (Rows.proteus_write h out)
unfolding Proteus.write field
proteus_write_lem h out = writes out (Proteus.writing h out) refl refl

-- ---- texts

pub text_read_lem : (s : List ℕ) (ds : List ℤ) (os : List ℕ) (e : ℤ) → Promise (TextRead.dated_in (TextRead.scale_in s)) (λ (x : Slip). x.number) (TextRead.read_text s ds os e) (TextRead.reading s ds os e) (Rows.text_read s ds os e)
unfolding TextRead.read_text
text_read_lem s ds os e = promised (record { of_refusal = λ n. refl; of_answer = λ a. refl }) (TextRead.reading s ds os e) (text_read_rows ds os e s) refl

pub text_write_lem : (h : Handed) (f : Form) (ds : List ℤ) (os : List ℕ) (e : ℤ) (out : List ℕ) → Writes out (TextWrite.write_text h f ds os e out) (TextWrite.writing h f ds os e out) (Rows.text_write h f ds os e out)
unfolding TextWrite.write_text
text_write_lem h f ds os e out = writes out (TextWrite.writing h f ds os e out) (text_write_rows ds os e h f out) refl

-- ---- a line of the line program, under any list: what is printed for it is its answer, or `refused N` with the first that applies
pub record Line (ds : List ℤ) (os : List ℕ) (e : ℤ) (s : List ℕ) (rows : List (ℕ × Bool)) : Type 0 where
  pub judges : tests (line_judging ds os e s) ≡ rows
  pub first : number_in (outcome (line_dating ds os e s)) ≡ first_of order (applies rows)
  pub printed : (first_of order (applies rows) ≡ 0 → ⊥) → answer_to ds os e s ≡ refused_text (first_of order (applies rows)) ++ (10 ∷ [])

pub line : (ds : List ℤ) (os : List ℕ) (e : ℤ) (s : List ℕ) → Line ds os e s (Rows.line ds os e s)
unfolding answer_to
line ds os e s = record { judges = judges; first = number; printed = λ k. go (outcome (line_dating ds os e s)) number k }
  where
    judges : tests (line_judging ds os e s) ≡ Rows.line ds os e s
    judges = line_rows ds os e s

    number : number_in (outcome (line_dating ds os e s)) ≡ first_of order (applies (Rows.line ds os e s))
    number =
        ap number_in (sym (line_outcome ds os e s))
        ∙ first_is order (line_judging ds os e s) order_clear (line_order ds os e s)
        ∙ ap (λ (rs : List (ℕ × Bool)). first_of order (applies rs)) judges

    go : (o : Outcome Moment) {n : ℕ} → number_in o ≡ n → (n ≡ 0 → ⊥) → told o ++ (10 ∷ []) ≡ refused_text n ++ (10 ∷ [])
    go (refused m) q k = ap (λ (n : ℕ). refused_text n ++ (10 ∷ [])) q
    go (answer m) q k = absurd (k (sym q))
