-- Demand 1 of every function for C: the library's rows, behind a 3 for a code that stands for nothing. Assumes nothing.
use Rattle.std.specs.Prelude.{◌≡◌, refl, Bool, true, not, ◌&&◌, List, [], ◌∷◌, ℕ, leb, ltb, Float, ℤ}
use Rattle.std.proofs.Common.{ap}
use Rattle.axis.specs.Meaning.{Moment}
use Rattle.octets.specs.Meaning.{field}
use Rattle.scales.specs.Meaning.{scale_at, Judged, given, Outcome, answer, outcome, numbers, order, stands_in, dated_as, dated, valued}
use Rattle.scales.specs.declared.Scale.{Scale}
use Rattle.scales.specs.declared.Scale.TheVariants as S
use Rattle.scales.specs.declared.Mark.{Mark}
use Rattle.scales.specs.declared.Mark.TheVariants as M
use Rattle.handed.specs.Meaning.{mark_of}
use Rattle.decimal.specs.Meaning as Decimal
use Rattle.changes.specs.Meaning as Changes
use Rattle.leap_laws.proofs.Order.{any}
use Rattle.clock.specs.Meaning as Clock
use Rattle.sbt.specs.Meaning as Sbt
use Rattle.goce.specs.Meaning as Goce
use Rattle.layout_fields.specs.Cuc as CucFields
use Rattle.layout_fields.specs.Goce as GoceFields
use Rattle.layout_fields.specs.Obet as ObetFields
use Rattle.layout_fields.specs.Proteus as ProteusFields
use Rattle.layout_fields.specs.Cryosat as CryosatFields
use Rattle.layout_fields.specs.Siral as SiralFields
use Rattle.layout_fields.specs.Sbt as SbtFields
use Rattle.layout_times.specs.Cuc as Cuc
use Rattle.layout_times.specs.Proteus as Proteus
use Rattle.layout_times.specs.Cryosat as Cryosat
use Rattle.layout_times.specs.Siral as Siral
use Rattle.text_read.specs.Meaning as TextRead
use Rattle.c_api.specs.Meaning as CApi
use Rattle.c_api.specs.Bytes as Bytes
use Rattle.c_api.specs.Counts as CountsForC
use Rattle.c_api.specs.Parts as Parts
use Rattle.c_api.specs.Texts as Texts
use Rattle.c_api.specs.declared.VrkHanded.{VrkHanded}
use Rattle.c_api.specs.declared.VrkTime.{VrkTime}
use Rattle.c_api.specs.declared.VrkCount.{VrkCount}
use Rattle.c_api.specs.declared.VrkDecimal.{VrkDecimal}
use Rattle.c_api.specs.declared.VrkSbtCorrelation.{VrkSbtCorrelation}
use Rattle.c_api.specs.declared.counts.VrkGoceCorrelation.{VrkGoceCorrelation}
use Rattle.c_api.specs.declared.parts.VrkCucFields.{VrkCucFields}
use Rattle.c_api.specs.declared.parts.VrkProteusFields.{VrkProteusFields}
use Rattle.c_api.specs.declared.parts.VrkCryosatFields.{VrkCryosatFields}
use Rattle.c_api.specs.declared.parts.VrkSiralFields.{VrkSiralFields}
use Rattle.text_write.specs.Meaning.{writing}
use Rattle.promises.specs.Meaning.{tests, Promise}
use Rattle.promises.specs.First.{promised}
use Rattle.promises.specs.Conditions as C
use Rattle.promises.specs.Rows as Rows
use Rattle.promises.specs.Judging.{not_both, not_all, change_rows}
use Rattle.promises.specs.One.{Writes, writes, Allows, allows}
use Rattle.promises.specs.One as One

-- ---- the kinds of answers
-- a time whose answer has a mark; a refusal's empty record is plain
abbrev pub Marked : Mark → Scale → VrkTime → Judged Moment → List (ℕ × Bool) → Type 0
Marked m s r j rows = Promise (λ (o : Outcome Moment). CApi.time_out (dated_as m s o)) (λ (x : VrkTime). x.refusal) r j rows

marked : (m : Mark) (s : Scale) (j : Judged Moment) {rows : List (ℕ × Bool)} → tests j ≡ rows → stands_in (numbers j) order ≡ true → Marked m s (CApi.time_out (dated_as m s (outcome j))) j rows
marked m s j {rows} e r = promised (record { of_refusal = λ n. refl; of_answer = λ a. refl }) j e r

abbrev pub Times : Scale → VrkTime → Judged Moment → List (ℕ × Bool) → Type 0
Times s r j rows = Marked M.Plain s r j rows

times : (s : Scale) (j : Judged Moment) {rows : List (ℕ × Bool)} → tests j ≡ rows → stands_in (numbers j) order ≡ true → Times s (CApi.time_out (dated s (outcome j))) j rows
times s j {rows} e r = marked M.Plain s j e r

abbrev pub Counts : VrkCount → Judged ℕ → List (ℕ × Bool) → Type 0
Counts r j rows = Promise (λ (o : Outcome ℕ). CApi.count_out (valued 0 o)) (λ (x : VrkCount). x.refusal) r j rows

counts : (j : Judged ℕ) {rows : List (ℕ × Bool)} → tests j ≡ rows → stands_in (numbers j) order ≡ true → Counts (CApi.count_out (valued 0 (outcome j))) j rows
counts j {rows} e r = promised (record { of_refusal = λ n. refl; of_answer = λ a. refl }) j e r

-- "An answer returns 0"
pub answer_returns_0_for_c : (s : Scale) (m : Moment) (n : ℕ) → ((CApi.time_out (dated s (answer m))).refusal ≡ 0) × ((CApi.count_out (valued 0 (answer n))).refusal ≡ 0)
answer_returns_0_for_c s m n = (refl, refl)

-- a code that stands for nothing, in front of what the library judges
in_front : {A : Type 0} (b : Bool) (j : Judged A) {rows : List (ℕ × Bool)} → tests j ≡ rows → tests (given b 3 j) ≡ (3, not b) ∷ rows
in_front b j e = ap (λ (rs : List (ℕ × Bool)). (3, not b) ∷ rs) e

pub decimal_read_lem : (x : Float) (c : ℕ) → Times (scale_at c) (CApi.decimal_read x c) (given (CApi.known_scale c) 3 (Decimal.reading x (scale_at c)))
    ((3, C.scale_unknown c) ∷ Rows.decimal_read x (scale_at c))
unfolding CApi.decimal_read
decimal_read_lem x c = times (scale_at c) (given (CApi.known_scale c) 3 (Decimal.reading x (scale_at c))) refl refl

pub decimal_write_lem : (h : VrkHanded) (r : VrkDecimal) → CApi.DecimalWrote h r
    → Allows (record { number = r.refusal; value = r.day }) (given (CApi.known h) 3 (Decimal.writing (CApi.handed_of h))) ((3, C.handed_unknown h) ∷ Rows.decimal_write (CApi.handed_of h))
unfolding CApi.DecimalWrote
decimal_write_lem h r q = allows (given (CApi.known h) 3 (Decimal.writing (CApi.handed_of h))) refl refl (record { number = r.refusal; value = r.day }) q

pub change : (h : VrkHanded) (c : ℕ) (ds : List ℤ) (os : List ℕ) (e : ℤ) → Marked (mark_of (CApi.handed_of h)) (scale_at c) (CApi.changed h c ds os e) (CApi.changing_of h c ds os e)
    ((3, C.change_unknown c h) ∷ Rows.change (CApi.handed_of h) (scale_at c) ds os e)
unfolding CApi.changed
change h c ds os e = marked (mark_of (CApi.handed_of h)) (scale_at c) (CApi.changing_of h c ds os e) (in_front (CApi.known_scale c && CApi.known h) (Changes.changing (CApi.handed_of h) (scale_at c) ds os e) (change_rows ds os e (CApi.handed_of h) (scale_at c)))
    (any (CApi.handed_of h) (scale_at c) ds os e)

pub sbt_date_lem : (t : ℕ) (c : VrkSbtCorrelation) (d : ℤ) (u : ℕ) (ds : List ℤ) (os : List ℕ) (e : ℤ) →
    Marked (Clock.mark_of (Sbt.clock_of (CApi.correlation_of c) ds os)) (CApi.correlation_of c).scale (CApi.sbt_date t c d u ds os e) (Sbt.dating (CApi.correlation_of c) t d u ds os e)
    (Rows.sbt_date (CApi.correlation_of c) t d u ds os e)
unfolding CApi.sbt_date Sbt.date_of
sbt_date_lem t c d u ds os e =
    marked (Clock.mark_of (Sbt.clock_of (CApi.correlation_of c) ds os)) (CApi.correlation_of c).scale (Sbt.dating (CApi.correlation_of c) t d u ds os e) (One.sbt_date_lem (CApi.correlation_of c) t d u ds os e).judges refl

pub sbt_tick_lem : (h : VrkHanded) (c : VrkSbtCorrelation) (ds : List ℤ) (os : List ℕ) (e : ℤ) →
    Counts (CApi.sbt_tick h c ds os e) (given (CApi.known h) 3 (Sbt.turning (CApi.correlation_of c) (CApi.handed_of h) ds os e))
    ((3, C.handed_unknown h) ∷ Rows.sbt_tick (CApi.correlation_of c) (CApi.handed_of h) ds os e)
unfolding CApi.sbt_tick
sbt_tick_lem h c ds os e =
    let j = Sbt.turning (CApi.correlation_of c) (CApi.handed_of h) ds os e in
    counts (given (CApi.known h) 3 j) (in_front (CApi.known h) j (One.sbt_tick_lem (CApi.correlation_of c) (CApi.handed_of h) ds os e).judges) refl

pub goce_date : (t : ℕ) (c : VrkGoceCorrelation) (d : ℤ) (u : ℕ) (ds : List ℤ) (os : List ℕ) (e : ℤ) →
    Marked (Clock.mark_of (Goce.clock_of (CountsForC.goce_of c) ds os)) S.Utc (CountsForC.goce_date t c d u ds os e) (Goce.dating (CountsForC.goce_of c) t d u ds os e) (Rows.goce_date (CountsForC.goce_of c) t d u ds os e)
unfolding CountsForC.goce_date Goce.date_of
goce_date t c d u ds os e = marked (Clock.mark_of (Goce.clock_of (CountsForC.goce_of c) ds os)) S.Utc (Goce.dating (CountsForC.goce_of c) t d u ds os e) (One.goce_date (CountsForC.goce_of c) t d u ds os e).judges refl

pub goce_count : (h : VrkHanded) (c : VrkGoceCorrelation) (ds : List ℤ) (os : List ℕ) (e : ℤ) →
    Counts (CountsForC.goce_count h c ds os e) (given (CApi.known h) 3 (Goce.turning (CountsForC.goce_of c) (CApi.handed_of h) ds os e))
    ((3, C.handed_unknown h) ∷ Rows.goce_count (CountsForC.goce_of c) (CApi.handed_of h) ds os e)
unfolding CountsForC.goce_count
goce_count h c ds os e =
    let j = Goce.turning (CountsForC.goce_of c) (CApi.handed_of h) ds os e in
    counts (given (CApi.known h) 3 j) (in_front (CApi.known h) j (One.goce_count (CountsForC.goce_of c) (CApi.handed_of h) ds os e).judges) refl

pub cuc_read_lem : (s : List ℕ) → Times S.Gps (CApi.time_out (Cuc.read s)) (Cuc.reading s)
    (Rows.cuc_read s)
unfolding Cuc.read
cuc_read_lem s = times S.Gps (Cuc.reading s) refl refl

pub cuc_write_lem : (h : VrkHanded) (out : List ℕ) → Writes out (Bytes.writes (Bytes.handed_writing Cuc.writing h) out) (Bytes.handed_writing Cuc.writing h out)
    ((3, C.handed_unknown h) ∷ Rows.cuc_write (CApi.handed_of h) out)
unfolding Bytes.writes field
cuc_write_lem h out = writes out (Bytes.handed_writing Cuc.writing h out) refl refl

pub cryosat_read_lem : (s : List ℕ) → Times S.Tai (CApi.time_out (Cryosat.read s)) (Cryosat.reading s)
    (Rows.cryosat_read s)
unfolding Cryosat.read
cryosat_read_lem s = times S.Tai (Cryosat.reading s) refl refl

pub cryosat_write_lem : (h : VrkHanded) (out : List ℕ) → Writes out (Bytes.writes (Bytes.handed_writing Cryosat.writing h) out) (Bytes.handed_writing Cryosat.writing h out)
    ((3, C.handed_unknown h) ∷ Rows.cryosat_write (CApi.handed_of h) out)
unfolding Bytes.writes field
cryosat_write_lem h out = writes out (Bytes.handed_writing Cryosat.writing h out) refl refl

pub siral_read_lem : (s : List ℕ) → Times S.Tai (CApi.time_out (Siral.read s)) (Siral.reading s)
    (Rows.siral_read s)
unfolding Siral.read
siral_read_lem s = times S.Tai (Siral.reading s) refl refl

pub siral_write_lem : (h : VrkHanded) (out : List ℕ) → Writes out (Bytes.writes (Bytes.handed_writing Siral.writing h) out) (Bytes.handed_writing Siral.writing h out)
    ((3, C.handed_unknown h) ∷ Rows.siral_write (CApi.handed_of h) out)
unfolding Bytes.writes field
siral_write_lem h out = writes out (Bytes.handed_writing Siral.writing h out) refl refl

pub proteus_read_lem : (s : List ℕ) → Marked (M.Proteus (ProteusFields.fields_of s).h3) S.Utc (CApi.time_out (Proteus.read s)) (Proteus.reading s)
    (Rows.proteus_read s)
unfolding Proteus.read
proteus_read_lem s = marked (M.Proteus (ProteusFields.fields_of s).h3) S.Utc (Proteus.reading s) refl refl

pub proteus_write_lem : (h : VrkHanded) (out : List ℕ) → Writes out (Bytes.writes (Bytes.handed_writing Proteus.writing h) out) (Bytes.handed_writing Proteus.writing h out)
    ((3, C.handed_unknown h) ∷ Rows.proteus_write (CApi.handed_of h) out)
unfolding Bytes.writes field
proteus_write_lem h out = writes out (Bytes.handed_writing Proteus.writing h out) refl refl

pub goce_read_lem : (s : List ℕ) → Counts (CApi.count_out (GoceFields.read s)) (GoceFields.reading s)
    (Rows.goce_read s)
unfolding GoceFields.read
goce_read_lem s = counts (GoceFields.reading s) refl refl

pub obet_read_lem : (s : List ℕ) → Counts (CApi.count_out (ObetFields.read s)) (ObetFields.reading s)
    (Rows.obet_read s)
unfolding ObetFields.read
obet_read_lem s = counts (ObetFields.reading s) refl refl

pub sbt_read_lem : (s : List ℕ) → Counts (CApi.count_out (SbtFields.read s)) (SbtFields.reading s)
    (Rows.sbt_read s)
unfolding SbtFields.read
sbt_read_lem s = counts (SbtFields.reading s) refl refl

pub cuc_fields_read_lem : (s : List ℕ) → Promise (λ (o : Outcome _). Parts.cuc_fields (valued CucFields.empty o)) (λ (x : VrkCucFields). x.refusal) (Parts.cuc_fields (CucFields.read s)) (CucFields.reading s)
    (Rows.cuc_fields_read s)
unfolding CucFields.read
cuc_fields_read_lem s = promised (record { of_refusal = λ n. refl; of_answer = λ a. refl }) (CucFields.reading s) refl refl

pub cuc_fields_write_lem : (seconds fraction : ℕ) (out : List ℕ) → Writes out (Bytes.writes (Parts.cuc_fields_writing seconds fraction) out) (Parts.cuc_fields_writing seconds fraction out)
    ((3, C.too_wide fraction) ∷ Rows.cuc_fields_write out)
unfolding Bytes.writes field
cuc_fields_write_lem seconds fraction out = writes out (Parts.cuc_fields_writing seconds fraction out) refl refl

pub proteus_fields_read_lem : (s : List ℕ) → Promise (λ (o : Outcome _). Parts.proteus_fields (valued ProteusFields.empty o)) (λ (x : VrkProteusFields). x.refusal) (Parts.proteus_fields (ProteusFields.read s)) (ProteusFields.reading s)
    (Rows.proteus_fields_read s)
unfolding ProteusFields.read
proteus_fields_read_lem s = promised (record { of_refusal = λ n. refl; of_answer = λ a. refl }) (ProteusFields.reading s) refl refl

pub proteus_fields_write_lem : (week h3 second fraction : ℕ) (out : List ℕ) → Writes out (Bytes.writes (Parts.proteus_fields_writing week h3 second fraction) out) (Parts.proteus_fields_writing week h3 second fraction out)
    ((3, C.proteus_too_wide week h3 fraction) ∷ (3, C.week_over week second) ∷ (13, C.output_shorter 8 out) ∷ [])
unfolding Bytes.writes field
proteus_fields_write_lem week h3 second fraction out = writes out (Parts.proteus_fields_writing week h3 second fraction out)
    (ap (λ (b : Bool). (3, b) ∷ (3, C.week_over week second) ∷ (13, C.output_shorter 8 out) ∷ []) (not_all (ltb week 65536) (leb h3 1) (ltb fraction 65536))) refl

pub cryosat_fields_read_lem : (s : List ℕ) → Promise (λ (o : Outcome _). Parts.cryosat_fields (valued CryosatFields.empty o)) (λ (x : VrkCryosatFields). x.refusal) (Parts.cryosat_fields (CryosatFields.read s)) (CryosatFields.reading s)
    (Rows.cryosat_fields_read s)
unfolding CryosatFields.read
cryosat_fields_read_lem s = promised (record { of_refusal = λ n. refl; of_answer = λ a. refl }) (CryosatFields.reading s) refl refl

pub cryosat_fields_write_lem : (day millisecond microsecond : ℕ) (out : List ℕ) → Writes out (Bytes.writes (Parts.cryosat_fields_writing day millisecond microsecond) out) (Parts.cryosat_fields_writing day millisecond microsecond out)
    ((3, C.cryosat_too_wide day microsecond) ∷ (3, C.day_time_over millisecond microsecond) ∷ (13, C.output_shorter 8 out) ∷ [])
unfolding Bytes.writes field
cryosat_fields_write_lem day millisecond microsecond out = writes out (Parts.cryosat_fields_writing day millisecond microsecond out)
    (ap (λ (b : Bool). (3, b) ∷ (3, C.day_time_over millisecond microsecond) ∷ (13, C.output_shorter 8 out) ∷ []) (not_both (ltb day 65536) (ltb microsecond 65536))) refl

pub siral_fields_read_lem : (s : List ℕ) → Promise (λ (o : Outcome _). Parts.siral_fields (valued SiralFields.empty o)) (λ (x : VrkSiralFields). x.refusal) (Parts.siral_fields (SiralFields.read s)) (SiralFields.reading s)
    (Rows.siral_fields_read s)
unfolding SiralFields.read
siral_fields_read_lem s = promised (record { of_refusal = λ n. refl; of_answer = λ a. refl }) (SiralFields.reading s) refl refl

pub siral_fields_write_lem : (day millisecond microsecond extra : ℕ) (out : List ℕ) → Writes out (Bytes.writes (Parts.siral_fields_writing day millisecond microsecond extra) out) (Parts.siral_fields_writing day millisecond microsecond extra out)
    ((3, C.siral_too_wide day microsecond extra) ∷ (3, C.day_time_over millisecond microsecond) ∷ (13, C.output_shorter 10 out) ∷ [])
unfolding Bytes.writes field
siral_fields_write_lem day millisecond microsecond extra out = writes out (Parts.siral_fields_writing day millisecond microsecond extra out)
    (ap (λ (b : Bool). (3, b) ∷ (3, C.day_time_over millisecond microsecond) ∷ (13, C.output_shorter 10 out) ∷ []) (not_all (ltb day 65536) (ltb microsecond 65536) (ltb extra 65536))) refl

pub text_read_lem : (s : List ℕ) (ds : List ℤ) (os : List ℕ) (e : ℤ) → Promise (λ (o : Outcome Moment). CApi.time_out (TextRead.dated_in (TextRead.scale_in s) o)) (λ (x : VrkTime). x.refusal) (CApi.time_out (TextRead.read_text s ds os e)) (TextRead.reading s ds os e)
    (Rows.text_read s ds os e)
unfolding TextRead.read_text
text_read_lem s ds os e = promised (record { of_refusal = λ n. refl; of_answer = λ a. refl }) (TextRead.reading s ds os e) (One.text_read_lem s ds os e).judges refl

pub text_write_lem : (h : VrkHanded) (n : ℕ) (ds : List ℤ) (os : List ℕ) (e : ℤ) (out : List ℕ) → Writes out (Bytes.writes (Bytes.handed_writing (Texts.text_writing n ds os e) h) out) (Bytes.handed_writing (Texts.text_writing n ds os e) h out)
    ((3, C.handed_unknown h) ∷ (3, C.form_unknown n) ∷ Rows.text_write (CApi.handed_of h) (Texts.form_at n) ds os e out)
unfolding Bytes.writes
text_write_lem h n ds os e out = writes out (Bytes.handed_writing (Texts.text_writing n ds os e) h out)
    (in_front (CApi.known h) (Texts.text_writing n ds os e (CApi.handed_of h) out)
    (in_front (Texts.known_form n) (writing (CApi.handed_of h) (Texts.form_at n) ds os e out)
    (One.text_write_lem (CApi.handed_of h) (Texts.form_at n) ds os e out).judges))
    refl
