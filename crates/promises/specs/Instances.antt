-- Each theorem with hypotheses at an input that meets them, where the conclusion is an answer. Assumes nothing.
use Rattle.std.specs.Prelude.{◌≡◌, refl, true, List, [], ◌∷◌, ◌++◌, drop, ℕ, ℤ, pos, negsuc, Err}
use Rattle.std.proofs.Common.{sym, ap, ◌∙◌, arith, lit≤}
use Rattle.axis.specs.Meaning.{Moment, since}
use Rattle.octets.specs.Meaning.{number, field}
use Rattle.octets.specs.Field.{field_bytes}
use Rattle.scales.specs.Meaning.{Outcome, answer, dated_as, dated, order, record_of, valued}
use Rattle.scales.specs.declared.Scale.TheVariants as S
use Rattle.scales.specs.declared.Refusal.TheVariants as R
use Rattle.scales.specs.declared.Mark.TheVariants as M
use Rattle.double.specs.Meaning.{plus_zero}
use Rattle.handed.specs.Meaning.{taken_of, taken_slip, Took}
use Rattle.handed.specs.declared.Handed.{Handed}
use Rattle.handed.specs.declared.Handed.TheVariants as H
use Rattle.handed.specs.declared.Untaken.TheVariants as K
use Rattle.decimal.specs.Meaning.{decimal_slip}
use Rattle.calendar.specs.Meaning.{leap, month_length, length_of, first_day, day_after, days_to, walk, is_date, date_of_day, day_of_date}
use Rattle.leap.specs.Meaning.{through, is_step, published_days, published_offsets, published_last}
use Rattle.leap.specs.Walk.{or_false}
use Rattle.leap.specs.Published.{published}
use Rattle.leap_laws.proofs.Computed.{earlier_days, earlier_offsets, earlier_last, earlier, step_more}
use Rattle.changes.specs.Meaning.{gps_to_utc, change_of}
use Rattle.layout_times.specs.Cuc as Cuc
use Rattle.layout_times.specs.Proteus as Proteus
use Rattle.layout_times.specs.Cryosat as Cryosat
use Rattle.text_fields.specs.Meaning.{names, letter, prefix_of}
use Rattle.text_read.specs.Meaning.{digit_of, two_of, four_of, six_of, is_named, seek, month_named, has_marks, micro_in, stamp_in, in_limits, has_prefix, scale_in, body_in, is_prefix_right, is_body, read_text}
use Rattle.text_write.specs.Meaning.{text_of}
use Rattle.text_laws.specs.Computed.{blank}
use Rattle.sbt.specs.Meaning as Sbt
use Rattle.sbt_laws.proofs.Fresh.{eve, old_dates, old_tick}
use Rattle.sbt_laws.proofs.Window.{widened}
use Rattle.goce.specs.Meaning as Goce
use Rattle.goce_laws.proofs.Fresh as GoceFresh
use Rattle.goce_laws.proofs.Window as GoceWindow
use Rattle.lines.specs.Meaning.{refused_text, answer_to}
use Rattle.promises.specs.Meaning.{applies, first_of}
use Rattle.promises.specs.Conditions.{length_is_none, handed_unknown}
use Rattle.promises.specs.Rows as Rows
use Rattle.promises.specs.First.{exactly}
use Rattle.promises.specs.One.{take, decimal_write_lem, cuc_read_lem, cuc_write_lem, line}
use Rattle.promises.specs.OneForC as OneForC
use Rattle.promises.specs.Never as Never
use Rattle.promises.specs.Two.{cuc_time, proteus_time, cryosat_time, siral_time}
use Rattle.c_api.specs.Meaning as CApi
use Rattle.c_api.specs.Bytes as Bytes
use Rattle.c_api.specs.Counts as Counts
use Rattle.c_api.specs.Texts as Texts
use Rattle.c_api.specs.declared.VrkCount.{VrkCount}
use Rattle.c_api.specs.declared.VrkHanded.{VrkHanded}
use Rattle.c_api.specs.declared.VrkTime.{VrkTime}
use Rattle.c_api.specs.declared.VrkSbtCorrelation.{VrkSbtCorrelation}
use Rattle.c_api.specs.declared.counts.VrkGoceCorrelation.{VrkGoceCorrelation}
use Rattle.promises.specs.Three.{FreshPaper, old_dates_stay, widened_for_c, goce_widened_for_c, change_for_c, text_read_for_c, text_write_for_c, date_for_c, tick_for_c, goce_date_for_c, goce_count_for_c}

-- ---- demand 1: CUC of no bytes is refused 1, with day 0 of GPS; a CryoSat time is no image of CUC, and the slice keeps its byte
pub refusal_instance : Cuc.read [] ≡ record { number = 1; scale = S.Gps; day = pos 0; micro = 0; mark = M.Plain }
unfolding Cuc.read
refusal_instance = (cuc_read_lem []).empty (λ q. omega arith)

-- "1 input length is none of the layout's": given exactly then
pub exactly_instance : (s : List ℕ) → ((Cuc.read s).number ≡ 1 → length_is_none 6 s ≡ true) × (length_is_none 6 s ≡ true → (Cuc.read s).number ≡ 1)
exactly_instance s =
    let k = exactly (cuc_read_lem s) [] (drop 1 order) 1 refl in
    (λ q. sym (or_false (length_is_none 6 s)) ∙ (k.0 q).1, λ q. k.1 refl (or_false (length_is_none 6 s) ∙ q))

pub kept_instance : Cuc.write (H.Record (record_of S.Tai (pos 0) 0)) (9 ∷ []) ≡ record { number = 12; length = 0; lent = 9 ∷ [] }
unfolding Cuc.write
kept_instance = (cuc_write_lem (H.Record (record_of S.Tai (pos 0) 0)) (9 ∷ [])).empty (λ q. omega arith)

-- TAI day 40000 is taken for outside: 7; second 60 has no decimal day: 12; for C scale 9 stands for nothing: 3; and an empty line is
-- refused 1
abbrev late : Handed
late = H.Record (record_of S.Tai (pos 40000) 0)

late_taken : Took late (Err (K.Outside S.Tai))
unfolding taken_of
late_taken = record { is = refl; kept = lit≤ tt }

pub take_instance : (taken_slip (Err (K.Outside S.Tai))).number ≡ 7
take_instance = (take late (Err (K.Outside S.Tai)) late_taken).first

pub decimal_write_instance : (decimal_slip (Err R.NoImage)).number ≡ 12
decimal_write_instance = (decimal_write_lem (H.Record (record_of S.Utc (pos 0) 86400000000)) (Err R.NoImage) (refl, refl)).first

abbrev unknown : VrkHanded
unknown = record { kind = 0; scale = 9; day = pos 0; micro = 0; decimal = plus_zero; mark = 0; source = 0 }

unknown_wrote : CApi.DecimalWrote unknown (record { refusal = 3; day = plus_zero })
unfolding CApi.DecimalWrote
unknown_wrote = (refl, refl)

pub decimal_write_for_c_instance : ◌≡◌ {A = ℕ} 3 (first_of order (applies ((3, handed_unknown unknown) ∷ Rows.decimal_write (CApi.handed_of unknown))))
decimal_write_for_c_instance = (OneForC.decimal_write_lem unknown (record { refusal = 3; day = plus_zero }) unknown_wrote).first

pub line_instance : answer_to published_days published_offsets published_last [] ≡ refused_text 1 ++ (10 ∷ [])
line_instance = (line published_days published_offsets published_last []).printed (λ q. omega arith)

-- ---- numbers that never come, of inputs that are answered: 8 zero bytes of Proteus; GPS day 0 under the published list, as a count and
-- as a record; TAI to GPS, which asks nothing of the empty list
pub proteus_read_never_7_instance : (CApi.time_out (Proteus.read (0 ∷ 0 ∷ 0 ∷ 0 ∷ 0 ∷ 0 ∷ 0 ∷ 0 ∷ []))).refusal ≡ 7 → ⊥
unfolding field
proteus_read_never_7_instance = Never.proteus_read_never_7 (0 ∷ 0 ∷ 0 ∷ 0 ∷ 0 ∷ 0 ∷ 0 ∷ 0 ∷ []) (field_bytes 8 0)

pub gps_to_utc_never_11_instance : (gps_to_utc 3456000000000000 published_days published_offsets published_last).number ≡ 11 → ⊥
gps_to_utc_never_11_instance = Never.gps_to_utc_never_11 published_days published_offsets published_last 3456000000000000

pub handed_gps_to_utc_never_11_instance : (change_of (H.Record (record_of S.Gps (pos 0) 0)) S.Utc published_days published_offsets published_last).number ≡ 11 → ⊥
handed_gps_to_utc_never_11_instance = Never.handed_gps_to_utc_never_11 published_days published_offsets published_last (H.Record (record_of S.Gps (pos 0) 0)) refl

pub without_list_never_5_instance : (change_of (H.Record (record_of S.Tai (pos 0) 0)) S.Gps [] [] (pos 0)).number ≡ 5 → ⊥
without_list_never_5_instance = Never.without_list_never_5 (H.Record (record_of S.Tai (pos 0) 0)) S.Gps [] [] (pos 0) refl

-- ---- demand 2: "CUC 00 00 00 01 00 01: GPS day -7300, 1,000,015", and so of the other readings
pub cuc_time_instance : since (negsuc 7299) 1000015 ≡ since Cuc.epoch 1000015
unfolding number
cuc_time_instance = cuc_time (0 ∷ 0 ∷ 0 ∷ 1 ∷ 0 ∷ 1 ∷ []) (record { day = negsuc 7299; micro = 1000015 }) refl

pub proteus_time_instance : since (negsuc 7292) 2000015 ≡ since (negsuc 7299) 604802000015
unfolding number
proteus_time_instance = proteus_time (0 ∷ 16 ∷ 0 ∷ 0 ∷ 0 ∷ 2 ∷ 0 ∷ 1 ∷ []) (record { day = negsuc 7292; micro = 2000015 }) refl

pub cryosat_time_instance : since (pos 1) 2003 ≡ since Cryosat.epoch 86400002003
unfolding number
cryosat_time_instance = cryosat_time (0 ∷ 1 ∷ 0 ∷ 0 ∷ 0 ∷ 2 ∷ 0 ∷ 3 ∷ []) (record { day = pos 1; micro = 2003 }) refl

-- "SIRAL extra 16 adds 33", past midnight
pub siral_time_instance : since (pos 2) 32 ≡ since Cryosat.epoch 172800000032
unfolding number
siral_time_instance = siral_time (0 ∷ 1 ∷ 5 ∷ 38 ∷ 91 ∷ 255 ∷ 3 ∷ 231 ∷ 0 ∷ 16 ∷ []) (record { day = pos 2; micro = 32 }) refl

-- ---- demand 3: the first 27 steps with E = 6000 and the published list, and windows of 4 ticks and 4 counts widened, both under UTC
goce_accepts : Goce.accepted GoceFresh.eve ≡ true
unfolding Goce.accepted
goce_accepts = refl

goce_wider : Goce.accepted (GoceWindow.widened GoceFresh.eve 8 20) ≡ true
unfolding Goce.accepted
goce_wider = refl

accepts : Sbt.accepted (eve S.Utc) ≡ true
unfolding Sbt.accepted
accepts = refl

wider : Sbt.accepted (widened (eve S.Utc) 8 20) ≡ true
unfolding Sbt.accepted
wider = refl

pub paper_instance : FreshPaper earlier_days earlier_offsets earlier_last published_days published_offsets published_last (eve S.Utc) 8 20 GoceFresh.eve 8 20
paper_instance =
    old_dates_stay earlier_days earlier_offsets earlier_last published_days published_offsets published_last earlier published step_more
    (eve S.Utc) 8 20 (lit≤ tt) (lit≤ tt) accepts wider GoceFresh.eve 8 20 (lit≤ tt) (lit≤ tt) goce_accepts goce_wider

-- UTC=30-JUN-2015 23:59:60.000000, the last second 60 of the 27 steps
abbrev june : List ℕ
june =
    85 ∷ 84 ∷ 67 ∷ 61 ∷ 51 ∷ 48 ∷ 45 ∷ 74 ∷ 85 ∷ 78 ∷ 45 ∷ 50 ∷ 48 ∷ 49 ∷ 53 ∷ 32 ∷ 50 ∷ 51 ∷ 58 ∷ 53 ∷ 57 ∷ 58 ∷ 54 ∷ 48 ∷ 46 ∷ 48 ∷ 48 ∷ 48 ∷ 48 ∷ 48
    ∷ 48 ∷ []

read_earlier : read_text june earlier_days earlier_offsets earlier_last ≡ dated S.Utc (answer (record { day = pos 5659; micro = 86400000000 }))
unfolding read_text is_prefix_right is_body scale_in body_in has_prefix prefix_of has_marks stamp_in micro_in in_limits digit_of two_of four_of six_of month_named seek is_named letter names is_date day_of_date day_after first_day length_of month_length leap is_step
read_earlier = rw earlier

-- it was an answer, and stays
pub sixty_instance : read_text june published_days published_offsets published_last ≡ dated S.Utc (answer (record { day = pos 5659; micro = 86400000000 }))
sixty_instance = paper_instance.texts.read june (λ q. let z : ◌≡◌ {A = ℕ} 0 9 = (λ i. (sym read_earlier i).number) ∙ q in omega arith) ∙ read_earlier

-- ---- the same for C, of records that are correlated with 9
abbrev handed : ℕ → ℤ → ℕ → VrkHanded
handed scale d u = record { kind = 0; scale = scale; day = d; micro = u; decimal = plus_zero; mark = 2; source = 9 }

-- the last microsecond of that second 60, in TAI
changed_earlier : CApi.changed (handed 1 (pos 5659) 86400999999) 0 earlier_days earlier_offsets earlier_last ≡ record { refusal = 0; scale = 0; day = pos 5660; micro = 35999999; mark = 2; source = 9 }
unfolding CApi.changed through is_step
changed_earlier = rw earlier

pub change_for_c_instance :
    CApi.changed (handed 1 (pos 5659) 86400999999) 0 published_days published_offsets published_last ≡ record { refusal = 0; scale = 0; day = pos 5660; micro = 35999999; mark = 2; source = 9 }
change_for_c_instance =
    change_for_c earlier_days earlier_offsets earlier_last published_days published_offsets published_last earlier published step_more (handed 1 (pos 5659) 86400999999) 0
    (λ q. let z : ◌≡◌ {A = ℕ} 0 9 = (λ i. (sym changed_earlier i).refusal) ∙ q in omega arith)
    ∙ changed_earlier

pub text_read_for_c_instance : CApi.time_out (read_text june published_days published_offsets published_last) ≡ record { refusal = 0; scale = 1; day = pos 5659; micro = 86400000000; mark = 0; source = 0 }
text_read_for_c_instance =
    text_read_for_c earlier_days earlier_offsets earlier_last published_days published_offsets published_last earlier published step_more june
    (λ q. let z : ◌≡◌ {A = ℕ} 0 9 = (λ i. (sym read_earlier i).number) ∙ q in omega arith)
    ∙ ap CApi.time_out read_earlier

-- the second 60 itself, written in the longest form
written_earlier : Bytes.writes (Bytes.handed_writing (Texts.text_writing 31 earlier_days earlier_offsets earlier_last) (handed 1 (pos 5659) 86400000000)) blank ≡ record { number = 0; length = 31; lent = june }
unfolding Bytes.writes text_of prefix_of letter names date_of_day days_to day_after walk first_day length_of month_length leap is_step
written_earlier = rw earlier

pub text_write_for_c_instance :
    Bytes.writes (Bytes.handed_writing (Texts.text_writing 31 published_days published_offsets published_last) (handed 1 (pos 5659) 86400000000)) blank ≡ record { number = 0; length = 31; lent = june }
text_write_for_c_instance =
    text_write_for_c earlier_days earlier_offsets earlier_last published_days published_offsets published_last earlier published step_more (handed 1 (pos 5659) 86400000000) 31 blank
    (λ q. let z : ◌≡◌ {A = ℕ} 0 9 = (λ i. (sym written_earlier i).number) ∙ q in omega arith)
    ∙ written_earlier

-- what was answered, and is for C as well, is neither 8 nor 9
no : {n m : ℕ} → (n ≡ m → ⊥) → {k : ℕ} → k ≡ n → k ≡ m → ⊥
no d p q = d (sym p ∙ q)

-- a UTC correlation: tick 8 at the end of day 6000, and the time gives the tick
abbrev reference : VrkSbtCorrelation
reference = record { tick = 7; scale = 1; day = pos 6000; micro = 86399990000; period = 3906250000; back = 4; ahead = 4 }

abbrev ending : ℕ → ℕ → VrkTime
ending u r = record { refusal = 0; scale = 1; day = pos 6000; micro = u; mark = 2; source = r }

dated_before : CApi.sbt_date 8 reference (pos 6000) 86399995000 earlier_days earlier_offsets earlier_last ≡ ending 86399993906 7
unfolding CApi.sbt_date CApi.correlation_of Sbt.date_of
dated_before = ap (λ (o : Outcome Moment). CApi.time_out (dated_as (M.Correlated 7) S.Utc o)) old_dates.0

reference_accepted : Sbt.accepted (CApi.correlation_of reference) ≡ true
unfolding CApi.correlation_of
reference_accepted = accepts

reference_wider : Sbt.accepted (CApi.correlation_of (widened_for_c reference 8 20)) ≡ true
unfolding CApi.correlation_of
reference_wider = wider

pub date_for_c_instance : CApi.sbt_date 8 (widened_for_c reference 8 20) (pos 6000) 86399995000 published_days published_offsets published_last ≡ ending 86399993906 7
date_for_c_instance =
    date_for_c earlier_days earlier_offsets earlier_last published_days published_offsets published_last earlier published step_more reference 8 20 (lit≤ tt) (lit≤ tt) reference_accepted reference_wider 8 (pos 6000) 86399995000
    (no (λ q. omega arith) (ap (λ (t : VrkTime). t.refusal) dated_before)) (no (λ q. omega arith) (ap (λ (t : VrkTime). t.refusal) dated_before))
    ∙ dated_before

turned_before : CApi.sbt_tick (handed 1 (pos 6000) 86399993906) reference earlier_days earlier_offsets earlier_last ≡ record { refusal = 0; count = 8 }
unfolding CApi.sbt_tick CApi.correlation_of
turned_before = ap (λ (o : Outcome ℕ). CApi.count_out (valued 0 o)) old_tick

pub tick_for_c_instance : CApi.sbt_tick (handed 1 (pos 6000) 86399993906) (widened_for_c reference 8 20) published_days published_offsets published_last ≡ record { refusal = 0; count = 8 }
tick_for_c_instance =
    tick_for_c earlier_days earlier_offsets earlier_last published_days published_offsets published_last earlier published step_more reference 8 20 (lit≤ tt) (lit≤ tt) reference_accepted reference_wider (handed 1 (pos 6000) 86399993906)
    (no (λ q. omega arith) (ap (λ (t : VrkCount). t.refusal) turned_before)) (no (λ q. omega arith) (ap (λ (t : VrkCount). t.refusal) turned_before))
    ∙ turned_before

-- GOCE: the last count of day 6000, and the time gives the count
abbrev clock : VrkGoceCorrelation
clock = record { obt0 = 5; utc0 = 33979524710399; offset = pos 0; gradient = 1000000000; back = 4; ahead = 4 }

goce_dated_before : Counts.goce_date 5 clock (pos 6000) 86399999990 earlier_days earlier_offsets earlier_last ≡ ending 86399999984 5
unfolding Counts.goce_date Goce.date_of
goce_dated_before = ap (λ (o : Outcome Moment). CApi.time_out (dated_as (M.Correlated 5) S.Utc o)) (GoceFresh.old_dates).0

pub goce_date_for_c_instance : Counts.goce_date 5 (goce_widened_for_c clock 8 20) (pos 6000) 86399999990 published_days published_offsets published_last ≡ ending 86399999984 5
goce_date_for_c_instance =
    goce_date_for_c earlier_days earlier_offsets earlier_last published_days published_offsets published_last earlier published step_more clock 8 20 (lit≤ tt) (lit≤ tt) goce_accepts goce_wider 5 (pos 6000) 86399999990
    (no (λ q. omega arith) (ap (λ (t : VrkTime). t.refusal) goce_dated_before)) (no (λ q. omega arith) (ap (λ (t : VrkTime). t.refusal) goce_dated_before))
    ∙ goce_dated_before

goce_turned_before : Counts.goce_count (handed 1 (pos 6000) 86399999984) clock earlier_days earlier_offsets earlier_last ≡ record { refusal = 0; count = 5 }
unfolding Counts.goce_count
goce_turned_before = ap (λ (o : Outcome ℕ). CApi.count_out (valued 0 o)) GoceFresh.old_count

pub goce_count_for_c_instance : Counts.goce_count (handed 1 (pos 6000) 86399999984) (goce_widened_for_c clock 8 20) published_days published_offsets published_last ≡ record { refusal = 0; count = 5 }
goce_count_for_c_instance =
    goce_count_for_c earlier_days earlier_offsets earlier_last published_days published_offsets published_last earlier published step_more clock 8 20 (lit≤ tt) (lit≤ tt) goce_accepts goce_wider (handed 1 (pos 6000) 86399999984)
    (no (λ q. omega arith) (ap (λ (t : VrkCount). t.refusal) goce_turned_before)) (no (λ q. omega arith) (ap (λ (t : VrkCount). t.refusal) goce_turned_before))
    ∙ goce_turned_before
