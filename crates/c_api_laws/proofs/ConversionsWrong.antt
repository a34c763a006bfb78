-- Wrong conversions between the structs for C and what they stand for, each shut out by an input at which its answer is not the
-- meaning's. Assumes nothing.
use mathlib.Core.Path.{refl}
use mathlib.Core.Bool.{false}
use Rattle.std.specs.Prelude.{Result, Ok, Err}
use Prim.Native.Nat.{ℕ, ◌+◌, ◌%◌}
use native.Mathlib.Omega.{arith}
use lib.IntN.{pos}
use lib.Ieee.{Float, fin}
use Rattle.evidence.specs.ShutOut.{ShutOut, differ}
use Rattle.scales.specs.Meaning.{number_of, refused_of, slip, remark, count_slip, tick_slip, record_of, marked_record}
use Rattle.scales.specs.declared.Scale.TheVariants as S
use Rattle.scales.specs.declared.Mark.TheVariants as M
use Rattle.scales.specs.declared.Record.{Record}
use Rattle.scales.specs.declared.Refusal.{Refusal}
use Rattle.scales.specs.declared.Refusal.TheVariants as R
use Rattle.scales.specs.declared.Refused.{Refused}
use Rattle.scales.specs.declared.Tick.{Tick}
use Rattle.double.specs.Meaning.{exact_of, plus_zero}
use Rattle.handed.specs.declared.Handed.{Handed}
use Rattle.handed.specs.declared.Handed.TheVariants as H
use Rattle.decimal.specs.Meaning.{decimal_slip}
use Rattle.sbt.specs.declared.Correlation.{Correlation}
use Rattle.goce.specs.declared.Correlation.{Correlation as Counted}
use Rattle.c_api.specs.Meaning.{handed_of, given_of, time_out, decimal_out, count_out, correlation_of}
use Rattle.c_api.specs.Bytes.{written_out}
use Rattle.c_api.specs.Counts.{goce_of}
use Rattle.c_api.specs.declared.VrkCount.{VrkCount}
use Rattle.c_api.specs.declared.VrkDecimal.{VrkDecimal}
use Rattle.c_api.specs.declared.VrkHanded.{VrkHanded}
use Rattle.c_api.specs.declared.VrkSbtCorrelation.{VrkSbtCorrelation}
use Rattle.c_api.specs.declared.VrkTime.{VrkTime}
use Rattle.c_api.specs.declared.bytes.VrkWritten.{VrkWritten}
use Rattle.c_api.specs.declared.counts.VrkGoceCorrelation.{VrkGoceCorrelation}
use Rattle.c_api_laws.proofs.Marks.{marked_with}
use Rattle.c_api_laws.proofs.Desks.{answered, plain, scale_in, source_in, unknown_is_plain}

-- ---- what is handed in
refused_with : Result Handed Refusal → ℕ
refused_with (Ok h) = 0
refused_with (Err f) = number_of f

abbrev of_kind : ℕ → VrkHanded
of_kind k = record { kind = k; scale = 0; day = pos 0; micro = 5; decimal = plus_zero; mark = 0; source = 0 }

-- an unknown kind taken for a decimal day
abbrev any_kind : VrkHanded → Result Handed Refusal
any_kind h = Ok (handed_of h)

pub handed_any_kind : ShutOut (given_of (of_kind 2)) (Err R.FieldOver) (any_kind (of_kind 2)) (Ok (H.Decimal plus_zero S.Tai))
unfolding given_of refused_with
handed_any_kind = (refl, refl, differ refused_with (λ e. omega arith))

-- an unknown mark taken for plain
pub handed_mark_plain :
    ShutOut (given_of (marked_with 3 0 (of_kind 0))) (Err R.FieldOver) (given_of (unknown_is_plain (marked_with 3 0 (of_kind 0))))
    (Ok (H.Record (record_of S.Tai (pos 0) 5)))
unfolding given_of refused_with
handed_mark_plain = (refl, refl, differ refused_with (λ e. omega arith))

-- ---- a time handed out
-- a refusal always of TAI
abbrev in_tai : Refused → VrkTime
in_tai e = time_out (slip (Err (refused_of S.Tai e.refusal)))

pub time_refused_in_tai :
    ShutOut (time_out (slip (Err (refused_of S.Utc R.NotInForce)))) (record { refusal = 8; scale = 1; day = pos 0; micro = 0; mark = 0; source = 0 })
    (in_tai (refused_of S.Utc R.NotInForce)) (record { refusal = 8; scale = 0; day = pos 0; micro = 0; mark = 0; source = 0 })
time_refused_in_tai = (refl, refl, differ scale_in (λ e. omega arith))

-- the mark lost
abbrev correlated : Record
correlated = marked_record (M.Correlated 9) (record_of S.Utc (pos 0) 5)

abbrev mark_lost : Record → VrkTime
mark_lost r = time_out (remark M.Plain (slip (Ok r)))

pub time_mark_lost : ShutOut (time_out (slip (Ok correlated))) (answered 1 (pos 0) 5 2 9) (mark_lost correlated) (plain 1 (pos 0) 5)
time_mark_lost = (refl, refl, differ source_in (λ e. omega arith))

-- ---- a decimal day handed out
-- 4 whatever the refusal
abbrev always_four : Result Float Refusal → VrkDecimal
always_four d = record { refusal = 4; day = plus_zero }

pub decimal_always_four :
    ShutOut (decimal_out (decimal_slip (Err R.NoImage))) (record { refusal = 12; day = plus_zero }) (always_four (Err R.NoImage))
    (record { refusal = 4; day = plus_zero })
decimal_always_four = (refl, refl, differ (λ (t : VrkDecimal). t.refusal) (λ e. omega arith))

-- plus zero for an answer too
abbrev always_zero : Result Float Refusal → VrkDecimal
always_zero d = record { refusal = (decimal_slip d).number; day = plus_zero }

abbrev one : Float
one = fin false 1 (pos 0)

pub decimal_always_zero :
    ShutOut (decimal_out (decimal_slip (Ok one))) (record { refusal = 0; day = one }) (always_zero (Ok one)) (record { refusal = 0; day = plus_zero })
decimal_always_zero = (refl, refl, differ (λ (t : VrkDecimal). (exact_of t.day).significand) (λ e. omega arith))

-- ---- a count and a tick handed out
-- the number of a refusal not handed out
abbrev unnumbered : VrkCount → VrkCount
unnumbered c = record { refusal = 0; count = c.count }

pub count_unnumbered :
    ShutOut (count_out (count_slip (Err R.ListExpired))) (record { refusal = 9; count = 0 }) (unnumbered (count_out (count_slip (Err R.ListExpired))))
    (record { refusal = 0; count = 0 })
count_unnumbered = (refl, refl, differ (λ (t : VrkCount). t.refusal) (λ e. omega arith))

-- cut to 32 bits, as a tick is
abbrev cut : VrkCount → VrkCount
cut c = record { refusal = c.refusal; count = c.count % 4294967296 }

pub count_cut :
    ShutOut (count_out (count_slip (Ok 4294967301))) (record { refusal = 0; count = 4294967301 }) (cut (count_out (count_slip (Ok 4294967301))))
    (record { refusal = 0; count = 5 })
count_cut = (refl, refl, differ (λ (t : VrkCount). t.count) (λ e. omega arith))

abbrev seventh : Tick
seventh = record { 0 = 7 }

pub tick_unnumbered :
    ShutOut (count_out (tick_slip (Err R.NotInForce))) (record { refusal = 8; count = 0 }) (unnumbered (count_out (tick_slip (Err R.NotInForce))))
    (record { refusal = 0; count = 0 })
tick_unnumbered = (refl, refl, differ (λ (t : VrkCount). t.refusal) (λ e. omega arith))

-- one late
abbrev one_late : VrkCount → VrkCount
one_late c = record { refusal = c.refusal; count = c.count + 1 }

pub tick_one_late :
    ShutOut (count_out (tick_slip (Ok seventh))) (record { refusal = 0; count = 7 }) (one_late (count_out (tick_slip (Ok seventh))))
    (record { refusal = 0; count = 8 })
tick_one_late = (refl, refl, differ (λ (t : VrkCount). t.count) (λ e. omega arith))

-- ---- an SBT correlation handed in
abbrev in_scale : ℕ → VrkSbtCorrelation
in_scale s = record { tick = 7; scale = s; day = pos 0; micro = 0; period = 3906250000; back = 1; ahead = 2 }

abbrev correlated_by : ℕ → ℕ → ℕ → Correlation
correlated_by p b a = record { tick = seventh; scale = S.Tai; day = pos 0; micro = 0; period = p; back = b; ahead = a }

-- an unknown scale taken for TAI
abbrev taken_for_tai : VrkSbtCorrelation → Correlation
taken_for_tai c =
    correlation_of (record { tick = c.tick; scale = 0; day = c.day; micro = c.micro; period = c.period; back = c.back; ahead = c.ahead })

pub correlation_unknown : ShutOut (correlation_of (in_scale 3)) (correlated_by 0 1 2) (taken_for_tai (in_scale 3)) (correlated_by 3906250000 1 2)
unfolding correlation_of
correlation_unknown = (refl, refl, differ (λ (c : Correlation). c.period) (λ e. omega arith))

-- the ends of the window in each other's place
abbrev turned : VrkSbtCorrelation → Correlation
turned c =
    correlation_of (record { tick = c.tick; scale = c.scale; day = c.day; micro = c.micro; period = c.period; back = c.ahead; ahead = c.back })

pub correlation_turned : ShutOut (correlation_of (in_scale 0)) (correlated_by 3906250000 1 2) (turned (in_scale 0)) (correlated_by 3906250000 2 1)
unfolding correlation_of
correlation_turned = (refl, refl, differ (λ (c : Correlation). c.back) (λ e. omega arith))

-- ---- a GOCE correlation handed in
abbrev count_seven : VrkGoceCorrelation
count_seven = record { obt0 = 7; utc0 = 5; offset = pos 0; gradient = 3; back = 1; ahead = 2 }

-- OBT0 and UTC0 in each other's place
abbrev exchanged : VrkGoceCorrelation → Counted
exchanged c = record { obt0 = c.utc0; utc0 = c.obt0; offset = c.offset; gradient = c.gradient; back = c.back; ahead = c.ahead }

pub goce_exchanged :
    ShutOut (goce_of count_seven) (record { obt0 = 7; utc0 = 5; offset = pos 0; gradient = 3; back = 1; ahead = 2 }) (exchanged count_seven)
    (record { obt0 = 5; utc0 = 7; offset = pos 0; gradient = 3; back = 1; ahead = 2 })
goce_exchanged = (refl, refl, differ (λ (c : Counted). c.obt0) (λ e. omega arith))

-- no window back: ahead both ways
abbrev ahead_alone : VrkGoceCorrelation → Counted
ahead_alone c = record { obt0 = c.obt0; utc0 = c.utc0; offset = c.offset; gradient = c.gradient; back = c.ahead; ahead = c.ahead }

pub goce_ahead_alone :
    ShutOut (goce_of count_seven) (record { obt0 = 7; utc0 = 5; offset = pos 0; gradient = 3; back = 1; ahead = 2 }) (ahead_alone count_seven)
    (record { obt0 = 7; utc0 = 5; offset = pos 0; gradient = 3; back = 2; ahead = 2 })
goce_ahead_alone = (refl, refl, differ (λ (c : Counted). c.back) (λ e. omega arith))

-- ---- a writing handed out
-- the number of a refusal not handed out
abbrev written_silent : Result ℕ Refusal → VrkWritten
written_silent w = record { refusal = 0; length = (written_out w).length }

pub written_unnumbered :
    ShutOut (written_out (Err R.OutputShorter)) (record { refusal = 13; length = 0 }) (written_silent (Err R.OutputShorter))
    (record { refusal = 0; length = 0 })
written_unnumbered = (refl, refl, differ (λ (t : VrkWritten). t.refusal) (λ e. omega arith))

-- a made-up length: one that was not written
abbrev six_always : Result ℕ Refusal → VrkWritten
six_always w = record { refusal = (written_out w).refusal; length = 6 }

pub written_six :
    ShutOut (written_out (Err R.NoImage)) (record { refusal = 12; length = 0 }) (six_always (Err R.NoImage)) (record { refusal = 12; length = 6 })
written_six = (refl, refl, differ (λ (t : VrkWritten). t.length) (λ e. omega arith))
