-- A time that is handed in, a record or a decimal day, and how it is taken apart. Assumes nothing.
use Rattle.std.specs.Prelude.{◌≡◌, Bool, true, not, ◌&&◌, cond, ℕ, ◌≤◌, ℤ, pos, ◌*ℤ◌, Float, Result, Ok, Err}
use Rattle.axis.specs.Meaning.{day_micros, Moment, moment_of}
use Rattle.scales.specs.Meaning.{first, in_span, Judged, given, gives, refused, answer, Slip, dated, moment_at, time_scale, time_count, time_at, refused_of}
use Rattle.scales.specs.Place.{count_of}
use Rattle.scales.specs.declared.Scale.{Scale}
use Rattle.scales.specs.declared.Mark.{Mark}
use Rattle.scales.specs.declared.Mark.TheVariants as M
use Rattle.double.specs.Meaning.{Exact, finite, exact_of, under, signed_over, before, nearest}
use Rattle.handed.specs.declared.Handed.{Handed}
use Rattle.handed.specs.declared.Handed.TheVariants as H
use Rattle.scales.specs.declared.Time.{Time}
use Rattle.scales.specs.declared.Refusal.{Refusal}
use Rattle.scales.specs.declared.Refusal.TheVariants as R
use Rattle.scales.specs.declared.Refused.{Refused}
use Rattle.handed.specs.declared.Untaken.{Untaken}
use Rattle.handed.specs.declared.Untaken.TheVariants as K

-- ---- a decimal day: "The span is judged on the exact value before rounding: first day inclusive, 36525 exclusive"
abbrev pub spans : Scale → Exact → Bool
spans s v = not (before v (first s)) && before v (pos 36525)

-- "the microsecond nearest the exact value of the double, ties to the later"
abbrev pub micros_of : Exact → ℤ
micros_of v = nearest (signed_over v *ℤ pos day_micros) (under v)

abbrev pub nearest_moment : Float → Moment
nearest_moment x = moment_of (micros_of (exact_of x))

-- ---- "A caller hands in either a record or a decimal day, an f64 with a scale"
abbrev pub scale_of : Handed → Scale
scale_of (H.Record r) = r.scale
scale_of (H.Decimal x s) = s

-- a decimal day is plain
abbrev pub mark_of : Handed → Mark
mark_of (H.Record r) = r.mark
mark_of (H.Decimal x s) = M.Plain

abbrev pub is_finite : Handed → Bool
is_finite (H.Record r) = true
is_finite (H.Decimal x s) = finite x

abbrev pub is_in_span : Handed → Bool
is_in_span (H.Record r) = in_span r.scale r.day r.micro
is_in_span (H.Decimal x s) = spans s (exact_of x)

abbrev pub day_of : Handed → ℤ
day_of (H.Record r) = r.day
day_of (H.Decimal x s) = (nearest_moment x).day

abbrev pub micro_of : Handed → ℕ
micro_of (H.Record r) = r.micro
micro_of (H.Decimal x s) = (nearest_moment x).micro

abbrev pub moment_in : Handed → Moment
moment_in h = record { day = day_of h; micro = micro_of h }

-- ---- taken apart: not finite, outside its span, or a typed count
unfoldable pub taken_of : Handed → Result Time Untaken
taken_of h =
    cond (is_finite h)
    (cond (is_in_span h)
    (Ok (time_at (scale_of h) (count_of (scale_of h) (day_of h) (micro_of h))))
    (Err (K.Outside (scale_of h))))
    (Err (K.NotFinite (scale_of h)))

-- the paper's number and values for each case: 4, then 7, or the time at its count
abbrev pub taking : Handed → Judged Moment
taking h =
    given (is_finite h) 4
    (given (is_in_span h) 7
    (gives (moment_in h)))

abbrev pub taken_slip : Result Time Untaken → Slip
taken_slip (Err (K.NotFinite z)) = dated z (refused 4)
taken_slip (Err (K.Outside z)) = dated z (refused 7)
taken_slip (Ok t) = dated (time_scale t) (answer (moment_at (time_scale t) (time_count t)))

-- the refusal of what was not taken, where no other stands between, with the scale of its empty record or without
abbrev pub refused_by : Untaken → Refused
refused_by (K.NotFinite s) = refused_of s R.DecimalNotFinite
refused_by (K.Outside s) = refused_of s R.OutsideSpan

abbrev pub refusal_by : Untaken → Refusal
refusal_by (K.NotFinite s) = R.DecimalNotFinite
refusal_by (K.Outside s) = R.OutsideSpan

-- a count that was taken lies in its span, rounded or not; of the other two there is nothing to say
abbrev pub Kept : Result Time Untaken → Type 0
Kept (Err (K.NotFinite s)) = 0 ≤ 0
Kept (Err (K.Outside s)) = 0 ≤ 0
Kept (Ok t) = in_span (time_scale t) (moment_at (time_scale t) (time_count t)).day (moment_at (time_scale t) (time_count t)).micro ≡ true

pub record Took (h : Handed) (t : Result Time Untaken) : Type 0 where
  pub is : t ≡ taken_of h
  pub kept : Kept t
