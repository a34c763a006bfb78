-- What the structs and codes of the C interface stand for. A code that stands for nothing is refused 3, before all else. The
-- header's words are quoted. Assumes nothing.
use Rattle.std.specs.Prelude.{Bool, cond, not, ◌&&◌, ◌||◌, List, ℕ, eqb, leb, ℤ, Float, Option, Some, None, Result, Ok, Err}
use Rattle.axis.specs.Meaning.{Moment}
use Rattle.handed.specs.Meaning.{mark_of}
use Rattle.handed.specs.declared.Handed.{Handed}
use Rattle.handed.specs.declared.Handed.TheVariants as H
use Rattle.scales.specs.Meaning.{code_of, scale_at, given, outcome, Slip, dated_as, dated, record_of, marked_record, Judged, Valued, valued}
use Rattle.scales.specs.declared.Scale.{Scale}
use Rattle.scales.specs.declared.Refusal.{Refusal}
use Rattle.scales.specs.declared.Refusal.TheVariants as R
use Rattle.decimal.specs.Meaning.{reading, writing, Allowed}
use Rattle.sbt.specs.Meaning.{date_of, turning}
use Rattle.sbt.specs.declared.Correlation.{Correlation}
use Rattle.leap.specs.Meaning.{accepted}
use Rattle.changes.specs.Meaning.{changing}
use Rattle.c_api.specs.Marks.{known_mark, mark_at, mark_code, mark_source}
use Rattle.c_api.specs.declared.VrkSbtCorrelation.{VrkSbtCorrelation}
use Rattle.c_api.specs.declared.VrkCount.{VrkCount}
use Rattle.c_api.specs.declared.VrkTime.{VrkTime}
use Rattle.c_api.specs.declared.VrkHanded.{VrkHanded}
use Rattle.c_api.specs.declared.VrkDecimal.{VrkDecimal}

-- ---- scales by code: 0 TAI, 1 UTC, 2 GPS; one that is unknown stands for scale 0 in the empty record
abbrev pub known_scale : ℕ → Bool
known_scale c = leb c 2

-- ---- what is handed in: kind 0 a record, kind 1 a decimal day
abbrev pub is_record : VrkHanded → Bool
is_record h = eqb h.kind 0

-- an unknown scale, an unknown kind, and of a record an unknown mark stand for nothing
abbrev pub known : VrkHanded → Bool
known h = known_scale h.scale && (leb h.kind 1 && (not (is_record h) || known_mark h.mark h.source))

abbrev record_in : Scale → ℤ → ℕ → ℕ → ℕ → Handed
record_in s d u c x = H.Record (marked_record (mark_at c x) (record_of s d u))

-- "Of a record `decimal` is ignored; of a decimal day `day`, `micro`, `mark` and `source` are"
abbrev pub handed_of : VrkHanded → Handed
handed_of h =
    cond (is_record h) (record_in (scale_at h.scale) h.day h.micro h.mark h.source)
    (H.Decimal h.decimal (scale_at h.scale))

-- ---- what is handed out
abbrev pub time_out : Slip → VrkTime
time_out s =
    record {
      refusal = s.number;
      scale = code_of s.scale;
      day = s.day;
      micro = s.micro;
      mark = mark_code s.mark;
      source = mark_source s.mark;
    }

abbrev pub count_out : Valued ℕ → VrkCount
count_out v = record { refusal = v.number; count = v.value }

abbrev pub decimal_out : Valued Float → VrkDecimal
decimal_out w = record { refusal = w.number; day = w.value }

-- ---- the functions
unfoldable pub decimal_read : Float → ℕ → VrkTime
decimal_read x c = time_out (dated (scale_at c) (outcome (given (known_scale c) 3 (reading x (scale_at c)))))

unfoldable pub DecimalWrote : VrkHanded → VrkDecimal → Type 0
DecimalWrote h r = Allowed (outcome (given (known h) 3 (writing (handed_of h)))) (record { number = r.refusal; value = r.day })

-- a correlation of an unknown scale is one that is not accepted: its period is 0
unfoldable pub correlation_of : VrkSbtCorrelation → Correlation
correlation_of c =
    record {
      tick = record { 0 = c.tick };
      scale = scale_at c.scale;
      day = c.day;
      micro = c.micro;
      period = cond (known_scale c.scale) c.period 0;
      back = c.back;
      ahead = c.ahead;
    }

unfoldable pub sbt_date : ℕ → VrkSbtCorrelation → ℤ → ℕ → List ℤ → List ℕ → ℤ → VrkTime
sbt_date t c d u ds os e = time_out (date_of (correlation_of c) t d u ds os e)

unfoldable pub sbt_tick : VrkHanded → VrkSbtCorrelation → List ℤ → List ℕ → ℤ → VrkCount
sbt_tick h c ds os e = count_out (valued 0 (outcome (given (known h) 3 (turning (correlation_of c) (handed_of h) ds os e))))

abbrev pub list_accepted : List ℤ → List ℕ → ℤ → ℕ
list_accepted ds os e = cond (accepted ds os e) 1 0

abbrev pub changing_of : VrkHanded → ℕ → List ℤ → List ℕ → ℤ → Judged Moment
changing_of h c ds os e =
    given (known_scale c && known h) 3
    (changing (handed_of h) (scale_at c) ds os e)

-- "with the mark that was given"
unfoldable pub changed : VrkHanded → ℕ → List ℤ → List ℕ → ℤ → VrkTime
changed h c ds os e = time_out (dated_as (mark_of (handed_of h)) (scale_at c) (outcome (changing_of h c ds os e)))

-- ---- the inner answers
unfoldable pub named_by : ℕ → Option Scale
named_by c = cond (known_scale c) (Some (scale_at c)) None

-- a record of a known scale
unfoldable pub record_given : Scale → ℤ → ℕ → ℕ → ℕ → Option Handed
record_given s d u c x = cond (known_mark c x) (Some (record_in s d u c x)) None

unfoldable pub given_of : VrkHanded → Result Handed Refusal
given_of h = cond (known h) (Ok (handed_of h)) (Err R.FieldOver)
