-- The paper's words: the spans of the scales, the order of the refusals, what an answer hands back and what a refusal hands
-- back. Days are signed, counted from 1 January 2000. Assumes nothing.
use Rattle.std.specs.Prelude.{Bool, true, false, cond, ◌&&◌, List, [], ◌∷◌, ◌++◌, ℕ, ◌/◌, ◌%◌, ltb, eqb, ℤ, pos, negsuc, length, drop, Result, Ok, Err}
use Rattle.std.specs.Int.Signed.{le_z}
use Rattle.axis.specs.Meaning.{day_at, Moment}
use Rattle.scales.specs.declared.Scale.{Scale}
use Rattle.scales.specs.declared.Scale.TheVariants as S
use Rattle.scales.specs.declared.Refusal.{Refusal}
use Rattle.scales.specs.declared.Refusal.TheVariants as R
use Rattle.scales.specs.declared.Record.{Record}
use Rattle.scales.specs.declared.Refused.{Refused}
use Rattle.scales.specs.declared.Tick.{Tick}
use Rattle.scales.specs.declared.Tai.{Tai}
use Rattle.scales.specs.declared.Utc.{Utc}
use Rattle.scales.specs.declared.Gps.{Gps}
use Rattle.scales.specs.declared.Mark.{Mark}
use Rattle.scales.specs.declared.Mark.TheVariants as M
use Rattle.scales.specs.declared.Time.{Time}
use Rattle.scales.specs.declared.Time.TheVariants as TM

-- a scale as a number
abbrev pub code_of : Scale → ℕ
code_of S.Tai = 0
code_of S.Utc = 1
code_of S.Gps = 2

abbrev pub scale_at : ℕ → Scale
scale_at c = cond (eqb c 1) S.Utc (cond (eqb c 2) S.Gps S.Tai)

abbrev pub same_scale : Scale → Scale → Bool
same_scale s t = eqb (code_of s) (code_of t)

-- ---- "Each scale has its own first day, last day and microsecond bound, and a record's span means all three"
abbrev pub first : Scale → ℤ
first S.Tai = negsuc 10226
first S.Utc = negsuc 10226
first S.Gps = negsuc 7299

abbrev pub last : Scale → ℤ
last S.Tai = pos 36524
last S.Utc = pos 36524
last S.Gps = pos 36524

abbrev pub bound : Scale → ℕ
bound S.Tai = 86400000000
bound S.Utc = 86401000000
bound S.Gps = 86400000000

abbrev pub in_span : Scale → ℤ → ℕ → Bool
in_span s d u = le_z (first s) d && (le_z d (last s) && ltb u (bound s))

-- ---- "The first that applies in this order is given, never otherwise"
-- what a function judges, from top to bottom: given a test, or else its number; in the end it gives a value
pub data Judged (A : Type 0) : Type 0 where
  given : Bool → ℕ → Judged A → Judged A
  gives : A → Judged A

pub data Outcome (A : Type 0) : Type 0 where
  refused : ℕ → Outcome A
  answer : A → Outcome A

abbrev pub outcome : {A : Type 0} → Judged A → Outcome A
outcome (given t n rest) = cond t (outcome rest) (refused n)
outcome (gives a) = answer a

-- what one chain gives is judged by the next
abbrev pub and_then : {A B : Type 0} → Judged A → (A → Judged B) → Judged B
and_then (given t n rest) next = given t n (and_then rest next)
and_then (gives a) next = next a

-- the numbers that a function may refuse with, as it judges them
abbrev pub numbers : {A : Type 0} → Judged A → List ℕ
numbers (given t n rest) = n ∷ numbers rest
numbers (gives a) = []

-- the order of the refusal slip
abbrev pub order : List ℕ
order = 1 ∷ 2 ∷ 3 ∷ 14 ∷ 16 ∷ 4 ∷ 5 ∷ 6 ∷ 7 ∷ 15 ∷ 8 ∷ 17 ∷ 9 ∷ 10 ∷ 11 ∷ 12 ∷ 13 ∷ []

-- numbers stand in an order: each is there, and not before the one before
abbrev pub stands_in : List ℕ → List ℕ → Bool
stands_in [] os = true
stands_in (n ∷ ns) [] = false
stands_in (n ∷ ns) (o ∷ os) = cond (eqb n o) (stands_in ns (o ∷ os)) (stands_in (n ∷ ns) os)

-- ---- what the desk hands back of a time: the number (0 for an answer), the scale, the day, the microsecond and the mark
pub record Slip : Type 0 where
  pub number : ℕ
  pub scale : Scale
  pub day : ℤ
  pub micro : ℕ
  pub mark : Mark

-- "Every refusal returns its number, day 0 microsecond 0 of the scale that the answer would have had"; "An answer returns 0";
-- "A refusal's empty record is marked plain"
abbrev pub dated_as : Mark → Scale → Outcome Moment → Slip
dated_as m s (refused n) = record { number = n; scale = s; day = pos 0; micro = 0; mark = M.Plain }
dated_as m s (answer t) = record { number = 0; scale = s; day = t.day; micro = t.micro; mark = m }

-- "text, decimal and byte readers other than Proteus set plain"
abbrev pub dated : Scale → Outcome Moment → Slip
dated s o = dated_as M.Plain s o

-- an answer with another mark; a refusal stays plain
abbrev pub remark : Mark → Slip → Slip
remark m x = record { number = x.number; scale = x.scale; day = x.day; micro = x.micro; mark = cond (eqb x.number 0) m M.Plain }

-- ---- what it hands back of any other value, a count, a tick, fields or a date: the number and the value
pub record Valued (A : Type 0) : Type 0 where
  pub number : ℕ
  pub value : A

-- "Every refusal returns its number, .. or count, tick, length .. zero"; "An answer returns 0"
abbrev pub valued : {A : Type 0} → A → Outcome A → Valued A
valued zero (refused n) = record { number = n; value = zero }
valued zero (answer a) = record { number = 0; value = a }

-- ---- what it hands back of a writing: the number, how many elements were written, and the whole lent slice, of bytes or of numbers
pub record Wrote (A : Type 0) : Type 0 where
  pub number : ℕ
  pub length : ℕ
  pub lent : List A

-- "lent memory keeps all its bytes"; "bytes after the written part stay"
abbrev pub written : {A : Type 0} → List A → Outcome (List A) → Wrote A
written out (refused n) = record { number = n; length = 0; lent = out }
written out (answer image) = record { number = 0; length = length image; lent = image ++ drop (length image) out }

-- ---- this paper's number and values for each case of an answer
abbrev pub number_of : Refusal → ℕ
number_of R.LengthIsNone = 1
number_of R.MarkerWrong = 2
number_of R.FieldOver = 3
number_of R.DecimalNotFinite = 4
number_of R.ListNotAccepted = 5
number_of R.CorrelationNotAccepted = 6
number_of R.OutsideSpan = 7
number_of R.NotInForce = 8
number_of R.ListExpired = 9
number_of R.SecondLacking = 10
number_of R.ResultOutside = 11
number_of R.NoImage = 12
number_of R.OutputShorter = 13
number_of R.SeasonBroken = 14
number_of R.NoEntry = 15
number_of R.NotOneSecond = 16
number_of R.ResultLater = 17

abbrev pub slip : Result Record Refused → Slip
slip (Ok r) = dated_as r.mark r.scale (answer (record { day = r.day; micro = r.micro }))
slip (Err e) = dated e.scale (refused (number_of e.refusal))

-- the second argument is the lent slice as the writer leaves it
abbrev pub wrote : {A : Type 0} → Result ℕ Refusal → List A → Wrote A
wrote (Ok n) out = record { number = 0; length = n; lent = out }
wrote (Err f) out = record { number = number_of f; length = 0; lent = out }

-- every other answer holds one value or a refusal
abbrev pub value_slip : {A : Type 0} → A → Result A Refusal → Valued A
value_slip zero (Ok a) = valued zero (answer a)
value_slip zero (Err f) = valued zero (refused (number_of f))

abbrev pub count_slip : Result ℕ Refusal → Valued ℕ
count_slip r = value_slip 0 r

abbrev pub tick_slip : Result Tick Refusal → Valued ℕ
tick_slip (Ok t) = count_slip (Ok t.0)
tick_slip (Err f) = count_slip (Err f)

-- a count of scale s holds `bound s` microseconds a day, from day -40000 on
abbrev pub moment_at : Scale → ℕ → Moment
moment_at s n = record { day = day_at (n / bound s); micro = n % bound s }

-- an answer whose type tells its scale is such a count or a refusal
abbrev pub time_slip : Scale → Result ℕ Refusal → Slip
time_slip s (Ok n) = dated s (answer (moment_at s n))
time_slip s (Err f) = dated s (refused (number_of f))

abbrev pub slip_tai : Result Tai Refusal → Slip
slip_tai (Ok t) = time_slip S.Tai (Ok t.0)
slip_tai (Err f) = time_slip S.Tai (Err f)

abbrev pub slip_utc : Result Utc Refusal → Slip
slip_utc (Ok t) = time_slip S.Utc (Ok t.0)
slip_utc (Err f) = time_slip S.Utc (Err f)

abbrev pub slip_gps : Result Gps Refusal → Slip
slip_gps (Ok t) = time_slip S.Gps (Ok t.0)
slip_gps (Err f) = time_slip S.Gps (Err f)

-- a time is a scale and a count
abbrev pub time_scale : Time → Scale
time_scale (TM.Tai t) = S.Tai
time_scale (TM.Utc t) = S.Utc
time_scale (TM.Gps t) = S.Gps

abbrev pub time_count : Time → ℕ
time_count (TM.Tai t) = t.0
time_count (TM.Utc t) = t.0
time_count (TM.Gps t) = t.0

abbrev pub time_at : Scale → ℕ → Time
time_at S.Tai n = TM.Tai (record { 0 = n })
time_at S.Utc n = TM.Utc (record { 0 = n })
time_at S.Gps n = TM.Gps (record { 0 = n })

abbrev pub slip_timed : Result Time Refused → Slip
slip_timed (Ok t) = time_slip (time_scale t) (Ok (time_count t))
slip_timed (Err e) = time_slip e.scale (Err e.refusal)

-- ---- the functions of this crate
abbrev pub refused_of : Scale → Refusal → Refused
refused_of s f = record { refusal = f; scale = s }

abbrev pub marked_record : Mark → Record → Record
marked_record m r = record { scale = r.scale; day = r.day; micro = r.micro; mark = m }

abbrev pub record_of : Scale → ℤ → ℕ → Record
record_of s d u = record { scale = s; day = d; micro = u; mark = M.Plain }

abbrev pub record_moment : Record → Moment
record_moment r = record { day = r.day; micro = r.micro }

abbrev pub record_at : Scale → ℕ → Record
record_at s n = record_of s (moment_at s n).day (moment_at s n).micro

-- a day and a microsecond handed in as a time of scale s: 7 outside its span
abbrev pub spanning : Scale → ℤ → ℕ → Judged Moment
spanning s d u =
    given (in_span s d u) 7
    (gives (record { day = d; micro = u }))

unfoldable pub spanned_as : Mark → Scale → ℤ → ℕ → Slip
spanned_as m s d u = dated_as m s (outcome (spanning s d u))

abbrev pub spanned : Scale → ℤ → ℕ → Slip
spanned s d u = spanned_as M.Plain s d u

-- a result is held to its span at the end: 11
abbrev pub resulting : Scale → Moment → Judged Moment
resulting s m =
    given (in_span s m.day m.micro) 11
    (gives m)
