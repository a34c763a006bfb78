-- Decimal days: what is read of an f64 of days, and what is written of a handed time. Assumes nothing.
use Rattle.std.specs.Prelude.{◌≡◌, ltb, ℤ, Float, Result}
use Rattle.axis.specs.Meaning.{day_micros, Moment, since}
use Rattle.scales.specs.Meaning.{Judged, given, gives, Outcome, refused, answer, outcome, Slip, dated, Valued, value_slip}
use Rattle.scales.specs.declared.Refusal.{Refusal}
use Rattle.scales.specs.declared.Scale.{Scale}
use Rattle.double.specs.Meaning.{finite, exact_of, plus_zero, QuotientOf}
use Rattle.handed.specs.Meaning.{spans, nearest_moment, is_finite, is_in_span, day_of, micro_of}
use Rattle.handed.specs.declared.Handed.{Handed}

-- ---- read
abbrev pub reading : Float → Scale → Judged Moment
reading x s =
    given (finite x) 4
    (given (spans s (exact_of x)) 7
    (gives (nearest_moment x)))

unfoldable pub read_of : Float → Scale → Slip
read_of x s = dated s (outcome (reading x s))

-- ---- written: "the record's microseconds since day 0"; second 60 has no decimal day
abbrev pub writing : Handed → Judged ℤ
writing h =
    given (is_finite h) 4
    (given (is_in_span h) 7
    (given (ltb (micro_of h) day_micros) 12
    (gives (since (day_of h) (micro_of h)))))

-- "the double nearest the exact quotient": x is the decimal day of z microseconds since day 0
abbrev pub DayOf : ℤ → Float → Type 0
DayOf z x = QuotientOf z day_micros x

-- ---- the number and the value of an answer: "Every refusal returns its number, .. or decimal plus zero"
abbrev pub decimal_slip : Result Float Refusal → Valued Float
decimal_slip r = value_slip plus_zero r

-- what is handed back of an outcome: a refusal's number with plus zero, or 0 with the decimal day
abbrev pub Allowed : Outcome ℤ → Valued Float → Type 0
Allowed (refused n) w = (w.number ≡ n) × (w.value ≡ plus_zero)
Allowed (answer z) w = (w.number ≡ 0) × DayOf z w.value

abbrev pub WroteDay : Handed → Result Float Refusal → Type 0
WroteDay h r = Allowed (outcome (writing h)) (decimal_slip r)
