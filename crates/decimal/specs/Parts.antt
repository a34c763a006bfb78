-- What the private functions answer: what is written of a time that was taken apart. Assumes nothing.
use Rattle.std.specs.Prelude.{ℕ, ◌/◌, ◌%◌, ℤ, ltb, Float, Result}
use Rattle.axis.specs.Meaning.{day_at, day_micros, since}
use Rattle.scales.specs.Meaning.{Judged, given, gives, outcome}
use Rattle.decimal.specs.Meaning.{decimal_slip, Allowed}
use Rattle.scales.specs.declared.Refusal.{Refusal}

-- what is written of a day and a microsecond in the span
abbrev pub imaging : ℤ → ℕ → Judged ℤ
imaging d u =
    given (ltb u day_micros) 12
    (gives (since d u))

-- the same of a count that holds b microseconds a day
abbrev pub Imaged : ℕ → ℕ → Result Float Refusal → Type 0
Imaged b n r = Allowed (outcome (imaging (day_at (n / b)) (n % b))) (decimal_slip r)
