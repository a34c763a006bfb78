-- What the private functions answer: sign and size apart, and places of the axis, which the code reckons with. Assumes nothing.
use Rattle.std.specs.Prelude.{Bool, true, false, cond, ℕ, ◌+◌, ◌-◌, ◌*◌, ◌/◌, ◌%◌, ℤ, leb, ltb, Float, Result, Ok, Err}
use Rattle.std.specs.Float.{nan, inf, fin}
use Rattle.axis.specs.Meaning.{place_of_day, day_micros}
use Rattle.scales.specs.Meaning.{first, bound, time_at}
use Rattle.scales.specs.declared.Scale.{Scale}
use Rattle.scales.specs.declared.Time.{Time}
use Rattle.double.specs.Meaning.{Exact, up, down, over, under}
use Rattle.handed.specs.declared.Unread.{Unread}
use Rattle.handed.specs.declared.Unread.TheVariants.{NotFinite, Outside}

-- the days from a day on or before day 0 to day 0
abbrev pub back_to : ℤ → ℕ
back_to d = 40000 - place_of_day d

abbrev pub first_of : Scale → ℕ
first_of s = back_to (first s)

-- the whole number nearest a / c; a half goes up, or down
abbrev pub half_up : ℕ → ℕ → ℕ
half_up a c = (a * 2 + c) / (c * 2)

abbrev pub half_down : ℕ → ℕ → ℕ
half_down a c = (a * 2 + (c - 1)) / (c * 2)

-- the microseconds nearest a / c days after day 0, or before it; a half goes to the later
abbrev pub micros_in : Bool → ℕ → ℕ → ℕ
micros_in false a c = half_up (a * day_micros) c
micros_in true a c = half_down (a * day_micros) c

-- a / c days after day 0 is before day 36525; a / c days before day 0 is not before the day -back
abbrev pub inside : ℕ → Bool → ℕ → ℕ → Bool
inside back false a c = ltb a (36525 * c)
inside back true a c = leb a (back * c)

-- the place n microseconds after day 0, or before it
abbrev pub place_in : Bool → ℕ → ℕ
place_in false n = 3456000000000000 + n
place_in true n = 3456000000000000 - n

abbrev pub place_of : Exact → ℕ
place_of v = place_in v.minus (micros_in v.minus (over v) (under v))

abbrev pub value_of : ℕ → Bool → ℕ → ℕ → Result ℕ Unread
value_of back s a c = cond (inside back s a c) (Ok (place_in s (micros_in s a c))) (Err Outside)

unfoldable pub found : ℕ → Float → Result ℕ Unread
found back nan = Err NotFinite
found back (inf s) = Err NotFinite
found back (fin s m e) = value_of back s (m * up e) (down e)

-- the time of a scale at place n of the axis of microseconds
abbrev pub time_of : Scale → ℕ → Time
time_of s n = time_at s (n / day_micros * bound s + n % day_micros)
