-- Times in bytes, for every layout that stands for one: the fraction rule, microseconds from a day on,
-- a reader's tests after those of its fields, and a writer's. Assumes nothing.
use Rattle.std.specs.Prelude.{Bool, cond, List, ℕ, zero, suc, ◌+◌, ◌-◌, ◌*◌, ◌/◌, ◌%◌, ◌^◌, leb, ℤ, pos, ◌+ℤ◌}
use Rattle.axis.specs.Meaning.{place_of_day, Moment}
use Rattle.scales.specs.Meaning.{Judged, given, spanning}
use Rattle.scales.specs.declared.Scale.{Scale}
use Rattle.handed.specs.declared.Handed.{Handed}
use Rattle.handed.specs.Meaning.{is_finite, is_in_span}
use Rattle.layout_fields.specs.Meaning.{placing}

-- ---- a fraction of n bits: f stands for f / 2 ^ n seconds, as a whole microsecond
pub data Rounding : Type 0 where
  whole_part : Rounding
  nearest : Rounding

-- what is added before the whole part is taken: nothing, or a half, so that halves go upward
abbrev pub added : Rounding → ℕ → ℕ
added whole_part n = 0
added nearest n = 2 ^ n / 2

abbrev pub stands_for : Rounding → ℕ → ℕ → ℕ
stands_for r n f = (f * 1000000 + added r n) / 2 ^ n

-- the last number up to `most` that does not stand for more than u
unfoldable pub last_to : Rounding → ℕ → ℕ → ℕ → ℕ
last_to r n u zero = 0
last_to r n u (suc most) = cond (leb (stands_for r n (suc most)) u) (suc most) (last_to r n u most)

-- "the last fraction whose reading, as a whole microsecond, is not later than the time"
abbrev pub last_fraction : Rounding → ℕ → ℕ → ℕ
last_fraction r n u = last_to r n u (2 ^ n - 1)

-- CUC's fraction, and Proteus': "A 16-bit fraction is to stand for the nearest microsecond, halves upward, instead of the whole part"
abbrev pub rounding : Rounding
rounding = nearest

abbrev pub fraction_micros : ℕ → ℕ
fraction_micros f = stands_for rounding 16 f

abbrev pub fraction_at : ℕ → ℕ
fraction_at u = last_fraction rounding 16 u

-- ---- days of 86,400 s
-- n microseconds after the beginning of day d
abbrev pub moment_from : ℤ → ℕ → Moment
moment_from d n = record { day = d +ℤ pos (n / 86400000000); micro = n % 86400000000 }

-- the microseconds from the beginning of day e to microsecond u of day d, which is not before
abbrev pub micros_from : ℤ → ℤ → ℕ → ℕ
micros_from e d u = (place_of_day d - place_of_day e) * 86400000000 + u

-- ---- a reader of times judges as the reader of its fields, and then on
-- "A reader's 7 is judged on the whole time that the bytes .. stand for, carry included"
abbrev pub judged : Scale → Moment → Judged Moment
judged s m = spanning s m.day m.micro

-- ---- a writer judges the handed time, whether it has an image, and the room
abbrev pub imaging : Handed → Bool → List ℕ → List ℕ → Judged (List ℕ)
imaging h has image out =
    given (is_finite h) 4
    (given (is_in_span h) 7
    (given has 12
    (placing image out)))
