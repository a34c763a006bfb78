-- A time to its TAI count, and from a TAI count to a time, as the paper states them: the two halves of every change. A list is its
-- steps' days ds, its offsets os and its last day e. Assumes nothing.
use Rattle.std.specs.Prelude.{Bool, not, List, ℕ, ℤ, ◌+ℤ◌, ◌-ℤ◌}
use Rattle.axis.specs.Meaning.{Moment, since, moment_of}
use Rattle.scales.specs.Meaning.{same_scale, in_span, Judged, given, gives, moment_at, resulting}
use Rattle.scales.specs.declared.Scale.{Scale}
use Rattle.scales.specs.declared.Scale.TheVariants as S
use Rattle.leap.specs.Meaning.{seconds, tai_of, has_micro, is_expired_day, is_expired_tai, utc_of}

-- ---- a time to its TAI count; `spans` says whether the time lies in its span
abbrev pub from_tai : Bool → Moment → Judged ℤ
from_tai spans m =
    given spans 7
    (gives (since m.day m.micro))

-- "TAI is GPS plus 19 s"
abbrev pub from_gps : Bool → Moment → Judged ℤ
from_gps spans m =
    given spans 7
    (gives (since m.day m.micro +ℤ seconds 19))

abbrev pub from_utc : List ℤ → List ℕ → ℤ → Bool → Moment → Judged ℤ
from_utc ds os e spans m =
    given spans 7
    (given (not (is_expired_day e m.day)) 9
    (given (has_micro ds m.day m.micro) 10
    (gives (tai_of ds os m.day m.micro))))

-- ---- a TAI count, "whose span is not tested on the way", to a time
abbrev pub to_tai : ℤ → Judged Moment
to_tai c = resulting S.Tai (moment_of c)

abbrev pub to_gps : ℤ → Judged Moment
to_gps c = resulting S.Gps (moment_of (c -ℤ seconds 19))

abbrev pub to_utc : List ℤ → List ℕ → ℤ → ℤ → Judged Moment
to_utc ds os e c =
    given (not (is_expired_tai ds os e c)) 9
    (resulting S.Utc (utc_of ds os c))

-- ---- both, by the scale
abbrev pub from_scale : Scale → List ℤ → List ℕ → ℤ → Bool → Moment → Judged ℤ
from_scale S.Tai ds os e = from_tai
from_scale S.Utc ds os e = from_utc ds os e
from_scale S.Gps ds os e = from_gps

abbrev pub to_scale : Scale → List ℤ → List ℕ → ℤ → ℤ → Judged Moment
to_scale S.Tai ds os e = to_tai
to_scale S.Utc ds os e = to_utc ds os e
to_scale S.Gps ds os e = to_gps

-- of a count of a scale
abbrev pub of_count : {A : Type 0} → Scale → ℕ → (Bool → Moment → A) → A
of_count s n f = f (in_span s (moment_at s n).day (moment_at s n).micro) (moment_at s n)

abbrev pub is_utc : Scale → Bool
is_utc s = same_scale s S.Utc
