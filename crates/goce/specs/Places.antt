-- The correlation on the places of the axis, as the code reckons: `clock`'s numbers at the reference s, in counts from day -40000 on, and
-- the gradient g. Assumes nothing.
use Rattle.std.specs.Prelude.{cond, List, ℕ, ◌+◌, ◌*◌, ◌/◌, ◌≤◌, ◌<◌, ℤ, Option, Some, None}
use Rattle.axis.specs.Meaning.{day_at, place_of_counts}
use Rattle.scales.specs.Meaning.{outcome, Slip, dated}
use Rattle.scales.specs.declared.Scale.TheVariants as S
use Rattle.leap.specs.Meaning.{offset_on}
use Rattle.clock.specs.Meaning.{is_current}
use Rattle.clock.specs.Places as C
use Rattle.clock.specs.Places.{base_as}
use Rattle.clock.specs.declared.inner.Base.{Base}
use Rattle.clock.specs.declared.inner.Ends.{Ends}
use Rattle.clock.specs.declared.inner.Reckoned.{Reckoned}
use Rattle.goce.specs.Meaning.{accepted, day_on, dating}
use Rattle.goce.specs.declared.Correlation.{Correlation}

-- ---- what the private functions answer
abbrev pub spot : Correlation → ℕ
spot c = c.utc0 + place_of_counts c.offset

abbrev pub place_of : Correlation → Option ℕ
place_of c = cond (accepted c) (Some (spot c)) None

-- the date before it is marked
unfoldable pub unmarked_of : Correlation → ℕ → ℤ → ℕ → List ℤ → List ℕ → ℤ → Slip
unmarked_of c t d u ds os e = dated S.Utc (outcome (dating c t d u ds os e))

-- in TAI, with whether its day is not expired
abbrev pub shifted : Correlation → List ℤ → List ℕ → ℕ
shifted c ds os = spot c + offset_on ds os (day_on c) * 65536

abbrev pub base_of : Correlation → List ℤ → List ℕ → ℤ → Option Base
base_of c ds os e = cond (accepted c) (Some (base_as (shifted c ds os) (is_current S.Utc e (day_on c)))) None

-- the same from the reference's place in UTC
abbrev pub base_at : Option ℕ → List ℤ → List ℕ → ℤ → Option Base
base_at (Some p) ds os e = Some (base_as (p + offset_on ds os (day_at (p / 5662310400)) * 65536) (is_current S.Utc e (day_at (p / 5662310400))))
base_at None ds os e = None

abbrev pub time_at : ℕ → ℕ → ℕ → ℕ
time_at s g k = C.time_at (s * 1000000000) g 65536000 140737488355328 k

abbrev pub ends_at : ℕ → ℕ → ℕ → ℕ → Ends
ends_at s g b a = C.ends_at (s * 1000000000) g 65536000 140737488355328 b a

abbrev pub reckoned_at : ℕ → ℕ → ℕ → ℕ → ℕ → Reckoned
reckoned_at s g b a k = C.reckoned_at (s * 1000000000) g 65536000 140737488355328 b a k

abbrev pub count_from : ℕ → ℕ → ℕ
count_from t r = C.count_from 140737488355328 t r

abbrev pub last_at : ℕ → ℕ → ℕ → ℕ
last_at s g w = C.last_at (s * 1000000000) g 65536000 140737488355328 w

abbrev pub obt_from : ℕ → ℕ → ℕ
obt_from r k = C.shown_at 140737488355328 r k

-- ---- what they require: a place before the end of the span
abbrev pub Few : Option ℕ → Type 0
Few (Some p) = p < 433308303360000
Few None = 0 ≤ 0

-- a reference from day -1 to the end of the span, up to 73 s later in TAI, and a gradient, as accepted
pub record Based (s g : ℕ) : Type 0 where
  pub early : 226486753689600 ≤ s
  pub late : s < 433308308144128
  pub slow : 999000000 ≤ g
  pub fast : g ≤ 1001000000

pub record Windowed (s g back ahead : ℕ) : Type 0 where
  pub based : Based s g
  pub back_to : back ≤ 140737488355328
  pub ahead_to : ahead < 140737488355328

-- a place within 2^47 counts of the reference
pub record Near (s g w : ℕ) : Type 0 where
  pub based : Based s g
  pub low : s * 1000000000 < (w + 1) * 65536000 + 140737488355328 * g
  pub high : w < 8800000000000000
