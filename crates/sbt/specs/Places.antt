-- The correlation on the places of the axis, as the code reckons: `clock`'s numbers at the reference's place r and the period p. Assumes
-- nothing.
use Rattle.std.specs.Prelude.{cond, List, ℕ, ◌+◌, ◌*◌, ◌≤◌, ◌<◌, ℤ, Result, Option, Ok, Err, Some, None}
use Rattle.scales.specs.Meaning.{refused, answer, outcome, Slip, dated, Valued, valued, number_of}
use Rattle.clock.specs.Meaning.{is_current}
use Rattle.clock.specs.Places as C
use Rattle.clock.specs.Places.{base_as}
use Rattle.clock.specs.Stage.{spot, seconds_in}
use Rattle.clock.specs.declared.inner.Base.{Base}
use Rattle.clock.specs.declared.inner.Ends.{Ends}
use Rattle.clock.specs.declared.inner.Reckoned.{Reckoned}
use Rattle.sbt.specs.Meaning.{accepted, dating}
use Rattle.sbt.specs.declared.Correlation.{Correlation}
use Rattle.scales.specs.declared.Refusal.{Refusal}

-- ---- what the private functions answer
-- the date before it is marked
unfoldable pub unmarked_of : Correlation → ℕ → ℤ → ℕ → List ℤ → List ℕ → ℤ → Slip
unmarked_of c t d u ds os e = dated c.scale (outcome (dating c t d u ds os e))

abbrev pub place_of : Correlation → Option ℕ
place_of c = cond (accepted c) (Some (spot c.day c.micro)) None

-- on the clock's axis, with whether its day is not expired
abbrev pub shifted : Correlation → List ℤ → List ℕ → ℕ
shifted c ds os = spot c.day c.micro + seconds_in c.scale c.day ds os * 1000000

abbrev pub base_of : Correlation → List ℤ → List ℕ → ℤ → Option Base
base_of c ds os e = cond (accepted c) (Some (base_as (shifted c ds os) (is_current c.scale e c.day))) None

abbrev pub time_at : ℕ → ℕ → ℕ → ℕ
time_at r p k = C.time_at (r * 1000000) p 1000000 2147483648 k

abbrev pub ends_at : ℕ → ℕ → ℕ → ℕ → Ends
ends_at r p b a = C.ends_at (r * 1000000) p 1000000 2147483648 b a

-- the cover of an accepted correlation
abbrev pub covered_by : Correlation → Option Ends
covered_by c = cond (accepted c) (Some (ends_at (spot c.day c.micro) c.period c.back c.ahead)) None

abbrev pub reckoned_at : ℕ → ℕ → ℕ → ℕ → ℕ → Reckoned
reckoned_at r p b a k = C.reckoned_at (r * 1000000) p 1000000 2147483648 b a k

abbrev pub count_from : ℕ → ℕ → ℕ
count_from t r = C.count_from 2147483648 t r

abbrev pub last_at : ℕ → ℕ → ℕ → ℕ
last_at r p w = C.last_at (r * 1000000) p 1000000 2147483648 w

abbrev pub tick_from : ℕ → ℕ → ℕ
tick_from r k = C.shown_at 2147483648 r k

-- and where a place was found
abbrev pub last_in : ℕ → ℕ → Result ℕ Refusal → Result ℕ Refusal
last_in r p (Ok w) = Ok (last_at r p w)
last_in r p (Err f) = Err f

abbrev pub ticked_as : ℕ → Result ℕ Refusal → Valued ℕ
ticked_as t (Ok k) = valued 0 (answer (tick_from t k))
ticked_as t (Err f) = valued 0 (refused (number_of f))

-- ---- what they require: a reference of the span, up to 73 s later in TAI, and a period, as accepted
pub record Based (r p : ℕ) : Type 0 where
  pub early : 2572387200000000 ≤ r
  pub late : r < 6611760073000000
  pub fast : 3906000000 ≤ p
  pub slow : p ≤ 3906500000

pub record Windowed (r p back ahead : ℕ) : Type 0 where
  pub based : Based r p
  pub back_to : back ≤ 2147483648
  pub ahead_to : ahead ≤ 2147483647

-- a place within 2^31 periods of the reference
pub record Near (r p w : ℕ) : Type 0 where
  pub based : Based r p
  pub low : r * 1000000 < (w + 1) * 1000000 + 2147483648 * p
  pub high : w ≤ r + 8389144870912

-- where it was found
abbrev pub Reached : ℕ → ℕ → Result ℕ Refusal → Type 0
Reached r p (Ok w) = Near r p w
Reached r p (Err f) = 0 ≤ 0

-- a count of the window
abbrev pub Few : Result ℕ Refusal → Type 0
Few (Ok k) = k < 4294967296
Few (Err f) = 0 ≤ 0
