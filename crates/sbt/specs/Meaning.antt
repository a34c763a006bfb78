-- The SBT correlation in the paper's signed numbers: what it accepts, its clock, the date of a tick and the tick of a time. A list is its
-- steps' days ds, its offsets os and its last day e. Assumes nothing.
use Rattle.std.specs.Prelude.{Bool, ◌&&◌, List, ℕ, leb, ltb, ℤ, pos, ◌*ℤ◌}
use Rattle.axis.specs.Meaning.{Moment, day_micros}
use Rattle.scales.specs.Meaning.{in_span, Judged, outcome, Slip, dated_as, Valued, valued}
use Rattle.handed.specs.declared.Handed.{Handed}
use Rattle.clock.specs.Meaning as C
use Rattle.sbt.specs.declared.Correlation.{Correlation}

-- ---- "a period P in picoseconds from 3,906,000,000 to 3,906,500,000, and a window: ticks back b (0 to 2^31) and ticks ahead a
-- (0 to 2^31 - 1). The reference lies in its scale's span with a microsecond below 86,400,000,000"
unfoldable pub accepted : Correlation → Bool
accepted c =
    leb 3906000000 c.period
    && (leb c.period 3906500000
    && (leb c.back 2147483648
    && (leb c.ahead 2147483647
    && (in_span c.scale c.day c.micro
    && ltb c.micro day_micros))))

-- ---- a counter of 32 bits; "the reference plus k x P / 1,000,000 microseconds, rounded down (towards the past)"
abbrev pub clock_of : Correlation → List ℤ → List ℕ → C.Clock
clock_of c ds os =
    record {
      scale = c.scale;
      half = 2147483648;
      reference = c.tick.0;
      day = c.day;
      start = C.instant c.scale ds os c.day c.micro *ℤ pos 1000000;
      gain = c.period;
      per = 1000000;
      back = c.back;
      ahead = c.ahead;
    }

-- ---- the date of tick t, received at microsecond u of day d: 5, 6, 7, 8, 9, 10, 11
abbrev pub dating : Correlation → ℕ → ℤ → ℕ → List ℤ → List ℕ → ℤ → Judged Moment
dating c t d u ds os e = C.dating (accepted c) (clock_of c ds os) t d u ds os e

unfoldable pub date_of : Correlation → ℕ → ℤ → ℕ → List ℤ → List ℕ → ℤ → Slip
date_of c t d u ds os e = dated_as (C.mark_of (clock_of c ds os)) c.scale (outcome (dating c t d u ds os e))

-- ---- the tick of a time: 4, 5, 6, 7, 8, 9, 10, 12
abbrev pub turning : Correlation → Handed → List ℤ → List ℕ → ℤ → Judged ℕ
turning c h ds os e = C.turning (accepted c) (clock_of c ds os) h ds os e

unfoldable pub tick_of : Correlation → Handed → List ℤ → List ℕ → ℤ → Valued ℕ
tick_of c h ds os e = valued 0 (outcome (turning c h ds os e))
