-- GOCE's correlation in the paper's signed numbers: what it accepts, its clock, the date of a count and the count of a time. OBT, Offset
-- and UTC0 are counts of 1/65536 s; UTC0 is counted from 1 January 2000, every day having 86,400 s. A list is its steps' days ds, its
-- offsets os and its last day e. Assumes nothing.
use Rattle.std.specs.Prelude.{Bool, ◌&&◌, List, ℕ, ◌*◌, ◌^◌, leb, ltb, ℤ, pos, neg_ℤ, ◌+ℤ◌, ◌*ℤ◌}
use Rattle.std.specs.Int.Signed.{le_z, lt_z}
use Rattle.axis.specs.Meaning.{floor_z, Moment}
use Rattle.scales.specs.Meaning.{first, last, Judged, given, outcome, Slip, dated_as, Valued, valued}
use Rattle.scales.specs.declared.Scale.TheVariants as S
use Rattle.handed.specs.declared.Handed.{Handed}
use Rattle.leap.specs.Meaning.{offset_on}
use Rattle.clock.specs.Meaning as C
use Rattle.goce.specs.declared.Correlation.{Correlation}

abbrev pub day_counts : ℕ
day_counts = 86400 * 65536

-- ---- "UTC0 is from 0 to 2^48 - 1", and so is OBT0; "Gradient is whole billionths from 999,000,000 to 1,001,000,000"; "a window in counts
-- (back to 2^47, ahead to 2^47 - 1)"
abbrev pub in_limits : Correlation → Bool
in_limits c =
    ltb c.obt0 (2 ^ 48)
    && (ltb c.utc0 (2 ^ 48)
    && (leb 999000000 c.gradient
    && (leb c.gradient 1001000000
    && (leb c.back (2 ^ 47)
    && ltb c.ahead (2 ^ 47)))))

-- "Offset is signed, at most one day either way"
abbrev pub is_offset : ℤ → Bool
is_offset o = le_z (neg_ℤ (pos day_counts)) o && le_z o (pos day_counts)

-- UTC0 plus Offset, which is the reference's time
abbrev pub reference : Correlation → ℤ
reference c = pos c.utc0 +ℤ c.offset

-- from the beginning of the UTC span's first day to the end of its last
abbrev pub is_in_utc : ℤ → Bool
is_in_utc z = le_z (first S.Utc *ℤ pos day_counts) z && lt_z z ((last S.Utc +ℤ pos 1) *ℤ pos day_counts)

-- "a correlation whose UTC0 plus Offset is outside the UTC span is not accepted"
unfoldable pub accepted : Correlation → Bool
accepted c = in_limits c && (is_offset c.offset && is_in_utc (reference c))

-- the UTC day of the reference
abbrev pub day_on : Correlation → ℤ
day_on c = floor_z (reference c) day_counts

-- the reference in TAI, still a fraction: the seconds of TAI minus UTC on its day, 65,536 counts each
abbrev pub tai_reference : Correlation → List ℤ → List ℕ → ℤ
tai_reference c ds os = reference c +ℤ pos (offset_on ds os (day_on c) * 65536)

-- ---- "UTC = Gradient x (OBT - OBT0) + Offset + UTC0", of a counter of 48 bits: a count is 10^9 / 65,536,000 microseconds, and one of
-- OBT - OBT0 is Gradient / 65,536,000; "The exact sum is rounded down once to the microsecond"
abbrev pub clock_of : Correlation → List ℤ → List ℕ → C.Clock
clock_of c ds os =
    record {
      scale = S.Utc;
      half = 140737488355328;
      reference = c.obt0;
      day = day_on c;
      start = tai_reference c ds os *ℤ pos 1000000000;
      gain = c.gradient;
      per = 65536000;
      back = c.back;
      ahead = c.ahead;
    }

-- ---- the date of count t, received at microsecond u of UTC day d: 3, 5, 6, 7, 8, 9, 10, 11
abbrev pub dating : Correlation → ℕ → ℤ → ℕ → List ℤ → List ℕ → ℤ → Judged Moment
dating c t d u ds os e =
    given (ltb t (2 ^ 48)) 3
    (C.dating (accepted c) (clock_of c ds os) t d u ds os e)

unfoldable pub date_of : Correlation → ℕ → ℤ → ℕ → List ℤ → List ℕ → ℤ → Slip
date_of c t d u ds os e = dated_as (C.mark_of (clock_of c ds os)) S.Utc (outcome (dating c t d u ds os e))

-- ---- the count of a time: 4, 5, 6, 7, 8, 9, 10, 12
abbrev pub turning : Correlation → Handed → List ℤ → List ℕ → ℤ → Judged ℕ
turning c h ds os e = C.turning (accepted c) (clock_of c ds os) h ds os e

unfoldable pub obt_of : Correlation → Handed → List ℤ → List ℕ → ℤ → Valued ℕ
obt_of c h ds os e = valued 0 (outcome (turning c h ds os e))
