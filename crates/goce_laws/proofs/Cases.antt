-- GOCE's dates and counts under the published list, computed: one rounding, rounded towards the past, the ends of each number; and each
-- theorem at an input that meets its hypotheses. `NewYear.antt` has the leap second. Assumes nothing.
use mathlib.Core.Path.{◌≡◌, refl, ◌∙◌}
use mathlib.Core.Bool.{true}
use Prim.Native.Nat.{ℕ, ◌<◌}
use lib.Dec.{lit<}
use lib.IntN.{ℤ, pos, negsuc, ◌+ℤ◌, ◌*ℤ◌}
use lib.Signed.{le_z}
use lib.Ieee.{fin}
use Rattle.axis.specs.Meaning.{floor_z, Moment}
use Rattle.scales.specs.Meaning.{in_span, Outcome, answer, refused, outcome, dated_as, record_of, marked_record, valued}
use Rattle.scales.specs.declared.Scale.TheVariants as S
use Rattle.scales.specs.declared.Mark.{Mark}
use Rattle.scales.specs.declared.Mark.TheVariants as M
use Rattle.handed.specs.declared.Handed.{Handed}
use Rattle.handed.specs.declared.Handed.TheVariants as H
use Rattle.leap.specs.Meaning.{through, is_step, tai_of, published_days, published_offsets, published_last}
use Rattle.leap.specs.Published.{published}
use Rattle.leap_laws.proofs.Computed.{even}
use Rattle.leap_laws.proofs.Lists.{with_published, with_even}
use Rattle.clock.specs.Meaning.{Clock, clock, time, in_window, within, covers, elapsed, latest}
use Rattle.goce.specs.Meaning.{accepted, clock_of, dating, date_of, turning, obt_of}
use Rattle.goce.specs.declared.Correlation.{Correlation}
use Rattle.goce_laws.proofs.Counts.{elapsed_one}
use Rattle.goce_laws.proofs.Answers.{dates, exact, turns}
use Rattle.goce_laws.proofs.Trips.{comes_back, same_count, record_back, never_later, little_earlier}
use Rattle.goce_laws.proofs.Night.{outside_window, received_before, received_after, no_wrap}
use Rattle.goce_laws.proofs.Marks.{correlated, marked_date, mark_ignored}

-- ---- a true clock from the beginning of day 0 on, the same window either way; its reference may be moved
abbrev pub moved : ℕ → ℕ → ℤ → ℕ → Correlation
moved obt0 utc0 offset n = record { obt0 = obt0; utc0 = utc0; offset = offset; gradient = 1000000000; back = n; ahead = n }

abbrev pub zero : ℕ → Correlation
zero n = moved 0 0 (pos 0) n

abbrev pub at : ℤ → ℕ → Moment
at d u = record { day = d; micro = u }

abbrev pub utc : ℤ → ℕ → Handed
utc d u = H.Record (record_of S.Utc d u)

abbrev pub utc_marked : Mark → ℤ → ℕ → Handed
utc_marked m d u = H.Record (marked_record m (record_of S.Utc d u))

abbrev pub date : Correlation → ℕ → ℤ → ℕ → Outcome Moment
date c t d u = outcome (with_published (dating c t d u))

abbrev pub turn : Correlation → Handed → Outcome ℕ
turn c h = outcome (with_published (turning c h))

-- UTC0 = 3 and k = 3 are 6 counts, 91.55 microseconds; the count before OBT0 takes away 15.26. And back
pub either_side :
    (date (moved 0 3 (pos 0) 10) 3 (pos 0) 91 ≡ answer (at (pos 0) 91))
    × (date (zero 10) 281474976710655 (pos 0) 0 ≡ answer (at (negsuc 0) 86399999984))
    × (turn (moved 0 3 (pos 0) 10) (utc (pos 0) 91) ≡ answer 3)
    × (turn (zero 10) (utc (negsuc 0) 86399999984) ≡ answer 281474976710655)
unfolding accepted clock in_window within latest through is_step
either_side = (rw published, rw published, rw published, rw published)

-- ---- the farthest counts at the ends of Gradient, and references at day -1 and at the last count of day 36524, under a list that is as long
-- as a list can be: past its end it is 17, and before the span 11
abbrev pub far : ℕ → Correlation
far g = record { obt0 = 0; utc0 = 70778880000000; offset = pos 0; gradient = g; back = 140737488355328; ahead = 140737488355327 }

pub farthest :
    (outcome (with_even (dating (far 999000000) 140737488355327 (pos 12500) 0)) ≡ refused 17)
    × (outcome (with_even (dating (far 999000000) 70368744177664 (pos 24915) 12082176000)) ≡ answer (at (pos 24915) 12082176000))
    × (outcome (with_even (dating (far 1001000000) 140737488355328 (pos 12500) 0)) ≡ refused 11)
    × (outcome (with_even (dating (moved 0 0 (negsuc 5662310399) 0) 0 (negsuc 0) 0)) ≡ answer (at (negsuc 0) 0))
    × (outcome (with_even (dating (moved 7 206815887359999 (pos 0) 0) 7 (pos 36524) 86399999984)) ≡ answer (at (pos 36524) 86399999984))
unfolding accepted clock in_window within through is_step
farthest = (rw even, rw even, rw even, rw even, rw even)

-- ---- each theorem, at an input
abbrev clock_at : ℕ → Clock
clock_at n = clock_of (zero n) published_days published_offsets

abbrev tai_at : ℤ → ℕ → ℤ
tai_at d u = tai_of published_days published_offsets d u

abbrev before : Moment
before = at (negsuc 0) 86399999984

-- an answer's TAI is the exact sum, rounded once: 32 s are 2,097,152 counts
pub sum : tai_at (pos 0) 91 ≡ floor_z (pos 2097155 *ℤ pos 1000000000 +ℤ pos 3 *ℤ pos 1000000000) 65536000
unfolding through
sum = exact (moved 0 3 (pos 0) 10) 3 (pos 0) 91 published_days published_offsets published_last (at (pos 0) 91) either_side.0

-- an answer's receipt was a UTC time and its TAI covered, and so was that of a time that was turned back
pub receipt_received : in_span S.Utc (pos 0) 0 ≡ true
receipt_received = (dates (zero 10) 281474976710655 (pos 0) 0 published_days published_offsets published_last before either_side.1).received

pub receipt_covered : covers (clock_at 10) (tai_at (pos 0) 0) ≡ true
receipt_covered = (dates (zero 10) 281474976710655 (pos 0) 0 published_days published_offsets published_last before either_side.1).cover

pub time_covered : covers (clock_at 10) (tai_at (negsuc 0) 86399999984) ≡ true
time_covered = (turns (zero 10) (utc (negsuc 0) 86399999984) published_days published_offsets published_last 281474976710655 either_side.3).cover

-- a count to a time and back, by the record that was answered, its mark included, and by a time that stands for it
pub trip : turn (zero 10) (utc_marked (M.Correlated 0) (negsuc 0) 86399999984) ≡ answer 281474976710655
trip = record_back (zero 10) published_days published_offsets published_last 281474976710655 (pos 0) 0 before either_side.1 (M.Correlated 0)

pub trip_same : (n : ℕ) → turn (zero 10) (utc (negsuc 0) 86399999984) ≡ answer n → n ≡ 281474976710655
trip_same =
    same_count (zero 10) published_days published_offsets published_last 281474976710655 (pos 0) 0 before either_side.1 (utc (negsuc 0) 86399999984)
    (record { scale = refl; day = refl; micro = refl })

-- and by a decimal day: half a day before day 0, 43,200 x 65,536 counts before OBT0
half_day : date (zero 2831155200) 281472145555456 (pos 0) 0 ≡ answer (at (negsuc 0) 43200000000)
unfolding accepted clock in_window within through is_step
half_day = rw published

pub trip_decimal : turn (zero 2831155200) (H.Decimal (fin true 1 (negsuc 0)) S.Utc) ≡ answer 281472145555456
trip_decimal =
    comes_back (zero 2831155200) published_days published_offsets published_last 281472145555456 (pos 0) 0 (at (negsuc 0) 43200000000) half_day
    (H.Decimal (fin true 1 (negsuc 0)) S.Utc) (record { scale = refl; day = refl; micro = refl }) refl refl

-- a time to a count and back: 14 microseconds after the reference, marked by another one, the reference
turned : turn (zero 10) (utc_marked (M.Correlated 7) (pos 0) 14) ≡ answer 0
unfolding accepted clock in_window within latest through is_step
turned = rw published

dated_again : date (zero 10) 0 (pos 0) 0 ≡ answer (at (pos 0) 0)
unfolding accepted clock in_window within through is_step
dated_again = rw published

pub time_trip :
    (le_z (tai_at (pos 0) 0) (tai_at (pos 0) 14) ≡ true)
    × (le_z (tai_at (pos 0) 14) (tai_at (pos 0) 0 +ℤ pos 15) ≡ true)
    × (with_published (date_of (zero 10) 0 (pos 0) 0) ≡ dated_as (M.Correlated 0) S.Utc (answer (at (pos 0) 0)))
time_trip =
    let h = utc_marked (M.Correlated 7) (pos 0) 14 in (
      never_later (zero 10) published_days published_offsets published_last h 0 turned (pos 0) 0 (at (pos 0) 0) dated_again,
      little_earlier (zero 10) published_days published_offsets published_last h 0 turned (pos 0) 0 (at (pos 0) 0) dated_again,
      marked_date (zero 10) published_days published_offsets published_last 0 (pos 0) 0 (at (pos 0) 0) dated_again,
    )

-- a date is marked with OBT0, which is not its own count, and a refusal is plain; a mark of Proteus has no part in the count
pub date_marked :
    ((with_published (date_of (zero 10) 281474976710655 (pos 0) 0)).mark ≡ M.Correlated 0)
    × ((with_published (date_of (zero 10) 281474976710656 (pos 0) 0)).mark ≡ M.Plain)
unfolding date_of accepted clock in_window within through is_step
date_marked = (
  correlated (zero 10) published_days published_offsets published_last 281474976710655 (pos 0) 0 ∙ rw published,
  correlated (zero 10) published_days published_offsets published_last 281474976710656 (pos 0) 0,
)

pub mark_unseen : with_published (obt_of (zero 10) (utc_marked (M.Proteus true) (pos 0) 14)) ≡ valued 0 (answer 0)
unfolding obt_of accepted clock within latest through is_step
mark_unseen = mark_ignored (zero 10) published_days published_offsets published_last (M.Proteus true) (record_of S.Utc (pos 0) 14) ∙ rw published

-- received before the cover, and after it: 8 for every count; and a count outside the window
pub too_early : (t : ℕ) → t < 281474976710656 → date (zero 10) t (negsuc 1) 0 ≡ refused 8
unfolding accepted clock through
too_early = received_before (zero 10) (negsuc 1) 0 published_days published_offsets published_last published refl refl refl refl

pub too_late : (t : ℕ) → t < 281474976710656 → date (zero 10) t (pos 1) 0 ≡ refused 8
unfolding accepted clock through
too_late = received_after (zero 10) (pos 1) 0 published_days published_offsets published_last published refl refl refl refl

pub too_far : date (zero 10) 11 (pos 0) 0 ≡ refused 8
unfolding accepted in_window
too_far = outside_window (zero 10) (pos 0) 0 published_days published_offsets published_last published refl refl 11 (lit< tt) refl

-- the count before OBT0 is at count -1, and the TAI of its date time(-1)
pub one_before : negsuc 0 ≡ elapsed (clock_at 10) 281474976710655
one_before = elapsed_one (zero 10) published_days published_offsets 281474976710655 (negsuc 0) refl refl refl

pub right_wrap : tai_at (negsuc 0) 86399999984 ≡ time (clock_at 10) (negsuc 0)
unfolding in_window
right_wrap = no_wrap (zero 10) 281474976710655 (pos 0) 0 published_days published_offsets published_last before either_side.1 (negsuc 0) refl refl
