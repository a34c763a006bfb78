-- A GOCE correlation across the leap second before 1 January 2017, computed under the published list: second 60 and the day after it, both
-- ways; each refusal, where the next would be due too; and each theorem at an input there. Assumes nothing.
use mathlib.Core.Path.{◌≡◌, refl}
use mathlib.Core.Bool.{true, false}
use Prim.Native.Nat.{ℕ, ◌<◌}
use lib.Dec.{lit<}
use lib.IntN.{ℤ, pos, ◌+ℤ◌}
use lib.Signed.{le_z}
use lib.Ieee.{fin, nan}
use Rattle.axis.specs.Meaning.{Moment}
use Rattle.scales.specs.Meaning.{answer, refused, outcome, dated_as, record_of}
use Rattle.scales.specs.declared.Scale.TheVariants as S
use Rattle.scales.specs.declared.Mark.TheVariants as M
use Rattle.handed.specs.declared.Handed.{Handed}
use Rattle.handed.specs.declared.Handed.TheVariants as H
use Rattle.leap.specs.Meaning.{through, is_step, tai_of, published_days, published_offsets, published_last}
use Rattle.leap.specs.Published.{published}
use Rattle.leap_laws.proofs.Computed.{published_6209, earlier, earlier_6209, even}
use Rattle.leap_laws.proofs.Lists.{with_published, published_to, earlier_to, with_even, with_none, none}
use Rattle.clock.specs.Meaning.{Clock, clock, time, in_window, within, covers, latest}
use Rattle.goce.specs.Meaning.{accepted, clock_of, dating, date_of, turning}
use Rattle.goce.specs.declared.Correlation.{Correlation}
use Rattle.goce_laws.proofs.Answers.{dates, turns}
use Rattle.goce_laws.proofs.Trips.{comes_back, same_count, record_back, never_later, little_earlier}
use Rattle.goce_laws.proofs.Window.{widened}
use Rattle.goce_laws.proofs.Night.{outside_window, received_before, received_after, no_wrap}
use Rattle.goce_laws.proofs.Marks.{marked_date}
use Rattle.goce_laws.proofs.Cases.{moved, far, at, utc, utc_marked, date, turn}

-- ---- OBT0 = 7 at 23:59:59 of 31 December 2016, 512,000 counts (7.8125 s) either way: 65,536 counts later second 60 begins, and 131,072
-- counts later the next day
abbrev pub new_year : Correlation
new_year = moved 7 35162947518464 (pos 0) 512000

-- OBT0 = 100 five counts before second 60, and at the beginning of the next day, ten counts either way
abbrev pub eve : Correlation
eve = moved 100 35162947583995 (pos 0) 10

abbrev pub morning : Correlation
morning = moved 100 35162947584000 (pos 0) 10

abbrev pub tai : ℤ → ℕ → Handed
tai d u = H.Record (record_of S.Tai d u)

-- each received at its date, and back; under a list to day E = 6209 too, whose step on E+1 gives it the second, though the window's end lies
-- past it
pub across :
    (date new_year 65543 (pos 6209) 86400000000 ≡ answer (at (pos 6209) 86400000000))
    × (date new_year 131079 (pos 6210) 0 ≡ answer (at (pos 6210) 0))
    × (outcome (published_to (pos 6209) (dating new_year 65543 (pos 6209) 86400000000)) ≡ answer (at (pos 6209) 86400000000))
    × (date eve 105 (pos 6209) 86400000000 ≡ answer (at (pos 6209) 86400000000))
    × (date morning 99 (pos 6210) 0 ≡ answer (at (pos 6209) 86400999984))
unfolding accepted clock in_window within through is_step
across = (rw published, rw published, rw published_6209, rw published, rw published)

pub back_across :
    (turn eve (utc (pos 6209) 86400000000) ≡ answer 105)
    × (turn eve (utc (pos 6209) 86400000014) ≡ answer 105)
    × (turn morning (utc (pos 6209) 86400999984) ≡ answer 99)
    × (turn morning (utc (pos 6210) 0) ≡ answer 100)
    × (outcome (published_to (pos 6209) (turning eve (utc (pos 6209) 86400000000))) ≡ answer 105)
unfolding accepted clock in_window within latest through is_step
back_across = (rw published, rw published, rw published, rw published, rw published_6209)

-- ---- each refusal of a date, where the next would be due too: 3 before 5 before 6 (the reference past the span's end) before 7 before 8; 8 of
-- a count outside the window, the receipt expired, and of a receipt outside the cover, the result later and expired; 17 of a result that is
-- expired; 9 of the reference, the receipt and the result before 10 before 11
abbrev past : Correlation
past = moved 0 206815887360000 (pos 0) 0

pub dating_refusals :
    (outcome (with_none (dating past 281474976710656 (pos 36525) 0)) ≡ refused 3)
    × (outcome (with_none (dating past 0 (pos 36525) 0)) ≡ refused 5)
    × (date past 0 (pos 36525) 0 ≡ refused 6)
    × (date new_year 600000 (pos 6209) 86401000000 ≡ refused 7)
    × (outcome (published_to (pos 6209) (dating new_year 600000 (pos 6210) 0)) ≡ refused 8)
    × (outcome (published_to (pos 6209) (dating new_year 131079 (pos 6209) 0)) ≡ refused 8)
    × (outcome (published_to (pos 6209) (dating new_year 131079 (pos 6209) 86400999999)) ≡ refused 17)
    × (outcome (earlier_to (pos 6000) (dating new_year 7 (pos 5000) 86400000000)) ≡ refused 9)
    × (outcome (published_to (pos 6209) (dating new_year 7 (pos 6210) 86400000000)) ≡ refused 9)
    × (outcome (earlier_to (pos 6209) (dating new_year 65543 (pos 6209) 86400000000)) ≡ refused 9)
    × (outcome (with_even (dating (far 1001000000) 140737488355328 (pos 12500) 86400000000)) ≡ refused 10)
unfolding accepted clock in_window within through is_step
dating_refusals = (
  refl,
  rw none,
  rw published,
  rw published,
  rw published_6209,
  rw published_6209,
  rw published_6209,
  rw earlier,
  rw published_6209,
  rw earlier_6209,
  rw even,
)

-- ---- and back: 4 before 5, whatever the time's scale, before 6 before 7 before 8; 9 of the reference before 10 and before 12, of a time that
-- is expired 9, outside the cover or not; 10 and 12 of times outside it
pub turning_refusals :
    (outcome (with_none (turning past (H.Decimal nan S.Utc))) ≡ refused 4)
    × (outcome (with_none (turning past (tai (pos 36525) 0))) ≡ refused 5)
    × (turn past (utc (pos 36525) 0) ≡ refused 6)
    × (turn (widened new_year 0 0) (utc (pos 6209) 86401000000) ≡ refused 7)
    × (turn new_year (utc (pos 6210) 6000000) ≡ refused 8)
    × (outcome (earlier_to (pos 6000) (turning new_year (utc (pos 5000) 86400000000))) ≡ refused 9)
    × (outcome (earlier_to (pos 6000) (turning new_year (tai (pos 6209) 0))) ≡ refused 9)
    × (outcome (published_to (pos 6209) (turning new_year (utc (pos 6211) 0))) ≡ refused 9)
    × (turn new_year (utc (pos 5000) 86400000000) ≡ refused 10)
    × (turn new_year (tai (pos 0) 0) ≡ refused 12)
unfolding accepted clock within through is_step
turning_refusals = (
  refl,
  rw none,
  rw published,
  rw published,
  rw published,
  rw earlier,
  rw earlier,
  rw published_6209,
  rw published,
  rw published,
)

-- ---- each theorem, at an input
abbrev sixty : Moment
sixty = at (pos 6209) 86400000000

abbrev clock_now : Clock
clock_now = clock_of new_year published_days published_offsets

abbrev tai_now : ℤ → ℕ → ℤ
tai_now d u = tai_of published_days published_offsets d u

-- the TAI of a receipt in second 60 was covered, and so was that of a time in it that was turned back
pub receipt_covered : covers clock_now (tai_now (pos 6209) 86400000000) ≡ true
receipt_covered = (dates new_year 65543 (pos 6209) 86400000000 published_days published_offsets published_last sixty across.0).cover

pub time_covered : covers (clock_of morning published_days published_offsets) (tai_now (pos 6209) 86400999984) ≡ true
time_covered = (turns morning (utc (pos 6209) 86400999984) published_days published_offsets published_last 99 back_across.2).cover

-- second 60 to its count and back, by the record that was answered, its mark included, and by a time that stands for it; and the next day by
-- its decimal day
pub trip : turn new_year (utc_marked (M.Correlated 7) (pos 6209) 86400000000) ≡ answer 65543
trip = record_back new_year published_days published_offsets published_last 65543 (pos 6209) 86400000000 sixty across.0 (M.Correlated 7)

pub trip_same : (n : ℕ) → turn new_year (utc (pos 6209) 86400000000) ≡ answer n → n ≡ 65543
trip_same =
    same_count new_year published_days published_offsets published_last 65543 (pos 6209) 86400000000 sixty across.0 (utc (pos 6209) 86400000000)
    (record { scale = refl; day = refl; micro = refl })

pub trip_decimal : turn new_year (H.Decimal (fin false 6210 (pos 0)) S.Utc) ≡ answer 131079
trip_decimal =
    comes_back new_year published_days published_offsets published_last 131079 (pos 6210) 0 (at (pos 6210) 0) across.1
    (H.Decimal (fin false 6210 (pos 0)) S.Utc) (record { scale = refl; day = refl; micro = refl }) refl refl

-- a time to a count and back: 14 microseconds into second 60, its beginning
pub time_trip :
    (le_z (tai_now (pos 6209) 86400000000) (tai_now (pos 6209) 86400000014) ≡ true)
    × (le_z (tai_now (pos 6209) 86400000014) (tai_now (pos 6209) 86400000000 +ℤ pos 15) ≡ true)
    × (with_published (date_of eve 105 (pos 6209) 86400000000) ≡ dated_as (M.Correlated 100) S.Utc (answer sixty))
time_trip = (
  never_later eve published_days published_offsets published_last (utc (pos 6209) 86400000014) 105 back_across.1 (pos 6209) 86400000000 sixty across.3,
  little_earlier eve published_days published_offsets published_last (utc (pos 6209) 86400000014) 105 back_across.1 (pos 6209) 86400000000 sixty across.3,
  marked_date eve published_days published_offsets published_last 105 (pos 6209) 86400000000 sixty across.3,
)

-- received 8 s before the reference, and 8 s after it, though it be 7 s of UTC days: 8 for every count. A count outside the window is 8 though
-- the receipt be expired
pub too_early : (t : ℕ) → t < 281474976710656 → date new_year t (pos 6209) 86391000000 ≡ refused 8
unfolding accepted clock through
too_early = received_before new_year (pos 6209) 86391000000 published_days published_offsets published_last published refl refl refl refl

pub too_late : (t : ℕ) → t < 281474976710656 → date new_year t (pos 6210) 6000000 ≡ refused 8
unfolding accepted clock through
too_late = received_after new_year (pos 6210) 6000000 published_days published_offsets published_last published refl refl refl refl

pub too_far : outcome (published_to (pos 6209) (dating new_year 600000 (pos 6210) 0)) ≡ refused 8
unfolding accepted in_window
too_far = outside_window new_year (pos 6210) 0 published_days published_offsets (pos 6209) published_6209 refl refl 600000 (lit< tt) refl

-- the TAI of second 60 is time(65,536)
pub right_wrap : tai_now (pos 6209) 86400000000 ≡ time clock_now (pos 65536)
unfolding in_window
right_wrap = no_wrap new_year 65543 (pos 6209) 86400000000 published_days published_offsets published_last sixty across.0 (pos 65536) refl refl
