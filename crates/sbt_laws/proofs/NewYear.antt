-- A UTC correlation across the leap second before 1 January 2017, computed under the published list: second 60 and the day after it, both
-- ways; each refusal, where the next would be due too; and each theorem at an input that meets its hypotheses. Assumes nothing.
use mathlib.Core.Path.{◌≡◌, refl}
use mathlib.Core.Bool.{true, false}
use Prim.Native.Nat.{ℕ}
use lib.Dec.{lit<}
use lib.IntN.{ℤ, pos, negsuc, ◌+ℤ◌}
use lib.Signed.{le_z}
use lib.Ieee.{fin, nan}
use Rattle.axis.specs.Meaning.{Moment}
use Rattle.scales.specs.Meaning.{in_span, answer, refused, outcome, dated_as, record_of, marked_record}
use Rattle.scales.specs.declared.Scale.TheVariants as S
use Rattle.scales.specs.declared.Mark.TheVariants as M
use Rattle.handed.specs.declared.Handed.{Handed}
use Rattle.handed.specs.declared.Handed.TheVariants as H
use Rattle.leap.specs.Meaning.{through, is_step, tai_of, published_days, published_offsets, published_last}
use Rattle.leap.specs.Published.{published}
use Rattle.leap_laws.proofs.Computed.{published_6209, earlier, earlier_6209, even}
use Rattle.leap_laws.proofs.Lists.{with_published, published_to, earlier_to, with_even, with_none, none}
use Rattle.clock.specs.Meaning.{Clock, clock, time, in_window, within, covers, elapsed, latest}
use Rattle.sbt.specs.Meaning.{accepted, clock_of, dating, date_of, turning}
use Rattle.sbt.specs.declared.Correlation.{Correlation}
use Rattle.sbt_laws.proofs.Counts.{elapsed_one}
use Rattle.sbt_laws.proofs.Answers.{dates, exact, turns}
use Rattle.sbt_laws.proofs.Trips.{comes_back, same_tick, record_back, never_later, little_earlier}
use Rattle.sbt_laws.proofs.Window.{widened}
use Rattle.sbt_laws.proofs.Night.{outside_window, received_before, received_after, no_wrap}
use Rattle.sbt_laws.proofs.Marks.{marked_date}
use Rattle.sbt_laws.proofs.Cases.{at, tai}

-- ---- tick 7 at a day and a microsecond of UTC, P as given, the same window either way
abbrev pub utc_at : ℤ → ℕ → ℕ → Correlation
utc_at d u p = record { tick = record { 0 = 7 }; scale = S.Utc; day = d; micro = u; period = p; back = 2000; ahead = 2000 }

-- at 23:59:59 of 31 December 2016: 256 ticks later second 60 begins, and 512 ticks later the next day
abbrev pub new_year : Correlation
new_year = utc_at (pos 6209) 86399000000 3906250000

abbrev pub utc : ℤ → ℕ → Handed
utc d u = H.Record (record_of S.Utc d u)

-- each received at its date, and back; under a list to day E = 6209 too, whose step on E+1 gives it the second, though the window's end lies
-- past it
pub across :
    (outcome (with_published (dating new_year 263 (pos 6209) 86400000000)) ≡ answer (at (pos 6209) 86400000000))
    × (outcome (with_published (dating new_year 519 (pos 6210) 0)) ≡ answer (at (pos 6210) 0))
    × (outcome (published_to (pos 6209) (dating new_year 263 (pos 6209) 86400000000)) ≡ answer (at (pos 6209) 86400000000))
unfolding accepted clock in_window within through is_step
across = (rw published, rw published, rw published_6209)

pub back_across :
    (outcome (with_published (turning new_year (utc (pos 6209) 86400000000))) ≡ answer 263)
    × (outcome (with_published (turning new_year (utc (pos 6210) 0))) ≡ answer 519)
    × (outcome (with_published (turning new_year (utc (pos 6209) 86400003905))) ≡ answer 263)
    × (outcome (published_to (pos 6209) (turning new_year (utc (pos 6209) 86400000000))) ≡ answer 263)
unfolding accepted clock in_window within latest through is_step
back_across = (rw published, rw published, rw published, rw published_6209)

-- ---- each refusal of a date, where the next would be due too: 5 before 6 before 7 before 8; 8 of a tick outside the window, the receipt
-- expired, and of a receipt outside the cover, the result later and expired; 17 of a result that is expired; 9 of the reference, the receipt
-- and the result before 10 before 11, which is left before 1972 alone: past the span's end it is 17
abbrev slow : Correlation
slow = utc_at (pos 6209) 86399000000 3906500001

abbrev first : Correlation
first = utc_at (negsuc 10226) 0 3906250000

abbrev last : Correlation
last = utc_at (pos 36524) 86399999999 3906250000

pub dating_refusals :
    (outcome (with_none (dating slow 263 (pos 36525) 0)) ≡ refused 5)
    × (outcome (with_published (dating slow 263 (pos 36525) 0)) ≡ refused 6)
    × (outcome (with_published (dating new_year 3000 (pos 6209) 86401000000)) ≡ refused 7)
    × (outcome (published_to (pos 6209) (dating new_year 3000 (pos 6210) 0)) ≡ refused 8)
    × (outcome (published_to (pos 6209) (dating new_year 519 (pos 6209) 0)) ≡ refused 8)
    × (outcome (published_to (pos 6209) (dating new_year 519 (pos 6209) 86400999999)) ≡ refused 17)
    × (outcome (earlier_to (pos 6000) (dating new_year 7 (pos 5000) 86400000000)) ≡ refused 9)
    × (outcome (published_to (pos 6209) (dating new_year 7 (pos 6210) 86400000000)) ≡ refused 9)
    × (outcome (earlier_to (pos 6209) (dating new_year 263 (pos 6209) 86400000000)) ≡ refused 9)
    × (outcome (with_published (dating first 6 (negsuc 10226) 86400000000)) ≡ refused 10)
    × (outcome (with_published (dating first 6 (negsuc 10226) 0)) ≡ refused 11)
    × (outcome (with_even (dating last 8 (pos 36524) 86399999999)) ≡ refused 17)
unfolding accepted clock in_window within through is_step
dating_refusals = (
  rw none,
  rw published,
  rw published,
  rw published_6209,
  rw published_6209,
  rw published_6209,
  rw earlier,
  rw published_6209,
  rw earlier_6209,
  rw published,
  rw published,
  rw even,
)

-- ---- and back: 4 before 5, whatever the time's scale, before 6 before 7 before 8; 9 of the reference before 10 and before 12, of a time that
-- is expired 9, outside the cover or not; 10 and 12 of times outside it
pub turning_refusals :
    (outcome (with_none (turning slow (H.Decimal nan S.Utc))) ≡ refused 4)
    × (outcome (with_none (turning slow (tai (pos 36525) 0))) ≡ refused 5)
    × (outcome (with_published (turning slow (utc (pos 36525) 0))) ≡ refused 6)
    × (outcome (with_published (turning (widened new_year 0 0) (utc (pos 6209) 86401000000))) ≡ refused 7)
    × (outcome (with_published (turning new_year (utc (pos 6210) 6000000))) ≡ refused 8)
    × (outcome (earlier_to (pos 6000) (turning new_year (utc (pos 5000) 86400000000))) ≡ refused 9)
    × (outcome (earlier_to (pos 6000) (turning new_year (tai (pos 6209) 0))) ≡ refused 9)
    × (outcome (published_to (pos 6209) (turning new_year (utc (pos 6211) 0))) ≡ refused 9)
    × (outcome (with_published (turning new_year (utc (pos 5000) 86400000000))) ≡ refused 10)
    × (outcome (with_published (turning new_year (tai (pos 0) 0))) ≡ refused 12)
unfolding accepted clock within through is_step
turning_refusals = (
  refl,
  rw none,
  rw published,
  rw published,
  rw published,
  rw earlier,
  rw earlier,
  rw published_6209,
  rw published,
  rw published,
)

-- ---- each theorem, at an input
abbrev sixty : Moment
sixty = at (pos 6209) 86400000000

abbrev clock_now : Clock
clock_now = clock_of new_year published_days published_offsets

abbrev tai_now : ℤ → ℕ → ℤ
tai_now d u = tai_of published_days published_offsets d u

-- the TAI of an answer is time(k); its receipt was a UTC time and its TAI covered, and so was that of a time that was turned back
pub exactly_time : tai_now (pos 6209) 86400000000 ≡ time clock_now (elapsed clock_now 263)
exactly_time = exact new_year 263 (pos 6209) 86400000000 published_days published_offsets published_last sixty across.0

pub receipt_received : in_span S.Utc (pos 6209) 86400000000 ≡ true
receipt_received = (dates new_year 263 (pos 6209) 86400000000 published_days published_offsets published_last sixty across.0).received

pub receipt_covered : covers clock_now (tai_now (pos 6209) 86400000000) ≡ true
receipt_covered = (dates new_year 263 (pos 6209) 86400000000 published_days published_offsets published_last sixty across.0).cover

pub time_covered : covers clock_now (tai_now (pos 6210) 0) ≡ true
time_covered = (turns new_year (utc (pos 6210) 0) published_days published_offsets published_last 519 back_across.1).cover

-- second 60 to its tick and back, by the record that was answered, its mark included, and by a time that stands for it; and the next day by
-- its decimal day
pub trip : outcome (with_published (turning new_year (H.Record (marked_record (M.Correlated 7) (record_of S.Utc (pos 6209) 86400000000))))) ≡ answer 263
trip = record_back new_year published_days published_offsets published_last 263 (pos 6209) 86400000000 sixty across.0 (M.Correlated 7) (lit< tt)

pub trip_same : (n : ℕ) → outcome (with_published (turning new_year (utc (pos 6209) 86400000000))) ≡ answer n → n ≡ 263
trip_same =
    same_tick new_year published_days published_offsets published_last 263 (pos 6209) 86400000000 sixty across.0 (utc (pos 6209) 86400000000)
    (record { scale = refl; day = refl; micro = refl }) (lit< tt)

pub trip_decimal : outcome (with_published (turning new_year (H.Decimal (fin false 6210 (pos 0)) S.Utc))) ≡ answer 519
trip_decimal =
    comes_back new_year published_days published_offsets published_last 519 (pos 6210) 0 (at (pos 6210) 0) across.1 (H.Decimal (fin false 6210 (pos 0)) S.Utc)
    (record { scale = refl; day = refl; micro = refl }) (lit< tt) refl refl

-- a time to a tick and back: 3,905 microseconds into second 60, its beginning
pub time_trip :
    (le_z (tai_now (pos 6209) 86400000000) (tai_now (pos 6209) 86400003905) ≡ true)
    × (le_z (tai_now (pos 6209) 86400003905) (tai_now (pos 6209) 86400000000 +ℤ pos 3906) ≡ true)
    × (with_published (date_of new_year 263 (pos 6209) 86400000000) ≡ dated_as (M.Correlated 7) S.Utc (answer sixty))
time_trip = (
  never_later new_year published_days published_offsets published_last (utc (pos 6209) 86400003905) 263 back_across.2 (pos 6209) 86400000000 sixty across.0,
  little_earlier new_year published_days published_offsets published_last (utc (pos 6209) 86400003905) 263 back_across.2 (pos 6209) 86400000000 sixty across.0,
  marked_date new_year published_days published_offsets published_last 263 (pos 6209) 86400000000 sixty across.0,
)

-- received 8 s before the reference, and 8 s after it, though it be 7 s of UTC days: 8 for every tick. A tick outside the window is 8 though
-- the receipt be expired
pub too_early : (t : ℕ) → outcome (with_published (dating new_year t (pos 6209) 86391000000)) ≡ refused 8
unfolding accepted clock through is_step
too_early = received_before new_year (pos 6209) 86391000000 published_days published_offsets published_last published refl refl refl refl

pub too_late : (t : ℕ) → outcome (with_published (dating new_year t (pos 6210) 6000000)) ≡ refused 8
unfolding accepted clock through is_step
too_late = received_after new_year (pos 6210) 6000000 published_days published_offsets published_last published refl refl refl refl

pub too_far : outcome (published_to (pos 6209) (dating new_year 3000 (pos 6210) 0)) ≡ refused 8
unfolding accepted in_window
too_far = outside_window new_year (pos 6210) 0 published_days published_offsets (pos 6209) published_6209 refl refl 3000 refl

-- tick 263 is at count 256, and the TAI of its date time(256)
pub second_later : pos 256 ≡ elapsed clock_now 263
second_later = elapsed_one new_year published_days published_offsets 263 (pos 256) refl refl refl

pub right_wrap : tai_now (pos 6209) 86400000000 ≡ time clock_now (pos 256)
unfolding in_window
right_wrap = no_wrap new_year 263 (pos 6209) 86400000000 published_days published_offsets published_last sixty across.0 (pos 256) refl refl
