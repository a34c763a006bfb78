-- Wrong programs, each shut out by an input at which its answer is not the meaning's. Assumes nothing.
use mathlib.Core.Path.{◌≡◌, refl}
use mathlib.Core.Bool.{false≢true}
use mathlib.Core.List.{List, []}
use Prim.Native.Nat.{ℕ}
use native.Mathlib.Omega.{arith}
use lib.IntN.{ℤ, pos, negsuc}
use Rattle.evidence.specs.ShutOut.{ShutOut, Outgrown, differ, shut}
use Rattle.axis.specs.Meaning.{place_of_micros, since}
use Rattle.scales.specs.Meaning.{Slip, answer, refused, record_of, Valued, valued}
use Rattle.scales.specs.declared.Scale.TheVariants as S
use Rattle.scales.specs.declared.Mark.TheVariants as M
use Rattle.handed.specs.declared.Handed.{Handed}
use Rattle.handed.specs.declared.Handed.TheVariants as H
use Rattle.leap.specs.Meaning.{through, is_step, published_days, published_offsets}
use Rattle.leap.specs.Published.{published}
use Rattle.leap_laws.proofs.Computed.{published_6209, earlier, earlier_6209, even}
use Rattle.leap_laws.proofs.Lists.{with_published, published_to, earlier_to, with_none, none}
use Rattle.clock.specs.Meaning.{instant, elapsed, clock, time, in_window, within, in_force, not_later, latest, last_count}
use Rattle.clock_laws.proofs.Answers.{Dates}
use Rattle.clock_laws.proofs.Desks.{Dating, Turning, date_by, forced_by, timed_by, at_instant, window_ignored, receipt_ignored, WithoutReceipt, swapped, receipt_in_utc, unknown_compared, unsigned, towards_zero, reference_offset, expired_first, second_first, date_ending, date_listed, marked_by, own_count, unmarked, refusal_marked, count_by, scale_ignored, second_ignored, plain_alone, carried, force_first, scale_first, count_ending, count_listed, evenly, by_refusal, by_count}
use Rattle.sbt.specs.Meaning.{accepted, clock_of, date_of, tick_of}
use Rattle.sbt.specs.declared.Correlation.{Correlation}
use Rattle.sbt_laws.proofs.Cases.{marked, at, autumn, tai, tai_marked}
use Rattle.sbt_laws.proofs.NewYear.{new_year, utc}
use Rattle.ground_laws.proofs.Desks.{answered, empty, by_number, marked_as, by_mark, by_micro}

-- ---- date: a wrong desk at a correlation
abbrev pub date_on : Dating → Correlation → ℕ → ℤ → ℕ → List ℤ → List ℕ → ℤ → Slip
date_on desk c t d u ds os e = desk (accepted c) (clock_of c ds os) t d u ds os e

-- the window ignored: where it is the reference alone, the tick before is dated
pub window_ignored_lem :
    ShutOut (with_none (date_of (marked 0) 4294967294 (pos 0) 0)) (empty 8 S.Tai)
    (with_none (date_on (forced_by window_ignored) (marked 0) 4294967294 (pos 0) 0)) (marked_as (M.Correlated 4294967295) S.Tai (negsuc 0) 86399996093)
unfolding date_of accepted clock in_window within
window_ignored_lem = (refl, refl, by_number (λ e. omega arith))

-- the receipt ignored: the packet of March comes out one full wrap early, 194 d 4 h 20 min 16 s
pub receipt_ignored_lem :
    ShutOut (with_none (date_of autumn 4078800897 (pos 3356) 9600000000)) (empty 8 S.Tai)
    (with_none (date_on (forced_by receipt_ignored) autumn 4078800897 (pos 3356) 9600000000)) (marked_as (M.Correlated 537399297) S.Tai (pos 3161) 80384000000)
unfolding date_of accepted clock in_window within
receipt_ignored_lem = (refl, refl, by_number (λ e. omega arith))

-- that date tells all that an answer tells but its receipt, and is no answer's: the receipt was not covered
pub receipt_untold :
    Outgrown (WithoutReceipt (accepted autumn) (clock_of autumn [] []) 4078800897 [] [] (pos 0) (at (pos 3161) 80384000000))
    (Dates (accepted autumn) (clock_of autumn [] []) 4078800897 (pos 3356) 9600000000 [] [] (pos 0) (at (pos 3161) 80384000000))
unfolding accepted clock in_window within
receipt_untold = (
  record { serves = refl; accepts = refl; window = refl; reference = refl; current = refl; span = refl; is = refl },
  λ q. false≢true q.cover,
)

-- the elapsed count from 0 to 2^32 - 1: the tick before the reference is refused
pub count_unsigned :
    ShutOut (with_none (date_of (marked 10) 4294967294 (pos 0) 0)) (marked_as (M.Correlated 4294967295) S.Tai (negsuc 0) 86399996093)
    (with_none (date_on (date_by in_force not_later unsigned time at_instant) (marked 10) 4294967294 (pos 0) 0)) (empty 8 S.Tai)
unfolding date_of accepted clock in_window within
count_unsigned = (refl, refl, by_number (λ e. omega arith))

-- a negative elapsed time rounded towards zero: marked case 8's tick before the reference takes away 3,906 and not 3,907
pub rounded_towards_zero :
    ShutOut (with_none (date_of (marked 10) 4294967294 (pos 0) 0)) (marked_as (M.Correlated 4294967295) S.Tai (negsuc 0) 86399996093)
    (with_none (date_on (timed_by towards_zero) (marked 10) 4294967294 (pos 0) 0)) (marked_as (M.Correlated 4294967295) S.Tai (negsuc 0) 86399996094)
unfolding date_of accepted clock in_window within
rounded_towards_zero = (refl, refl, by_micro (λ e. omega arith))

-- b and a in each other's place: under b = 0, a = 10 the tick after the reference is refused
abbrev ahead : Correlation
ahead = record { tick = record { 0 = 4294967295 }; scale = S.Tai; day = pos 0; micro = 0; period = 3906250000; back = 0; ahead = 10 }

pub ends_swapped :
    ShutOut (with_none (date_of ahead 0 (pos 0) 3906)) (marked_as (M.Correlated 4294967295) S.Tai (pos 0) 3906)
    (with_none (date_on (forced_by swapped) ahead 0 (pos 0) 3906)) (empty 8 S.Tai)
unfolding date_of accepted clock in_window within
ends_swapped = (refl, refl, by_number (λ e. omega arith))

-- the list judged under TAI
pub list_judged :
    ShutOut (with_none (date_of (marked 10) 0 (pos 0) 3906)) (marked_as (M.Correlated 4294967295) S.Tai (pos 0) 3906)
    (with_none (date_on date_listed (marked 10) 0 (pos 0) 3906)) (empty 5 S.Tai)
unfolding date_of accepted clock in_window within
list_judged = shut refl (rw none) (by_number (λ e. omega arith))

-- ---- date: the mark
-- the packet's own tick taken for the reference
pub own_tick :
    ShutOut (with_none (date_of (marked 10) 0 (pos 0) 3906)) (marked_as (M.Correlated 4294967295) S.Tai (pos 0) 3906)
    (with_none (date_on (marked_by own_count) (marked 10) 0 (pos 0) 3906)) (marked_as (M.Correlated 0) S.Tai (pos 0) 3906)
unfolding date_of accepted clock in_window within
own_tick = (refl, refl, by_mark (λ e. omega arith))

-- a plain date
pub date_unmarked :
    ShutOut (with_none (date_of (marked 10) 0 (pos 0) 3906)) (marked_as (M.Correlated 4294967295) S.Tai (pos 0) 3906)
    (with_none (date_on (marked_by unmarked) (marked 10) 0 (pos 0) 3906)) (answered S.Tai (pos 0) 3906)
unfolding date_of accepted clock in_window within
date_unmarked = (refl, refl, by_mark (λ e. omega arith))

-- a refusal that keeps the mark
pub refusal_marked_lem :
    ShutOut (with_none (date_of (marked 0) 0 (pos 0) 0)) (empty 8 S.Tai)
    (with_none (date_on refusal_marked (marked 0) 0 (pos 0) 0)) (record { number = 8; scale = S.Tai; day = pos 0; micro = 0; mark = M.Correlated 4294967295 })
unfolding date_of accepted clock in_window within
refusal_marked_lem = (refl, refl, by_mark (λ e. omega arith))

-- ---- date, under UTC
-- days of 86,400 s: the first second of 2017 comes out a second late
pub even_days_lem :
    ShutOut (with_published (date_of new_year 519 (pos 6210) 1000000)) (marked_as (M.Correlated 7) S.Utc (pos 6210) 0)
    (with_published (evenly (date_of new_year 519 (pos 6210) 1000000))) (marked_as (M.Correlated 7) S.Utc (pos 6210) 1000000)
unfolding date_of accepted clock in_window within through is_step
even_days_lem = shut (rw published) (rw even) (by_micro (λ e. omega arith))

-- that date is exact in days of 86,400 s, and its TAI is not time(k)
pub even_outgrown :
    Outgrown (since (pos 6210) 1000000 ≡ time (clock_of new_year [] []) (elapsed (clock_of new_year [] []) 519))
    (instant S.Utc published_days published_offsets (pos 6210) 1000000
    ≡ time (clock_of new_year published_days published_offsets) (elapsed (clock_of new_year published_days published_offsets) 519))
unfolding clock through
even_outgrown = (refl, differ place_of_micros (λ e. omega arith))

-- the reference's offset used for the result: second 60 comes out as the next day's first
pub reference_offset_lem :
    ShutOut (with_published (date_of new_year 263 (pos 6209) 86400000000)) (marked_as (M.Correlated 7) S.Utc (pos 6209) 86400000000)
    (with_published (date_on (date_by in_force not_later elapsed time reference_offset) new_year 263 (pos 6209) 86400000000)) (marked_as (M.Correlated 7) S.Utc (pos 6210) 0)
unfolding date_of accepted clock in_window within through is_step
reference_offset_lem = shut (rw published) (rw published) (by_micro (λ e. omega arith))

-- the receipt compared in UTC days: 8 s after the reference it passes for 7, and the cover is 7.8125 long
pub receipt_in_utc_lem :
    ShutOut (with_published (date_of new_year 7 (pos 6210) 6000000)) (empty 8 S.Utc)
    (with_published (date_on (forced_by receipt_in_utc) new_year 7 (pos 6210) 6000000)) (marked_as (M.Correlated 7) S.Utc (pos 6209) 86399000000)
unfolding date_of accepted clock in_window within through is_step
receipt_in_utc_lem = shut (rw published) (rw published) (by_number (λ e. omega arith))

-- 9 before 8: a tick outside the window, its receipt expired
pub expired_first_lem :
    ShutOut (published_to (pos 6209) (date_of new_year 3000 (pos 6210) 0)) (empty 8 S.Utc)
    (published_to (pos 6209) (date_on expired_first new_year 3000 (pos 6210) 0)) (empty 9 S.Utc)
unfolding date_of accepted clock in_window within through is_step
expired_first_lem = shut (rw published_6209) (rw published_6209) (by_number (λ e. omega arith))

-- 8 of a receipt where the reference is expired
pub unknown_compared_lem :
    ShutOut (earlier_to (pos 6000) (date_of new_year 7 (pos 0) 0)) (empty 9 S.Utc)
    (earlier_to (pos 6000) (date_on (forced_by unknown_compared) new_year 7 (pos 0) 0)) (empty 8 S.Utc)
unfolding date_of accepted clock in_window within through is_step
unknown_compared_lem = shut (rw earlier) (rw earlier) (by_number (λ e. omega arith))

-- 10 before the result's 9: received in a second 60 that the list does not know
pub second_first_lem :
    ShutOut (earlier_to (pos 6209) (date_of new_year 263 (pos 6209) 86400000000)) (empty 9 S.Utc)
    (earlier_to (pos 6209) (date_on second_first new_year 263 (pos 6209) 86400000000)) (empty 10 S.Utc)
unfolding date_of accepted clock in_window within through is_step
second_first_lem = shut (rw earlier_6209) (rw earlier_6209) (by_number (λ e. omega arith))

-- a window's end past E refused
pub end_refused :
    ShutOut (published_to (pos 6209) (date_of new_year 7 (pos 6209) 86399000000)) (marked_as (M.Correlated 7) S.Utc (pos 6209) 86399000000)
    (published_to (pos 6209) (date_on date_ending new_year 7 (pos 6209) 86399000000)) (empty 9 S.Utc)
unfolding date_of accepted clock in_window within through is_step
end_refused = shut (rw published_6209) (rw published_6209) (by_number (λ e. omega arith))

-- ---- tick_of: the same
abbrev pub tick_on : Turning → Correlation → Handed → List ℤ → List ℕ → ℤ → Valued ℕ
tick_on desk c h ds os e = valued 0 (desk (accepted c) (clock_of c ds os) h ds os e)

-- a time of another scale taken as the correlation's
pub scale_ignored_lem :
    ShutOut (with_none (tick_of (marked 10) (H.Record (record_of S.Gps (pos 0) 0)))) (valued 0 (refused 12))
    (with_none (tick_on (count_by scale_ignored last_count) (marked 10) (H.Record (record_of S.Gps (pos 0) 0)))) (valued 0 (answer 4294967295))
unfolding tick_of accepted clock within latest
scale_ignored_lem = (refl, refl, by_refusal (λ e. omega arith))

-- 8 judged before 12: a GPS time outside the cover of a TAI correlation
pub force_first_lem :
    ShutOut (with_none (tick_of (marked 10) (H.Record (record_of S.Gps (pos 1) 0)))) (valued 0 (refused 12))
    (with_none (tick_on force_first (marked 10) (H.Record (record_of S.Gps (pos 1) 0)))) (valued 0 (refused 8))
unfolding tick_of accepted clock within latest
force_first_lem = (refl, refl, by_refusal (λ e. omega arith))

-- the list judged under TAI
pub tick_list_judged :
    ShutOut (with_none (tick_of (marked 10) (tai (pos 0) 3906))) (valued 0 (answer 0))
    (with_none (tick_on count_listed (marked 10) (tai (pos 0) 3906))) (valued 0 (refused 5))
unfolding tick_of accepted clock within latest
tick_list_judged = shut refl (rw none) (by_refusal (λ e. omega arith))

-- a time that is marked refused: the date of tick 0, handed in again
pub mark_judged :
    ShutOut (with_none (tick_of (marked 10) (tai_marked (M.Correlated 4294967295) (pos 0) 3906))) (valued 0 (answer 0))
    (with_none (tick_on (count_by plain_alone last_count) (marked 10) (tai_marked (M.Correlated 4294967295) (pos 0) 3906))) (valued 0 (refused 12))
unfolding tick_of accepted clock within latest
mark_judged = (refl, refl, by_refusal (λ e. omega arith))

-- ---- tick_of, under UTC
-- second 60 turned back as 12
pub second_ignored_lem :
    ShutOut (with_published (tick_of new_year (utc (pos 6209) 86400000000))) (valued 0 (answer 263))
    (with_published (tick_on (count_by second_ignored last_count) new_year (utc (pos 6209) 86400000000))) (valued 0 (refused 12))
unfolding tick_of accepted clock within latest through is_step
second_ignored_lem = shut (rw published) (rw published) (by_refusal (λ e. omega arith))

-- second 60 taken for the next day's first
pub second_carried :
    ShutOut (with_published (tick_of new_year (utc (pos 6209) 86400000000))) (valued 0 (answer 263))
    (with_published (tick_of new_year (carried (utc (pos 6209) 86400000000)))) (valued 0 (answer 519))
unfolding tick_of accepted clock within latest through is_step
second_carried = shut (rw published) (rw published) (by_count (λ e. omega arith))

-- days of 86,400 s: the first tick of 2017 comes out a second early
pub tick_even_days :
    ShutOut (with_published (tick_of new_year (utc (pos 6210) 0))) (valued 0 (answer 519))
    (with_published (evenly (tick_of new_year (utc (pos 6210) 0)))) (valued 0 (answer 263))
unfolding tick_of accepted clock within latest through is_step
tick_even_days = shut (rw published) (rw even) (by_count (λ e. omega arith))

-- 12 before the reference's 9: a TAI time, the reference expired
pub scale_first_lem :
    ShutOut (earlier_to (pos 6000) (tick_of new_year (tai (pos 6209) 0))) (valued 0 (refused 9))
    (earlier_to (pos 6000) (tick_on scale_first new_year (tai (pos 6209) 0))) (valued 0 (refused 12))
unfolding tick_of accepted clock within latest through is_step
scale_first_lem = shut (rw earlier) (rw earlier) (by_refusal (λ e. omega arith))

-- 8 of a time where the reference is expired
pub tick_unknown_compared :
    ShutOut (earlier_to (pos 6000) (tick_of new_year (utc (pos 0) 0))) (valued 0 (refused 9))
    (earlier_to (pos 6000) (tick_on force_first new_year (utc (pos 0) 0))) (valued 0 (refused 8))
unfolding tick_of accepted clock within latest through is_step
tick_unknown_compared = shut (rw earlier) (rw earlier) (by_refusal (λ e. omega arith))

-- a window's end past E refused
pub tick_end_refused :
    ShutOut (published_to (pos 6209) (tick_of new_year (utc (pos 6209) 86400000000))) (valued 0 (answer 263))
    (published_to (pos 6209) (tick_on count_ending new_year (utc (pos 6209) 86400000000))) (valued 0 (refused 9))
unfolding tick_of accepted clock within latest through is_step
tick_end_refused = shut (rw published_6209) (rw published_6209) (by_refusal (λ e. omega arith))
