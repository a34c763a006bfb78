-- Wrong programs, each shut out by an input at which its answer is not the meaning's. Assumes nothing.
use mathlib.Core.Path.{◌≡◌, refl, ap}
use mathlib.Core.Bool.{cond, ◌&&◌, false≢true}
use mathlib.Core.List.{List}
use Prim.Native.Nat.{ℕ, suc, ◌*◌, ◌%◌, ◌^◌}
use native.Mathlib.Omega.{arith}
use lib.Dec.{ltb}
use lib.IntN.{ℤ, pos, negsuc, nat_abs, ◌+ℤ◌, ◌-ℤ◌, ◌*ℤ◌}
use Rattle.evidence.specs.ShutOut.{ShutOut, Outgrown, differ, shut}
use Rattle.axis.specs.Meaning.{place_of_micros, floor_z, since}
use Rattle.scales.specs.Meaning.{Slip, answer, refused, record_of, Valued, valued}
use Rattle.scales.specs.declared.Scale.TheVariants as S
use Rattle.scales.specs.declared.Mark.TheVariants as M
use Rattle.handed.specs.declared.Handed.{Handed}
use Rattle.handed.specs.declared.Handed.TheVariants as H
use Rattle.leap.specs.Meaning.{through, is_step, tai_of, published_days, published_offsets, published_last}
use Rattle.leap.specs.Published.{published}
use Rattle.leap_laws.proofs.Computed.{published_6209, earlier, earlier_6209, even}
use Rattle.leap_laws.proofs.Lists.{with_published, published_to, earlier_to, with_even}
use Rattle.clock.specs.Meaning.{Clock, elapsed, clock, time, in_window, within, in_force, not_later, latest, last_count, has_image}
use Rattle.clock_laws.proofs.Answers.{Dates}
use Rattle.clock_laws.proofs.Desks.{Dating, Turning, date_by, forced_by, timed_by, at_instant, window_ignored, receipt_ignored, WithoutReceipt, receipt_in_utc, unknown_compared, unsigned, towards_zero, reference_offset, expired_first, second_first, date_ending, marked_by, own_count, unmarked, refusal_marked, count_by, scale_ignored, second_ignored, plain_alone, carried, one_late, force_first, scale_first, count_ending, evenly, by_refusal, by_count}
use Rattle.goce.specs.Meaning.{in_limits, is_offset, reference, tai_reference, accepted, clock_of, date_of, obt_of}
use Rattle.goce.specs.declared.Correlation.{Correlation}
use Rattle.goce_laws.proofs.Trips.{record_back}
use Rattle.goce_laws.proofs.Cases.{moved, zero, at, utc, utc_marked}
use Rattle.goce_laws.proofs.NewYear.{new_year, eve, morning, tai, across}
use Rattle.ground_laws.proofs.Desks.{answered, empty, by_number, marked_as, by_mark, by_micro}

-- ---- date: a wrong desk at a correlation
abbrev pub date_on : Dating → Correlation → ℕ → ℤ → ℕ → List ℤ → List ℕ → ℤ → Slip
date_on desk c t d u ds os e = cond (ltb t (2 ^ 48)) (desk (accepted c) (clock_of c ds os) t d u ds os e) (empty 3 S.Utc)

-- each term rounded by itself: 45 and 45 microseconds are 90, and 91.55 is 91
abbrev term_by_term : Clock → ℤ → ℤ
term_by_term c k = floor_z c.start c.per +ℤ floor_z (k *ℤ pos c.gain) c.per

pub rounded_twice :
    ShutOut (with_published (date_of (moved 0 3 (pos 0) 10) 3 (pos 0) 91)) (marked_as (M.Correlated 0) S.Utc (pos 0) 91)
    (with_published (date_on (timed_by term_by_term) (moved 0 3 (pos 0) 10) 3 (pos 0) 91)) (marked_as (M.Correlated 0) S.Utc (pos 0) 90)
unfolding date_of accepted clock in_window within through is_step
rounded_twice = shut (rw published) (rw published) (by_micro (λ e. omega arith))

-- a negative elapsed time rounded towards zero: the count before OBT0 takes away 15 microseconds and not 16
pub rounded_towards_zero :
    ShutOut (with_published (date_of (zero 10) 281474976710655 (pos 0) 0)) (marked_as (M.Correlated 0) S.Utc (negsuc 0) 86399999984)
    (with_published (date_on (timed_by towards_zero) (zero 10) 281474976710655 (pos 0) 0)) (marked_as (M.Correlated 0) S.Utc (negsuc 0) 86399999985)
unfolding date_of accepted clock in_window within through is_step
rounded_towards_zero = shut (rw published) (rw published) (by_micro (λ e. omega arith))

-- the elapsed count from 0 to 2^48 - 1: the count before OBT0 is refused
pub count_unsigned :
    ShutOut (with_published (date_of (zero 10) 281474976710655 (pos 0) 0)) (marked_as (M.Correlated 0) S.Utc (negsuc 0) 86399999984)
    (with_published (date_on (date_by in_force not_later unsigned time at_instant) (zero 10) 281474976710655 (pos 0) 0)) (empty 8 S.Utc)
unfolding date_of accepted clock in_window within through is_step
count_unsigned = shut (rw published) (rw published) (by_number (λ e. omega arith))

-- the product of count and Gradient cut to 64 bits: 2^36 counts, 12 days and some hours, come out as 2 days and some
abbrev cut : Clock → ℤ → ℤ
cut c (pos k) = floor_z (c.start +ℤ pos (k * c.gain % 2 ^ 64)) c.per
cut c (negsuc k) = floor_z (c.start -ℤ pos (suc k * c.gain % 2 ^ 64)) c.per

pub product_cut :
    ShutOut (with_published (date_of (zero 68719476736) 68719476736 (pos 12) 11776000000)) (marked_as (M.Correlated 0) S.Utc (pos 12) 11776000000)
    (with_published (date_on (timed_by cut) (zero 68719476736) 68719476736 (pos 12) 11776000000)) (marked_as (M.Correlated 0) S.Utc (pos 2) 31351069868)
unfolding date_of accepted clock in_window within through is_step
product_cut = shut (rw published) (rw published) (by_micro (λ e. omega arith))

-- Offset's sign lost: 65,536 counts are a second, and what is a second before day 0 comes out as one after it
abbrev sign_lost : Correlation → Correlation
sign_lost c =
    record { obt0 = c.obt0; utc0 = c.utc0; offset = pos (nat_abs c.offset); gradient = c.gradient; back = c.back; ahead = c.ahead }

abbrev offset_unsigned : Correlation → ℕ → ℤ → ℕ → List ℤ → List ℕ → ℤ → Slip
offset_unsigned c t d u ds os e = date_by in_force not_later elapsed time at_instant (accepted c) (clock_of (sign_lost c) ds os) t d u ds os e

pub offset_unsigned_lem :
    ShutOut (with_published (date_of (moved 0 0 (negsuc 65535) 131072) 0 (pos 0) 1000000)) (marked_as (M.Correlated 0) S.Utc (negsuc 0) 86399000000)
    (with_published (offset_unsigned (moved 0 0 (negsuc 65535) 131072) 0 (pos 0) 1000000)) (marked_as (M.Correlated 0) S.Utc (pos 0) 1000000)
unfolding date_of accepted clock in_window within through is_step
offset_unsigned_lem = shut (rw published) (rw published) (by_micro (λ e. omega arith))

-- Gradient applied to OBT and not to the difference: OBT0 itself, a second into the count, comes out a millisecond late
abbrev on_whole : Clock → ℤ → ℤ
on_whole c k =
    floor_z (c.start +ℤ (pos c.reference +ℤ k) *ℤ pos c.gain -ℤ pos (c.reference * 1000000000)) c.per

abbrev fast : Correlation
fast = record { obt0 = 65536; utc0 = 0; offset = pos 0; gradient = 1001000000; back = 0; ahead = 100 }

pub gradient_on_whole :
    ShutOut (with_published (date_of fast 65536 (pos 0) 1000)) (marked_as (M.Correlated 65536) S.Utc (pos 0) 0)
    (with_published (date_on (timed_by on_whole) fast 65536 (pos 0) 1000)) (marked_as (M.Correlated 65536) S.Utc (pos 0) 1000)
unfolding date_of accepted clock in_window within through is_step
gradient_on_whole = shut (rw published) (rw published) (by_micro (λ e. omega arith))

-- the window ignored: the count before the only one of the window is dated
pub window_ignored_lem :
    ShutOut (with_published (date_of (zero 0) 281474976710655 (pos 0) 0)) (empty 8 S.Utc)
    (with_published (date_on (forced_by window_ignored) (zero 0) 281474976710655 (pos 0) 0)) (marked_as (M.Correlated 0) S.Utc (negsuc 0) 86399999984)
unfolding date_of accepted clock in_window within through is_step
window_ignored_lem = shut (rw published) (rw published) (by_number (λ e. omega arith))

-- the receipt ignored: a record that was dead for a day dates a packet
pub receipt_ignored_lem :
    ShutOut (with_published (date_of (zero 10) 5 (pos 1) 0)) (empty 8 S.Utc)
    (with_published (date_on (forced_by receipt_ignored) (zero 10) 5 (pos 1) 0)) (marked_as (M.Correlated 0) S.Utc (pos 0) 76)
unfolding date_of accepted clock in_window within through is_step
receipt_ignored_lem = shut (rw published) (rw published) (by_number (λ e. omega arith))

-- that date tells all that an answer tells but its receipt, and is no answer's: the receipt was not covered
pub receipt_untold :
    Outgrown (WithoutReceipt (accepted (zero 10)) (clock_of (zero 10) published_days published_offsets) 5 published_days published_offsets published_last (at (pos 0) 76))
    (Dates (accepted (zero 10)) (clock_of (zero 10) published_days published_offsets) 5 (pos 1) 0 published_days published_offsets published_last (at (pos 0) 76))
unfolding accepted clock in_window within through
receipt_untold = (
  record { serves = published; accepts = refl; window = refl; reference = refl; current = refl; span = refl; is = refl },
  λ q. false≢true q.cover,
)

-- a reference past the span's end accepted: UTC0 at the beginning of day 36525 is told to be expired
abbrev span_ignored : Correlation → ℕ → ℤ → ℕ → List ℤ → List ℕ → ℤ → Slip
span_ignored c t d u ds os e = date_by in_force not_later elapsed time at_instant (in_limits c && is_offset c.offset) (clock_of c ds os) t d u ds os e

pub reference_past_span :
    ShutOut (with_even (date_of (moved 1 206815887360000 (pos 0) 1) 0 (pos 36524) 86399999984)) (empty 6 S.Utc)
    (with_even (span_ignored (moved 1 206815887360000 (pos 0) 1) 0 (pos 36524) 86399999984)) (empty 9 S.Utc)
unfolding date_of accepted clock in_window within through is_step
reference_past_span = shut (rw even) (rw even) (by_number (λ e. omega arith))

-- OBT cut to 48 bits: 2^48 taken for 0
abbrev obt_cut : Correlation → ℕ → ℤ → ℕ → List ℤ → List ℕ → ℤ → Slip
obt_cut c t d u ds os e = date_of c (t % 2 ^ 48) d u ds os e

pub obt_cut_lem :
    ShutOut (with_published (date_of (zero 10) 281474976710656 (pos 0) 0)) (empty 3 S.Utc)
    (with_published (obt_cut (zero 10) 281474976710656 (pos 0) 0)) (marked_as (M.Correlated 0) S.Utc (pos 0) 0)
unfolding date_of accepted clock in_window within through is_step
obt_cut_lem = shut refl (rw published) (by_number (λ e. omega arith))

-- ---- date: the mark
-- the packet's own count taken for the reference
pub own_count_lem :
    ShutOut (with_published (date_of new_year 65543 (pos 6209) 86400000000)) (marked_as (M.Correlated 7) S.Utc (pos 6209) 86400000000)
    (with_published (date_on (marked_by own_count) new_year 65543 (pos 6209) 86400000000)) (marked_as (M.Correlated 65543) S.Utc (pos 6209) 86400000000)
unfolding date_of accepted clock in_window within through is_step
own_count_lem = shut (rw published) (rw published) (by_mark (λ e. omega arith))

-- a plain date
pub date_unmarked :
    ShutOut (with_published (date_of new_year 65543 (pos 6209) 86400000000)) (marked_as (M.Correlated 7) S.Utc (pos 6209) 86400000000)
    (with_published (date_on (marked_by unmarked) new_year 65543 (pos 6209) 86400000000)) (answered S.Utc (pos 6209) 86400000000)
unfolding date_of accepted clock in_window within through is_step
date_unmarked = shut (rw published) (rw published) (by_mark (λ e. omega arith))

-- a refusal that keeps the mark
pub refusal_marked_lem :
    ShutOut (with_published (date_of (zero 0) 1 (pos 0) 0)) (empty 8 S.Utc)
    (with_published (date_on refusal_marked (zero 0) 1 (pos 0) 0)) (record { number = 8; scale = S.Utc; day = pos 0; micro = 0; mark = M.Correlated 0 })
unfolding date_of accepted clock in_window within through is_step
refusal_marked_lem = shut (rw published) (rw published) (by_mark (λ e. omega arith))

-- ---- date, across the leap second
-- days of 86,400 s: the first second of 2017 comes out a second late
pub even_days_lem :
    ShutOut (with_published (date_of new_year 131079 (pos 6210) 1000000)) (marked_as (M.Correlated 7) S.Utc (pos 6210) 0)
    (with_published (evenly (date_of new_year 131079 (pos 6210) 1000000))) (marked_as (M.Correlated 7) S.Utc (pos 6210) 1000000)
unfolding date_of accepted clock in_window within through is_step
even_days_lem = shut (rw published) (rw even) (by_micro (λ e. omega arith))

-- that date is exact in days of 86,400 s, and its TAI is not the exact sum's
pub even_outgrown :
    Outgrown (since (pos 6210) 1000000 ≡ floor_z (reference new_year *ℤ pos 1000000000 +ℤ pos 131072 *ℤ pos 1000000000) 65536000)
    (tai_of published_days published_offsets (pos 6210) 1000000
    ≡ floor_z (tai_reference new_year published_days published_offsets *ℤ pos 1000000000 +ℤ pos 131072 *ℤ pos 1000000000) 65536000)
unfolding through
even_outgrown = (refl, differ place_of_micros (λ e. omega arith))

-- the reference's offset used for the result: second 60 comes out as the next day's first
pub reference_offset_lem :
    ShutOut (with_published (date_of new_year 65543 (pos 6209) 86400000000)) (marked_as (M.Correlated 7) S.Utc (pos 6209) 86400000000)
    (with_published (date_on (date_by in_force not_later elapsed time reference_offset) new_year 65543 (pos 6209) 86400000000)) (marked_as (M.Correlated 7) S.Utc (pos 6210) 0)
unfolding date_of accepted clock in_window within through is_step
reference_offset_lem = shut (rw published) (rw published) (by_micro (λ e. omega arith))

-- the receipt compared in UTC days: 8 s after the reference it passes for 7, and the cover is 7.8125 long
pub receipt_in_utc_lem :
    ShutOut (with_published (date_of new_year 7 (pos 6210) 6000000)) (empty 8 S.Utc)
    (with_published (date_on (forced_by receipt_in_utc) new_year 7 (pos 6210) 6000000)) (marked_as (M.Correlated 7) S.Utc (pos 6209) 86399000000)
unfolding date_of accepted clock in_window within through is_step
receipt_in_utc_lem = shut (rw published) (rw published) (by_number (λ e. omega arith))

-- 9 before 8: a count outside the window, its receipt expired
pub expired_first_lem :
    ShutOut (published_to (pos 6209) (date_of new_year 600000 (pos 6210) 0)) (empty 8 S.Utc)
    (published_to (pos 6209) (date_on expired_first new_year 600000 (pos 6210) 0)) (empty 9 S.Utc)
unfolding date_of accepted clock in_window within through is_step
expired_first_lem = shut (rw published_6209) (rw published_6209) (by_number (λ e. omega arith))

-- 8 of a receipt where the reference is expired
pub unknown_compared_lem :
    ShutOut (earlier_to (pos 6000) (date_of new_year 7 (pos 0) 0)) (empty 9 S.Utc)
    (earlier_to (pos 6000) (date_on (forced_by unknown_compared) new_year 7 (pos 0) 0)) (empty 8 S.Utc)
unfolding date_of accepted clock in_window within through is_step
unknown_compared_lem = shut (rw earlier) (rw earlier) (by_number (λ e. omega arith))

-- 10 before the result's 9: received in a second 60 that the list does not know
pub second_first_lem :
    ShutOut (earlier_to (pos 6209) (date_of new_year 65543 (pos 6209) 86400000000)) (empty 9 S.Utc)
    (earlier_to (pos 6209) (date_on second_first new_year 65543 (pos 6209) 86400000000)) (empty 10 S.Utc)
unfolding date_of accepted clock in_window within through is_step
second_first_lem = shut (rw earlier_6209) (rw earlier_6209) (by_number (λ e. omega arith))

-- a window's end past E refused
pub end_refused :
    ShutOut (published_to (pos 6209) (date_of new_year 7 (pos 6209) 86399000000)) (marked_as (M.Correlated 7) S.Utc (pos 6209) 86399000000)
    (published_to (pos 6209) (date_on date_ending new_year 7 (pos 6209) 86399000000)) (empty 9 S.Utc)
unfolding date_of accepted clock in_window within through is_step
end_refused = shut (rw published_6209) (rw published_6209) (by_number (λ e. omega arith))

-- ---- count_of: the same
abbrev pub count_on : Turning → Correlation → Handed → List ℤ → List ℕ → ℤ → Valued ℕ
count_on desk c h ds os e = valued 0 (desk (accepted c) (clock_of c ds os) h ds os e)

-- the inverse one count late: the time of the reference gives the next count
pub one_late_lem :
    ShutOut (with_published (obt_of (moved 281474976710655 0 (pos 0) 10) (utc (pos 0) 0))) (valued 0 (answer 281474976710655))
    (with_published (count_on (count_by has_image one_late) (moved 281474976710655 0 (pos 0) 10) (utc (pos 0) 0))) (valued 0 (answer 0))
unfolding obt_of accepted clock within latest through is_step
one_late_lem = shut (rw published) (rw published) (by_count (λ e. omega arith))

-- a TAI time taken as UTC
pub scale_ignored_lem :
    ShutOut (with_published (obt_of (zero 10) (H.Record (record_of S.Tai (pos 0) 20)))) (valued 0 (refused 12))
    (with_published (count_on (count_by scale_ignored last_count) (zero 10) (H.Record (record_of S.Tai (pos 0) 20)))) (valued 0 (answer 1))
unfolding obt_of accepted clock within latest through is_step
scale_ignored_lem = shut (rw published) (rw published) (by_count (λ e. omega arith))

-- a time that is marked refused: the date of count 105, second 60, handed in again
pub mark_judged :
    ShutOut (with_published (obt_of eve (utc_marked (M.Correlated 100) (pos 6209) 86400000000))) (valued 0 (answer 105))
    (with_published (count_on (count_by plain_alone last_count) eve (utc_marked (M.Correlated 100) (pos 6209) 86400000000))) (valued 0 (refused 12))
unfolding obt_of accepted clock within latest through is_step
mark_judged = shut (rw published) (rw published) (by_count (λ e. omega arith))

-- second 60 turned back as 12
pub second_ignored_lem :
    ShutOut (with_published (obt_of eve (utc (pos 6209) 86400000000))) (valued 0 (answer 105))
    (with_published (count_on (count_by second_ignored last_count) eve (utc (pos 6209) 86400000000))) (valued 0 (refused 12))
unfolding obt_of accepted clock within latest through is_step
second_ignored_lem = shut (rw published) (rw published) (by_count (λ e. omega arith))

-- second 60 taken for the next day's first: its last count is told to be a second past the window
pub second_carried :
    ShutOut (with_published (obt_of morning (utc (pos 6209) 86400999984))) (valued 0 (answer 99))
    (with_published (obt_of morning (carried (utc (pos 6209) 86400999984)))) (valued 0 (refused 8))
unfolding obt_of accepted clock within latest through is_step
second_carried = shut (rw published) (rw published) (by_count (λ e. omega arith))

-- 12 before the reference's 9: a TAI time, the reference expired
pub scale_first_lem :
    ShutOut (earlier_to (pos 6000) (obt_of eve (tai (pos 6209) 0))) (valued 0 (refused 9))
    (earlier_to (pos 6000) (count_on scale_first eve (tai (pos 6209) 0))) (valued 0 (refused 12))
unfolding obt_of accepted clock within latest through is_step
scale_first_lem = shut (rw earlier) (rw earlier) (by_refusal (λ e. omega arith))

-- 8 of a time where the reference is expired
pub count_unknown_compared :
    ShutOut (earlier_to (pos 6000) (obt_of eve (utc (pos 0) 0))) (valued 0 (refused 9))
    (earlier_to (pos 6000) (count_on force_first eve (utc (pos 0) 0))) (valued 0 (refused 8))
unfolding obt_of accepted clock within latest through is_step
count_unknown_compared = shut (rw earlier) (rw earlier) (by_refusal (λ e. omega arith))

-- a window's end past E refused
pub count_end_refused :
    ShutOut (published_to (pos 6209) (obt_of new_year (utc (pos 6209) 86400000000))) (valued 0 (answer 65543))
    (published_to (pos 6209) (count_on count_ending new_year (utc (pos 6209) 86400000000))) (valued 0 (refused 9))
unfolding obt_of accepted clock through is_step
count_end_refused =
    shut (ap (valued 0) (record_back new_year published_days published_offsets (pos 6209) 65543 (pos 6209) 86400000000 (at (pos 6209) 86400000000) across.2 M.Plain))
    (rw published_6209) (by_count (λ e. omega arith))
