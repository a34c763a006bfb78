-- Marked case 8 both ways and the night of the letter, computed; and each theorem at an input that meets its hypotheses: under TAI, which
-- looks at no list. `NewYear.antt` has UTC. Assumes nothing.
use mathlib.Core.Path.{◌≡◌, refl}
use mathlib.Core.Bool.{true}
use mathlib.Core.List.{[]}
use Prim.Native.Nat.{ℕ}
use lib.Dec.{lit<}
use lib.IntN.{ℤ, pos, negsuc, ◌+ℤ◌}
use lib.Signed.{le_z}
use lib.Ieee.{fin, nan}
use Rattle.axis.specs.Meaning.{Moment, since}
use Rattle.scales.specs.Meaning.{in_span, Outcome, answer, refused, outcome, dated_as, record_of, marked_record, valued}
use Rattle.scales.specs.declared.Scale.TheVariants as S
use Rattle.scales.specs.declared.Mark.{Mark}
use Rattle.scales.specs.declared.Mark.TheVariants as M
use Rattle.handed.specs.declared.Handed.{Handed}
use Rattle.handed.specs.declared.Handed.TheVariants as H
use Rattle.leap_laws.proofs.Lists.{with_none}
use Rattle.clock.specs.Meaning.{Clock, clock, time, in_window, within, covers, elapsed, latest}
use Rattle.sbt.specs.Meaning.{accepted, clock_of, dating, date_of, turning, tick_of}
use Rattle.sbt.specs.declared.Correlation.{Correlation}
use Rattle.sbt_laws.proofs.Counts.{elapsed_one}
use Rattle.sbt_laws.proofs.Answers.{dates, exact, turns}
use Rattle.sbt_laws.proofs.Trips.{comes_back, same_tick, record_back, never_later, little_earlier}
use Rattle.sbt_laws.proofs.Night.{outside_window, received_before, received_after, no_wrap}
use Rattle.sbt_laws.proofs.Marks.{correlated, marked_date, mark_ignored}

-- ---- reference tick FFFFFFFF at the beginning of TAI day 0, P = 3,906,250,000, the same window either way
abbrev pub marked : ℕ → Correlation
marked n = record { tick = record { 0 = 4294967295 }; scale = S.Tai; day = pos 0; micro = 0; period = 3906250000; back = n; ahead = n }

abbrev pub at : ℤ → ℕ → Moment
at d u = record { day = d; micro = u }

abbrev pub tai : ℤ → ℕ → Handed
tai d u = H.Record (record_of S.Tai d u)

abbrev pub tai_marked : Mark → ℤ → ℕ → Handed
tai_marked m d u = H.Record (marked_record m (record_of S.Tai d u))

-- no list is one, and a TAI correlation does not ask
abbrev pub date : Correlation → ℕ → ℤ → ℕ → Outcome Moment
date c t d u = outcome (with_none (dating c t d u))

abbrev pub turn : Correlation → Handed → Outcome ℕ
turn c h = outcome (with_none (turning c h))

abbrev clock_at : ℕ → Clock
clock_at n = clock_of (marked n) [] []

-- marked case 8 from the beginning of the day: tick 0 adds 3,906; FFFFFFFE takes away 3,907; each received at its date or later. And
-- back
pub either_side :
    (date (marked 10) 0 (pos 0) 3906 ≡ answer (at (pos 0) 3906))
    × (date (marked 10) 4294967294 (pos 0) 0 ≡ answer (at (negsuc 0) 86399996093))
    × (turn (marked 10) (tai (pos 0) 3906) ≡ answer 0)
    × (turn (marked 10) (tai (negsuc 0) 86399996093) ≡ answer 4294967294)
unfolding accepted clock in_window within latest
either_side = (refl, refl, refl, refl)

-- ---- the night of the letter: the record of 1 October 2008 with the widest window, a packet received on 10 March 2009 at
-- twenty to three, whose tick is the reference tick plus the 3,541,401,600 ticks that have passed
abbrev pub autumn : Correlation
autumn = record { tick = record { 0 = 537399297 }; scale = S.Tai; day = pos 3196; micro = 0; period = 3906250000; back = 2147483648; ahead = 2147483647 }

pub night : date autumn 4078800897 (pos 3356) 9600000000 ≡ refused 8
unfolding accepted clock in_window within
night = refl

-- ---- each refusal, where the next would be due too: in dating 6 before 7, 7 before 8, 8 of a tick outside the window before 17, 17 of the
-- next tick after the last microsecond of the span before 11, which is left before its first day; and back 4 before 6, 6 before 7, 7 before
-- 12, 8, and 12 for a UTC time
abbrev slow : Correlation
slow = record { tick = record { 0 = 7 }; scale = S.Tai; day = pos 0; micro = 0; period = 3906500001; back = 10; ahead = 10 }

abbrev pub end : Correlation
end = record { tick = record { 0 = 7 }; scale = S.Tai; day = pos 36524; micro = 86399999999; period = 3906250000; back = 0; ahead = 1 }

abbrev pub begin : Correlation
begin = record { tick = record { 0 = 7 }; scale = S.Tai; day = negsuc 10226; micro = 0; period = 3906250000; back = 1; ahead = 0 }

pub dating_refusals :
    (date slow 7 (pos 36525) 0 ≡ refused 6)
    × (date (marked 0) 7 (pos 36525) 0 ≡ refused 7)
    × (date (marked 0) 7 (pos 0) 86400000000 ≡ refused 7)
    × (date (marked 0) 0 (pos 0) 0 ≡ refused 8)
    × (date end 8 (pos 36524) 86399999999 ≡ refused 17)
    × (date begin 6 (negsuc 10226) 0 ≡ refused 11)
unfolding accepted clock in_window within
dating_refusals = (refl, refl, refl, refl, refl, refl)

pub turning_refusals :
    (turn slow (H.Decimal nan S.Tai) ≡ refused 4)
    × (turn slow (tai (pos 36525) 0) ≡ refused 6)
    × (turn (marked 10) (H.Record (record_of S.Gps (negsuc 7300) 0)) ≡ refused 7)
    × (turn (marked 10) (tai (pos 1) 0) ≡ refused 8)
    × (turn (marked 10) (H.Record (record_of S.Utc (pos 0) 86400000000)) ≡ refused 12)
unfolding accepted clock within
turning_refusals = (refl, refl, refl, refl, refl)

-- ---- each theorem, at an input
-- an answer is time(k); its receipt was one of its scale and covered, and a time that was turned back lay in the cover
pub exactly_time : since (negsuc 0) 86399996093 ≡ time (clock_at 10) (elapsed (clock_at 10) 4294967294)
exactly_time = exact (marked 10) 4294967294 (pos 0) 0 [] [] (pos 0) (at (negsuc 0) 86399996093) either_side.1

pub receipt_received : in_span S.Tai (pos 0) 0 ≡ true
receipt_received = (dates (marked 10) 4294967294 (pos 0) 0 [] [] (pos 0) (at (negsuc 0) 86399996093) either_side.1).received

pub receipt_covered : covers (clock_at 10) (since (pos 0) 0) ≡ true
receipt_covered = (dates (marked 10) 4294967294 (pos 0) 0 [] [] (pos 0) (at (negsuc 0) 86399996093) either_side.1).cover

pub time_covered : covers (clock_at 10) (since (negsuc 0) 86399996093) ≡ true
time_covered = (turns (marked 10) (tai (negsuc 0) 86399996093) [] [] (pos 0) 4294967294 either_side.3).cover

-- a tick to a time and back, by the record that was answered, its mark included, and by a time that stands for it
pub trip : turn (marked 10) (tai_marked (M.Correlated 4294967295) (negsuc 0) 86399996093) ≡ answer 4294967294
trip =
    record_back (marked 10) [] [] (pos 0) 4294967294 (pos 0) 0 (at (negsuc 0) 86399996093) either_side.1 (M.Correlated 4294967295) (lit< tt)

pub trip_same : (n : ℕ) → turn (marked 10) (tai (negsuc 0) 86399996093) ≡ answer n → n ≡ 4294967294
trip_same =
    same_tick (marked 10) [] [] (pos 0) 4294967294 (pos 0) 0 (at (negsuc 0) 86399996093) either_side.1 (tai (negsuc 0) 86399996093)
    (record { scale = refl; day = refl; micro = refl }) (lit< tt)

-- and by a decimal day: half a day before day 0, 43,200 x 256 ticks before the reference
half_day : date (marked 11059200) 4283908095 (pos 0) 0 ≡ answer (at (negsuc 0) 43200000000)
unfolding accepted clock in_window within
half_day = refl

pub trip_decimal : turn (marked 11059200) (H.Decimal (fin true 1 (negsuc 0)) S.Tai) ≡ answer 4283908095
trip_decimal =
    comes_back (marked 11059200) [] [] (pos 0) 4283908095 (pos 0) 0 (at (negsuc 0) 43200000000) half_day (H.Decimal (fin true 1 (negsuc 0)) S.Tai)
    (record { scale = refl; day = refl; micro = refl }) (lit< tt) refl refl

-- a time to a tick and back: 3,905 microseconds after the reference, marked by another one, the reference
turned : turn (marked 10) (tai_marked (M.Correlated 7) (pos 0) 3905) ≡ answer 4294967295
unfolding accepted clock in_window within latest
turned = refl

dated_again : date (marked 10) 4294967295 (pos 0) 0 ≡ answer (at (pos 0) 0)
unfolding accepted clock in_window within
dated_again = refl

pub time_trip :
    (le_z (since (pos 0) 0) (since (pos 0) 3905) ≡ true)
    × (le_z (since (pos 0) 3905) (since (pos 0) 0 +ℤ pos 3906) ≡ true)
    × (with_none (date_of (marked 10) 4294967295 (pos 0) 0) ≡ dated_as (M.Correlated 4294967295) S.Tai (answer (at (pos 0) 0)))
time_trip =
    let h = tai_marked (M.Correlated 7) (pos 0) 3905 in (
      never_later (marked 10) [] [] (pos 0) h 4294967295 turned (pos 0) 0 (at (pos 0) 0) dated_again,
      little_earlier (marked 10) [] [] (pos 0) h 4294967295 turned (pos 0) 0 (at (pos 0) 0) dated_again,
      marked_date (marked 10) [] [] (pos 0) 4294967295 (pos 0) 0 (at (pos 0) 0) dated_again,
    )

-- a date is marked with the reference tick, which is not its own, and a refusal is plain; a mark of Proteus has no part in the tick
pub date_marked :
    ((with_none (date_of (marked 10) 0 (pos 0) 3906)).mark ≡ M.Correlated 4294967295)
    × ((with_none (date_of (marked 0) 0 (pos 0) 3906)).mark ≡ M.Plain)
unfolding date_of accepted clock in_window within
date_marked = (correlated (marked 10) [] [] (pos 0) 0 (pos 0) 3906, correlated (marked 0) [] [] (pos 0) 0 (pos 0) 3906)

pub mark_unseen : with_none (tick_of (marked 10) (tai_marked (M.Proteus true) (pos 0) 3906)) ≡ valued 0 (answer 0)
unfolding tick_of accepted clock within latest
mark_unseen = mark_ignored (marked 10) [] [] (pos 0) (M.Proteus true) (record_of S.Tai (pos 0) 3906)

-- received before the cover, and after it: 8 for every tick; and a tick outside the window
pub too_early : (t : ℕ) → date autumn t (pos 3000) 0 ≡ refused 8
unfolding accepted clock
too_early = received_before autumn (pos 3000) 0 [] [] (pos 0) refl refl refl refl refl

pub too_late : (t : ℕ) → date autumn t (pos 3356) 9600000000 ≡ refused 8
unfolding accepted clock
too_late = received_after autumn (pos 3356) 9600000000 [] [] (pos 0) refl refl refl refl refl

pub too_far : date (marked 10) 10 (pos 0) 0 ≡ refused 8
unfolding accepted in_window
too_far = outside_window (marked 10) (pos 0) 0 [] [] (pos 0) refl refl refl 10 refl

-- the tick before the reference is at count -1, and its date time(-1)
pub one_before : negsuc 0 ≡ elapsed (clock_at 10) 4294967294
one_before = elapsed_one (marked 10) [] [] 4294967294 (negsuc 0) refl refl refl

pub right_wrap : since (negsuc 0) 86399996093 ≡ time (clock_at 10) (negsuc 0)
unfolding in_window
right_wrap = no_wrap (marked 10) 4294967294 (pos 0) 0 [] [] (pos 0) (at (negsuc 0) 86399996093) either_side.1 (negsuc 0) refl refl
