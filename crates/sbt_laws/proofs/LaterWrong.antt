-- Wrong programs about a date and its receipt, each shut out by an input at which its answer is not the meaning's. Assumes nothing.
use mathlib.Core.Path.{◌≡◌, refl}
use mathlib.Core.Bool.{true, false≢true}
use mathlib.Core.List.{[]}
use native.Mathlib.Omega.{arith}
use lib.IntN.{pos}
use lib.Signed.{le_z}
use Rattle.evidence.specs.ShutOut.{ShutOut, Outgrown, shut}
use Rattle.scales.specs.Meaning.{answer, refused, outcome, valued}
use Rattle.scales.specs.declared.Scale.TheVariants as S
use Rattle.scales.specs.declared.Mark.TheVariants as M
use Rattle.leap.specs.Meaning.{through, is_step}
use Rattle.leap.specs.Published.{published}
use Rattle.leap_laws.proofs.Computed.{published_6209, earlier_6209}
use Rattle.leap_laws.proofs.Lists.{with_published, published_to, earlier_to, with_none}
use Rattle.clock.specs.Meaning.{instant, clock, in_window, within, latest}
use Rattle.clock_laws.proofs.Desks.{late_by, equal_refused, reference_compared, in_even_days, unknown_late, later_first, later_after9, later_after11, later_than_reference, by_refusal}
use Rattle.clock_laws.proofs.Later.{untested}
use Rattle.sbt.specs.Meaning.{accepted, clock_of, date_of, tick_of}
use Rattle.sbt_laws.proofs.Cases.{marked, at, end, tai}
use Rattle.sbt_laws.proofs.NewYear.{new_year}
use Rattle.sbt_laws.proofs.Wrong.{date_on, tick_on}
use Rattle.ground_laws.proofs.Desks.{empty, by_number, marked_as}

-- a result at its receipt refused: marked case 9
pub equal_refused_lem :
    ShutOut (with_none (date_of (marked 0) 4294967295 (pos 0) 0)) (marked_as (M.Correlated 4294967295) S.Tai (pos 0) 0)
    (with_none (date_on (late_by equal_refused) (marked 0) 4294967295 (pos 0) 0)) (empty 17 S.Tai)
unfolding date_of accepted clock in_window within
equal_refused_lem = (refl, refl, by_number (λ e. omega arith))

-- the reference's time compared: the tick after it, received at the reference, is dated
pub reference_compared_lem :
    ShutOut (with_none (date_of (marked 10) 0 (pos 0) 0)) (empty 17 S.Tai)
    (with_none (date_on (late_by reference_compared) (marked 10) 0 (pos 0) 0)) (marked_as (M.Correlated 4294967295) S.Tai (pos 0) 3906)
unfolding date_of accepted clock in_window within
reference_compared_lem = (refl, refl, by_number (λ e. omega arith))

-- 17 before 8: the next tick, outside the window and later
pub later_first_lem :
    ShutOut (with_none (date_of (marked 0) 0 (pos 0) 0)) (empty 8 S.Tai)
    (with_none (date_on later_first (marked 0) 0 (pos 0) 0)) (empty 17 S.Tai)
unfolding date_of accepted clock in_window within
later_first_lem = (refl, refl, by_number (λ e. omega arith))

-- 17 after 11: past the span's end
pub later_after_11 :
    ShutOut (with_none (date_of end 8 (pos 36524) 86399999999)) (empty 17 S.Tai)
    (with_none (date_on later_after11 end 8 (pos 36524) 86399999999)) (empty 11 S.Tai)
unfolding date_of accepted clock in_window within
later_after_11 = (refl, refl, by_number (λ e. omega arith))

-- 17 after 9: past the list's end
pub later_after_9 :
    ShutOut (published_to (pos 6209) (date_of new_year 519 (pos 6209) 86400999999)) (empty 17 S.Utc)
    (published_to (pos 6209) (date_on later_after9 new_year 519 (pos 6209) 86400999999)) (empty 9 S.Utc)
unfolding date_of accepted clock in_window within through is_step
later_after_9 = shut (rw published_6209) (rw published_6209) (by_number (λ e. omega arith))

-- compared in days of 86,400 s: half a second into second 60, received 0.2 s into the next day
pub even_days_later :
    ShutOut (with_published (date_of new_year 391 (pos 6210) 200000)) (marked_as (M.Correlated 7) S.Utc (pos 6209) 86400500000)
    (with_published (date_on (late_by in_even_days) new_year 391 (pos 6210) 200000)) (empty 17 S.Utc)
unfolding date_of accepted clock in_window within through is_step
even_days_later = shut (rw published) (rw published) (by_number (λ e. omega arith))

-- 17 where the receipt has no TAI time: received in a second 60 that the list does not know
pub unknown_later :
    ShutOut (earlier_to (pos 6209) (date_of new_year 263 (pos 6209) 86400000000)) (empty 9 S.Utc)
    (earlier_to (pos 6209) (date_on (late_by unknown_late) new_year 263 (pos 6209) 86400000000)) (empty 17 S.Utc)
unfolding date_of accepted clock in_window within through is_step
unknown_later = shut (rw earlier_6209) (rw earlier_6209) (by_number (λ e. omega arith))

-- 17 on the way back, which has no receipt: a time after the reference
pub later_back :
    ShutOut (with_none (tick_of (marked 10) (tai (pos 0) 3906))) (valued 0 (answer 0))
    (with_none (tick_on later_than_reference (marked 10) (tai (pos 0) 3906))) (valued 0 (refused 17))
unfolding tick_of accepted clock within latest
later_back = (refl, refl, by_refusal (λ e. omega arith))

-- the chain without the test: it dates tick 0 a microsecond after its receipt, and that is no `not_after_lem`
pub untested_later :
    Outgrown (outcome (with_none (untested (accepted (marked 10)) (clock_of (marked 10) [] []) 0 (pos 0) 3905)) ≡ answer (at (pos 0) 3906))
    (le_z (instant S.Tai [] [] (pos 0) 3906) (instant S.Tai [] [] (pos 0) 3905) ≡ true)
unfolding accepted clock in_window within
untested_later = (refl, λ e. false≢true e)
