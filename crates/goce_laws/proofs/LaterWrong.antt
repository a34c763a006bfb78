-- Wrong programs about a date and its receipt, each shut out by an input at which its answer is not the meaning's. Assumes nothing.
use mathlib.Core.Path.{◌≡◌}
use mathlib.Core.Bool.{true, false≢true}
use native.Mathlib.Omega.{arith}
use lib.IntN.{pos}
use lib.Signed.{le_z}
use Rattle.evidence.specs.ShutOut.{ShutOut, Outgrown, shut}
use Rattle.scales.specs.Meaning.{answer, refused, outcome, valued}
use Rattle.scales.specs.declared.Scale.TheVariants as S
use Rattle.scales.specs.declared.Mark.TheVariants as M
use Rattle.leap.specs.Meaning.{through, is_step, tai_of, published_days, published_offsets}
use Rattle.leap.specs.Published.{published}
use Rattle.leap_laws.proofs.Computed.{published_6209, earlier_6209}
use Rattle.leap_laws.proofs.Lists.{with_published, published_to, earlier_to}
use Rattle.clock.specs.Meaning.{clock, in_window, within, latest}
use Rattle.clock_laws.proofs.Desks.{late_by, equal_refused, reference_compared, in_even_days, unknown_late, later_first, later_after9, later_than_reference, by_refusal}
use Rattle.clock_laws.proofs.Later.{untested}
use Rattle.goce.specs.Meaning.{accepted, clock_of, date_of, obt_of}
use Rattle.goce_laws.proofs.Cases.{zero, at, utc}
use Rattle.goce_laws.proofs.NewYear.{new_year, morning}
use Rattle.goce_laws.proofs.Wrong.{date_on, count_on}
use Rattle.ground_laws.proofs.Desks.{empty, by_number, marked_as}

-- a result at its receipt refused
pub equal_refused_lem :
    ShutOut (with_published (date_of (zero 0) 0 (pos 0) 0)) (marked_as (M.Correlated 0) S.Utc (pos 0) 0)
    (with_published (date_on (late_by equal_refused) (zero 0) 0 (pos 0) 0)) (empty 17 S.Utc)
unfolding date_of accepted clock in_window within through is_step
equal_refused_lem = shut (rw published) (rw published) (by_number (λ e. omega arith))

-- the reference's time compared: the count after it, received at the reference, is dated
pub reference_compared_lem :
    ShutOut (with_published (date_of (zero 10) 1 (pos 0) 0)) (empty 17 S.Utc)
    (with_published (date_on (late_by reference_compared) (zero 10) 1 (pos 0) 0)) (marked_as (M.Correlated 0) S.Utc (pos 0) 15)
unfolding date_of accepted clock in_window within through is_step
reference_compared_lem = shut (rw published) (rw published) (by_number (λ e. omega arith))

-- 17 before 8: the next count, outside the window and later
pub later_first_lem :
    ShutOut (with_published (date_of (zero 0) 1 (pos 0) 0)) (empty 8 S.Utc)
    (with_published (date_on later_first (zero 0) 1 (pos 0) 0)) (empty 17 S.Utc)
unfolding date_of accepted clock in_window within through is_step
later_first_lem = shut (rw published) (rw published) (by_number (λ e. omega arith))

-- 17 after 9: past the list's end
pub later_after_9 :
    ShutOut (published_to (pos 6209) (date_of new_year 131079 (pos 6209) 86400999999)) (empty 17 S.Utc)
    (published_to (pos 6209) (date_on later_after9 new_year 131079 (pos 6209) 86400999999)) (empty 9 S.Utc)
unfolding date_of accepted clock in_window within through is_step
later_after_9 = shut (rw published_6209) (rw published_6209) (by_number (λ e. omega arith))

-- compared in days of 86,400 s: the last count of second 60, received as the next day begins
pub even_days_later :
    ShutOut (with_published (date_of morning 99 (pos 6210) 0)) (marked_as (M.Correlated 100) S.Utc (pos 6209) 86400999984)
    (with_published (date_on (late_by in_even_days) morning 99 (pos 6210) 0)) (empty 17 S.Utc)
unfolding date_of accepted clock in_window within through is_step
even_days_later = shut (rw published) (rw published) (by_number (λ e. omega arith))

-- 17 where the receipt has no TAI time: received in a second 60 that the list does not know
pub unknown_later :
    ShutOut (earlier_to (pos 6209) (date_of new_year 65543 (pos 6209) 86400000000)) (empty 9 S.Utc)
    (earlier_to (pos 6209) (date_on (late_by unknown_late) new_year 65543 (pos 6209) 86400000000)) (empty 17 S.Utc)
unfolding date_of accepted clock in_window within through is_step
unknown_later = shut (rw earlier_6209) (rw earlier_6209) (by_number (λ e. omega arith))

-- 17 on the way back, which has no receipt: a time after the reference
pub later_back :
    ShutOut (with_published (obt_of (zero 10) (utc (pos 0) 15))) (valued 0 (answer 1))
    (with_published (count_on later_than_reference (zero 10) (utc (pos 0) 15))) (valued 0 (refused 17))
unfolding obt_of accepted clock within latest through is_step
later_back = shut (rw published) (rw published) (by_refusal (λ e. omega arith))

-- the chain without the test: it dates the first count of 2017 a microsecond after its receipt, and that is no `not_after_lem`
pub untested_later :
    Outgrown (outcome (with_published (untested (accepted morning) (clock_of morning published_days published_offsets) 100 (pos 6209) 86400999999)) ≡ answer (at (pos 6210) 0))
    (le_z (tai_of published_days published_offsets (pos 6210) 0) (tai_of published_days published_offsets (pos 6209) 86400999999) ≡ true)
unfolding accepted clock in_window within through is_step
untested_later = (rw published, λ e. false≢true e)
