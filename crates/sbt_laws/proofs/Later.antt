-- No tick is dated later than its receipt, in TAI under a UTC correlation: 17 is the one refusal that this brings, and what it leaves to 9
-- and 11; and each of that at an input. Assumes nothing.
use mathlib.Core.Path.{◌≡◌, refl}
use mathlib.Core.Bool.{true, false, cond, ◌&&◌}
use mathlib.Core.List.{List, []}
use Prim.Native.Nat.{ℕ, ◌*◌}
use lib.IntN.{ℤ, pos, negsuc}
use lib.Signed.{lt_z, le_z}
use Rattle.axis.specs.Meaning.{Moment, since}
use Rattle.scales.specs.Meaning.{first, last, refused, answer, outcome}
use Rattle.scales.specs.declared.Scale.TheVariants as S
use Rattle.leap.specs.Meaning.{through, is_step, tai_of, published_days, published_offsets, published_last}
use Rattle.leap.specs.Published.{published}
use Rattle.leap_laws.proofs.Computed.{earlier_days, earlier_offsets, published_6209}
use Rattle.leap_laws.proofs.Lists.{with_published, published_to, with_none}
use Rattle.clock.specs.Meaning.{instant, moment_after, is_current, is_current_at, has_second, elapsed, clock, time, in_window, within, both_known}
use Rattle.clock_laws.proofs.Later.{untested, passes8, is_later}
use Rattle.clock_laws.proofs.Later as G
use Rattle.sbt.specs.Meaning.{accepted, clock_of, dating}
use Rattle.sbt.specs.Accepted.{based}
use Rattle.sbt.specs.Places.{shifted}
use Rattle.sbt.specs.declared.Correlation.{Correlation}
use Rattle.sbt_laws.proofs.Cases.{marked, at, date, begin, end, dating_refusals, either_side}
use Rattle.sbt_laws.proofs.NewYear.{new_year}
use Rattle.sbt_laws.proofs.NewYear as NewYear

module _ (c : Correlation) (t : ℕ) (d : ℤ) (u : ℕ) (ds : List ℤ) (os : List ℕ) (e : ℤ) where
  -- "Refuse a correlated time later than its receipt"
  pub not_after_lem : (m : Moment) → outcome (dating c t d u ds os e) ≡ answer m →
      le_z (instant c.scale ds os m.day m.micro) (instant c.scale ds os d u) ≡ true
  not_after_lem = G.not_after_lem (accepted c) (clock_of c ds os) (shifted c ds os * 1000000) (λ a. based c a ds os) t d u ds os e

  -- the outcome is that of the chain without the test, unless that passes 8, reference and receipt are known, and time(k) is later
  pub only_later : outcome (dating c t d u ds os e)
      ≡ cond (passes8 (accepted c) (clock_of c ds os) t d u ds os e && is_later (clock_of c ds os) t d u ds os e) (refused 17)
      (outcome (untested (accepted c) (clock_of c ds os) t d u ds os e))
  only_later = G.only_later (accepted c) (clock_of c ds os) t d u ds os e

  -- a result past the list's end, or past the span's
  module _ (v : passes8 (accepted c) (clock_of c ds os) t d u ds os e ≡ true) (k : both_known (clock_of c ds os) d u ds e ≡ true) where
    pub past_list : is_current_at c.scale ds os e (time (clock_of c ds os) (elapsed (clock_of c ds os) t)) ≡ false → outcome (dating c t d u ds os e) ≡ refused 17
    past_list = G.past_list (accepted c) (clock_of c ds os) (shifted c ds os * 1000000) (λ a. based c a ds os) t d u ds os e v k

    pub past_span : lt_z (last c.scale) (moment_after c.scale ds os (time (clock_of c ds os) (elapsed (clock_of c ds os) t))).day ≡ true →
        outcome (dating c t d u ds os e) ≡ refused 17
    past_span = G.past_span (accepted c) (clock_of c ds os) (shifted c ds os * 1000000) (λ a. based c a ds os) t d u ds os e v k

  -- what is left to 11, and to the result's 9
  pub eleven_early : outcome (dating c t d u ds os e) ≡ refused 11 →
      lt_z (moment_after c.scale ds os (time (clock_of c ds os) (elapsed (clock_of c ds os) t))).day (first c.scale) ≡ true
  eleven_early = G.eleven_early (accepted c) (clock_of c ds os) (shifted c ds os * 1000000) (λ a. based c a ds os) t d u ds os e

  pub nine_lacking : outcome (dating c t d u ds os e) ≡ refused 9 → is_current c.scale e c.day ≡ true → is_current c.scale e d ≡ true →
      has_second c.scale ds d u ≡ false
  nine_lacking = G.nine_lacking (accepted c) (clock_of c ds os) (shifted c ds os * 1000000) (λ a. based c a ds os) t d u ds os e

-- ---- each theorem, at an input
-- a tick that is received at its date; and one in second 60 that is received on the next day
pub at_receipt : le_z (since (pos 0) 3906) (since (pos 0) 3906) ≡ true
at_receipt = not_after_lem (marked 10) 0 (pos 0) 3906 [] [] (pos 0) (at (pos 0) 3906) either_side.0

pub sixty : outcome (with_published (dating new_year 391 (pos 6210) 200000)) ≡ answer (at (pos 6209) 86400500000)
unfolding accepted clock in_window within through is_step
sixty = rw published

pub sixty_before : le_z (tai_of published_days published_offsets (pos 6209) 86400500000) (tai_of published_days published_offsets (pos 6210) 200000) ≡ true
sixty_before = not_after_lem new_year 391 (pos 6210) 200000 published_days published_offsets published_last (at (pos 6209) 86400500000) sixty

-- received a microsecond before its date, and at its date
pub microsecond_later : date (marked 10) 0 (pos 0) 3905 ≡ refused 17
unfolding accepted clock in_window within
microsecond_later = only_later (marked 10) 0 (pos 0) 3905 [] [] (pos 0)

pub as_before_lem : date (marked 10) 0 (pos 0) 3906 ≡ outcome (with_none (untested (accepted (marked 10)) (clock_of (marked 10) [] []) 0 (pos 0) 3906))
unfolding accepted clock in_window within
as_before_lem = only_later (marked 10) 0 (pos 0) 3906 [] [] (pos 0)

-- the first microsecond past a list to day 6209, and past the span
pub list_ends : outcome (published_to (pos 6209) (dating new_year 519 (pos 6209) 86400999999)) ≡ refused 17
unfolding accepted clock in_window within through is_step
list_ends = past_list new_year 519 (pos 6209) 86400999999 published_days published_offsets (pos 6209) (rw published_6209) refl refl

pub span_ends : date end 8 (pos 36524) 86399999999 ≡ refused 17
unfolding accepted clock in_window within
span_ends = past_span end 8 (pos 36524) 86399999999 [] [] (pos 0) refl refl refl

-- the tick before the first day, which is 11; and a second 60 that the list lacks, which leaves 9
pub before_first : lt_z (moment_after S.Tai [] [] (time (clock_of begin [] []) (elapsed (clock_of begin [] []) 6))).day (first S.Tai) ≡ true
before_first = eleven_early begin 6 (negsuc 10226) 0 [] [] (pos 0) dating_refusals.5

pub sixty_lacking : has_second S.Utc earlier_days (pos 6209) 86400000000 ≡ false
sixty_lacking = nine_lacking new_year 263 (pos 6209) 86400000000 earlier_days earlier_offsets (pos 6209) (NewYear.dating_refusals).8 refl refl
