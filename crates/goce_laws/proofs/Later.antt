-- No count is dated later than its receipt, in TAI: 17 is the one refusal that this brings, and what it leaves to 9 and 11; and each of that
-- at an input. Assumes nothing.
use mathlib.Core.Path.{◌≡◌, refl, sym, ap, ◌∙◌}
use mathlib.Core.Bool.{true, false, cond, not, ◌&&◌}
use mathlib.Core.List.{List}
use Prim.Native.Nat.{ℕ, ◌*◌, ◌<◌}
use lib.Dec.{lit<}
use lib.IntN.{ℤ, pos}
use lib.Signed.{lt_z, le_z}
use borrow.Author.Tests.{lt-ltb}
use Rattle.axis.specs.Meaning.{Moment}
use Rattle.scales.specs.Meaning.{first, last, refused, answer, outcome}
use Rattle.scales.specs.declared.Scale.TheVariants as S
use Rattle.leap.specs.Meaning.{through, is_step, tai_of, has_micro, is_expired_day, utc_of, published_days, published_offsets, published_last}
use Rattle.leap.specs.Published.{published}
use Rattle.leap_laws.proofs.Computed.{earlier_days, earlier_offsets, even_days, even_offsets, even_last, even, published_6209}
use Rattle.leap_laws.proofs.Lists.{published_to, with_even}
use Rattle.clock.specs.Meaning.{elapsed, clock, time, in_window, within, both_known}
use Rattle.clock.specs.Meaning as C
use Rattle.clock_laws.proofs.Later.{untested, passes8, is_later}
use Rattle.clock_laws.proofs.Later as G
use Rattle.goce.specs.Meaning.{accepted, day_on, clock_of, dating}
use Rattle.goce.specs.Accepted.{based}
use Rattle.goce.specs.Places.{shifted}
use Rattle.goce.specs.declared.Correlation.{Correlation}
use Rattle.goce_laws.proofs.Answers.{clocked}
use Rattle.goce_laws.proofs.Cases.{far, at, date, farthest}
use Rattle.goce_laws.proofs.NewYear.{new_year, morning, across, dating_refusals}

module _ (c : Correlation) (t : ℕ) (d : ℤ) (u : ℕ) (ds : List ℤ) (os : List ℕ) (e : ℤ) where
  -- "Refuse a correlated time later than its receipt"
  pub not_after_lem : (m : Moment) → outcome (dating c t d u ds os e) ≡ answer m → le_z (tai_of ds os m.day m.micro) (tai_of ds os d u) ≡ true
  not_after_lem m h =
      G.not_after_lem (accepted c) (clock_of c ds os) (shifted c ds os * 1000000000) (λ a. based c a ds os) t d u ds os e m (clocked c t d u ds os e m h)

  -- ---- of a count of 48 bits; a wider one is 3
  module _ (f : t < 281474976710656) where
    few : outcome (dating c t d u ds os e) ≡ outcome (C.dating (accepted c) (clock_of c ds os) t d u ds os e)
    few = rw (lt-ltb t 281474976710656 f)

    -- the outcome is that of the chain without the test, unless that passes 8, reference and receipt are known, and time(k) is later
    pub only_later : outcome (dating c t d u ds os e)
        ≡ cond (passes8 (accepted c) (clock_of c ds os) t d u ds os e && is_later (clock_of c ds os) t d u ds os e) (refused 17)
        (outcome (untested (accepted c) (clock_of c ds os) t d u ds os e))
    only_later = few ∙ G.only_later (accepted c) (clock_of c ds os) t d u ds os e

    -- a result past the list's end, or past the span's
    module _ (v : passes8 (accepted c) (clock_of c ds os) t d u ds os e ≡ true) (k : both_known (clock_of c ds os) d u ds e ≡ true) where
      pub past_list : C.is_current_at S.Utc ds os e (time (clock_of c ds os) (elapsed (clock_of c ds os) t)) ≡ false → outcome (dating c t d u ds os e) ≡ refused 17
      past_list x = few ∙ G.past_list (accepted c) (clock_of c ds os) (shifted c ds os * 1000000000) (λ a. based c a ds os) t d u ds os e v k x

      pub past_span : lt_z (last S.Utc) (utc_of ds os (time (clock_of c ds os) (elapsed (clock_of c ds os) t))).day ≡ true → outcome (dating c t d u ds os e) ≡ refused 17
      past_span x = few ∙ G.past_span (accepted c) (clock_of c ds os) (shifted c ds os * 1000000000) (λ a. based c a ds os) t d u ds os e v k x

    -- what is left to 11, and to the result's 9
    pub eleven_early : outcome (dating c t d u ds os e) ≡ refused 11 → lt_z (utc_of ds os (time (clock_of c ds os) (elapsed (clock_of c ds os) t))).day (first S.Utc) ≡ true
    eleven_early h = G.eleven_early (accepted c) (clock_of c ds os) (shifted c ds os * 1000000000) (λ a. based c a ds os) t d u ds os e (sym few ∙ h)

    pub nine_lacking : outcome (dating c t d u ds os e) ≡ refused 9 → is_expired_day e (day_on c) ≡ false → is_expired_day e d ≡ false → has_micro ds d u ≡ false
    nine_lacking h p q =
        G.nine_lacking (accepted c) (clock_of c ds os) (shifted c ds os * 1000000000) (λ a. based c a ds os) t d u ds os e (sym few ∙ h) (ap not p) (ap not q)

-- ---- each theorem, at an input
-- the last count of second 60, received as the next day begins
pub sixty_before : le_z (tai_of published_days published_offsets (pos 6209) 86400999984) (tai_of published_days published_offsets (pos 6210) 0) ≡ true
sixty_before = not_after_lem morning 99 (pos 6210) 0 published_days published_offsets published_last (at (pos 6209) 86400999984) across.4

-- the first of the next day, received a microsecond before it, and at it
pub microsecond_later : date morning 100 (pos 6209) 86400999999 ≡ refused 17
unfolding accepted clock in_window within through is_step
microsecond_later = only_later morning 100 (pos 6209) 86400999999 published_days published_offsets published_last (lit< tt) ∙ rw published

pub as_before_lem : date morning 100 (pos 6210) 0
    ≡ outcome (untested (accepted morning) (clock_of morning published_days published_offsets) 100 (pos 6210) 0 published_days published_offsets published_last)
unfolding accepted clock in_window within through is_step
as_before_lem = only_later morning 100 (pos 6210) 0 published_days published_offsets published_last (lit< tt) ∙ rw published

-- the first microsecond past a list to day 6209; and years past the span, whose end is the list's
pub list_ends : outcome (published_to (pos 6209) (dating new_year 131079 (pos 6209) 86400999999)) ≡ refused 17
unfolding accepted clock in_window within through is_step
list_ends = past_list new_year 131079 (pos 6209) 86400999999 published_days published_offsets (pos 6209) (lit< tt) (rw published_6209) refl refl

pub span_ends : outcome (with_even (dating (far 999000000) 140737488355327 (pos 12500) 0)) ≡ refused 17
unfolding accepted clock in_window within through is_step
span_ends = past_span (far 999000000) 140737488355327 (pos 12500) 0 even_days even_offsets even_last (lit< tt) (rw even) refl refl

-- a count before 1972, which is 11; and a second 60 that the list lacks, which leaves 9
pub before_first : lt_z (utc_of even_days even_offsets (time (clock_of (far 1001000000) even_days even_offsets) (elapsed (clock_of (far 1001000000) even_days even_offsets) 140737488355328))).day (first S.Utc) ≡ true
before_first = eleven_early (far 1001000000) 140737488355328 (pos 12500) 0 even_days even_offsets even_last (lit< tt) farthest.2

pub sixty_lacking : has_micro earlier_days (pos 6209) 86400000000 ≡ false
sixty_lacking = nine_lacking new_year 65543 (pos 6209) 86400000000 earlier_days earlier_offsets (pos 6209) (lit< tt) dating_refusals.9 refl refl
