-- Demand 3 and what stays of document 01's rule, each theorem at inputs that meet its hypotheses: 27 steps with E = 6000 against the
-- published list, the window widened at the same time. Assumes nothing.
use mathlib.Core.Path.{◌≡◌, refl, sym, ◌∙◌}
use mathlib.Core.Bool.{true, false≢true}
use mathlib.Core.List.{[], ◌∷◌}
use native.Mathlib.Omega.{arith}
use lib.Dec.{lit≤}
use lib.IntN.{ℤ, pos}
use Prim.Native.Nat.{ℕ}
use Rattle.axis.specs.Meaning.{Moment}
use Rattle.scales.specs.Meaning.{answer, refused, outcome, record_of}
use Rattle.scales.specs.declared.Scale.{Scale}
use Rattle.scales.specs.declared.Scale.TheVariants as S
use Rattle.handed.specs.declared.Handed.{Handed}
use Rattle.handed.specs.declared.Handed.TheVariants as H
use Rattle.leap.specs.Meaning.{through, is_step, published_days, published_offsets, published_last}
use Rattle.leap.specs.Published.{published}
use Rattle.leap_laws.proofs.Computed.{earlier_days, earlier_offsets, earlier_last, earlier}
use Rattle.leap_laws.proofs.Kept.{step_follows}
use Rattle.clock.specs.Meaning.{clock, in_window, within, latest}
use Rattle.clock_laws.proofs.Wider.{not_refused, other_refusal}
use Rattle.clock_laws.proofs.Stays.{same_day_lem, next_day}
use Rattle.sbt.specs.Meaning.{accepted, dating, turning}
use Rattle.sbt.specs.declared.Correlation.{Correlation}
use Rattle.sbt_laws.proofs.Window.{widened}
use Rattle.sbt_laws.proofs.Wider.{date_kept, tick_kept}
use Rattle.sbt_laws.proofs.Stays.{base_dating, base_turning, date_base, tick_base, date_stays, tick_stays}

-- tick 7 is 10 ms before the end of day 6000, P = 3,906,250,000, four ticks either way
abbrev pub eve : Scale → Correlation
eve s = record { tick = record { 0 = 7 }; scale = s; day = pos 6000; micro = 86399990000; period = 3906250000; back = 4; ahead = 4 }

abbrev at : ℤ → ℕ → Moment
at d u = record { day = d; micro = u }

abbrev time : Scale → ℤ → ℕ → Handed
time s d u = H.Record (record_of s d u)

acc : (s : Scale) → accepted (eve s) ≡ true
unfolding accepted
acc S.Tai = refl
acc S.Utc = refl
acc S.Gps = refl

wide : (s : Scale) → accepted (widened (eve s) 8 20) ≡ true
unfolding accepted
wide S.Tai = refl
wide S.Utc = refl
wide S.Gps = refl

-- ---- under the old paper: tick 8 has a date; received in a second 60 that its day lacks it is 10; tick 9 is later than that receipt; tick
-- 10 is received on day 6001, which is expired; tick 12 is outside the window, received after its time or before
pub old_dates :
    (outcome (dating (eve S.Utc) 8 (pos 6000) 86399995000 earlier_days earlier_offsets earlier_last) ≡ answer (at (pos 6000) 86399993906))
    × (outcome (dating (eve S.Utc) 8 (pos 6000) 86400000000 earlier_days earlier_offsets earlier_last) ≡ refused 10)
    × (outcome (dating (eve S.Utc) 9 (pos 6000) 86399995000 earlier_days earlier_offsets earlier_last) ≡ refused 17)
    × (outcome (dating (eve S.Utc) 10 (pos 6001) 1718 earlier_days earlier_offsets earlier_last) ≡ refused 9)
    × (outcome (dating (eve S.Utc) 12 (pos 6001) 10000 earlier_days earlier_offsets earlier_last) ≡ refused 8)
    × (outcome (dating (eve S.Utc) 12 (pos 6000) 86399995000 earlier_days earlier_offsets earlier_last) ≡ refused 8)
unfolding clock in_window within through is_step
old_dates = (rw (earlier, acc S.Utc), rw (earlier, acc S.Utc), rw (earlier, acc S.Utc), rw (earlier, acc S.Utc), rw (earlier, acc S.Utc), rw (earlier, acc S.Utc))

pub old_tick : outcome (turning (eve S.Utc) (time S.Utc (pos 6000) 86399993906) earlier_days earlier_offsets earlier_last) ≡ answer 8
unfolding clock in_window within latest through is_step
old_tick = rw (earlier, acc S.Utc)

-- ---- under fresh paper: the answers, the 10 and the 17 stay
kept : (t : ℕ) (d : ℤ) (u : ℕ) → (outcome (dating (eve S.Utc) t d u earlier_days earlier_offsets earlier_last) ≡ refused 8 → ⊥) →
    (outcome (dating (eve S.Utc) t d u earlier_days earlier_offsets earlier_last) ≡ refused 9 → ⊥) →
    outcome (dating (widened (eve S.Utc) 8 20) t d u published_days published_offsets published_last)
    ≡ outcome (dating (eve S.Utc) t d u earlier_days earlier_offsets earlier_last)
kept =
    date_kept (eve S.Utc) 8 20 (lit≤ tt) (lit≤ tt) (acc S.Utc) (wide S.Utc) earlier_days earlier_offsets earlier_last published_days published_offsets published_last
    (λ q. step_follows)

pub kept_date : outcome (dating (widened (eve S.Utc) 8 20) 8 (pos 6000) 86399995000 published_days published_offsets published_last) ≡ answer (at (pos 6000) 86399993906)
kept_date = kept 8 (pos 6000) 86399995000 (not_refused old_dates.0) (not_refused old_dates.0) ∙ old_dates.0

pub kept_lacking : outcome (dating (widened (eve S.Utc) 8 20) 8 (pos 6000) 86400000000 published_days published_offsets published_last) ≡ refused 10
kept_lacking =
    kept 8 (pos 6000) 86400000000 (other_refusal (λ q. omega arith) old_dates.1) (other_refusal (λ q. omega arith) old_dates.1) ∙ old_dates.1

pub kept_later : outcome (dating (widened (eve S.Utc) 8 20) 9 (pos 6000) 86399995000 published_days published_offsets published_last) ≡ refused 17
kept_later =
    kept 9 (pos 6000) 86399995000 (other_refusal (λ q. omega arith) old_dates.2) (other_refusal (λ q. omega arith) old_dates.2) ∙ old_dates.2

pub kept_tick : outcome (turning (widened (eve S.Utc) 8 20) (time S.Utc (pos 6000) 86399993906) published_days published_offsets published_last) ≡ answer 8
kept_tick =
    tick_kept (eve S.Utc) 8 20 (lit≤ tt) (lit≤ tt) (acc S.Utc) (wide S.Utc) earlier_days earlier_offsets earlier_last published_days published_offsets published_last
    (λ q. step_follows) (time S.Utc (pos 6000) 86399993906) (not_refused old_tick) (not_refused old_tick)
    ∙ old_tick

-- what was 9 and what was 8 are dates, or 17
pub now_dates :
    (outcome (dating (widened (eve S.Utc) 8 20) 10 (pos 6001) 1718 published_days published_offsets published_last) ≡ answer (at (pos 6001) 1718))
    × (outcome (dating (widened (eve S.Utc) 8 20) 12 (pos 6001) 10000 published_days published_offsets published_last) ≡ answer (at (pos 6001) 9531))
    × (outcome (dating (widened (eve S.Utc) 8 20) 12 (pos 6000) 86399995000 published_days published_offsets published_last) ≡ refused 17)
unfolding clock in_window within through is_step
now_dates = (rw (published, wide S.Utc), rw (published, wide S.Utc), rw (published, wide S.Utc))

-- ---- a TAI correlation, under two lists that no one accepts
tai_old : outcome (dating (eve S.Tai) 10 (pos 6001) 1718 [] [] (pos 0)) ≡ answer (at (pos 6001) 1718)
unfolding accepted clock in_window within
tai_old = refl

tai_tick : outcome (turning (eve S.Tai) (time S.Tai (pos 6001) 1718) [] [] (pos 0)) ≡ answer 10
unfolding accepted clock in_window within latest
tai_tick = refl

pub tai_kept : outcome (dating (widened (eve S.Tai) 8 20) 10 (pos 6001) 1718 [] (7 ∷ []) (pos 1)) ≡ answer (at (pos 6001) 1718)
tai_kept =
    date_kept (eve S.Tai) 8 20 (lit≤ tt) (lit≤ tt) (acc S.Tai) (wide S.Tai) [] [] (pos 0) [] (7 ∷ []) (pos 1) (λ q. absurd (false≢true q))
    10 (pos 6001) 1718 (not_refused tai_old) (not_refused tai_old)
    ∙ tai_old

-- and the base's date and tick, under an empty list
pub tai_date_base : outcome (base_dating (eve S.Tai) 10 (pos 6001) 1718) ≡ answer (at (pos 6001) 1718)
unfolding accepted clock in_window within
tai_date_base = sym (date_base (eve S.Tai) refl [] [] (pos 0) 10 (pos 6001) 1718) ∙ tai_old

-- received before it, 17
pub tai_date_later : outcome (dating (eve S.Tai) 10 (pos 6000) 86399995000 [] [] (pos 0)) ≡ refused 17
unfolding accepted clock in_window within
tai_date_later = date_base (eve S.Tai) refl [] [] (pos 0) 10 (pos 6000) 86399995000

pub tai_tick_base : outcome (base_turning (eve S.Tai) (time S.Tai (pos 6001) 1718)) ≡ answer 10
tai_tick_base = sym (tick_base (eve S.Tai) refl [] [] (pos 0) (time S.Tai (pos 6001) 1718)) ∙ tai_tick

-- ---- a UTC correlation under the published list: days 6000 and 6001 have the offset 36, and the base's answers stay, or are 17
base_dates :
    (outcome (base_dating (eve S.Utc) 10 (pos 6001) 1718) ≡ answer (at (pos 6001) 1718))
    × (outcome (base_dating (eve S.Utc) 10 (pos 6000) 86399995000) ≡ answer (at (pos 6001) 1718))
unfolding accepted clock in_window within
base_dates = (refl, refl)

base_tick : outcome (base_turning (eve S.Utc) (time S.Utc (pos 6001) 1718)) ≡ answer 10
unfolding accepted clock in_window within latest
base_tick = refl

pub utc_date_stays :
    (outcome (dating (eve S.Utc) 10 (pos 6001) 1718 published_days published_offsets published_last) ≡ answer (at (pos 6001) 1718))
    × (outcome (dating (eve S.Utc) 10 (pos 6000) 86399995000 published_days published_offsets published_last) ≡ refused 17)
unfolding clock
utc_date_stays = (
  date_stays (eve S.Utc) refl published_days published_offsets published_last published refl 10 (pos 6001) 1718 (at (pos 6001) 1718) base_dates.0 next_day next_day,
  date_stays (eve S.Utc) refl published_days published_offsets published_last published refl 10 (pos 6000) 86399995000 (at (pos 6001) 1718) base_dates.1 same_day_lem next_day,
)

pub utc_tick_stays : outcome (turning (eve S.Utc) (time S.Utc (pos 6001) 1718) published_days published_offsets published_last) ≡ answer 10
utc_tick_stays =
    tick_stays (eve S.Utc) refl published_days published_offsets published_last published refl (time S.Utc (pos 6001) 1718) 10 base_tick next_day
