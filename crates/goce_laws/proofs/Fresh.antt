-- Demand 3 and what stays of document 01's rule for GOCE, each theorem at inputs that meet its hypotheses: 27 steps with E = 6000 against
-- the published list, the window widened at the same time. Assumes nothing.
use mathlib.Core.Path.{◌≡◌, refl, ◌∙◌}
use mathlib.Core.Bool.{true}
use Prim.Native.Nat.{ℕ}
use native.Mathlib.Omega.{arith}
use lib.Dec.{lit≤}
use lib.IntN.{ℤ, pos}
use Rattle.axis.specs.Meaning.{Moment}
use Rattle.scales.specs.Meaning.{answer, refused, outcome, record_of}
use Rattle.scales.specs.declared.Scale.TheVariants as S
use Rattle.handed.specs.declared.Handed.{Handed}
use Rattle.handed.specs.declared.Handed.TheVariants as H
use Rattle.leap.specs.Meaning.{through, is_step, published_days, published_offsets, published_last}
use Rattle.leap.specs.Published.{published}
use Rattle.leap_laws.proofs.Computed.{earlier_days, earlier_offsets, earlier_last, earlier}
use Rattle.leap_laws.proofs.Kept.{step_follows}
use Rattle.clock.specs.Meaning.{clock, in_window, within, latest}
use Rattle.clock_laws.proofs.Wider.{not_refused, other_refusal}
use Rattle.clock_laws.proofs.Stays.{same_day_lem, next_day}
use Rattle.goce.specs.Meaning.{accepted, dating, turning}
use Rattle.goce.specs.declared.Correlation.{Correlation}
use Rattle.goce_laws.proofs.Window.{widened}
use Rattle.goce_laws.proofs.Wider.{date_kept, count_kept}
use Rattle.goce_laws.proofs.Stays.{base_dating, base_turning, date_stays, count_stays}

-- count 5 is the last of day 6000, a true clock, four counts either way
abbrev pub eve : Correlation
eve = record { obt0 = 5; utc0 = 33979524710399; offset = pos 0; gradient = 1000000000; back = 4; ahead = 4 }

abbrev at : ℤ → ℕ → Moment
at d u = record { day = d; micro = u }

abbrev utc : ℤ → ℕ → Handed
utc d u = H.Record (record_of S.Utc d u)

acc : accepted eve ≡ true
unfolding accepted
acc = refl

wide : accepted (widened eve 8 20) ≡ true
unfolding accepted
wide = refl

-- ---- under the old paper: count 5 has a date; received in a second 60 that its day lacks it is 10; a count of 49 bits is 3; count 6 is later
-- than that receipt, or is received on day 6001, which is expired; count 10 is outside the window, received after its time or before
pub old_dates :
    (outcome (dating eve 5 (pos 6000) 86399999990 earlier_days earlier_offsets earlier_last) ≡ answer (at (pos 6000) 86399999984))
    × (outcome (dating eve 5 (pos 6000) 86400000000 earlier_days earlier_offsets earlier_last) ≡ refused 10)
    × (outcome (dating eve 281474976710656 (pos 6000) 86399999990 earlier_days earlier_offsets earlier_last) ≡ refused 3)
    × (outcome (dating eve 6 (pos 6000) 86399999990 earlier_days earlier_offsets earlier_last) ≡ refused 17)
    × (outcome (dating eve 6 (pos 6001) 0 earlier_days earlier_offsets earlier_last) ≡ refused 9)
    × (outcome (dating eve 10 (pos 6001) 61 earlier_days earlier_offsets earlier_last) ≡ refused 8)
    × (outcome (dating eve 10 (pos 6000) 86399999990 earlier_days earlier_offsets earlier_last) ≡ refused 8)
unfolding clock in_window within through is_step
old_dates = (rw (earlier, acc), rw (earlier, acc), refl, rw (earlier, acc), rw (earlier, acc), rw (earlier, acc), rw (earlier, acc))

pub old_count : outcome (turning eve (utc (pos 6000) 86399999984) earlier_days earlier_offsets earlier_last) ≡ answer 5
unfolding clock in_window within latest through is_step
old_count = rw (earlier, acc)

-- ---- under fresh paper: the answers, the 3, the 10 and the 17 stay
kept : (t : ℕ) (d : ℤ) (u : ℕ) → (outcome (dating eve t d u earlier_days earlier_offsets earlier_last) ≡ refused 8 → ⊥) →
    (outcome (dating eve t d u earlier_days earlier_offsets earlier_last) ≡ refused 9 → ⊥) →
    outcome (dating (widened eve 8 20) t d u published_days published_offsets published_last) ≡ outcome (dating eve t d u earlier_days earlier_offsets earlier_last)
kept = date_kept eve 8 20 (lit≤ tt) (lit≤ tt) acc wide earlier_days earlier_offsets earlier_last published_days published_offsets published_last step_follows

pub kept_date : outcome (dating (widened eve 8 20) 5 (pos 6000) 86399999990 published_days published_offsets published_last) ≡ answer (at (pos 6000) 86399999984)
kept_date = kept 5 (pos 6000) 86399999990 (not_refused old_dates.0) (not_refused old_dates.0) ∙ old_dates.0

pub kept_lacking : outcome (dating (widened eve 8 20) 5 (pos 6000) 86400000000 published_days published_offsets published_last) ≡ refused 10
kept_lacking =
    kept 5 (pos 6000) 86400000000 (other_refusal (λ q. omega arith) old_dates.1) (other_refusal (λ q. omega arith) old_dates.1) ∙ old_dates.1

pub kept_over : outcome (dating (widened eve 8 20) 281474976710656 (pos 6000) 86399999990 published_days published_offsets published_last) ≡ refused 3
kept_over =
    kept 281474976710656 (pos 6000) 86399999990 (other_refusal (λ q. omega arith) old_dates.2) (other_refusal (λ q. omega arith) old_dates.2)
    ∙ old_dates.2

pub kept_later : outcome (dating (widened eve 8 20) 6 (pos 6000) 86399999990 published_days published_offsets published_last) ≡ refused 17
kept_later =
    kept 6 (pos 6000) 86399999990 (other_refusal (λ q. omega arith) old_dates.3) (other_refusal (λ q. omega arith) old_dates.3) ∙ old_dates.3

pub kept_count : outcome (turning (widened eve 8 20) (utc (pos 6000) 86399999984) published_days published_offsets published_last) ≡ answer 5
kept_count =
    count_kept eve 8 20 (lit≤ tt) (lit≤ tt) acc wide earlier_days earlier_offsets earlier_last published_days published_offsets published_last step_follows
    (utc (pos 6000) 86399999984) (not_refused old_count) (not_refused old_count)
    ∙ old_count

-- what was 9 and what was 8 are dates, or 17
pub now_dates :
    (outcome (dating (widened eve 8 20) 6 (pos 6001) 0 published_days published_offsets published_last) ≡ answer (at (pos 6001) 0))
    × (outcome (dating (widened eve 8 20) 10 (pos 6001) 61 published_days published_offsets published_last) ≡ answer (at (pos 6001) 61))
    × (outcome (dating (widened eve 8 20) 10 (pos 6000) 86399999990 published_days published_offsets published_last) ≡ refused 17)
unfolding clock in_window within through is_step
now_dates = (rw (published, wide), rw (published, wide), rw (published, wide))

-- ---- under the published list days 6000 and 6001 have the offset 36, and the base's answers stay, or are 17
base_dates :
    (outcome (base_dating eve 6 (pos 6001) 0) ≡ answer (at (pos 6001) 0))
    × (outcome (base_dating eve 6 (pos 6000) 86399999990) ≡ answer (at (pos 6001) 0))
unfolding accepted clock in_window within
base_dates = (refl, refl)

base_count : outcome (base_turning eve (utc (pos 6001) 0)) ≡ answer 6
unfolding accepted clock in_window within latest
base_count = refl

pub utc_date_stays :
    (outcome (dating eve 6 (pos 6001) 0 published_days published_offsets published_last) ≡ answer (at (pos 6001) 0))
    × (outcome (dating eve 6 (pos 6000) 86399999990 published_days published_offsets published_last) ≡ refused 17)
unfolding clock
utc_date_stays = (
  date_stays eve published_days published_offsets published_last published refl 6 (pos 6001) 0 (at (pos 6001) 0) base_dates.0 next_day next_day,
  date_stays eve published_days published_offsets published_last published refl 6 (pos 6000) 86399999990 (at (pos 6001) 0) base_dates.1 same_day_lem next_day,
)

pub utc_count_stays : outcome (turning eve (utc (pos 6001) 0) published_days published_offsets published_last) ≡ answer 6
utc_count_stays = count_stays eve published_days published_offsets published_last published refl (utc (pos 6001) 0) 6 base_count next_day
