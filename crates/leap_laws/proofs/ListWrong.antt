-- Wrong programs for a list as it is lent, each shut out by an input at which its answer is not the meaning's. Assumes nothing.
use mathlib.Core.Path.{refl}
use mathlib.Core.Bool.{cond}
use mathlib.Core.List.{List, []}
use Rattle.std.specs.Prelude.{Result, Ok, Err}
use Prim.Native.Nat.{ℕ, ◌-◌}
use native.Mathlib.Omega.{arith}
use lib.IntN.{ℤ, pos, nat_abs, ◌+ℤ◌}
use lib.ListN.{length, get_or, take}
use Rattle.evidence.specs.ShutOut.{ShutOut, differ}
use Rattle.scales.specs.Meaning.{number_of}
use Rattle.scales.specs.declared.Refusal.{Refusal}
use Rattle.scales.specs.declared.Refusal.TheVariants as R
use Rattle.leap.specs.Meaning.{LeapList, list_of, accepted, accepted_or, published_days, published_offsets, published_last}

abbrev as_published : LeapList
as_published = list_of published_days published_offsets published_last

-- no steps at all, which is no list
abbrev bare : LeapList
bare = list_of [] [] (pos 0)

-- E a day later
abbrev day_more : LeapList → LeapList
day_more l = list_of l.days l.offsets (l.last +ℤ pos 1)

-- ---- List::new
pub new_day_more :
    ShutOut (list_of [] [] (pos 5)) (record { days = []; offsets = []; last = pos 5 }) (day_more (list_of [] [] (pos 5)))
    (record { days = []; offsets = []; last = pos 6 })
new_day_more = (refl, refl, differ (λ (l : LeapList). nat_abs l.last) (λ e. omega arith))

-- the published list in the place of the caller's
abbrev own_list : List ℤ → List ℕ → ℤ → LeapList
own_list ds os e = as_published

pub new_own_list : ShutOut (list_of [] [] (pos 0)) (record { days = []; offsets = []; last = pos 0 }) (own_list [] [] (pos 0)) as_published
new_own_list = (refl, refl, differ (λ (l : LeapList). length l.days) (λ e. omega arith))

-- ---- List::last
-- the last step's day
abbrev last_step : LeapList → ℤ
last_step l = get_or l.days (length l.days - 1) (pos 0)

pub last_of_steps : ShutOut as_published.last (pos 9131) (last_step as_published) (pos 6210)
last_of_steps = (refl, refl, differ nat_abs (λ e. omega arith))

-- the day after E, on which a step may still be
pub last_next : ShutOut as_published.last (pos 9131) (day_more as_published).last (pos 9132)
last_next = (refl, refl, differ nat_abs (λ e. omega arith))

-- ---- List::accepted
refused_with : Result LeapList Refusal → ℕ
refused_with (Ok l) = 0
refused_with (Err f) = number_of f

-- any list taken
abbrev any_list : LeapList → Result LeapList Refusal
any_list l = Ok l

pub accepted_any : ShutOut (accepted_or bare) (Err R.ListNotAccepted) (any_list bare) (Ok bare)
unfolding accepted refused_with
accepted_any = (refl, refl, differ refused_with (λ e. omega arith))

-- a list that is not accepted refused as expired
abbrev as_expired : LeapList → Result LeapList Refusal
as_expired l = cond (accepted l.days l.offsets l.last) (Ok l) (Err R.ListExpired)

pub accepted_as_expired : ShutOut (accepted_or bare) (Err R.ListNotAccepted) (as_expired bare) (Err R.ListExpired)
unfolding accepted refused_with
accepted_as_expired = (refl, refl, differ refused_with (λ e. omega arith))

-- ---- Accepted::list, which is handed back as it is
pub list_day_more : ShutOut as_published as_published (day_more as_published) (list_of published_days published_offsets (pos 9132))
list_day_more = (refl, refl, differ (λ (l : LeapList). nat_abs l.last) (λ e. omega arith))

-- the steps without their last
abbrev less_a_step : LeapList → LeapList
less_a_step l = list_of (take (length l.days - 1) l.days) (take (length l.days - 1) l.offsets) l.last

pub list_less_a_step :
    ShutOut as_published as_published (less_a_step as_published) (list_of (take 27 published_days) (take 27 published_offsets) published_last)
list_less_a_step = (refl, refl, differ (λ (l : LeapList). length l.days) (λ e. omega arith))
