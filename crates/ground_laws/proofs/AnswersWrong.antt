-- Wrong programs for refusals and counts, each shut out by an input at which its answer is not the meaning's. Assumes nothing.
use mathlib.Core.Path.{refl}
use mathlib.Core.Bool.{cond}
use Prim.Native.Nat.{ℕ, ◌*◌, ◌+◌, ◌/◌, ◌%◌}
use native.Mathlib.Omega.{arith}
use lib.Dec.{eqb}
use Rattle.evidence.specs.ShutOut.{ShutOut, differ}
use Rattle.scales.specs.Meaning.{code_of, bound, number_of, refused_of, time_scale, time_count, time_at}
use Rattle.scales.specs.declared.Scale.{Scale}
use Rattle.scales.specs.declared.Scale.TheVariants as S
use Rattle.scales.specs.declared.Refusal.{Refusal}
use Rattle.scales.specs.declared.Refusal.TheVariants as R
use Rattle.scales.specs.declared.Refused.{Refused}
use Rattle.scales.specs.declared.Time.{Time}

-- ---- Refusal::of
-- the empty record always of TAI
abbrev of_tai : Scale → Refusal → Refused
of_tai s f = refused_of S.Tai f

pub refused_in_tai :
    ShutOut (refused_of S.Utc R.NotInForce) (record { refusal = R.NotInForce; scale = S.Utc }) (of_tai S.Utc R.NotInForce)
    (record { refusal = R.NotInForce; scale = S.Tai })
refused_in_tai = (refl, refl, differ (λ (e : Refused). code_of e.scale) (λ e. omega arith))

-- 7 whatever the refusal
abbrev always_seven : Scale → Refusal → Refused
always_seven s f = refused_of s R.OutsideSpan

pub refused_seven :
    ShutOut (refused_of S.Gps R.ListExpired) (record { refusal = R.ListExpired; scale = S.Gps }) (always_seven S.Gps R.ListExpired)
    (record { refusal = R.OutsideSpan; scale = S.Gps })
refused_seven = (refl, refl, differ (λ (e : Refused). number_of e.refusal) (λ e. omega arith))

-- ---- a Refused made a Refusal
-- 11 in the place of 7: a time handed in refused as a result
abbrev as_result : Refused → Refusal
as_result e = cond (eqb (number_of e.refusal) 7) R.ResultOutside e.refusal

pub refusal_as_result :
    ShutOut (refused_of S.Utc R.OutsideSpan).refusal R.OutsideSpan (as_result (refused_of S.Utc R.OutsideSpan)) R.ResultOutside
refusal_as_result = (refl, refl, differ number_of (λ e. omega arith))

-- told by the scale: of GPS always 7
abbrev by_scale : Refused → Refusal
by_scale e = cond (eqb (code_of e.scale) 2) R.OutsideSpan e.refusal

pub refusal_by_scale :
    ShutOut (refused_of S.Gps R.ListNotAccepted).refusal R.ListNotAccepted (by_scale (refused_of S.Gps R.ListNotAccepted)) R.OutsideSpan
refusal_by_scale = (refl, refl, differ number_of (λ e. omega arith))

-- ---- Time::count
-- the microsecond of the day alone
abbrev of_day : Time → ℕ
of_day t = time_count t % bound (time_scale t)

pub count_of_day : ShutOut (time_count (time_at S.Tai 3456000000000005)) 3456000000000005 (of_day (time_at S.Tai 3456000000000005)) 5
count_of_day = (refl, refl, λ e. omega arith)

-- every count with 86,400 s a day, UTC's too
abbrev even : Time → ℕ
even t = time_count t / bound (time_scale t) * 86400000000 + time_count t % bound (time_scale t)

pub count_even : ShutOut (time_count (time_at S.Utc 3456040000000005)) 3456040000000005 (even (time_at S.Utc 3456040000000005)) 3456000000000005
count_even = (refl, refl, λ e. omega arith)
