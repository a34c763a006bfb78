-- Wrong programs for what a handed time that is not taken is refused with, each shut out by an input at which its answer is not
-- the meaning's. Assumes nothing.
use mathlib.Core.Path.{refl}
use native.Mathlib.Omega.{arith}
use Rattle.evidence.specs.ShutOut.{ShutOut, differ}
use Rattle.scales.specs.Meaning.{code_of, number_of, refused_of}
use Rattle.scales.specs.declared.Scale.TheVariants as S
use Rattle.scales.specs.declared.Refusal.{Refusal}
use Rattle.scales.specs.declared.Refusal.TheVariants as R
use Rattle.scales.specs.declared.Refused.{Refused}
use Rattle.handed.specs.declared.Untaken.{Untaken}
use Rattle.handed.specs.declared.Untaken.TheVariants as K
use Rattle.handed.specs.Meaning.{refused_by, refusal_by}

-- ---- an Untaken made a Refused
-- what is not finite refused as outside its span
abbrev outside_too : Untaken → Refused
outside_too (K.NotFinite s) = refused_of s R.OutsideSpan
outside_too (K.Outside s) = refused_of s R.OutsideSpan

pub refused_outside_too :
    ShutOut (refused_by (K.NotFinite S.Utc)) (record { refusal = R.DecimalNotFinite; scale = S.Utc }) (outside_too (K.NotFinite S.Utc))
    (record { refusal = R.OutsideSpan; scale = S.Utc })
refused_outside_too = (refl, refl, differ (λ (e : Refused). number_of e.refusal) (λ e. omega arith))

-- the empty record always of TAI
abbrev in_tai : Untaken → Refused
in_tai e = refused_of S.Tai (refused_by e).refusal

pub refused_in_tai :
    ShutOut (refused_by (K.Outside S.Gps)) (record { refusal = R.OutsideSpan; scale = S.Gps }) (in_tai (K.Outside S.Gps))
    (record { refusal = R.OutsideSpan; scale = S.Tai })
refused_in_tai = (refl, refl, differ (λ (e : Refused). code_of e.scale) (λ e. omega arith))

-- ---- an Untaken made a Refusal
-- 4 and 7 in each other's place
abbrev exchanged : Untaken → Refusal
exchanged (K.NotFinite s) = R.OutsideSpan
exchanged (K.Outside s) = R.DecimalNotFinite

pub refusal_exchanged :
    ShutOut (refusal_by (K.NotFinite S.Tai)) R.DecimalNotFinite (exchanged (K.NotFinite S.Tai)) R.OutsideSpan
refusal_exchanged = (refl, refl, differ number_of (λ e. omega arith))

-- what lies outside its span refused as a result outside
abbrev as_result : Untaken → Refusal
as_result (K.NotFinite s) = R.DecimalNotFinite
as_result (K.Outside s) = R.ResultOutside

pub untaken_as_result : ShutOut (refusal_by (K.Outside S.Utc)) R.OutsideSpan (as_result (K.Outside S.Utc)) R.ResultOutside
untaken_as_result = (refl, refl, differ number_of (λ e. omega arith))
