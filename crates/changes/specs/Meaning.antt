-- The six changes between TAI, UTC and GPS, the one change of any time that is handed in, and what a list is asked for a time that
-- stays in its scale, as the paper states them. A list is its steps' days ds, its offsets os and its last day e. Assumes nothing.
use Rattle.std.specs.Prelude.{Bool, cond, not, ◌||◌, List, ℕ, ℤ}
use Rattle.axis.specs.Meaning.{Moment}
use Rattle.scales.specs.Meaning.{and_then, same_scale, Judged, given, gives, outcome, Slip, dated_as, dated}
use Rattle.scales.specs.declared.Scale.{Scale}
use Rattle.scales.specs.declared.Scale.TheVariants as S
use Rattle.handed.specs.declared.Handed.{Handed}
use Rattle.handed.specs.Meaning.{scale_of, mark_of, is_finite, is_in_span, moment_in}
use Rattle.leap.specs.Meaning.{accepted, has_micro, is_expired_day}
use Rattle.via_tai.specs.Meaning.{from_tai, from_gps, from_utc, to_tai, to_gps, to_utc, of_count, from_scale, to_scale, is_utc}

-- ---- the six changes, of a count of each scale
-- "5 leap list not accepted, where one is used"
abbrev pub with_list : List ℤ → List ℕ → ℤ → Judged Moment → Judged Moment
with_list ds os e rest = given (accepted ds os e) 5 rest

abbrev pub tai_in_gps : ℕ → Judged Moment
tai_in_gps n = and_then (of_count S.Tai n from_tai) to_gps

abbrev pub gps_in_tai : ℕ → Judged Moment
gps_in_tai n = and_then (of_count S.Gps n from_gps) to_tai

abbrev pub utc_in_tai : List ℤ → List ℕ → ℤ → ℕ → Judged Moment
utc_in_tai ds os e n = and_then (of_count S.Utc n (from_utc ds os e)) to_tai

abbrev pub utc_in_gps : List ℤ → List ℕ → ℤ → ℕ → Judged Moment
utc_in_gps ds os e n = and_then (of_count S.Utc n (from_utc ds os e)) to_gps

abbrev pub tai_in_utc : List ℤ → List ℕ → ℤ → ℕ → Judged Moment
tai_in_utc ds os e n = and_then (of_count S.Tai n from_tai) (to_utc ds os e)

abbrev pub gps_in_utc : List ℤ → List ℕ → ℤ → ℕ → Judged Moment
gps_in_utc ds os e n = and_then (of_count S.Gps n from_gps) (to_utc ds os e)

unfoldable pub tai_to_gps : ℕ → Slip
tai_to_gps n = dated S.Gps (outcome (tai_in_gps n))

unfoldable pub gps_to_tai : ℕ → Slip
gps_to_tai n = dated S.Tai (outcome (gps_in_tai n))

unfoldable pub utc_to_tai : ℕ → List ℤ → List ℕ → ℤ → Slip
utc_to_tai n ds os e = dated S.Tai (outcome (with_list ds os e (utc_in_tai ds os e n)))

unfoldable pub utc_to_gps : ℕ → List ℤ → List ℕ → ℤ → Slip
utc_to_gps n ds os e = dated S.Gps (outcome (with_list ds os e (utc_in_gps ds os e n)))

unfoldable pub tai_to_utc : ℕ → List ℤ → List ℕ → ℤ → Slip
tai_to_utc n ds os e = dated S.Utc (outcome (with_list ds os e (tai_in_utc ds os e n)))

unfoldable pub gps_to_utc : ℕ → List ℤ → List ℕ → ℤ → Slip
gps_to_utc n ds os e = dated S.Utc (outcome (with_list ds os e (gps_in_utc ds os e n)))

-- ---- the change of any time that is handed in, to any scale
-- a list is used where UTC stands on either side
abbrev pub change_uses_list : Scale → Scale → Bool
change_uses_list s to = is_utc s || is_utc to

-- to its own scale a time stays as it is, after the refusals that its scale brings
abbrev pub settled : Scale → Scale → List ℤ → List ℕ → ℤ → Moment → ℤ → Judged Moment
settled s to ds os e m c = cond (same_scale s to) (gives m) (to_scale to ds os e c)

abbrev pub moving : Scale → Scale → List ℤ → List ℕ → ℤ → Bool → Moment → Judged Moment
moving s to ds os e spans m = and_then (from_scale s ds os e spans m) (settled s to ds os e m)

abbrev pub changing : Handed → Scale → List ℤ → List ℕ → ℤ → Judged Moment
changing h to ds os e =
    given (is_finite h) 4
    (given (not (change_uses_list (scale_of h) to) || accepted ds os e) 5
    (moving (scale_of h) to ds os e (is_in_span h) (moment_in h)))

-- "Scale changes keep the mark"
unfoldable pub change_of : Handed → Scale → List ℤ → List ℕ → ℤ → Slip
change_of h to ds os e = dated_as (mark_of h) to (outcome (changing h to ds os e))

-- ---- "Reading and writing UTC text both apply the leap list": what a list is asked for a time that stays in its scale z; `inside` says
-- whether the time lies in its span
abbrev pub asked : {A : Type 0} → Scale → List ℤ → List ℕ → ℤ → Bool → Moment → Judged A → Judged A
asked z ds os e inside m rest =
    given (not (is_utc z) || accepted ds os e) 5
    (given inside 7
    (given (not (is_utc z) || not (is_expired_day e m.day)) 9
    (given (not (is_utc z) || has_micro ds m.day m.micro) 10
    rest)))
