-- The rows of the refusal slip as conditions on what is handed in, in the paper's words: each says when its number is due. Assumes
-- nothing.
use Rattle.std.specs.Prelude.{Bool, not, ◌&&◌, ◌||◌, List, ℕ, ◌/◌, ◌%◌, ◌^◌, eqb, leb, ltb, ℤ, pos, negsuc, Float, length}
use Rattle.std.specs.Int.Signed.{lt_z, le_z}
use Rattle.axis.specs.Meaning.{Moment, day_micros, since}
use Rattle.scales.specs.Meaning.{in_span, same_scale, first, last}
use Rattle.scales.specs.declared.Scale.{Scale}
use Rattle.scales.specs.declared.Scale.TheVariants as S
use Rattle.calendar.specs.Meaning.{is_date, day_of_date}
use Rattle.calendar.specs.declared.Date.{Date}
use Rattle.double.specs.Meaning.{finite, exact_of}
use Rattle.handed.specs.declared.Handed.{Handed}
use Rattle.handed.specs.Meaning.{spans, scale_of, is_finite, is_in_span, day_of, micro_of, moment_in}
use Rattle.leap.specs.Meaning as Leap
use Rattle.via_tai.specs.Meaning.{is_utc}
use Rattle.clock.specs.Meaning.{Clock, elapsed, time, instant, in_window, covers}
use Rattle.sbt.specs.Meaning as Sbt
use Rattle.sbt.specs.declared.Correlation.{Correlation}
use Rattle.goce.specs.Meaning as Goce
use Rattle.goce.specs.declared.Correlation as GoceDeclared
use Rattle.season.specs.Meaning as Season
use Rattle.octets.specs.Meaning.{part}
use Rattle.layout_fields.specs.declared.siral.Fields.{Fields}
use Rattle.runs.specs.Meaning as Runs
use Rattle.text_read.specs.Meaning.{is_prefix_right, scale_in, body_in, has_marks, stamp_in, in_limits, stamp_moment}
use Rattle.text_write.specs.Meaning.{shows_scale, has_micros}
use Rattle.text_write.specs.declared.Form.{Form}
use Rattle.c_api.specs.declared.VrkHanded.{VrkHanded}

-- ---- "1 input length is none of the layout's"
abbrev pub length_is_none : ℕ → List ℕ → Bool
length_is_none n s = not (eqb (length s) n)

-- "(20 characters), with .uuuuuu (27), with RRR= before either (24, 31)"
abbrev pub text_length_is_none : List ℕ → Bool
text_length_is_none s = not ((eqb (length s) 24 || eqb (length s) 31) || (eqb (length s) 20 || eqb (length s) 27))

-- "1 for a length not a multiple of ten"
abbrev pub packets_broken : List ℕ → Bool
packets_broken s = not (eqb (length s % 10) 0)

-- ---- "2 marker byte or zero bits wrong"
-- "one byte equal to 66 hexadecimal"
abbrev pub marker_wrong : List ℕ → Bool
marker_wrong s = not (eqb (part s 0 1) 102)

-- "week 12 bits, three zero bits, H3"
abbrev pub zero_bits_wrong : List ℕ → Bool
zero_bits_wrong s = not (eqb (part s 0 2 / 2 % 8) 0)

-- ---- "3 a field over its limit, bad character, date not in the calendar"
-- "second of week .. (at most 604,799)"; a week of 12 bits
abbrev pub second_over : ℕ → Bool
second_over second = not (leb second 604799)

abbrev pub week_over : ℕ → ℕ → Bool
week_over week second = not (ltb week (2 ^ 12) && leb second 604799)

-- "millisecond .. (below 86,400,000), microsecond .. (below 1,000)"
abbrev pub day_time_over : ℕ → ℕ → Bool
day_time_over milli micro = not (ltb milli 86400000 && ltb micro 1000)

-- the same of any packet of a run
abbrev pub packet_over : List ℕ → Bool
packet_over s = not (Runs.all (λ (f : Fields). ltb f.millisecond 86400000 && ltb f.microsecond 1000) (Runs.packets s))

-- "kept as a 48-bit count", "kept as a 56-bit count"
abbrev pub count_over : ℕ → ℕ → Bool
count_over bits n = not (ltb n (2 ^ bits))

abbrev pub no_date : Date → Bool
no_date t = not (is_date t)

-- another prefix, a mark that is none, a field that is no number or over its limit, a date that the Gregorian rule lacks
abbrev pub text_wrong : List ℕ → Bool
text_wrong s =
    let body = body_in s in
    not (is_prefix_right s && (has_marks body && (in_limits (scale_in s) (stamp_in body) && is_date (stamp_in body).date)))

-- for C: a code that stands for nothing, or a number that its field cannot hold
abbrev pub scale_unknown : ℕ → Bool
scale_unknown c = not (leb c 2)

-- a mark up to 2, and Proteus with a source up to 1
abbrev pub is_mark : ℕ → ℕ → Bool
is_mark c x = leb c 2 && (not (eqb c 1) || leb x 1)

-- of a decimal day mark and source are not looked at
abbrev pub is_handed : VrkHanded → Bool
is_handed h = leb h.scale 2 && (leb h.kind 1 && (not (eqb h.kind 0) || is_mark h.mark h.source))

abbrev pub handed_unknown : VrkHanded → Bool
handed_unknown h = not (is_handed h)

abbrev pub change_unknown : ℕ → VrkHanded → Bool
change_unknown c h = not (leb c 2 && is_handed h)

abbrev pub form_unknown : ℕ → Bool
form_unknown n = not (eqb n 20 || (eqb n 24 || (eqb n 27 || eqb n 31)))

abbrev pub bit_unknown : ℕ → Bool
bit_unknown b = not (leb b 1)

-- a number that 16 bits do not hold, or one of several
abbrev pub too_wide : ℕ → Bool
too_wide n = not (ltb n (2 ^ 16))

abbrev pub proteus_too_wide : ℕ → ℕ → ℕ → Bool
proteus_too_wide week h3 fraction = too_wide week || (bit_unknown h3 || too_wide fraction)

abbrev pub cryosat_too_wide : ℕ → ℕ → Bool
cryosat_too_wide day microsecond = too_wide day || too_wide microsecond

abbrev pub siral_too_wide : ℕ → ℕ → ℕ → Bool
siral_too_wide day microsecond extra = too_wide day || (too_wide microsecond || too_wide extra)

-- ---- "14 a rule of the season file broken": "for any breach of these rules (a correlation not accepted, more than 512, a wrong length), by
-- the question only for those it checks"
abbrev pub season_broken : List ℕ → Bool
season_broken s = not (Season.is_season s)

abbrev pub contents_broken : List ℕ → Bool
contents_broken s = not (Season.contents_kept s)

abbrev pub words_broken : List ℤ → Bool
words_broken ws = not (Season.is_writable ws)

-- ---- "16 a run's three fields differ, or a total above 484,848 units", by the bytes and the told count
abbrev pub not_one_second : List ℕ → ℕ → Bool
not_one_second s told =
    let fs = Runs.packets s in
    not (Runs.are_alike fs && Runs.all (λ (t : ℕ). leb t 484848) (Runs.totals told fs))

-- ---- "4 decimal day infinite or not a number"
abbrev pub not_finite : Float → Bool
not_finite x = not (finite x)

abbrev pub decimal_not_finite : Handed → Bool
decimal_not_finite h = not (is_finite h)

-- ---- "5 leap list not accepted, where one is used"
abbrev pub list_not_accepted : Bool → List ℤ → List ℕ → ℤ → Bool
list_not_accepted used ds os e = used && not (Leap.accepted ds os e)

-- ---- "6 correlation not accepted"
abbrev pub sbt_not_accepted : Correlation → Bool
sbt_not_accepted c = not (Sbt.accepted c)

abbrev pub goce_not_accepted : GoceDeclared.Correlation → Bool
goce_not_accepted c = not (Goce.accepted c)

-- ---- "7 input time or receipt outside its span"
abbrev pub outside_span : Scale → Moment → Bool
outside_span s m = not (in_span s m.day m.micro)

abbrev pub time_outside : Handed → Bool
time_outside h = not (is_in_span h)

-- "The span is judged on the exact value before rounding"
abbrev pub double_outside : Float → Scale → Bool
double_outside x s = not (spans s (exact_of x))

abbrev pub day_outside : ℤ → Bool
day_outside d = not (le_z (first S.Tai) d && le_z d (last S.Tai))

abbrev pub year_outside : Date → Bool
year_outside t = not (leb 1972 t.year && leb t.year 2099)

-- any date of a run, carry included
abbrev pub date_outside : List ℕ → ℕ → Bool
date_outside s told = not (Runs.all Runs.is_in_span (Runs.dates_in s told))

-- "a real date outside the span gets 7": one outside the calendar's has no day
abbrev pub text_outside : List ℕ → Bool
text_outside s =
    let t = stamp_in (body_in s) in
    not (eqb (day_of_date t.date).number 0 && in_span (scale_in s) (stamp_moment t).day (stamp_moment t).micro)

-- the receipt is a time of the correlation's scale
abbrev pub receipt_outside : Clock → Moment → Bool
receipt_outside c m = outside_span c.scale m

-- ---- "15 no entry covers the receipt": "given exactly if no entry covers" it
abbrev pub no_entry : List ℕ → Moment → Bool
no_entry s m = not (Season.covered_in s (since m.day m.micro) (Season.count_of s))

-- ---- "8 correlation not in force": "in force when k is from -b to a and the receipt is from time(-b) to time(a)"; "A tick outside the
-- window is refused 8 at once; the rest of 8 is judged only when the reference and the receipt (or time to be turned back) both have a
-- TAI time"
abbrev pub both_in_tai : Clock → Moment → List ℤ → ℤ → Bool
both_in_tai c m ds e =
    not (is_utc c.scale && Leap.is_expired_day e c.day)
    && (not (is_utc c.scale && Leap.is_expired_day e m.day) && not (is_utc c.scale && not (Leap.has_micro ds m.day m.micro)))

abbrev pub uncovered : Clock → Moment → List ℤ → List ℕ → ℤ → Bool
uncovered c m ds os e = both_in_tai c m ds e && not (covers c (instant c.scale ds os m.day m.micro))

abbrev pub not_in_force : Clock → ℕ → Moment → List ℤ → List ℕ → ℤ → Bool
not_in_force c t m ds os e = not (in_window c (elapsed c t)) || uncovered c m ds os e

-- "A time of another scale .. gets 12, and 8 is not judged for it"
abbrev pub has_count : Clock → Handed → Bool
has_count c h = same_scale (scale_of h) c.scale

abbrev pub not_covered : Clock → Handed → List ℤ → List ℕ → ℤ → Bool
not_covered c h ds os e = has_count c h && uncovered c (moment_in h) ds os e

-- ---- "17 result later than receipt": "compared in TAI, once both are known there"
abbrev pub result_later : Clock → ℕ → Moment → List ℤ → List ℕ → ℤ → Bool
result_later c t m ds os e = both_in_tai c m ds e && lt_z (instant c.scale ds os m.day m.micro) (time c (elapsed c t))

-- ---- "9 leap list expired", where one is used
abbrev pub day_expired : Bool → ℤ → Moment → Bool
day_expired used e m = used && Leap.is_expired_day e m.day

-- "9 to the reference, receipt, time given (where it is UTC) and result"
abbrev pub reference_expired : Clock → ℤ → Bool
reference_expired c e = is_utc c.scale && Leap.is_expired_day e c.day

abbrev pub date_expired : Clock → ℕ → Moment → List ℤ → List ℕ → ℤ → Bool
date_expired c t m ds os e =
    reference_expired c e
    || (day_expired (is_utc c.scale) e m || (is_utc c.scale && Leap.is_expired_tai ds os e (time c (elapsed c t))))

abbrev pub count_expired : Clock → Handed → ℤ → Bool
count_expired c h e = reference_expired c e || (has_count c h && day_expired (is_utc c.scale) e (moment_in h))

abbrev pub tai_expired : List ℤ → List ℕ → ℤ → ℤ → Bool
tai_expired ds os e c = Leap.is_expired_tai ds os e c

-- ---- "10 UTC second that its day lacks"
abbrev pub second_lacking : Bool → List ℤ → Moment → Bool
second_lacking used ds m = used && not (Leap.has_micro ds m.day m.micro)

abbrev pub given_lacking : Clock → Handed → List ℤ → Bool
given_lacking c h ds = has_count c h && second_lacking (is_utc c.scale) ds (moment_in h)

-- ---- "11 result outside its scale's span"
abbrev pub result_outside : Scale → Moment → Bool
result_outside s m = not (in_span s m.day m.micro)

-- ---- "12 time has no image: wrong scale, leap second in Proteus, decimal .., microseconds in a short text, day or week the field cannot
-- hold"
abbrev pub wrong_scale : Scale → Handed → Bool
wrong_scale s h = not (same_scale s (scale_of h))

abbrev pub no_week : Handed → Bool
no_week h = not (same_scale S.Utc (scale_of h) && (le_z (negsuc 7299) (day_of h) && (le_z (day_of h) (pos 21371) && ltb (micro_of h) day_micros)))

abbrev pub no_day : Handed → Bool
no_day h = not (same_scale S.Tai (scale_of h) && le_z (pos 0) (day_of h))

abbrev pub no_count : Clock → Handed → Bool
no_count c h = not (has_count c h)

abbrev pub in_second60 : Handed → Bool
in_second60 h = not (ltb (micro_of h) day_micros)

-- unprefixed forms are UTC; "A nonzero microsecond is not written to a form without one"
abbrev pub no_text : Form → Handed → Bool
no_text f h = not ((shows_scale f || same_scale (scale_of h) S.Utc) && (has_micros f || eqb (micro_of h % 1000000) 0))

-- ---- "13 output slice shorter than the image"
abbrev pub output_shorter : {A : Type 0} → ℕ → List A → Bool
output_shorter n out = not (leb n (length out))
