-- What each function judges, row by row: the number, and the condition on what is handed in under which it is due. Assumes nothing.
use Rattle.std.specs.Prelude.{Bool, true, not, ◌&&◌, ◌||◌, List, [], ◌∷◌, ◌++◌, ℕ, ◌*◌, ℤ, ◌+ℤ◌, ◌-ℤ◌, Float, length}
use Rattle.axis.specs.Meaning.{Moment, since, moment_of}
use Rattle.scales.specs.Meaning.{same_scale, moment_at}
use Rattle.scales.specs.declared.Scale.{Scale}
use Rattle.scales.specs.declared.Scale.TheVariants as S
use Rattle.calendar.specs.declared.Date.{Date}
use Rattle.handed.specs.declared.Handed.{Handed}
use Rattle.handed.specs.Meaning.{scale_of, moment_in}
use Rattle.leap.specs.Meaning.{seconds, tai_of, utc_of}
use Rattle.via_tai.specs.Meaning.{is_utc}
use Rattle.clock.specs.Meaning.{Clock, elapsed, time, moment_after}
use Rattle.sbt.specs.Meaning as Sbt
use Rattle.sbt.specs.declared.Correlation.{Correlation}
use Rattle.goce.specs.Meaning as Goce
use Rattle.goce.specs.declared.Correlation as GoceDeclared
use Rattle.season.specs.Meaning as Season
use Rattle.runs.specs.Meaning as Runs
use Rattle.octets.specs.Meaning.{part}
use Rattle.layout_fields.specs.Cuc as CucFields
use Rattle.layout_fields.specs.Proteus as ProteusFields
use Rattle.layout_fields.specs.Cryosat as CryosatFields
use Rattle.layout_fields.specs.Siral as SiralFields
use Rattle.layout_fields.specs.declared.proteus.Fields as ProteusDeclared
use Rattle.layout_fields.specs.declared.cryosat.Fields as CryosatDeclared
use Rattle.layout_fields.specs.declared.siral.Fields as SiralDeclared
use Rattle.layout_times.specs.Meaning.{moment_from}
use Rattle.layout_times.specs.Cuc as Cuc
use Rattle.layout_times.specs.Proteus as Proteus
use Rattle.layout_times.specs.Cryosat as Cryosat
use Rattle.layout_times.specs.Siral as Siral
use Rattle.text_read.specs.Meaning.{scale_in, body_in, stamp_in, stamp_moment}
use Rattle.text_write.specs.declared.Form.{Form}
use Rattle.text_write.specs.declared.Form.TheVariants as F
use Rattle.lines_laws.specs.First.{in_tai}
use Rattle.promises.specs.Conditions as C

-- ---- records, dates, handed times and decimal days
abbrev pub record_judged : Scale → Moment → List (ℕ × Bool)
record_judged s m = (7, C.outside_span s m) ∷ []

abbrev pub date_of : ℤ → List (ℕ × Bool)
date_of d = (7, C.day_outside d) ∷ []

abbrev pub day_of : Date → List (ℕ × Bool)
day_of t = (3, C.no_date t) ∷ (7, C.year_outside t) ∷ []

abbrev pub take : Handed → List (ℕ × Bool)
take h = (4, C.decimal_not_finite h) ∷ (7, C.time_outside h) ∷ []

abbrev pub decimal_read : Float → Scale → List (ℕ × Bool)
decimal_read x s = (4, C.not_finite x) ∷ (7, C.double_outside x s) ∷ []

abbrev pub decimal_write : Handed → List (ℕ × Bool)
decimal_write h = (4, C.decimal_not_finite h) ∷ (7, C.time_outside h) ∷ (12, C.in_second60 h) ∷ []

-- ---- changes of scale: from a TAI count into a scale
abbrev pub into_tai : ℤ → List (ℕ × Bool)
into_tai c = (11, C.result_outside S.Tai (moment_of c)) ∷ []

abbrev pub into_gps : ℤ → List (ℕ × Bool)
into_gps c = (11, C.result_outside S.Gps (moment_of (c -ℤ seconds 19))) ∷ []

abbrev pub into_utc : List ℤ → List ℕ → ℤ → ℤ → List (ℕ × Bool)
into_utc ds os e c = (9, C.tai_expired ds os e c) ∷ (11, C.result_outside S.Utc (utc_of ds os c)) ∷ []

-- the nine cases, of a moment that lies outside its span or not
abbrev pub moving : Scale → Scale → List ℤ → List ℕ → ℤ → Bool → Moment → List (ℕ × Bool)
moving S.Tai S.Tai ds os e outside m = (7, outside) ∷ []
moving S.Tai S.Utc ds os e outside m = (7, outside) ∷ into_utc ds os e (since m.day m.micro)
moving S.Tai S.Gps ds os e outside m = (7, outside) ∷ into_gps (since m.day m.micro)
moving S.Utc S.Tai ds os e outside m = (7, outside) ∷ (9, C.day_expired true e m) ∷ (10, C.second_lacking true ds m) ∷ into_tai (tai_of ds os m.day m.micro)
moving S.Utc S.Utc ds os e outside m = (7, outside) ∷ (9, C.day_expired true e m) ∷ (10, C.second_lacking true ds m) ∷ []
moving S.Utc S.Gps ds os e outside m = (7, outside) ∷ (9, C.day_expired true e m) ∷ (10, C.second_lacking true ds m) ∷ into_gps (tai_of ds os m.day m.micro)
moving S.Gps S.Tai ds os e outside m = (7, outside) ∷ into_tai (since m.day m.micro +ℤ seconds 19)
moving S.Gps S.Utc ds os e outside m = (7, outside) ∷ into_utc ds os e (since m.day m.micro +ℤ seconds 19)
moving S.Gps S.Gps ds os e outside m = (7, outside) ∷ []

-- a list is used where UTC stands on either side
abbrev pub change : Handed → Scale → List ℤ → List ℕ → ℤ → List (ℕ × Bool)
change h to ds os e =
    (4, C.decimal_not_finite h)
    ∷ (5, C.list_not_accepted (is_utc (scale_of h) || is_utc to) ds os e)
    ∷ moving (scale_of h) to ds os e (C.time_outside h) (moment_in h)

-- the six, of a count of each scale: two without a list, four with one
abbrev pub tai_to_gps : ℕ → List (ℕ × Bool)
tai_to_gps n =
    let m = moment_at S.Tai n in
    (7, C.outside_span S.Tai m) ∷ into_gps (since m.day m.micro)

abbrev pub gps_to_tai : ℕ → List (ℕ × Bool)
gps_to_tai n =
    let m = moment_at S.Gps n in
    (7, C.outside_span S.Gps m) ∷ into_tai (since m.day m.micro +ℤ seconds 19)

abbrev pub by_list : Scale → Scale → ℕ → List ℤ → List ℕ → ℤ → List (ℕ × Bool)
by_list s to n ds os e =
    let m = moment_at s n in
    (5, C.list_not_accepted true ds os e) ∷ moving s to ds os e (C.outside_span s m) m

-- ---- a correlated counter: the date of a count, and the count of a time
-- `none` says whether the correlation is not accepted
abbrev pub dating : Bool → Clock → ℕ → ℤ → ℕ → List ℤ → List ℕ → ℤ → List (ℕ × Bool)
dating none c t d u ds os e =
    let m : Moment = record { day = d; micro = u } in
    (5, C.list_not_accepted (is_utc c.scale) ds os e)
    ∷ (6, none)
    ∷ (7, C.receipt_outside c m)
    ∷ (8, C.not_in_force c t m ds os e)
    ∷ (17, C.result_later c t m ds os e)
    ∷ (9, C.date_expired c t m ds os e)
    ∷ (10, C.second_lacking (is_utc c.scale) ds m)
    ∷ (11, C.result_outside c.scale (moment_after c.scale ds os (time c (elapsed c t))))
    ∷ []

abbrev pub turning : Bool → Clock → Handed → List ℤ → List ℕ → ℤ → List (ℕ × Bool)
turning none c h ds os e =
    (4, C.decimal_not_finite h)
    ∷ (5, C.list_not_accepted (is_utc c.scale) ds os e)
    ∷ (6, none)
    ∷ (7, C.time_outside h)
    ∷ (8, C.not_covered c h ds os e)
    ∷ (9, C.count_expired c h e)
    ∷ (10, C.given_lacking c h ds)
    ∷ (12, C.no_count c h)
    ∷ []

abbrev pub sbt_date : Correlation → ℕ → ℤ → ℕ → List ℤ → List ℕ → ℤ → List (ℕ × Bool)
sbt_date c t d u ds os e = dating (C.sbt_not_accepted c) (Sbt.clock_of c ds os) t d u ds os e

abbrev pub sbt_tick : Correlation → Handed → List ℤ → List ℕ → ℤ → List (ℕ × Bool)
sbt_tick c h ds os e = turning (C.sbt_not_accepted c) (Sbt.clock_of c ds os) h ds os e

abbrev pub goce_date : GoceDeclared.Correlation → ℕ → ℤ → ℕ → List ℤ → List ℕ → ℤ → List (ℕ × Bool)
goce_date c t d u ds os e = (3, C.count_over 48 t) ∷ dating (C.goce_not_accepted c) (Goce.clock_of c ds os) t d u ds os e

abbrev pub goce_count : GoceDeclared.Correlation → Handed → List ℤ → List ℕ → ℤ → List (ℕ × Bool)
goce_count c h ds os e = turning (C.goce_not_accepted c) (Goce.clock_of c ds os) h ds os e

-- ---- the season's file: read, written, and asked for a receipt
abbrev pub season_read : List ℕ → List ℤ → List (ℕ × Bool)
season_read s out = (14, C.season_broken s) ∷ (13, C.output_shorter (9 * Season.count_of s) out) ∷ []

abbrev pub season_write : List ℤ → List ℕ → List (ℕ × Bool)
season_write ws out = (14, C.words_broken ws) ∷ (13, C.output_shorter (length (Season.file_of ws)) out) ∷ []

abbrev pub season_covering : List ℕ → ℤ → ℕ → List (ℕ × Bool)
season_covering s d u =
    let m : Moment = record { day = d; micro = u } in
    (14, C.contents_broken s) ∷ (7, C.outside_span S.Tai m) ∷ (15, C.no_entry s m) ∷ []

-- ---- a run of SIRAL's packets
abbrev pub siral_run : List ℕ → ℕ → List ℤ → List (ℕ × Bool)
siral_run s told out =
    (1, C.packets_broken s)
    ∷ (3, C.packet_over s)
    ∷ (16, C.not_one_second s told)
    ∷ (7, C.date_outside s told)
    ∷ (13, C.output_shorter (length (Runs.packets s)) out)
    ∷ []

-- ---- bytes and fields
abbrev pub cuc_fields_read : List ℕ → List (ℕ × Bool)
cuc_fields_read s = (1, C.length_is_none 6 s) ∷ []

abbrev pub cuc_fields_write : List ℕ → List (ℕ × Bool)
cuc_fields_write out = (13, C.output_shorter 6 out) ∷ []

abbrev pub goce_read : List ℕ → List (ℕ × Bool)
goce_read s = (1, C.length_is_none 6 s) ∷ []

abbrev pub goce_write : ℕ → List ℕ → List (ℕ × Bool)
goce_write n out = (3, C.count_over 48 n) ∷ (13, C.output_shorter 6 out) ∷ []

abbrev pub obet_read : List ℕ → List (ℕ × Bool)
obet_read s = (1, C.length_is_none 8 s) ∷ (2, C.marker_wrong s) ∷ []

abbrev pub obet_write : ℕ → List ℕ → List (ℕ × Bool)
obet_write n out = (3, C.count_over 56 n) ∷ (13, C.output_shorter 8 out) ∷ []

abbrev pub proteus_fields_read : List ℕ → List (ℕ × Bool)
proteus_fields_read s = (1, C.length_is_none 8 s) ∷ (2, C.zero_bits_wrong s) ∷ (3, C.second_over (part s 2 4)) ∷ []

abbrev pub proteus_fields_write : ProteusDeclared.Fields → List ℕ → List (ℕ × Bool)
proteus_fields_write f out = (3, C.week_over f.week f.second) ∷ (13, C.output_shorter 8 out) ∷ []

abbrev pub cryosat_fields_read : List ℕ → List (ℕ × Bool)
cryosat_fields_read s = (1, C.length_is_none 8 s) ∷ (3, C.day_time_over (part s 2 4) (part s 6 2)) ∷ []

abbrev pub cryosat_fields_write : CryosatDeclared.Fields → List ℕ → List (ℕ × Bool)
cryosat_fields_write f out = (3, C.day_time_over f.millisecond f.microsecond) ∷ (13, C.output_shorter 8 out) ∷ []

abbrev pub siral_fields_read : List ℕ → List (ℕ × Bool)
siral_fields_read s = (1, C.length_is_none 10 s) ∷ (3, C.day_time_over (part s 2 4) (part s 6 2)) ∷ []

abbrev pub siral_fields_write : SiralDeclared.Fields → List ℕ → List (ℕ × Bool)
siral_fields_write f out = (3, C.day_time_over f.millisecond f.microsecond) ∷ (13, C.output_shorter 10 out) ∷ []

abbrev pub sbt_read : List ℕ → List (ℕ × Bool)
sbt_read s = (1, C.length_is_none 4 s) ∷ []

abbrev pub sbt_write : List ℕ → List (ℕ × Bool)
sbt_write out = (13, C.output_shorter 4 out) ∷ []

-- ---- bytes and times: "A reader's 7 is judged on the whole time that the bytes .. stand for, carry included"
abbrev pub cuc_read : List ℕ → List (ℕ × Bool)
cuc_read s = cuc_fields_read s ++ ((7, C.outside_span S.Gps (moment_from Cuc.epoch (Cuc.micros_of (CucFields.fields_of s)))) ∷ [])

abbrev pub proteus_read : List ℕ → List (ℕ × Bool)
proteus_read s = proteus_fields_read s ++ ((7, C.outside_span S.Utc (moment_from Proteus.epoch (Proteus.micros_of (ProteusFields.fields_of s)))) ∷ [])

abbrev pub cryosat_read : List ℕ → List (ℕ × Bool)
cryosat_read s = cryosat_fields_read s ++ ((7, C.outside_span S.Tai (moment_from Cryosat.epoch (Cryosat.micros_of (CryosatFields.fields_of s)))) ∷ [])

abbrev pub siral_read : List ℕ → List (ℕ × Bool)
siral_read s = siral_fields_read s ++ ((7, C.outside_span S.Tai (moment_from Cryosat.epoch (Siral.micros_of (SiralFields.fields_of s)))) ∷ [])

-- a writer, whose image has so many bytes
abbrev pub imaging : Handed → Bool → ℕ → List ℕ → List (ℕ × Bool)
imaging h none n out = (4, C.decimal_not_finite h) ∷ (7, C.time_outside h) ∷ (12, none) ∷ (13, C.output_shorter n out) ∷ []

abbrev pub cuc_write : Handed → List ℕ → List (ℕ × Bool)
cuc_write h out = imaging h (C.wrong_scale S.Gps h) 6 out

abbrev pub proteus_write : Handed → List ℕ → List (ℕ × Bool)
proteus_write h out = imaging h (C.no_week h) 8 out

abbrev pub cryosat_write : Handed → List ℕ → List (ℕ × Bool)
cryosat_write h out = imaging h (C.no_day h) 8 out

abbrev pub siral_write : Handed → List ℕ → List (ℕ × Bool)
siral_write h out = imaging h (C.no_day h) 10 out

-- ---- texts: "Reading and writing UTC text both apply the leap list"
abbrev pub asked : Scale → List ℤ → List ℕ → ℤ → Bool → Moment → List (ℕ × Bool)
asked z ds os e outside m =
    (5, C.list_not_accepted (is_utc z) ds os e) ∷ (7, outside) ∷ (9, C.day_expired (is_utc z) e m) ∷ (10, C.second_lacking (is_utc z) ds m) ∷ []

abbrev pub text_read : List ℕ → List ℤ → List ℕ → ℤ → List (ℕ × Bool)
text_read s ds os e =
    (1, C.text_length_is_none s) ∷ (3, C.text_wrong s) ∷ asked (scale_in s) ds os e (C.text_outside s) (stamp_moment (stamp_in (body_in s)))

abbrev pub form_length : Form → ℕ
form_length F.Plain = 20
form_length F.Micros = 27
form_length F.Prefixed = 24
form_length F.PrefixedMicros = 31

abbrev pub text_write : Handed → Form → List ℤ → List ℕ → ℤ → List ℕ → List (ℕ × Bool)
text_write h f ds os e out =
    (4, C.decimal_not_finite h)
    ∷ (asked (scale_of h) ds os e (C.time_outside h) (moment_in h)
    ++ ((12, C.no_text f h) ∷ (13, C.output_shorter (form_length f) out) ∷ []))

-- ---- a line of the line program, whose text is changed to TAI
abbrev pub line : List ℤ → List ℕ → ℤ → List ℕ → List (ℕ × Bool)
line ds os e s =
    let z = scale_in s in
    let m = stamp_moment (stamp_in (body_in s)) in
    text_read s ds os e ++ ((11, not (same_scale z S.Tai) && C.result_outside S.Tai (in_tai ds os e z m)) ∷ [])
