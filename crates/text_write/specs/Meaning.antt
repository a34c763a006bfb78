-- The four Envisat texts of a time, as the paper states them. A leap list is its steps' days ds, its offsets os and its last day e.
-- Assumes nothing.
use Rattle.std.specs.Prelude.{Bool, true, false, cond, ◌&&◌, ◌||◌, List, [], ◌∷◌, ◌++◌, ℕ, ◌+◌, ◌/◌, ◌%◌, eqb, ltb, ℤ, take}
use Rattle.axis.specs.Meaning.{Moment, day_micros}
use Rattle.octets.specs.Meaning.{has_room}
use Rattle.scales.specs.Meaning.{Judged, given, gives, outcome, Wrote, written}
use Rattle.scales.specs.declared.Scale.{Scale}
use Rattle.handed.specs.declared.Handed.{Handed}
use Rattle.calendar.specs.Meaning.{date_of_day}
use Rattle.calendar.specs.declared.Date.{Date}
use Rattle.handed.specs.Meaning.{scale_of, is_finite, is_in_span, moment_in}
use Rattle.via_tai.specs.Meaning.{is_utc}
use Rattle.changes.specs.Meaning.{asked}
use Rattle.text_fields.specs.declared.Stamp.{Stamp}
use Rattle.text_fields.specs.Meaning.{letter, prefix_of}
use Rattle.text_write.specs.declared.Form.{Form}
use Rattle.text_write.specs.declared.Form.TheVariants as F

-- ---- the text of a time
-- second 60 comes after 23:59
abbrev pub stamp_of : Date → ℕ → Stamp
stamp_of t u =
    record {
      date = t;
      hour = cond (ltb u day_micros) (u / 3600000000) 23;
      minute = cond (ltb u day_micros) (u / 60000000 % 60) 59;
      second = cond (ltb u day_micros) (u / 1000000 % 60) 60;
      micro = u % 1000000;
    }

-- the bytes of a number's last two digits
abbrev pub tens : ℕ → ℕ
tens v = 48 + v / 10 % 10

abbrev pub units : ℕ → ℕ
units v = 48 + v % 10

-- the 27 bytes; the short forms have the first 20
unfoldable pub text_of : Stamp → List ℕ
text_of t =
    tens t.date.day ∷ units t.date.day ∷ 45
    ∷ letter t.date.month 0 ∷ letter t.date.month 1 ∷ letter t.date.month 2 ∷ 45
    ∷ tens (t.date.year / 100) ∷ units (t.date.year / 100) ∷ tens t.date.year ∷ units t.date.year ∷ 32
    ∷ tens t.hour ∷ units t.hour ∷ 58 ∷ tens t.minute ∷ units t.minute ∷ 58 ∷ tens t.second ∷ units t.second ∷ 46
    ∷ tens (t.micro / 10000) ∷ units (t.micro / 10000) ∷ tens (t.micro / 100) ∷ units (t.micro / 100) ∷ tens t.micro ∷ units t.micro ∷ []

abbrev pub has_micros : Form → Bool
has_micros F.Plain = false
has_micros F.Micros = true
has_micros F.Prefixed = false
has_micros F.PrefixedMicros = true

abbrev pub shows_scale : Form → Bool
shows_scale F.Plain = false
shows_scale F.Micros = false
shows_scale F.Prefixed = true
shows_scale F.PrefixedMicros = true

abbrev pub body_of : Bool → Stamp → List ℕ
body_of micros t = cond micros (text_of t) (take 20 (text_of t))

-- "After its four-character prefix the same writer fills the rest."
abbrev pub full_text : Form → Scale → Stamp → List ℕ
full_text f z t = cond (shows_scale f) (prefix_of z ++ body_of (has_micros f) t) (body_of (has_micros f) t)

abbrev pub image_of : Form → Scale → Moment → List ℕ
image_of f z m = full_text f z (stamp_of (date_of_day m.day).value m.micro)

-- unprefixed forms are UTC; "A nonzero microsecond is not written to a form without one."
abbrev pub has_image : Form → Scale → ℕ → Bool
has_image f z u = (shows_scale f || is_utc z) && (has_micros f || eqb (u % 1000000) 0)

-- ---- writing
abbrev pub imaging : Form → Scale → Moment → List ℕ → Judged (List ℕ)
imaging f z m out =
    given (has_image f z m.micro) 12
    (given (has_room (image_of f z m) out) 13
    (gives (image_of f z m)))

abbrev pub writing : Handed → Form → List ℤ → List ℕ → ℤ → List ℕ → Judged (List ℕ)
writing h f ds os e out =
    given (is_finite h) 4
    (asked (scale_of h) ds os e (is_in_span h) (moment_in h)
    (imaging f (scale_of h) (moment_in h) out))

unfoldable pub write_text : Handed → Form → List ℤ → List ℕ → ℤ → List ℕ → Wrote ℕ
write_text h f ds os e out = written out (outcome (writing h f ds os e out))
