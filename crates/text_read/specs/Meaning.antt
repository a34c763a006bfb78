-- What an Envisat text stands for, as the paper states it. A text is the list of its bytes; a leap list is its steps' days ds, its
-- offsets os and its last day e. Assumes nothing.
use Rattle.std.specs.Prelude.{Bool, cond, not, ◌&&◌, ◌||◌, List, ℕ, zero, suc, ◌+◌, ◌-◌, ◌*◌, eqb, leb, ltb, ℤ, length, get_or, drop}
use Rattle.axis.specs.Meaning.{Moment}
use Rattle.scales.specs.Meaning.{and_then, in_span, Judged, given, gives, Outcome, refused, answer, outcome, Slip, dated}
use Rattle.scales.specs.declared.Scale.{Scale}
use Rattle.scales.specs.declared.Scale.TheVariants as S
use Rattle.calendar.specs.Meaning.{is_date, day_of_date}
use Rattle.via_tai.specs.Meaning.{is_utc}
use Rattle.changes.specs.Meaning.{moving, asked}
use Rattle.text_fields.specs.declared.Stamp.{Stamp}
use Rattle.text_fields.specs.Meaning.{letter, prefix_of}

-- ---- the numbers that digits write; a byte that is no digit leads over every limit
unfoldable pub digit_of : ℕ → ℕ
digit_of b = cond (leb 48 b && leb b 57) (b - 48) 10

unfoldable pub two_of : ℕ → ℕ → ℕ
two_of a b = cond (ltb (digit_of a) 10 && ltb (digit_of b) 10) (digit_of a * 10 + digit_of b) 100

unfoldable pub four_of : ℕ → ℕ → ℕ → ℕ → ℕ
four_of a b c d = cond (ltb (two_of a b) 100 && ltb (two_of c d) 100) (two_of a b * 100 + two_of c d) 10000

unfoldable pub six_of : ℕ → ℕ → ℕ → ℕ → ℕ → ℕ → ℕ
six_of a b c d e f = cond (ltb (four_of a b c d) 10000 && ltb (two_of e f) 100) (four_of a b c d * 100 + two_of e f) 1000000

unfoldable pub is_named : ℕ → ℕ → ℕ → ℕ → Bool
is_named m a b c = eqb a (letter m 0) && (eqb b (letter m 1) && eqb c (letter m 2))

-- the first of the n months from m on that three letters name, and 0 where they name none
unfoldable pub seek : ℕ → ℕ → ℕ → ℕ → ℕ → ℕ
seek zero m a b c = 0
seek (suc n) m a b c = cond (is_named m a b c) m (seek n (suc m) a b c)

unfoldable pub month_named : ℕ → ℕ → ℕ → ℕ
month_named a b c = seek 12 1 a b c

-- ---- "dd-mmm-yyyy hh:mm:ss (20 characters), with .uuuuuu (27)": the fields of a text by their places
unfoldable pub has_marks : List ℕ → Bool
has_marks s = eqb (get_or s 2 0) 45 && (eqb (get_or s 6 0) 45 && (eqb (get_or s 11 0) 32 && (eqb (get_or s 14 0) 58 && eqb (get_or s 17 0) 58)))

-- a text without .uuuuuu is in its second's first microsecond
unfoldable pub micro_in : List ℕ → ℕ
micro_in s =
    cond (ltb (length s) 27) 0
    (cond (eqb (get_or s 20 0) 46) (six_of (get_or s 21 0) (get_or s 22 0) (get_or s 23 0) (get_or s 24 0) (get_or s 25 0) (get_or s 26 0)) 1000000)

unfoldable pub stamp_in : List ℕ → Stamp
stamp_in s =
    record {
      date =
          record {
            year = four_of (get_or s 7 0) (get_or s 8 0) (get_or s 9 0) (get_or s 10 0);
            month = month_named (get_or s 3 0) (get_or s 4 0) (get_or s 5 0);
            day = two_of (get_or s 0 0) (get_or s 1 0);
          };
      hour = two_of (get_or s 12 0) (get_or s 13 0);
      minute = two_of (get_or s 15 0) (get_or s 16 0);
      second = two_of (get_or s 18 0) (get_or s 19 0);
      micro = micro_in s;
    }

-- "Second 60 only in UTC and only after 23:59"
unfoldable pub in_limits : Scale → Stamp → Bool
in_limits z t =
    leb t.hour 23
    && (leb t.minute 59
    && (ltb t.micro 1000000
    && (leb t.second 59 || (eqb t.second 60 && (eqb t.hour 23 && (eqb t.minute 59 && is_utc z))))))

unfoldable pub has_prefix : Scale → List ℕ → Bool
has_prefix z s =
    eqb (get_or s 0 0) (get_or (prefix_of z) 0 0)
    && (eqb (get_or s 1 0) (get_or (prefix_of z) 1 0) && (eqb (get_or s 2 0) (get_or (prefix_of z) 2 0) && eqb (get_or s 3 0) (get_or (prefix_of z) 3 0)))

abbrev pub is_plain : List ℕ → Bool
is_plain s = eqb (length s) 20 || eqb (length s) 27

abbrev pub is_prefixed : List ℕ → Bool
is_prefixed s = eqb (length s) 24 || eqb (length s) 31

abbrev pub prefix_scale : List ℕ → Scale
prefix_scale s = cond (has_prefix S.Tai s) S.Tai (cond (has_prefix S.Gps s) S.Gps S.Utc)

-- "Without a prefix it is UTC."
unfoldable pub scale_in : List ℕ → Scale
scale_in s = cond (is_prefixed s) (prefix_scale s) S.Utc

unfoldable pub body_in : List ℕ → List ℕ
body_in s = cond (is_prefixed s) (drop 4 s) s

-- "Any other prefix is a bad character."
unfoldable pub is_prefix_right : List ℕ → Bool
is_prefix_right s = not (is_prefixed s) || has_prefix (scale_in s) s

-- "A date that the Gregorian rule lacks gets 3": the characters, the fields' limits and the date
unfoldable pub is_body : Scale → List ℕ → Bool
is_body z s = has_marks s && (in_limits z (stamp_in s) && is_date (stamp_in s).date)

-- ---- the day and the microsecond of day that the fields stand for
abbrev pub stamp_micro : Stamp → ℕ
stamp_micro t = ((t.hour * 60 + t.minute) * 60 + t.second) * 1000000 + t.micro

abbrev pub stamp_moment : Stamp → Moment
stamp_moment t = record { day = (day_of_date t.date).value; micro = stamp_micro t }

-- "a real date outside the span gets 7": one outside the calendar's has no day
abbrev pub stamp_spans : Scale → Stamp → Bool
stamp_spans z t = eqb (day_of_date t.date).number 0 && in_span z (stamp_moment t).day (stamp_moment t).micro

-- ---- reading
abbrev pub reading_body : Scale → List ℕ → List ℤ → List ℕ → ℤ → Judged Moment
reading_body z s ds os e = asked z ds os e (stamp_spans z (stamp_in s)) (stamp_moment (stamp_in s)) (gives (stamp_moment (stamp_in s)))

abbrev pub reading : List ℕ → List ℤ → List ℕ → ℤ → Judged Moment
reading s ds os e =
    given (is_prefixed s || is_plain s) 1
    (given (is_prefix_right s && is_body (scale_in s) (body_in s)) 3
    (reading_body (scale_in s) (body_in s) ds os e))

-- the time that a text stands for, in a scale that is wanted
abbrev pub reading_in : Scale → List ℕ → List ℤ → List ℕ → ℤ → Judged Moment
reading_in to s ds os e = and_then (reading s ds os e) (λ (m : Moment). moving (scale_in s) to ds os e (in_span (scale_in s) m.day m.micro) m)

-- "(TAI for every refused text reading)"
abbrev pub dated_in : Scale → Outcome Moment → Slip
dated_in z (refused n) = dated S.Tai (refused n)
dated_in z (answer m) = dated z (answer m)

unfoldable pub read_text : List ℕ → List ℤ → List ℕ → ℤ → Slip
read_text s ds os e = dated_in (scale_in s) (outcome (reading s ds os e))
