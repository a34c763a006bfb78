-- Demand 1 of the line program: what is judged of a line, each test once and in the order of the slip, so that the number printed is the
-- first that applies. A line is the list of its bytes; a leap list is its steps' days ds, its offsets os and its last day e. Assumes
-- nothing.
use Rattle.std.specs.Prelude.{◌≡◌, refl, Bool, true, false, cond, not, ◌&&◌, ◌||◌, List, [], ◌∷◌, ℕ, eqb, ℤ, ◌+ℤ◌}
use Rattle.std.proofs.Common.{ap}
use Rattle.axis.specs.Meaning.{Moment, since, moment_of}
use Rattle.scales.specs.Meaning.{same_scale, in_span, and_then, Judged, given, gives, Outcome, refused, outcome, numbers, order, stands_in, resulting}
use Rattle.scales.specs.declared.Scale.{Scale}
use Rattle.scales.specs.declared.Scale.TheVariants as S
use Rattle.calendar.specs.Meaning.{day_of_date}
use Rattle.leap.specs.Meaning.{seconds, accepted, tai_of, has_micro, is_expired_day}
use Rattle.via_tai.specs.Meaning.{is_utc}
use Rattle.changes.specs.Meaning.{asked}
use Rattle.text_fields.specs.declared.Stamp.{Stamp}
use Rattle.text_read.specs.Meaning.{is_plain, is_prefixed, is_prefix_right, is_body, scale_in, body_in, stamp_in, stamp_moment, stamp_spans}
use Rattle.text_read.specs.In.{into}
use Rattle.lines.specs.Meaning.{line_dating}

-- ---- the length and the characters of a text; then what is judged of the scale and the fields that it writes
abbrev pub text_judging : (Scale → Stamp → Judged Moment) → List ℕ → Judged Moment
text_judging time s =
    given (is_prefixed s || is_plain s) 1
    (given (is_prefix_right s && is_body (scale_in s) (body_in s)) 3
    (time (scale_in s) (stamp_in (body_in s))))

-- what was judged once is judged the same again
again : (a b c d : Bool) (k : Judged Moment)
    → outcome (given (a && b) 7 (given c 9 (given d 10 k))) ≡ outcome (given (a && b) 7 (given c 9 (given d 10 (given b 7 (given c 9 (given d 10 k))))))
again true true true true k = refl
again true true true false k = refl
again true true false d k = refl
again true false c d k = refl
again false b c d k = refl

module _ (ds : List ℤ) (os : List ℕ) (e : ℤ) where
  -- ---- the tests of a time m of scale z
  -- "5 leap list not accepted, where one is used"
  abbrev pub has_list : Scale → Bool
  has_list z = not (is_utc z) || accepted ds os e

  -- "9 leap list expired"
  abbrev pub is_current : Scale → Moment → Bool
  is_current z m = not (is_utc z) || not (is_expired_day e m.day)

  -- "10 UTC second that its day lacks"
  abbrev pub has_second : Scale → Moment → Bool
  has_second z m = not (is_utc z) || has_micro ds m.day m.micro

  -- the time in TAI: "UTC to TAI adds the offset of the last step on or before the UTC day"; "TAI is GPS plus 19 s"
  abbrev pub in_tai : Scale → Moment → Moment
  in_tai S.Tai m = m
  in_tai S.Utc m = moment_of (tai_of ds os m.day m.micro)
  in_tai S.Gps m = moment_of (since m.day m.micro +ℤ seconds 19)

  -- "11 result outside its scale's span"; "11 is for scale changes"
  abbrev pub result_in_span : Scale → Moment → Bool
  result_in_span z m = same_scale z S.Tai || in_span S.Tai (in_tai z m).day (in_tai z m).micro

  -- ---- the chain, of the fields t and of the whole line
  abbrev pub time_judging : Scale → Stamp → Judged Moment
  time_judging z t =
      given (has_list z) 5
      (given (stamp_spans z t) 7
      (given (is_current z (stamp_moment t)) 9
      (given (has_second z (stamp_moment t)) 10
      (given (result_in_span z (stamp_moment t)) 11
      (gives (in_tai z (stamp_moment t)))))))

  abbrev pub line_judging : List ℕ → Judged Moment
  line_judging s = text_judging time_judging s

  pub line_numbers : (s : List ℕ) → numbers (line_judging s) ≡ 1 ∷ 3 ∷ 5 ∷ 7 ∷ 9 ∷ 10 ∷ 11 ∷ []
  line_numbers s = refl

  pub line_order : (s : List ℕ) → stands_in (numbers (line_judging s)) order ≡ true
  line_order s = refl

  -- ---- it gives what the line program gives, whose meaning reads the text and then changes its time
  time_outcome : (z : Scale) (t : Stamp)
      → outcome (time_judging z t) ≡ outcome (and_then (asked z ds os e (stamp_spans z t) (stamp_moment t) (gives (stamp_moment t))) (into S.Tai ds os e z))
  time_outcome z t = ap (λ (o : Outcome Moment). cond (has_list z) o (refused 5)) (go z)
    where
      m : Moment
      m = stamp_moment t

      -- the date has a day
      dayed : Bool
      dayed = eqb (day_of_date t.date).number 0

      go : (z : Scale) → outcome (given (stamp_spans z t) 7 (given (is_current z m) 9 (given (has_second z m) 10 (given (result_in_span z m) 11 (gives (in_tai z m))))))
          ≡ outcome (given (stamp_spans z t) 7 (given (is_current z m) 9 (given (has_second z m) 10 (into S.Tai ds os e z m))))
      go S.Tai = again dayed (in_span S.Tai m.day m.micro) true true (gives m)
      go S.Utc = again dayed (in_span S.Utc m.day m.micro) (is_current S.Utc m) (has_second S.Utc m) (resulting S.Tai (in_tai S.Utc m))
      go S.Gps = again dayed (in_span S.Gps m.day m.micro) true true (resulting S.Tai (in_tai S.Gps m))

  pub line_outcome : (s : List ℕ) → outcome (line_judging s) ≡ outcome (line_dating ds os e s)
  line_outcome s =
      ap (λ (o : Outcome Moment). cond (is_prefixed s || is_plain s) (cond (is_prefix_right s && is_body (scale_in s) (body_in s)) o (refused 3)) (refused 1))
      (time_outcome (scale_in s) (stamp_in (body_in s)))
