-- The ways out of parsing a text. Assumes nothing.
use Rattle.std.specs.Prelude.{◌≡◌, refl, Bool, true, false, cond, ◌||◌, ◌&&◌, List, ℕ, ◌≤◌, ◌<◌, eqb, leb, ltb, ℤ, drop, Result, Ok, Err}
use Rattle.std.proofs.Math.Path.{sym}
use Rattle.std.proofs.Common.{◌∙◌, arith, eqb-true, leb-true, ltb-true, ne_eqb}
use Rattle.std.proofs.lemmas.Bool.{false≢true}
use Rattle.axis.specs.Meaning.{Moment}
use Rattle.scales.specs.Meaning.{Judged, refused, answer, outcome, number_of, record_of}
use Rattle.scales.specs.Place.{and_false, and_both}
use Rattle.scales.specs.Same.{no_zero, refusals}
use Rattle.scales.specs.declared.Scale.{Scale}
use Rattle.scales.specs.declared.Scale.TheVariants as S
use Rattle.scales.specs.declared.Refusal.TheVariants as R
use Rattle.calendar.specs.Meaning.{is_date, day_after, day_handed, day_slip, day_of_date}
use Rattle.calendar.specs.Days.{days_to_date}
use Rattle.calendar.specs.declared.Date.{Date}
use Rattle.calendar.specs.Gregorian.{month_bounds}
use Rattle.calendar.specs.Dates.{real}
use Rattle.handed.specs.Laid.{outside_of, outside_span_lem}
use Rattle.via_tai.specs.Meaning.{is_utc}
use Rattle.text_read.specs.Meaning.{has_marks, stamp_in, in_limits, is_body, is_prefixed, is_plain, has_prefix, prefix_scale, scale_in, body_in, is_prefix_right, stamp_micro, reading}
use Rattle.text_read.specs.Digits.{has_digits, digits_in}
use Rattle.text_read.specs.Stage.{Parses, body_chain, ParsesBody, ParsesText}
use Rattle.text_fields.specs.declared.Stamp.{Stamp}
use Rattle.scales.specs.declared.Record.{Record}
use Rattle.scales.specs.declared.Refusal.{Refusal}

-- ---- the lengths
pub either_from : (n a b : ℕ) → a ≤ b → (eqb n a || eqb n b) ≡ true → a ≤ n
either_from n a b h e = go (eqb n a) refl (eqb n b) refl e
  where
    go : (x : Bool) → eqb n a ≡ x → (y : Bool) → eqb n b ≡ y → (x || y) ≡ true → a ≤ n
    go true p y q k = omega (arith, eqb-true n a p)
    go false p true q k = omega (arith, eqb-true n b q)
    go false p false q k = absurd (false≢true k)

-- ---- the limits
pub record Limited (t : Stamp) : Type 0 where
  pub hour : t.hour < 24
  pub minute : t.minute < 60
  pub second : t.second < 61
  pub micro : t.micro < 1000000

pub limited : (z : Scale) (t : Stamp) → in_limits z t ≡ true → Limited t
unfolding in_limits
limited z t e =
    let h = leb t.hour 23 in
    let m = leb t.minute 59 in
    let u = ltb t.micro 1000000 in
    let s = leb t.second 59 in
    let x = eqb t.second 60 && (eqb t.hour 23 && (eqb t.minute 59 && is_utc z)) in
    let a = and_both h (m && (u && (s || x))) e in
    let b = and_both m (u && (s || x)) a.1 in
    let d = and_both u (s || x) b.1 in
    record {
      hour = omega (arith, leb-true t.hour 23 a.0);
      minute = omega (arith, leb-true t.minute 59 b.0);
      second = go s refl (eqb t.second 60) refl (eqb t.hour 23 && (eqb t.minute 59 && is_utc z)) d.1;
      micro = ltb-true t.micro 1000000 d.0;
    }
  where
    go : (x : Bool) → leb t.second 59 ≡ x → (y : Bool) → eqb t.second 60 ≡ y → (k : Bool) → (x || (y && k)) ≡ true → t.second < 61
    go true p y q k e = omega (arith, leb-true t.second 59 p)
    go false p true q k e = omega (arith, eqb-true t.second 60 q)
    go false p false q k e = absurd (false≢true e)

-- ---- the date
-- 3 is the calendar's number for what is no date; any other date of the rule has a day, or none in the span
lacks : (t : Date) → (day_of_date t).number ≡ 3 → is_date t ≡ false
unfolding day_of_date
lacks t q = go (is_date t) refl (leb 1972 t.year && leb t.year 2099) (day_after (days_to_date t)) q
  where
    go : (a : Bool) → is_date t ≡ a → (b : Bool) (d : ℤ) → (day_handed (cond a (cond b (answer d) (refused 7)) (refused 3))).number ≡ 3 → is_date t ≡ false
    go false p b d q = p
    go true p true d q = absurd (omega arith)
    go true p false d q = absurd (omega arith)

has : (t : Date) → ((day_of_date t).number ≡ 3 → ⊥) → is_date t ≡ true
unfolding day_of_date
has t q = go (is_date t) refl (leb 1972 t.year && leb t.year 2099) (day_after (days_to_date t)) q
  where
    go : (a : Bool) → is_date t ≡ a → (b : Bool) (d : ℤ) → ((day_handed (cond a (cond b (answer d) (refused 7)) (refused 3))).number ≡ 3 → ⊥) → is_date t ≡ true
    go true p b d q = p
    go false p b d q = absurd (q refl)

-- ---- the text without its prefix
module _ (z : Scale) (s : List ℕ) where
  body_lacks : is_body z s ≡ false → ParsesBody z s (Err R.FieldOver)
  body_lacks w = record { is = λ ds os e. sym (rw w) }

  pub body_marks : has_marks s ≡ false → ParsesBody z s (Err R.FieldOver)
  unfolding is_body
  body_marks w = body_lacks (rw w)

  -- limits that hold are those of digits
  body_fits : is_body z s ≡ true → has_digits s ≡ true
  unfolding is_body
  body_fits e =
      let a = and_both (has_marks s) (in_limits z (stamp_in s) && is_date (stamp_in s).date) e in
      let b = and_both (in_limits z (stamp_in s)) (is_date (stamp_in s).date) a.1 in
      let l = limited z (stamp_in s) b.0 in
      let r = real (stamp_in s).date b.1 in
      let t = stamp_in s in
      digits_in s (omega (arith, r.day_to, (month_bounds t.date.year t.date.month).1)) (omega (arith, r.year_to)) (omega (arith, l.hour)) (omega (arith, l.minute))
      (omega (arith, l.second)) l.micro

  pub body_digits : has_digits s ≡ false → ParsesBody z s (Err R.FieldOver)
  body_digits w = body_lacks (go (is_body z s) refl)
    where
      go : (b : Bool) → is_body z s ≡ b → is_body z s ≡ false
      go false p = p
      go true p = absurd (false≢true (sym w ∙ body_fits p))

  pub body_limits : in_limits z (stamp_in s) ≡ false → ParsesBody z s (Err R.FieldOver)
  unfolding is_body
  body_limits w = body_lacks (rw w (and_false (has_marks s)))

  abbrev date : Date
  date = (stamp_in s).date

  pub body_date_number : (day_of_date date).number ≡ 3 → ParsesBody z s (Err R.FieldOver)
  unfolding is_body
  body_date_number q = body_lacks (rw (lacks date q, and_false (in_limits z (stamp_in s))) (and_false (has_marks s)))

  pub body_date : day_slip (Err R.FieldOver) ≡ day_of_date date → ParsesBody z s (Err R.FieldOver)
  body_date q = body_date_number (λ i. (sym q i).number)

  module _ (m : has_marks s ≡ true) (l : in_limits z (stamp_in s) ≡ true) where
    is_body_lem : ((day_of_date date).number ≡ 3 → ⊥) → is_body z s ≡ true
    unfolding is_body
    is_body_lem q = rw (m, l, has date q)

    pub body_outside_number : ((day_of_date date).number ≡ 3 → ⊥) → ((day_of_date date).number ≡ 0 → ⊥) → ParsesBody z s (Ok (outside_of z))
    body_outside_number q r = record { is = (refl, λ ds os e. rw (outside_span_lem z, is_body_lem q, ne_eqb (day_of_date date).number 0 r)) }

    -- a date that is no field over has no day, but is one of the rule
    pub body_outside : (f : Refusal) → day_slip (Err f) ≡ day_of_date date → (f ≡ R.FieldOver → ⊥) → ParsesBody z s (Ok (outside_of z))
    body_outside f q w =
        let n : number_of f ≡ (day_of_date date).number = λ i. (q i).number in
        body_outside_number (λ k. w (refusals f R.FieldOver (n ∙ k))) (λ k. no_zero f (n ∙ k))

    pub body_at : (d : ℤ) → day_slip (Ok d) ≡ day_of_date date → ParsesBody z s (Ok (record_of z d (stamp_micro (stamp_in s))))
    body_at d q =
        let n : (day_of_date date).number ≡ 0 = λ i. (sym q i).number in
        record { is = (refl, λ ds os e. sym (rw (is_body_lem (λ k. omega arith), sym q))) }

-- ---- the whole text
carried : (z y : Scale) (i j : List ℤ → List ℕ → ℤ → Judged Moment) → z ≡ y → ((ds : List ℤ) (os : List ℕ) (e : ℤ) → outcome (i ds os e) ≡ outcome (j ds os e))
    → (r : Result Record Refusal) → Parses z i r → Parses y j r
carried z y i j p q (Err f) w = λ ds os e. w ds os e ∙ q ds os e
carried z y i j p q (Ok r) w = (w.0 ∙ p, λ ds os e. w.1 ds os e ∙ q ds os e)

module _ (s : List ℕ) where
  pub text_length : is_prefixed s ≡ false → is_plain s ≡ false → ParsesText s (Err R.LengthIsNone)
  text_length a b = record { is = λ ds os e. sym (rw (a, b)) }

  pub text_plain : is_prefixed s ≡ false → is_plain s ≡ true → (r : Result Record Refusal) → ParsesBody S.Utc s r → ParsesText s r
  unfolding scale_in body_in is_prefix_right
  text_plain a b r w = record { is = carried S.Utc _ (body_chain S.Utc s) (reading s) (sym (rw a)) (λ ds os e. sym (rw (a, b))) r w.is }

  module _ (a : is_prefixed s ≡ true) where
    pub text_prefix : has_prefix (prefix_scale s) s ≡ false → ParsesText s (Err R.FieldOver)
    unfolding scale_in body_in is_prefix_right
    text_prefix w = record { is = λ ds os e. sym (rw (a, w)) }

    pub text_prefixed : has_prefix (prefix_scale s) s ≡ true → (r : Result Record Refusal) → ParsesBody (prefix_scale s) (drop 4 s) r → ParsesText s r
    unfolding scale_in body_in is_prefix_right
    text_prefixed h r w =
        record { is = carried (prefix_scale s) _ (body_chain (prefix_scale s) (drop 4 s)) (reading s) (sym (rw a)) (λ ds os e. sym (rw (a, h))) r w.is }
