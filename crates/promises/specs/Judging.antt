-- The tests of a chain are the rows of `Rows` where they are not so by computing: a chain asks the opposite of a row's condition, or
-- something by scale or by form. Assumes nothing.
use Rattle.std.specs.Prelude.{◌≡◌, Bool, true, false, cond, ◌&&◌, ◌||◌, ℕ, ℤ, ◌+ℤ◌, length}
use Rattle.std.proofs.Math.Path.{refl, ap, ap₂}
use Rattle.std.proofs.Common.{◌∙◌}
use Rattle.std.proofs.Math.Bool.{not}
use mathlib.Core.List.{List, [], ◌∷◌, ◌++◌}
use Rattle.std.specs.Int.Signed.{lt_z}
use Rattle.axis.specs.Meaning.{Moment, since}
use Rattle.axis.specs.Diff.{le_not}
use Rattle.scales.specs.Meaning.{Judged, gives, same_scale, in_span, moment_at}
use Rattle.scales.specs.declared.Scale.{Scale}
use Rattle.scales.specs.declared.Scale.TheVariants as S
use Rattle.handed.specs.declared.Handed.{Handed}
use Rattle.handed.specs.Meaning.{scale_of, is_finite, is_in_span, day_of, micro_of, moment_in}
use Rattle.leap.specs.Meaning.{seconds, accepted, has_micro, is_expired_day, is_expired_tai}
use Rattle.via_tai.specs.Meaning.{is_utc, of_count}
use Rattle.changes.specs.Meaning as Changes
use Rattle.clock.specs.Meaning as Clock
use Rattle.text_read.specs.Meaning as TextRead
use Rattle.text_write.specs.Meaning as TextWrite
use Rattle.text_write.specs.Image.{size_of, size_is}
use Rattle.text_write.specs.declared.Form.{Form}
use Rattle.text_write.specs.declared.Form.TheVariants as F
use Rattle.lines_laws.specs.First.{in_tai, line_judging}
use Rattle.promises.specs.Meaning.{tests}
use Rattle.promises.specs.Conditions as C
use Rattle.promises.specs.Rows as Rows

not_not : (b : Bool) → not (not b) ≡ b
not_not true = refl
not_not false = refl

pub not_both : (a b : Bool) → not (a && b) ≡ not a || not b
not_both true b = refl
not_both false b = refl

pub not_all : (a b c : Bool) → not (a && (b && c)) ≡ not a || (not b || not c)
not_all true b c = not_both b c
not_all false b c = refl

image_length : (f : Form) (z : Scale) (m : Moment) → length (TextWrite.image_of f z m) ≡ Rows.form_length f
image_length f z m = size_is f z _ ∙ go f
  where
    go : (f : Form) → size_of f ≡ Rows.form_length f
    go F.Plain = refl
    go F.Micros = refl
    go F.Prefixed = refl
    go F.PrefixedMicros = refl

module _ (ds : List ℤ) (os : List ℕ) (e : ℤ) where
  -- ---- the nine changes
  moving_rows : (s to : Scale) (inside : Bool) (m : Moment) → tests (Changes.moving s to ds os e inside m) ≡ Rows.moving s to ds os e (not inside) m
  moving_rows S.Tai S.Tai inside m = refl
  moving_rows S.Tai S.Utc inside m = rw (not_not (is_expired_tai ds os e (since m.day m.micro)))
  moving_rows S.Tai S.Gps inside m = refl
  moving_rows S.Utc S.Tai inside m = rw (not_not (is_expired_day e m.day))
  moving_rows S.Utc S.Utc inside m = rw (not_not (is_expired_day e m.day))
  moving_rows S.Utc S.Gps inside m = rw (not_not (is_expired_day e m.day))
  moving_rows S.Gps S.Tai inside m = refl
  moving_rows S.Gps S.Utc inside m = rw (not_not (is_expired_tai ds os e (since m.day m.micro +ℤ seconds 19)))
  moving_rows S.Gps S.Gps inside m = refl

  list_row : (used : Bool) → not (not used || accepted ds os e) ≡ C.list_not_accepted used ds os e
  list_row true = refl
  list_row false = refl

  pub change_rows : (h : Handed) (to : Scale) → tests (Changes.changing h to ds os e) ≡ Rows.change h to ds os e
  change_rows h to =
      ap₂ (λ (b : Bool) (rs : List (ℕ × Bool)). (4, C.decimal_not_finite h) ∷ (5, b) ∷ rs)
      (list_row (is_utc (scale_of h) || is_utc to)) (moving_rows (scale_of h) to (is_in_span h) (moment_in h))

  -- ---- the four by a list
  pub list_rows : (s to : Scale) (n : ℕ)
      → tests (Changes.with_list ds os e (of_count s n (Changes.moving s to ds os e))) ≡ Rows.by_list s to n ds os e
  list_rows s to n =
      let m = moment_at s n in
      ap (λ (rs : List (ℕ × Bool)). (5, C.list_not_accepted true ds os e) ∷ rs) (moving_rows s to (in_span s m.day m.micro) m)

  -- ---- what a list is asked for a time that stays in its scale
  asked_rows : {A : Type 0} (z : Scale) (inside : Bool) (m : Moment) (rest : Judged A)
      → tests (Changes.asked z ds os e inside m rest) ≡ Rows.asked z ds os e (not inside) m ++ tests rest
  asked_rows S.Tai inside m rest = refl
  asked_rows S.Utc inside m rest = rw (not_not (is_expired_day e m.day))
  asked_rows S.Gps inside m rest = refl

  -- ---- texts
  pub text_read_rows : (s : List ℕ) → tests (TextRead.reading s ds os e) ≡ Rows.text_read s ds os e
  unfolding TextRead.is_body
  text_read_rows s =
      let t = TextRead.stamp_in (TextRead.body_in s) in
      let z = TextRead.scale_in s in
      ap (λ (rs : List (ℕ × Bool)). (1, C.text_length_is_none s) ∷ (3, C.text_wrong s) ∷ rs)
      (asked_rows z (TextRead.stamp_spans z t) (TextRead.stamp_moment t) (gives (TextRead.stamp_moment t)))

  -- a line is judged by the same tests, and then by its TAI result
  pub line_rows : (s : List ℕ) → tests (line_judging ds os e s) ≡ Rows.line ds os e s
  unfolding TextRead.is_body
  line_rows s =
      let t = TextRead.stamp_in (TextRead.body_in s) in
      let z = TextRead.scale_in s in
      ap₂ (λ (rs : List (ℕ × Bool)) (b : Bool). (1, C.text_length_is_none s) ∷ (3, C.text_wrong s) ∷ (rs ++ ((11, b) ∷ [])))
      (asked_rows z (TextRead.stamp_spans z t) (TextRead.stamp_moment t) (gives (TextRead.stamp_moment t)))
      (go z (in_tai ds os e z (TextRead.stamp_moment t)))
    where
      go : (z : Scale) (m : Moment) → not (same_scale z S.Tai || in_span S.Tai m.day m.micro) ≡ not (same_scale z S.Tai) && C.result_outside S.Tai m
      go S.Tai m = refl
      go S.Utc m = refl
      go S.Gps m = refl

  pub text_write_rows : (h : Handed) (f : Form) (out : List ℕ) → tests (TextWrite.writing h f ds os e out) ≡ Rows.text_write h f ds os e out
  text_write_rows h f out =
      let z = scale_of h in
      let m = moment_in h in
      ap (λ (rs : List (ℕ × Bool)). (4, C.decimal_not_finite h) ∷ rs)
      (asked_rows z (is_in_span h) m (TextWrite.imaging f z m out)
      ∙ ap (λ (n : ℕ). Rows.asked z ds os e (C.time_outside h) m ++ ((12, C.no_text f h) ∷ (13, C.output_shorter n out) ∷ [])) (image_length f z m))

-- ---- a correlated counter: u says whether a list is used, a and b whether the days of reference and time are expired, x whether the
-- time's second is there, y whether the result is later than the receipt, z whether it is expired
date_tests : (u l k s w a b x y z v r : Bool) →
    ◌≡◌ {A = List (ℕ × Bool)}
    ((5, not (not u || l)) ∷ (6, not k) ∷ (7, not s)
    ∷ (8, not (w && cond ((not u || not a) && ((not u || not b) && (not u || x))) v true))
    ∷ (17, not (cond ((not u || not a) && ((not u || not b) && (not u || x))) (not y) true))
    ∷ (9, not ((not u || not a) && ((not u || not b) && (not u || not z)))) ∷ (10, not (not u || x)) ∷ (11, not r) ∷ [])
    ((5, u && not l) ∷ (6, not k) ∷ (7, not s)
    ∷ (8, not w || ((not (u && a) && (not (u && b) && not (u && not x))) && not v))
    ∷ (17, (not (u && a) && (not (u && b) && not (u && not x))) && y)
    ∷ (9, (u && a) || ((u && b) || (u && z))) ∷ (10, u && not x) ∷ (11, not r) ∷ [])
date_tests false l k s true a b x y z v r = rw (not_not y)
date_tests false l k s false a b x y z v r = rw (not_not y)
date_tests true l k s true true b x y z v r = refl
date_tests true l k s false true b x y z v r = refl
date_tests true l k s true false true x y z v r = refl
date_tests true l k s false false true x y z v r = refl
date_tests true l k s true false false true y z v r = rw (not_not y, not_not z)
date_tests true l k s true false false false y z v r = rw (not_not z)
date_tests true l k s false false false true y z v r = rw (not_not y, not_not z)
date_tests true l k s false false false false y z v r = rw (not_not z)

pub dating_rows : (accepted : Bool) (c : Clock.Clock) (t : ℕ) (d : ℤ) (u : ℕ) (ds : List ℤ) (os : List ℕ) (e : ℤ)
    → tests (Clock.dating accepted c t d u ds os e) ≡ Rows.dating (not accepted) c t d u ds os e
dating_rows k c t d u ds os e =
    let z = Clock.time c (Clock.elapsed c t) in
    let m = Clock.moment_after c.scale ds os z in
    let i = Clock.instant c.scale ds os d u in
    rw (le_not z i)
    (date_tests (is_utc c.scale) (accepted ds os e) k (in_span c.scale d u) (Clock.in_window c (Clock.elapsed c t)) (is_expired_day e c.day) (is_expired_day e d)
    (has_micro ds d u) (lt_z i z) (is_expired_tai ds os e z) (Clock.covers c i) (in_span c.scale m.day m.micro))

-- back to a count: i says whether the time is of the clock's scale
count_tests : (f u l k s i a b x v : Bool) →
    ◌≡◌ {A = List (ℕ × Bool)}
    ((4, not f) ∷ (5, not (not u || l)) ∷ (6, not k) ∷ (7, not s)
    ∷ (8, not (not i || cond ((not u || not a) && ((not u || not b) && (not u || x))) v true))
    ∷ (9, not ((not u || not a) && (not i || (not u || not b)))) ∷ (10, not (not i || (not u || x))) ∷ (12, not i) ∷ [])
    ((4, not f) ∷ (5, u && not l) ∷ (6, not k) ∷ (7, not s)
    ∷ (8, i && ((not (u && a) && (not (u && b) && not (u && not x))) && not v))
    ∷ (9, (u && a) || (i && (u && b))) ∷ (10, i && (u && not x)) ∷ (12, not i) ∷ [])
count_tests f false l k s true a b x v = refl
count_tests f false l k s false a b x v = refl
count_tests f true l k s true true b x v = refl
count_tests f true l k s false true b x v = refl
count_tests f true l k s true false true x v = refl
count_tests f true l k s true false false true v = refl
count_tests f true l k s true false false false v = refl
count_tests f true l k s false false b x v = refl

pub turning_rows : (accepted : Bool) (c : Clock.Clock) (h : Handed) (ds : List ℤ) (os : List ℕ) (e : ℤ)
    → tests (Clock.turning accepted c h ds os e) ≡ Rows.turning (not accepted) c h ds os e
turning_rows k c h ds os e =
    count_tests (is_finite h) (is_utc c.scale) (accepted ds os e) k (is_in_span h) (Clock.has_image c.scale h) (is_expired_day e c.day) (is_expired_day e (day_of h))
    (has_micro ds (day_of h) (micro_of h)) (Clock.covers c (Clock.instant_of c.scale ds os h))
