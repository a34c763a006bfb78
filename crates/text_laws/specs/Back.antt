-- "Reading and writing UTC text both apply the leap list, so nothing is written that reading would refuse": what is written reads back as
-- the same time under the same list. Assumes nothing.
use Rattle.std.specs.Prelude.{◌≡◌, Bool, false, not, ◌||◌, ℕ, ◌-◌, ◌/◌, ◌%◌, ◌<◌, ◌≤◌, eqb, T, ℤ, length, take, drop}
use Rattle.std.proofs.Math.Path.{refl, sym, ap}
use Rattle.std.proofs.Common.{subst, ◌∙◌, true≢false, arith, take_at}
use Rattle.std.proofs.Math.Bool.{true}
use Rattle.std.proofs.lemmas.Bool.{false≢true}
use mathlib.Core.List.{List}
use Rattle.std.specs.Float.{binary64}
use Rattle.std.specs.Float.Ieee.{fits}
use borrow.Author.Tests.{le-leb, lt-ltb, le-ltb, eqb-true}
use Rattle.axis.specs.Meaning.{place_of_day, day_micros}
use Rattle.axis.specs.Diff.{Way, way, below, above}
use Rattle.octets.specs.Meaning.{has_room}
use Rattle.scales.specs.Meaning.{bound, in_span, Judged, given, gives, Outcome, refused, answer, outcome, dated, written, Valued}
use Rattle.scales.specs.Place.{apart, placed, and_both}
use Rattle.scales.specs.declared.Scale.{Scale}
use Rattle.scales.specs.declared.Scale.TheVariants as S
use Rattle.handed.specs.declared.Handed.{Handed}
use Rattle.handed.specs.declared.Handed.TheVariants as H
use Rattle.scales.specs.Order.{passed}
use Rattle.calendar.specs.Meaning.{is_date, date_at, walk, day_handed, date_of_day, day_of_date}
use Rattle.calendar.specs.Gregorian.{month_bounds}
use Rattle.calendar.specs.Days.{date_within}
use Rattle.calendar.specs.Dates.{Real, real_is}
use Rattle.calendar.specs.Told.{counted}
use Rattle.calendar.specs.declared.Date.{Date}
use Rattle.calendar_laws.specs.Undo.{day_of_date_lem}
use Rattle.handed.proofs.Ways.{kept_decimal}
use Rattle.handed.specs.Meaning.{scale_of, is_finite, is_in_span, day_of, micro_of, moment_in}
use Rattle.leap.specs.Meaning.{accepted, is_expired_day, has_micro}
use Rattle.via_tai.specs.Meaning.{is_utc}
use Rattle.changes.specs.Meaning.{asked}
use Rattle.changes.specs.Asked.{sound}
use Rattle.text_read.specs.Meaning as R
use Rattle.text_read.specs.Meaning.{in_limits, is_body, has_marks, stamp_in, scale_in, body_in, is_prefixed, is_plain, is_prefix_right, has_prefix, stamp_moment, stamp_spans, dated_in, read_text}
use Rattle.text_fields.specs.declared.Stamp.{Stamp}
use Rattle.text_fields.specs.Meaning.{prefix_of}
use Rattle.text_write.specs.Meaning.{stamp_of, text_of, has_micros, shows_scale, full_text, image_of, has_image, imaging, writing, write_text}
use Rattle.text_write.specs.Columns.{Fits, stamp_fits}
use Rattle.text_write.specs.declared.Form.{Form}
use Rattle.text_write.specs.declared.Form.TheVariants as F
use Rattle.text_laws.specs.Digits.{stamp_long, stamp_short}

-- ---- the text of a stamp, read
record Reads (s : List ℕ) (z : Scale) (t : Stamp) : Type 0 where
  known : (is_prefixed s || is_plain s) ≡ true
  prefix : is_prefix_right s ≡ true
  scale : scale_in s ≡ z
  marks : has_marks (body_in s) ≡ true
  stamp : stamp_in (body_in s) ≡ t

module _ (t : Stamp) (w : Fits t) where
  text_reads : (f : Form) (z : Scale) → (has_micros f ≡ false → t.micro ≡ 0) → (shows_scale f ≡ false → z ≡ S.Utc) → Reads (full_text f z t) z t
  unfolding scale_in body_in is_prefix_right has_prefix prefix_of text_of has_marks
  text_reads F.Plain z m g = record { known = refl; prefix = refl; scale = sym (g refl); marks = refl; stamp = stamp_short t w (m refl) }
  text_reads F.Micros z m g = record { known = refl; prefix = refl; scale = sym (g refl); marks = refl; stamp = stamp_long t w }
  text_reads F.Prefixed S.Tai m g = record { known = refl; prefix = refl; scale = refl; marks = refl; stamp = stamp_short t w (m refl) }
  text_reads F.Prefixed S.Utc m g = record { known = refl; prefix = refl; scale = refl; marks = refl; stamp = stamp_short t w (m refl) }
  text_reads F.Prefixed S.Gps m g = record { known = refl; prefix = refl; scale = refl; marks = refl; stamp = stamp_short t w (m refl) }
  text_reads F.PrefixedMicros S.Tai m g = record { known = refl; prefix = refl; scale = refl; marks = refl; stamp = stamp_long t w }
  text_reads F.PrefixedMicros S.Utc m g = record { known = refl; prefix = refl; scale = refl; marks = refl; stamp = stamp_long t w }
  text_reads F.PrefixedMicros S.Gps m g = record { known = refl; prefix = refl; scale = refl; marks = refl; stamp = stamp_long t w }

reading_is : (s : List ℕ) (z : Scale) (t : Stamp) → Reads s z t → in_limits z t ≡ true → is_date t.date ≡ true → (ds : List ℤ) (os : List ℕ) (e : ℤ)
    → read_text s ds os e ≡ dated_in z (outcome (asked z ds os e (stamp_spans z t) (stamp_moment t) (gives (stamp_moment t))))
unfolding read_text is_body
reading_is s z t r l d ds os e = rw (r.known, r.prefix, r.scale, r.marks, r.stamp, l, d)

-- ---- the stamp of a time
module _ (t : Date) (u : ℕ) where
  stamp_limits : (z : Scale) → u < bound z → in_limits z (stamp_of t u) ≡ true
  unfolding in_limits
  stamp_limits z h = go z h (way u day_micros)
    where
      go : (z : Scale) → u < bound z → Way u day_micros → in_limits z (stamp_of t u) ≡ true
      go z h (below k) =
          rw (
            lt-ltb u day_micros k,
            le-leb (u / 3600000000) 23 (omega arith),
            le-leb (u / 60000000 % 60) 59 (omega arith),
            lt-ltb (u % 1000000) 1000000 (omega arith),
            le-leb (u / 1000000 % 60) 59 (omega arith),
          )
      go S.Utc h (above k) = rw (le-ltb u day_micros k, lt-ltb (u % 1000000) 1000000 (omega arith))
      go S.Tai h (above k) = absurd (omega arith)
      go S.Gps h (above k) = absurd (omega arith)

  stamp_micro_lem : u < 86401000000 → R.stamp_micro (stamp_of t u) ≡ u
  stamp_micro_lem h = go (way u day_micros)
    where
      go : Way u day_micros → R.stamp_micro (stamp_of t u) ≡ u
      go (below k) = rw (lt-ltb u day_micros k) (omega arith)
      go (above k) = rw (le-ltb u day_micros k) (omega arith)

  stamp_small : Real t → u < 86401000000 → Fits (stamp_of t u)
  stamp_small r h =
      stamp_fits t u (omega (arith, r.year_to)) (r.month_from, r.month_to) (omega (arith, r.day_to, month_bounds t.year t.month)) h

-- ---- the date of a day of a span
record Dates (d : ℤ) : Type 0 where
  real : Real (date_of_day d).value
  back : day_of_date (date_of_day d).value ≡ day_handed (answer d)

dates : (z : Scale) (d : ℤ) (u : ℕ) → in_span z d u ≡ true → Dates d
dates z d u w =
    let p = placed z d u w in
    let q = date_within d (omega (arith, (apart z).from, p.from)) (omega (arith, (apart z).to, p.to)) in
    let t = date_at (walk 1536 0 (place_of_day d - 29773)) in
    let k : t ≡ (date_of_day d).value = ap (λ (x : Valued Date). x.value) q in
    let b = day_of_date_lem d t (sym q) in
    record { real = subst Real k (counted t d b).rule; back = subst (λ (x : Date). day_of_date x ≡ day_handed (answer d)) k b }

-- ---- what was written is read back
bound_most : (z : Scale) → bound z ≤ 86401000000
bound_most z = (apart z).most

utc_is : (z : Scale) → is_utc z ≡ true → z ≡ S.Utc
utc_is S.Utc q = refl
utc_is S.Tai q = absurd (false≢true q)
utc_is S.Gps q = absurd (false≢true q)

or_false : (a b : Bool) → (a || b) ≡ true → a ≡ false → b ≡ true
or_false true b q f = absurd (true≢false f)
or_false false b q f = q

module _ (f : Form) (z : Scale) (d : ℤ) (u : ℕ) (w : in_span z d u ≡ true) (i : has_image f z u ≡ true) (ds : List ℤ) (os : List ℕ) (e : ℤ) where
  image_back : read_text (image_of f z (record { day = d; micro = u })) ds os e
      ≡ dated_in z (outcome (asked z ds os e true (record { day = d; micro = u }) (gives (record { day = d; micro = u }))))
  image_back =
      let x = dates z d u w in
      let t = (date_of_day d).value in
      let g = stamp_of t u in
      let under = (placed z d u w).under in
      let h : u < 86401000000 = omega (arith, bound_most z) in
      let y = and_both (shows_scale f || is_utc z) (has_micros f || eqb (u % 1000000) 0) i in
      let r = text_reads g (stamp_small t u x.real h) f z
      (λ q. eqb-true (u % 1000000) 0 (or_false (has_micros f) (eqb (u % 1000000) 0) y.1 q))
      (λ q. utc_is z (or_false (shows_scale f) (is_utc z) y.0 q)) in
      reading_is (full_text f z g) z g r (stamp_limits t u z under) (real_is t x.real) ds os e
      ∙ rw (x.back, stamp_micro_lem t u h, w)

-- a decimal day that is handed in is an f64
abbrev pub IsF64 : Handed → Type 0
IsF64 (H.Record r) = 0 ≤ 0
IsF64 (H.Decimal x s) = T (fits binary64 x)

kept : (h : Handed) → IsF64 h → is_finite h ≡ true → is_in_span h ≡ true → in_span (scale_of h) (day_of h) (micro_of h) ≡ true
kept (H.Record r) d a b = b
kept (H.Decimal x s) d a b = kept_decimal x s d a b

module _ (h : Handed) (f : Form) (ds : List ℤ) (os : List ℕ) (e : ℤ) (out : List ℕ) where
  abbrev image : List ℕ
  image = image_of f (scale_of h) (moment_in h)

  record Made (x : List ℕ) : Type 0 where
    is : x ≡ image
    reads : read_text image ds os e ≡ dated (scale_of h) (answer (moment_in h))

  made : IsF64 h → (x : List ℕ) → outcome (writing h f ds os e out) ≡ answer x → Made x
  made d x q =
      let z = scale_of h in
      let m = moment_in h in
      let known = not (is_utc z) || not (is_expired_day e m.day) in
      let there = not (is_utc z) || has_micro ds m.day m.micro in
      let j12 = imaging f z m out in
      let j10 : Judged (List ℕ) = given there 10 j12 in
      let j9 : Judged (List ℕ) = given known 9 j10 in
      let p4 = passed (is_finite h) 4 (asked z ds os e (is_in_span h) m j12) x q in
      let p5 = passed (not (is_utc z) || accepted ds os e) 5 (given (is_in_span h) 7 j9) x p4.1 in
      let p7 = passed (is_in_span h) 7 j9 x p5.1 in
      let p9 = passed known 9 j10 x p7.1 in
      let p10 = passed there 10 j12 x p9.1 in
      let p12 = passed (has_image f z m.micro) 12 (given (has_room image out) 13 (gives image)) x p10.1 in
      let p13 = passed (has_room image out) 13 (gives image) x p12.1 in
      let y : answer image ≡ answer x = p13.1 in
      record {
        is = cc;
        reads =
            image_back f z (day_of h) (micro_of h) (kept h d p4.0 p7.0) p12.0 ds os e
            ∙ rw (p5.0, p9.0, p10.0);
      }

  -- ---- what is written reads back as the same time under the same list
  pub read_back : IsF64 h → (write_text h f ds os e out).number ≡ 0 →
      let w = write_text h f ds os e out in read_text (take w.length w.lent) ds os e ≡ dated (scale_of h) (answer (moment_in h))
  unfolding write_text
  read_back d n = go (outcome (writing h f ds os e out)) refl n
    where
      go : (o : Outcome (List ℕ)) → outcome (writing h f ds os e out) ≡ o → (written out o).number ≡ 0
          → read_text (take (written out o).length (written out o).lent) ds os e ≡ dated (scale_of h) (answer (moment_in h))
      go (refused n) q z = absurd (sound (writing h f ds os e out) refl (q ∙ ap refused z))
      go (answer x) q z =
          let k = made d x q in
          ap (λ (s : List ℕ). read_text s ds os e) (take_at x (drop (length x) out) (length x) refl ∙ k.is) ∙ k.reads

  -- "so nothing is written that reading would refuse"
  pub none_refused : IsF64 h → (write_text h f ds os e out).number ≡ 0 →
      let w = write_text h f ds os e out in (read_text (take w.length w.lent) ds os e).number ≡ 0
  none_refused d n = let k = read_back d n in λ i. (k i).number
