-- Demand 3 of the texts: a list that extends the one in use keeps every answer, and every refusal but 9. Assumes nothing.
use Rattle.std.specs.Prelude.{◌≡◌, refl, Bool, true, false, ◌&&◌, ◌||◌, List, ℕ, eqb, ℤ, pos}
use Rattle.std.proofs.Common.{sym, ap, ◌∙◌}
use Rattle.axis.specs.Meaning.{Moment}
use Rattle.scales.specs.Meaning.{in_span, Judged, given, gives, Outcome, refused, outcome, written}
use Rattle.scales.specs.Order.{onward}
use Rattle.scales.specs.Place.{and_both}
use Rattle.scales.specs.declared.Scale.{Scale}
use Rattle.handed.specs.declared.Handed.{Handed}
use Rattle.calendar.specs.Meaning.{day_of_date}
use Rattle.handed.specs.Meaning.{scale_of}
use Rattle.leap.specs.Meaning.{accepted, Extends, published_days, published_offsets, published_last}
use Rattle.leap_laws.proofs.Promises.{Fresh, fresh}
use Rattle.leap_laws.proofs.Asked.{handed_again, asked_again}
use Rattle.leap.specs.Published.{published}
use Rattle.leap_laws.proofs.Computed.{published_6209, extended}
use Rattle.text_read.specs.Meaning.{is_plain, is_prefixed, is_prefix_right, is_body, scale_in, body_in, stamp_in, stamp_moment, stamp_spans, reading_body, dated_in, read_text}
use Rattle.text_write.specs.Meaning.{imaging, write_text}
use Rattle.text_write.specs.Writes.{write_is}
use Rattle.text_write.specs.declared.Form.{Form}

module _ (ds : List ℤ) (os : List ℕ) (e : ℤ) (cs : List ℤ) (ps : List ℕ) (f : ℤ) (a : accepted ds os e ≡ true) (b : accepted cs ps f ≡ true) (w : Fresh ds os e cs ps f) where
  pub write_again : (h : Handed) (g : Form) (out : List ℕ) → ((write_text h g ds os e out).number ≡ 9 → ⊥) → write_text h g cs ps f out ≡ write_text h g ds os e out
  write_again h g out n =
      let next : Moment → Judged (List ℕ) = λ (m : Moment). imaging g (scale_of h) m out in
      let i = write_is h g ds os e out in
      let r = handed_again ds os e cs ps f a b w h (λ q. n ((λ x. (i x).number) ∙ ap (λ (o : Outcome Moment). (written out (onward next o)).number) q)) in
      write_is h g cs ps f out ∙ ap (λ (o : Outcome Moment). written out (onward next o)) r ∙ sym i

  -- a real date outside the calendar's span is outside under either list
  body : (z : Scale) (y : List ℕ) → (outcome (reading_body z y ds os e) ≡ refused 9 → ⊥) → outcome (reading_body z y cs ps f) ≡ outcome (reading_body z y ds os e)
  body z y n =
      let t = stamp_in y in
      let m = stamp_moment t in
      asked_again ds os e cs ps f a b w z (stamp_spans z t) m (λ q. (and_both (eqb (day_of_date t.date).number 0) (in_span z m.day m.micro) q).1) (gives m) n

  pub read_again : (s : List ℕ) → ((read_text s ds os e).number ≡ 9 → ⊥) → read_text s cs ps f ≡ read_text s ds os e
  unfolding read_text
  read_again s n = go (is_prefixed s || is_plain s) (is_prefix_right s && is_body (scale_in s) (body_in s)) n
    where
      z : Scale
      z = scale_in s

      go : (c d : Bool) → ((dated_in z (outcome (given c 1 (given d 3 (reading_body z (body_in s) ds os e))))).number ≡ 9 → ⊥)
          → dated_in z (outcome (given c 1 (given d 3 (reading_body z (body_in s) cs ps f)))) ≡ dated_in z (outcome (given c 1 (given d 3 (reading_body z (body_in s) ds os e))))
      go false d n = refl
      go true false n = refl
      go true true n = ap (dated_in z) (body z (body_in s) (λ q. n (ap (λ (o : Outcome Moment). (dated_in z o).number) q)))

-- ---- the demand, over any list that extends another
pub record Again (ds : List ℤ) (os : List ℕ) (e : ℤ) (cs : List ℤ) (ps : List ℕ) (f : ℤ) : Type 0 where
  pub read : (s : List ℕ) → ((read_text s ds os e).number ≡ 9 → ⊥) → read_text s cs ps f ≡ read_text s ds os e
  pub write : (h : Handed) (g : Form) (out : List ℕ) → ((write_text h g ds os e out).number ≡ 9 → ⊥) → write_text h g cs ps f out ≡ write_text h g ds os e out

pub again : (ds : List ℤ) (os : List ℕ) (e : ℤ) (cs : List ℤ) (ps : List ℕ) (f : ℤ) → accepted ds os e ≡ true → accepted cs ps f ≡ true
    → Extends ds os e cs ps f → Again ds os e cs ps f
again ds os e cs ps f a b x =
    let w = fresh ds os e cs ps f a b x in
    record { read = read_again ds os e cs ps f a b w; write = write_again ds os e cs ps f a b w }

pub published_again : Again published_days published_offsets (pos 6209) published_days published_offsets published_last
published_again = again published_days published_offsets (pos 6209) published_days published_offsets published_last published_6209 published extended
