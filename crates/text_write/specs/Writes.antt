-- The ways out of writing a record: a law for each. Assumes nothing.
use Rattle.std.specs.Prelude.{◌≡◌, refl, Bool, true, false, not, ◌||◌, List, ℕ, ◌+◌, ◌-◌, ◌/◌, ◌%◌, ◌≤◌, ◌<◌, ℤ, Result, Ok, Err}
use Rattle.std.proofs.Math.Path.{sym, ap}
use Rattle.std.proofs.Common.{ap₂, ◌∙◌, arith}
use Rattle.axis.specs.Meaning.{place_of_day, Moment}
use Rattle.scales.specs.Meaning.{in_span, Judged, given, gives, Outcome, answer, outcome, wrote, written, slip, dated, record_moment}
use Rattle.scales.specs.Order.{onward, then_is, no_answer}
use Rattle.scales.specs.Place.{apart, placed}
use Rattle.scales.specs.Same.{no_zero}
use Rattle.scales.specs.declared.Scale.{Scale}
use Rattle.scales.specs.declared.Record.{Record}
use Rattle.scales.specs.declared.Refusal.{Refusal}
use Rattle.scales.specs.declared.Refusal.TheVariants as R
use Rattle.handed.specs.declared.Handed.{Handed}
use Rattle.calendar.specs.Meaning.{date_slip, date_in, date_at, date_of_day}
use Rattle.calendar.specs.Gregorian.{length_bounds}
use Rattle.calendar.specs.Walk.{spotted, walk_at}
use Rattle.calendar.specs.Days.{date_within}
use Rattle.calendar.specs.Told as C
use Rattle.calendar.specs.declared.Date.{Date}
use Rattle.handed.specs.Meaning.{scale_of, is_finite}
use Rattle.handed.specs.Laid.{LaidAt}
use Rattle.leap.specs.Meaning.{accepted, has_micro, is_expired_day}
use Rattle.via_tai.specs.Meaning.{is_utc}
use Rattle.changes.specs.Asked.{lacks_list, record_asked, list_lacks, handed_asked, nothing_asked, laid_is, asked_sound, slip_answer, slip_refused, lacking}
use Rattle.text_write.specs.Meaning.{stamp_of, has_image, full_text, imaging, write_text}
use Rattle.text_write.specs.Columns.{Fits, stamp_fits}
use Rattle.text_write.specs.Stage.{putting, imaged, written_of}
use Rattle.text_write.specs.declared.Form.{Form}
use Rattle.scales.specs.declared.Refused.{Refused}

-- ---- the image of a time in its span
module _ (f : Form) (z : Scale) (m : Moment) (out : List ℕ) where
  pub image_lacks : has_image f z m.micro ≡ false → wrote (Err R.NoImage) out ≡ imaged f z m out
  unfolding imaged
  image_lacks e = sym (rw e)

  module _ (w : in_span z m.day m.micro ≡ true) where
    pub has_date : (r : Refusal) → date_slip (Err r) ≡ date_of_day m.day → ⊥
    has_date r q =
        let p = placed z m.day m.micro w in
        let h : 29773 ≤ place_of_day m.day = omega (arith, (apart z).from, p.from) in
        let k : place_of_day m.day ≤ 76524 = omega (arith, (apart z).to, p.to) in
        no_zero r (λ i. ((q ∙ sym (date_within m.day h k)) i).number)

  pub image_put : has_image f z m.micro ≡ true → (t : Date) → date_slip (Ok t) ≡ date_of_day m.day → putting (full_text f z (stamp_of t m.micro)) out ≡ imaged f z m out
  unfolding imaged putting
  image_put e t q = sym (rw (e, sym q))

pub micro_under : (z : Scale) (d : ℤ) (u : ℕ) → in_span z d u ≡ true → u < 86401000000
micro_under z d u w = omega (arith, (apart z).most, (placed z d u w).under)

-- the date of a day, with the microsecond of its day, fits the columns of a text
pub date_fits : (d : ℤ) (t : Date) → date_slip (Ok t) ≡ date_of_day d → (u : ℕ) → u < 86401000000 → Fits (stamp_of t u)
date_fits d t q u h =
    let x = C.dated d t (sym q) in
    let n = place_of_day d - 29773 in
    let s = spotted n (omega (arith, x.from, x.to)) in
    let k = s.there in
    let e : date_in s.month s.past ≡ t = sym (ap date_at (walk_at n s.month s.past k)) ∙ x.date in
    let y : 1972 + s.month / 12 ≡ t.year = λ i. (e i).year in
    let m : 1 + s.month % 12 ≡ t.month = λ i. (e i).month in
    let w : s.past + 1 ≡ t.day = λ i. (e i).day in
    stamp_fits t u (omega (arith, k.early)) (omega arith, omega arith) (omega (arith, k.short, length_bounds s.month)) h

-- ---- writing judges the time, and then its image
pub write_is : (h : Handed) (f : Form) (ds : List ℤ) (os : List ℕ) (e : ℤ) (out : List ℕ)
    → write_text h f ds os e out ≡ written out (onward (λ (m : Moment). imaging f (scale_of h) m out) (outcome (handed_asked ds os e h)))
unfolding write_text
write_is h f ds os e out = ap (written out) (then_is (handed_asked ds os e h) (λ (m : Moment). imaging f (scale_of h) m out))

-- a decimal day that is not finite
pub write_nothing : (h : Handed) (f : Form) (ds : List ℤ) (os : List ℕ) (e : ℤ) (out : List ℕ) → is_finite h ≡ false
    → wrote (Err R.DecimalNotFinite) out ≡ write_text h f ds os e out
write_nothing h f ds os e out p =
    sym (write_is h f ds os e out ∙ ap (λ (o : Outcome Moment). written out (onward (λ (m : Moment). imaging f (scale_of h) m out) o)) (nothing_asked ds os e h p))

module _ (r : Record) (f : Form) (ds : List ℤ) (os : List ℕ) (e : ℤ) (out : List ℕ) where
  abbrev next : Moment → Judged (List ℕ)
  next m = imaging f r.scale m out

  written_is : written_of r f ds os e out ≡ written out (onward next (outcome (record_asked r ds os e)))
  unfolding written_of
  written_is = ap (written out) (then_is (record_asked r ds os e) next)

  module _ (q : Result Record Refused) (w : slip q ≡ dated r.scale (outcome (record_asked r ds os e))) where
    pub write_refused : (g : Refused) → q ≡ Err g → wrote (Err g.refusal) out ≡ written_of r f ds os e out
    write_refused g p =
        let k = slip_refused r.scale (outcome (record_asked r ds os e)) g.refusal g.scale (ap slip (sym p) ∙ w) in
        sym (written_is ∙ ap (λ (o : Outcome Moment). written out (onward next o)) k)

    told : (t : Record) → q ≡ Ok t → (t.scale ≡ r.scale) × (outcome (record_asked r ds os e) ≡ answer (record_moment t))
    told t p = slip_answer r.scale (outcome (record_asked r ds os e)) (asked_sound r ds os e) t (ap slip (sym p) ∙ w)

    pub write_answer : (t : Record) → q ≡ Ok t → imaged f t.scale (record_moment t) out ≡ written_of r f ds os e out
    unfolding imaged
    write_answer t p =
        let k = told t p in
        ap (λ (z : Scale). written out (outcome (imaging f z (record_moment t) out))) k.0
        ∙ sym (written_is ∙ ap (λ (o : Outcome Moment). written out (onward next o)) k.1)

    -- a time that is answered lies in its span
    pub write_inside : (t : Record) → q ≡ Ok t → in_span t.scale t.day t.micro ≡ true
    write_inside t p =
        let k = told t p in
        let z = r.scale in
        ap (λ (y : Scale). in_span y t.day t.micro) k.0
        ∙ inside (record_moment r) (record_moment t) (not (is_utc z) || accepted ds os e) (in_span z r.day r.micro)
        (not (is_utc z) || not (is_expired_day e r.day)) (not (is_utc z) || has_micro ds r.day r.micro) refl k.1
      where
        inside : (m n : Moment) (a b c d : Bool) → in_span r.scale m.day m.micro ≡ b
            → outcome (given a 5 (given b 7 (given c 9 (given d 10 (gives m))))) ≡ answer n → in_span r.scale n.day n.micro ≡ true
        inside m n true true true true i g = let y : m ≡ n = cc in ap (λ (x : Moment). in_span r.scale x.day x.micro) (sym y) ∙ i
        inside m n false b c d i g = absurd (no_answer g)
        inside m n true false c d i g = absurd (no_answer g)
        inside m n true true false d i g = absurd (no_answer g)
        inside m n true true true false i g = absurd (no_answer g)

  pub write_lacks : lacks_list (is_utc r.scale) ds os e ≡ true → wrote (Err R.ListNotAccepted) out ≡ written_of r f ds os e out
  write_lacks l =
      let x = lacking (is_utc r.scale) (accepted ds os e) l in
      sym (written_is ∙ ap (λ (o : Outcome Moment). written out (onward next o)) (list_lacks ds os e r x.0 x.1))

  -- the record that a handed time was laid out as
  pub write_laid : (h : Handed) → LaidAt h r → written_of r f ds os e out ≡ write_text h f ds os e out
  write_laid h w =
      written_is
      ∙ ap₂ (λ (z : Scale) (o : Outcome Moment). written out (onward (λ (m : Moment). imaging f z m out) o)) w.scale (laid_is ds os e h r w)
      ∙ sym (write_is h f ds os e out)
