-- What is written of a time is read as the time, or as the last that is not later, in each layout that stands for a time.
-- Assumes nothing.
use mathlib.Core.Path.{◌≡◌, refl, sym, ap, ap₂, subst, ◌∙◌}
use mathlib.Core.Bool.{Bool, true}
use mathlib.Core.List.{List}
use Prim.Native.Nat.{ℕ, ◌+◌, ◌*◌, ◌/◌, ◌%◌, ◌≤◌, ◌<◌}
use native.Mathlib.Omega.{arith}
use lib.Dec.{lit<, lit≤}
use lib.IntN.{pos}
use lib.ListN.{length}
use lib.Signed.{le_z}
use borrow.Author.Tests.{eqb-true, ltb-true, leb-true}
use Rattle.axis.specs.Meaning.{place_of_day, Moment}
use Rattle.axis.specs.Diff.{Way, way, below, above}
use Rattle.axis.specs.Axis.{day_from, day_to}
use Rattle.octets.specs.Field.{Bytes}
use Rattle.scales.specs.Meaning.{same_scale, in_span, Judged, answer, outcome, Slip, dated, written}
use Rattle.scales.specs.Order.{Answers, last, next, numbered}
use Rattle.scales.specs.Place.{Placed, placed, and_both, count_of}
use Rattle.scales.specs.Same.{same_scale_lem}
use Rattle.scales.specs.declared.Scale.{Scale}
use Rattle.scales.specs.declared.Scale.TheVariants as S
use Rattle.scales.specs.declared.Record.{Record}
use Rattle.scales.specs.declared.Mark.{Mark}
use Rattle.scales.specs.declared.Mark.TheVariants as M
use Rattle.handed.specs.declared.Handed.{Handed}
use Rattle.handed.specs.declared.Handed.TheVariants as H
use Rattle.handed.specs.Meaning.{scale_of, mark_of, is_finite, is_in_span, day_of, micro_of}
use Rattle.octets.specs.Meaning.{part}
use Rattle.octets.specs.Parts.{part_lt}
use Rattle.layout_fields.specs.Cuc as FC
use Rattle.layout_fields.specs.Proteus as FP
use Rattle.layout_fields.specs.Cryosat as FY
use Rattle.layout_fields.specs.Siral as FR
use Rattle.layout_fields.specs.declared.cuc.Fields as C
use Rattle.layout_fields.specs.declared.proteus.Fields as P
use Rattle.layout_times.specs.Meaning.{rounding, fraction_micros, fraction_at, moment_from, micros_from}
use Rattle.layout_times.specs.Fraction.{below_second, last_fits, last_is, never_later, last_such}
use Rattle.layout_times.specs.Days.{moment_micros}
use Rattle.layout_times.specs.Cuc as Cuc
use Rattle.layout_times.specs.Proteus as Proteus
use Rattle.layout_times.specs.Cryosat as Cryosat
use Rattle.layout_times.specs.Siral as Siral
use Rattle.layout_laws.specs.Meaning.{image, Real, place_at, SameTime, LastNotLater}
use Rattle.layout_laws.proofs.Chains.{wrought, image_is}
use Rattle.layout_laws.proofs.Fields.{cuc_forth, proteus_forth, cryosat_forth, siral_forth}
use Rattle.layout_laws.proofs.Later.{kept, read_of, last_time, reads, in_from}
use Rattle.layout_times.proofs.Ways.{proteus_h3, proteus_limits, cryosat_limits}

-- ---- seconds and a fraction
module _ (n : ℕ) where
  pub fraction_lt : fraction_at (n % 1000000) < 65536
  fraction_lt = subst (λ (x : ℕ). x < 65536) (sym (last_is rounding 16 (n % 1000000) (omega arith))) (last_fits rounding 16 (n % 1000000) (omega arith))

  pub seconds_not_later : n / 1000000 * 1000000 + fraction_micros (fraction_at (n % 1000000)) ≤ n
  seconds_not_later = go (fraction_micros (fraction_at (n % 1000000))) (never_later rounding 16 (n % 1000000) (omega arith))
    where
      go : (r : ℕ) → r ≤ n % 1000000 → n / 1000000 * 1000000 + r ≤ n
      go r l = omega arith

  pub seconds_last : (x f : ℕ) → f < 65536 → x * 1000000 + fraction_micros f ≤ n →
      x * 1000000 + fraction_micros f ≤ n / 1000000 * 1000000 + fraction_micros (fraction_at (n % 1000000))
  seconds_last x f h k = go (fraction_micros f) (below_second rounding 16 f (lit≤ tt) h) k (way x (n / 1000000)) (last_such rounding 16 (n % 1000000) (omega arith) f)
    where
      go : (r : ℕ) → r < 1000000 → x * 1000000 + r ≤ n → Way x (n / 1000000) → (r ≤ n % 1000000 → r ≤ fraction_micros (fraction_at (n % 1000000))) →
          x * 1000000 + r ≤ n / 1000000 * 1000000 + fraction_micros (fraction_at (n % 1000000))
      go r a b (below l) m = omega arith
      go r a b (above l) m = omega (arith, m (omega arith))

-- what holds of every image that a chain answers holds of the image in the slice
of_image : (Q : List ℕ → Type 0) (out : List ℕ) (j : Judged (List ℕ)) → numbered j ≡ true → ((s : List ℕ) → Answers j s → Q s) → (written out (outcome j)).number ≡ 0 →
    Q (image (written out (outcome j)))
of_image Q out j p f e = let w = wrought out j p e in subst Q (sym (ap image w.is ∙ image_is out w.bytes)) (f w.bytes w.answers)

abbrev count_on : Scale → Handed → ℕ
count_on s h = count_of s (day_of h) (micro_of h)

-- where a handed time of scale s stands
place_of : (s : Scale) (h : Handed) → s ≡ scale_of h → Real h → is_finite h ≡ true → is_in_span h ≡ true → Placed s (day_of h) (micro_of h)
place_of s h k d e f = placed s (day_of h) (micro_of h) (ap (λ (x : Scale). in_span x (day_of h) (micro_of h)) k ∙ kept h d e f)

-- ---- CUC
cuc_best : (n : ℕ) (t : List ℕ) (f : C.Fields) → Bytes t → Answers (FC.reading t) f → Cuc.micros_of f ≤ n → Cuc.micros_of f ≤ Cuc.micros_of (Cuc.fields_at n)
cuc_best n t f b (next e last) m =
    let l : length t ≡ 6 = eqb-true (length t) 6 e in
    seconds_last n (part t 0 4) (part t 4 2) (part_lt t 4 2 (omega arith) b) m

cuc_of : (h : Handed) (out s : List ℕ) → Real h → Answers (Cuc.writing h out) s → LastNotLater Cuc.read M.Plain h s
unfolding Cuc.read
cuc_of h out s r (next a (next b (next c (next d last)))) =
    let k = same_scale_lem S.Gps (scale_of h) c in
    let w = place_of S.Gps h k r a b in
    let n = micros_from Cuc.epoch (day_of h) (micro_of h) in
    let v = w.from in
    last_time S.Gps 32700 Cuc.micros_of h n k (ap (λ (x : Scale). count_on x h) (sym k) ∙ omega arith) (lit≤ tt) (omega (arith, w.to, w.under)) (λ t. M.Plain) FC.reading (λ t. refl)
    s (Cuc.fields_at n) (cuc_forth (Cuc.fields_at n) out s (omega (arith, w.to, w.under), fraction_lt n) (next d last)) (seconds_not_later n) (cuc_best n)

pub cuc_last : (h : Handed) (out : List ℕ) → Real h → (Cuc.write h out).number ≡ 0 → LastNotLater Cuc.read M.Plain h (image (Cuc.write h out))
unfolding Cuc.write
cuc_last h out r e = of_image (LastNotLater Cuc.read M.Plain h) out (Cuc.writing h out) refl (λ s a. cuc_of h out s r a) e

-- ---- Proteus: marked with the H3 that was written
weeks : (n : ℕ) → n / 604800000000 * 604800 + n / 1000000 % 604800 ≡ n / 1000000
weeks n = omega arith

proteus_best : (n : ℕ) (b : Bool) (t : List ℕ) (f : P.Fields) → Bytes t → Answers (FP.reading t) f → Proteus.micros_of f ≤ n →
    Proteus.micros_of f ≤ Proteus.micros_of (Proteus.fields_at b n)
proteus_best n b t f y (next e (next z (next o last))) m =
    let l : length t ≡ 8 = eqb-true (length t) 8 e in
    let q = seconds_last n (part t 0 2 / 16 * 604800 + part t 2 4) (part t 6 2) (part_lt t 6 2 (omega arith) y) m in
    rw (weeks n) q

abbrev h3_mark : Handed → Mark
h3_mark h = M.Proteus (Proteus.h3_of (mark_of h))

proteus_of : (h : Handed) (out s : List ℕ) → Real h → Answers (Proteus.writing h out) s → LastNotLater Proteus.read (h3_mark h) h s
unfolding Proteus.read
proteus_of h out s r (next a (next i (next c (next d last)))) =
    let x = and_both (same_scale S.Utc (scale_of h)) _ c in
    let y = and_both (le_z Proteus.epoch (day_of h)) _ x.1 in
    let z = and_both (le_z (day_of h) (pos 21371)) _ y.1 in
    let k = same_scale_lem S.Utc (scale_of h) x.0 in
    let w = place_of S.Utc h k r a i in
    let from : 32700 ≤ place_of_day (day_of h) = leb-true 32700 _ (sym (day_from 32700 (day_of h) (lit< tt) (lit≤ tt)) ∙ y.0) in
    let to : place_of_day (day_of h) ≤ 61371 = leb-true _ 61371 (sym (day_to 61371 (day_of h) (lit< tt)) ∙ z.0) in
    let under : micro_of h < 86400000000 = ltb-true (micro_of h) 86400000000 z.1 in
    let n = micros_from Proteus.epoch (day_of h) (micro_of h) in
    let u : n < 2477260800000000 = omega arith in
    let b = Proteus.h3_of (mark_of h) in
    let f = Proteus.fields_at b n in
    let m : Proteus.micros_of f ≤ n = rw (weeks n) (seconds_not_later n) in
    let g : Answers (FP.reading s) f = proteus_forth f out s (omega arith, omega arith, fraction_lt n) (next (proteus_limits b n u) (next d last)) in
    let l : 32700 + n / 86400000000 ≤ 76524 = omega arith in
    subst (λ (v : Bool). LastNotLater Proteus.read (M.Proteus v) h s) (proteus_h3 s f g)
    (last_time S.Utc 32700 Proteus.micros_of h n k (ap (λ (x : Scale). count_on x h) (sym k) ∙ omega arith) (lit≤ tt) l (λ t. M.Proteus (FP.fields_of t).h3) FP.reading (λ t. refl)
    s f g m (proteus_best n b))

pub proteus_last : (h : Handed) (out : List ℕ) → Real h → (Proteus.write h out).number ≡ 0 →
    LastNotLater Proteus.read (M.Proteus (Proteus.h3_of (mark_of h))) h (image (Proteus.write h out))
unfolding Proteus.write
proteus_last h out r e = of_image (LastNotLater Proteus.read (h3_mark h) h) out (Proteus.writing h out) refl (λ s a. proteus_of h out s r a) e

-- a record that is marked so keeps its mark
pub proteus_kept_lem : (r : Record) (b : Bool) (out : List ℕ) → r.mark ≡ M.Proteus b → (Proteus.write (H.Record r) out).number ≡ 0 →
    (Proteus.read (image (Proteus.write (H.Record r) out))).mark ≡ r.mark
proteus_kept_lem r b out m e = (proteus_last (H.Record r) out (lit≤ tt) e).marked ∙ ap (λ (x : Mark). M.Proteus (Proteus.h3_of x)) m ∙ sym m

-- ---- CryoSat and SIRAL: the time itself
module _ {A : Type 0} (micros_of : A → ℕ) (h : Handed) (r : Real h) (a : is_finite h ≡ true) (b : is_in_span h ≡ true) (c : Cryosat.has_image (scale_of h) (day_of h) ≡ true) where
  tests : (same_scale S.Tai (scale_of h) ≡ true) × (le_z (pos 0) (day_of h) ≡ true)
  tests = and_both (same_scale S.Tai (scale_of h)) (le_z (pos 0) (day_of h)) c

  tai : S.Tai ≡ scale_of h
  tai = same_scale_lem S.Tai (scale_of h) tests.0

  place : Placed S.Tai (day_of h) (micro_of h)
  place = place_of S.Tai h tai r a b

  from_zero_lem : 40000 ≤ place_of_day (day_of h)
  from_zero_lem = leb-true 40000 _ (sym (day_from 40000 (day_of h) (lit< tt) (lit≤ tt)) ∙ tests.1)

  pub days_below : micros_from (pos 0) (day_of h) (micro_of h) < 3155760000000000
  days_below = omega (arith, from_zero_lem, place.to, place.under)

  pub whole_time : (j : Judged A) (f : A) → Answers j f → micros_of f ≡ micros_from (pos 0) (day_of h) (micro_of h) → read_of S.Tai 40000 micros_of M.Plain j ≡
      dated (scale_of h) (answer (record { day = day_of h; micro = micro_of h }))
  whole_time j f g e =
      let t = days_below in
      let i = in_from S.Tai 40000 micros_of f (lit≤ tt) (omega arith) in
      reads S.Tai 40000 micros_of M.Plain g i
      ∙ ap (λ (x : ℕ). dated S.Tai (answer (moment_from (pos 0) x))) e
      ∙ ap₂ (λ (x : Scale) (m : Moment). dated x (answer m)) tai
      (moment_micros 40000 (day_of h) (micro_of h) from_zero_lem (omega (arith, from_zero_lem)) (omega (arith, place.to)) place.under)

whole : (n : ℕ) → n / 86400000000 * 86400000000 + n % 86400000000 / 1000 * 1000 + n % 1000 ≡ n
whole n = omega arith

cryosat_of : (h : Handed) (out s : List ℕ) → Real h → Answers (Cryosat.writing h out) s → SameTime Cryosat.read h s
unfolding Cryosat.read
cryosat_of h out s r (next a (next b (next c (next d last)))) =
    let n = micros_from (pos 0) (day_of h) (micro_of h) in
    let u = days_below Cryosat.micros_of h r a b c in
    whole_time Cryosat.micros_of h r a b c (FY.reading s) (Cryosat.fields_at n)
    (cryosat_forth (Cryosat.fields_at n) out s (omega arith, omega arith, omega arith) (next (cryosat_limits n) (next d last))) (whole n)

pub cryosat_same : (h : Handed) (out : List ℕ) → Real h → (Cryosat.write h out).number ≡ 0 → SameTime Cryosat.read h (image (Cryosat.write h out))
unfolding Cryosat.write
cryosat_same h out r e = of_image (SameTime Cryosat.read h) out (Cryosat.writing h out) refl (λ s a. cryosat_of h out s r a) e

siral_of : (h : Handed) (out s : List ℕ) → Real h → Answers (Siral.writing h out) s → SameTime Siral.read h s
unfolding Siral.read
siral_of h out s r (next a (next b (next c (next d last)))) =
    let n = micros_from (pos 0) (day_of h) (micro_of h) in
    let u = days_below Siral.micros_of h r a b c in
    whole_time Siral.micros_of h r a b c (FR.reading s) (Siral.fields_at n)
    (siral_forth (Siral.fields_at n) out s (omega arith, omega arith, omega arith, lit< tt) (next (cryosat_limits n) (next d last)))
    (no_extra (n / 86400000000 * 86400000000 + n % 86400000000 / 1000 * 1000 + n % 1000) ∙ whole n)
  where
    no_extra : (n : ℕ) → (n * 16 + 0 * 33) / 16 ≡ n
    no_extra n = omega arith

pub siral_same : (h : Handed) (out : List ℕ) → Real h → (Siral.write h out).number ≡ 0 → SameTime Siral.read h (image (Siral.write h out))
unfolding Siral.write
siral_same h out r e = of_image (SameTime Siral.read h) out (Siral.writing h out) refl (λ s a. siral_of h out s r a) e

-- the time itself is the last that is not later
pub same_is_last : (read : List ℕ → Slip) (h : Handed) (s : List ℕ) → SameTime read h s → LastNotLater read M.Plain h s
same_is_last read h s e =
    let p = ap place_at e in
    record {
      answered = ap (λ (x : Slip). x.number) e;
      scale = ap (λ (x : Slip). x.scale) e;
      not_later = omega arith;
      last = λ t b x y. omega arith;
      marked = ap (λ (x : Slip). x.mark) e;
    }
