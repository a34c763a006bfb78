-- Numbers that stand in a chain and never come. Assumes nothing.
use Rattle.std.specs.Prelude.{◌≡◌, refl, Bool, true, false, not, ◌||◌, List, [], ◌∷◌, ℕ, ◌+◌, ◌*◌, ◌/◌, ◌<◌, ◌≤◌, eqb, leb, ℤ, ◌+ℤ◌, length, drop}
use Rattle.std.proofs.Common.{sym, ap, subst, ◌∙◌, true≢false, arith, lit≤, eqb-true, leb-true}
use Rattle.std.proofs.lemmas.Bool.{false≢true, not-true}
use Rattle.axis.specs.Meaning.{place_of_day, Moment, since}
use Rattle.octets.specs.Field.{Bytes}
use Rattle.scales.specs.Meaning.{in_span, Judged, given, gives, Outcome, refused, answer, outcome, dated_as, order, moment_at, resulting}
use Rattle.scales.specs.Place.{first_at, apart, in_span_lem, placed}
use Rattle.scales.specs.declared.Scale.{Scale}
use Rattle.scales.specs.declared.Scale.TheVariants as S
use Rattle.scales.specs.declared.Mark.{Mark}
use Rattle.scales.specs.declared.Mark.TheVariants as M
use Rattle.handed.specs.declared.Handed.{Handed}
use Rattle.handed.specs.Meaning.{scale_of, mark_of, is_finite, is_in_span, day_of, micro_of, moment_in}
use Rattle.handed.specs.Told.{loose}
use Rattle.leap.specs.Meaning.{seconds, accepted, is_expired_tai, utc_of, published_days, published_offsets, published_last}
use Rattle.leap.specs.Published.{published}
use Rattle.leap_laws.proofs.Never.{gps_known}
use Rattle.via_tai.specs.Meaning.{to_utc}
use Rattle.changes.specs.Meaning.{with_list, gps_in_utc, gps_to_utc, change_uses_list, moving, changing, change_of}
use Rattle.changes.specs.Asked.{list_passes}
use Rattle.octets.specs.Meaning.{part}
use Rattle.octets.specs.Parts.{part_lt}
use Rattle.layout_fields.specs.Proteus as ProteusFields
use Rattle.layout_times.specs.Meaning.{rounding, fraction_micros, moment_from, judged}
use Rattle.layout_times.specs.Fraction.{below_second}
use Rattle.layout_times.specs.Days.{place_is}
use Rattle.layout_times.specs.Proteus as Proteus
use Rattle.text_read.specs.Meaning.{scale_in}
use Rattle.lines.specs.Meaning.{line_dating}
use Rattle.lines_laws.specs.First.{line_judging, line_outcome}
use Rattle.c_api.specs.Meaning.{time_out}
use Rattle.promises.specs.Meaning.{applies}
use Rattle.promises.specs.First.{number_in, given_applies, exactly}
use Rattle.promises.specs.Conditions as C
use Rattle.promises.specs.Rows as Rows
use Rattle.promises.specs.One.{change}

-- a test that holds wherever those before it do: its number does not come
module _ {A : Type 0} where
  behind : (n : ℕ) (b : Bool) (m : ℕ) (rest : Judged A) → (m ≡ n → ⊥) → (b ≡ true → number_in (outcome rest) ≡ n → ⊥) → number_in (outcome (given b m rest)) ≡ n → ⊥
  behind n true m rest d w = w refl
  behind n false m rest d w = d

  at_last : (n : ℕ) (b : Bool) (a : A) → (0 ≡ n → ⊥) → b ≡ true → number_in (outcome (given b n (gives a))) ≡ n → ⊥
  at_last n b a z e = rw e z

-- ---- Proteus 7: 4,096 weeks from day -7300 end with day 21371
weeks_inside : (s : List ℕ) → Bytes s → length s ≡ 8 → part s 2 4 ≤ 604799
    → let m = moment_from Proteus.epoch (Proteus.micros_of (ProteusFields.fields_of s)) in in_span S.Utc m.day m.micro ≡ true
weeks_inside s b l k =
    let f = ProteusFields.fields_of s in
    let n = Proteus.micros_of f in
    let h : part s 0 2 < 65536 = part_lt s 0 2 (omega (arith, l)) b in
    let g : part s 6 2 < 65536 = part_lt s 6 2 (omega (arith, l)) b in
    let u : fraction_micros f.fraction < 1000000 = below_second rounding 16 (part s 6 2) (lit≤ tt) g in
    let t = top (part s 0 2) (part s 2 4) (fraction_micros f.fraction) h k u in
    let q = place_is 32700 n (omega (arith, t)) in
    in_span_lem S.Utc (moment_from Proteus.epoch n).day (moment_from Proteus.epoch n).micro (record { from = omega (arith, q); to = omega (arith, q, t); under = omega arith })
  where
    top : (head second micros : ℕ) → head < 65536 → second ≤ 604799 → micros < 1000000 → ((head / 16 * 604800 + second) * 1000000 + micros) / 86400000000 < 28672
    top head second micros h k u = omega arith

pub proteus_read_never_7 : (s : List ℕ) → Bytes s → (time_out (Proteus.read s)).refusal ≡ 7 → ⊥
unfolding Proteus.read
proteus_read_never_7 s b q =
    let f = ProteusFields.fields_of s in
    let m = moment_from Proteus.epoch (Proteus.micros_of f) in
    let last = judged S.Utc m in
    behind 7 (eqb (length s) 8) 1 (given (eqb (ProteusFields.zeros_in (part s 0 2)) 0) 2 (given (leb (part s 2 4) 604799) 3 last)) (λ z. omega arith) (λ l.
    behind 7 (eqb (ProteusFields.zeros_in (part s 0 2)) 0) 2 (given (leb (part s 2 4) 604799) 3 last) (λ z. omega arith) (λ y.
    behind 7 (leb (part s 2 4) 604799) 3 last (λ z. omega arith) (λ k.
    at_last 7 (in_span S.Utc m.day m.micro) m (λ z. omega arith) (weeks_inside s b (eqb-true (length s) 8 l) (leb-true (part s 2 4) 604799 k)))))
    (sym (numbered (outcome (Proteus.reading s))) ∙ q)
  where
    numbered : (o : Outcome Moment) → (time_out (dated_as (M.Proteus (ProteusFields.fields_of s).h3) S.Utc o)).refusal ≡ number_in o
    numbered (refused n) = refl
    numbered (answer t) = refl

-- ---- GPS to UTC 11: the GPS span begins after the first step, and what is not expired ends before the UTC span does
module _ (ds : List ℤ) (os : List ℕ) (e : ℤ) where
  moving_never : (d : ℤ) (u : ℕ) (inside : Bool) → (inside ≡ true → (32700 ≤ place_of_day d) × (place_of_day d < 100000)) → accepted ds os e ≡ true
      → number_in (outcome (moving S.Gps S.Utc ds os e inside (record { day = d; micro = u }))) ≡ 11 → ⊥
  moving_never d u inside p w =
      let c = since d u +ℤ seconds 19 in
      let m = utc_of ds os c in
      behind 11 inside 7 (to_utc ds os e c) (λ z. omega arith) (λ i.
      behind 11 (not (is_expired_tai ds os e c)) 9 (resulting S.Utc m) (λ z. omega arith) (λ x.
      at_last 11 (in_span S.Utc m.day m.micro) m (λ z. omega arith) (gps_known ds os e w d u (p i).0 (p i).1 (not-true (is_expired_tai ds os e c) x))))

  number_is : (m : Mark) (s : Scale) (o : Outcome Moment) → (dated_as m s o).number ≡ number_in o
  number_is m s (refused n) = refl
  number_is m s (answer t) = refl

  pub gps_to_utc_never_11 : (n : ℕ) → (gps_to_utc n ds os e).number ≡ 11 → ⊥
  unfolding gps_to_utc
  gps_to_utc_never_11 n q =
      let m = moment_at S.Gps n in
      behind 11 (accepted ds os e) 5 (gps_in_utc ds os e n) (λ z. omega arith)
      (moving_never m.day m.micro (in_span S.Gps m.day m.micro) (λ i. let w = placed S.Gps m.day m.micro i in (w.from, omega (arith, w.to, (apart S.Gps).to))))
      (sym (number_is M.Plain S.Utc (outcome (with_list ds os e (gps_in_utc ds os e n)))) ∙ q)

  pub handed_gps_to_utc_never_11 : (h : Handed) → scale_of h ≡ S.Gps → (change_of h S.Utc ds os e).number ≡ 11 → ⊥
  unfolding change_of
  handed_gps_to_utc_never_11 h g q =
      behind 11 (is_finite h) 4 (from (scale_of h)) (λ z. omega arith) (λ f r. gps f (ap (λ (s : Scale). number_in (outcome (from s))) (sym g) ∙ r)) (sym (number_is (mark_of h) S.Utc (outcome (changing h S.Utc ds os e))) ∙ q)
    where
      from : Scale → Judged Moment
      from s = given (not (change_uses_list s S.Utc) || accepted ds os e) 5 (moving s S.Utc ds os e (is_in_span h) (moment_in h))

      gps : is_finite h ≡ true → number_in (outcome (from S.Gps)) ≡ 11 → ⊥
      gps f =
          behind 11 (accepted ds os e) 5 (moving S.Gps S.Utc ds os e (is_in_span h) (moment_in h)) (λ z. omega arith)
          (moving_never (day_of h) (micro_of h) (is_in_span h) (λ i. let w = loose h f i in (subst (λ (s : Scale). first_at s ≤ place_of_day (day_of h)) g w.from, omega (arith, w.to))))

-- ---- 5 where no list is used: "leap list not accepted, where one is used"
pub without_list_never_5 : (h : Handed) (to : Scale) (ds : List ℤ) (os : List ℕ) (e : ℤ) → change_uses_list (scale_of h) to ≡ false → (change_of h to ds os e).number ≡ 5 → ⊥
without_list_never_5 h to ds os e u q = absurd (go (scale_of h) to u ((exactly (change h to ds os e) (1 ∷ 2 ∷ 3 ∷ 14 ∷ 16 ∷ 4 ∷ []) (drop 7 order) 5 refl).0 q).1)
  where
    go : (s to : Scale) → change_uses_list s to ≡ false
        → applies ((4, C.decimal_not_finite h) ∷ (5, C.list_not_accepted (change_uses_list s to) ds os e) ∷ Rows.moving s to ds os e (C.time_outside h) (moment_in h)) 5 ≡ true → ⊥
    go S.Tai S.Tai u k = false≢true k
    go S.Tai S.Gps u k = false≢true k
    go S.Gps S.Tai u k = false≢true k
    go S.Gps S.Gps u k = false≢true k
    go S.Tai S.Utc u k = true≢false u
    go S.Gps S.Utc u k = true≢false u
    go S.Utc to u k = true≢false u

-- ---- 5 of the line program: the published list is accepted
pub line_never_5 : (s : List ℕ) → outcome (line_dating published_days published_offsets published_last s) ≡ refused 5 → ⊥
line_never_5 s q =
    let j = line_judging published_days published_offsets published_last s in
    let k = given_applies 5 j (λ z. omega arith) (ap number_in (line_outcome published_days published_offsets published_last s ∙ q)) in
    false≢true (rw (list_passes published_days published_offsets published_last (scale_in s) (λ u. published)) at k)
