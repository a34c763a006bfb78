-- Packets whose three fields are the first's: the pass compares eight bytes, limits are judged once, and dates are told by the totals.
-- Assumes nothing.
use Rattle.std.specs.Prelude.{◌≡◌, refl, Bool, true, false, cond, ◌&&◌, List, [], ◌∷◌, map, ℕ, zero, suc, ◌+◌, ◌*◌, ◌/◌, ◌≤◌, ◌<◌, eqb, leb, ℤ, length, take, drop, Option, Some, None}
use Rattle.std.proofs.Common.{sym, ap, ap₂, ◌∙◌, arith, length-drop, eqb-true, eq-eqb, ne_eqb}
use Rattle.std.proofs.lemmas.Bool.{false≢true}
use Rattle.std.proofs.Math.Bool.{and-true, and-false}
use Rattle.axis.specs.Meaning.{held_micros_at}
use Rattle.octets.specs.Meaning.{part}
use Rattle.octets.specs.Field.{Bytes, bytes_drop}
use Rattle.octets.specs.Parts.{part_lt, part_two, part_take}
use Rattle.scales.specs.Place.{and_both}
use Rattle.layout_fields.specs.Cryosat.{in_limits}
use Rattle.layout_fields.specs.Siral.{fields_of}
use Rattle.layout_fields.specs.declared.siral.Fields.{Fields}
use Rattle.layout_times.specs.Siral.{sixteenths}
use Rattle.runs.specs.Meaning.{packets_in, all, ahead, totals, last_of, is_in_limits, alike, most, date_of, dates_of}
use Rattle.runs.specs.Passes.{unroll_from, last_from, dates_from}

-- ---- the three fields in one number, and the first ten bytes
abbrev pub front_of : Fields → ℕ
front_of f = (f.day * 4294967296 + f.millisecond) * 65536 + f.microsecond

module _ (s : List ℕ) where
  extra_of : (fields_of (take 10 s)).extra ≡ part s 8 2
  extra_of = part_take s 8 2 10 (omega arith)

  pub front_of_lem : 10 ≤ length s → part s 0 8 ≡ front_of (fields_of (take 10 s))
  front_of_lem h =
      rw (part_take s 0 2 10 (omega arith), part_take s 2 4 10 (omega arith), part_take s 6 2 10 (omega arith))
      (part_two s 0 2 6 (omega arith) ∙ ap (λ (x : ℕ). part s 0 2 * 281474976710656 + x) (part_two s 2 4 2 (omega arith)) ∙ omega arith)

-- what its three fields hold
pub record Within (f : Fields) : Type 0 where
  pub day : f.day < 65536
  pub milli : f.millisecond < 4294967296
  pub micro : f.microsecond < 65536

pub within : (s : List ℕ) → Bytes s → 10 ≤ length s → Within (fields_of (take 10 s))
within s b h =
    rw (part_take s 0 2 10 (omega arith), part_take s 2 4 10 (omega arith), part_take s 6 2 10 (omega arith))
    (record { day = part_lt s 0 2 (omega arith) b; milli = part_lt s 2 4 (omega arith) b; micro = part_lt s 6 2 (omega arith) b })

-- ---- two packets have the same number in front exactly where they are alike
module _ (f g : Fields) where
  pub record Same : Type 0 where
    pub day : f.day ≡ g.day
    pub milli : f.millisecond ≡ g.millisecond
    pub micro : f.microsecond ≡ g.microsecond

  pub same : alike f g ≡ true → Same
  same e =
      let x = and_both (eqb f.day g.day) (eqb f.millisecond g.millisecond && eqb f.microsecond g.microsecond) e in
      let y = and_both (eqb f.millisecond g.millisecond) (eqb f.microsecond g.microsecond) x.1 in
      record { day = eqb-true _ _ x.0; milli = eqb-true _ _ y.0; micro = eqb-true _ _ y.1 }

  module _ (v : Within f) (w : Within g) where
    alike_by : front_of g ≡ front_of f → alike f g ≡ true
    alike_by q =
        rw (
          eq-eqb f.day g.day (omega (arith, v.milli, v.micro, w.milli, w.micro)),
          eq-eqb f.millisecond g.millisecond (omega (arith, v.milli, v.micro, w.milli, w.micro)),
          eq-eqb f.microsecond g.microsecond (omega (arith, v.micro, w.micro)),
        )

    front_same : eqb (front_of g) (front_of f) ≡ alike f g
    front_same = go (alike f g) refl
      where
        go : (b : Bool) → alike f g ≡ b → eqb (front_of g) (front_of f) ≡ alike f g
        go true e = let q = same e in eq-eqb (front_of g) (front_of f) (omega (arith, q.day, q.milli, q.micro)) ∙ sym e
        go false e = ne_eqb (front_of g) (front_of f) (λ q. false≢true (sym e ∙ alike_by q)) ∙ sym e

-- ---- the passes, by the packets
abbrev fronts : ℕ → List Fields → Bool
fronts front fs = all (λ (f : Fields). eqb (front_of f) front) fs

abbrev not_above : List ℕ → Bool
not_above ts = all (λ (t : ℕ). leb t most) ts

pub unroll_is : (n front t : ℕ) (s : List ℕ) → 10 * n ≤ length s →
    unroll_from n front t s ≡ cond (fronts front (packets_in n s) && not_above (totals t (packets_in n s))) (Some (last_of t (totals t (packets_in n s)))) None
unroll_is zero front t s h = refl
unroll_is (suc n) front t s h =
    let f = fields_of (take 10 s) in
    let u = ahead t f.extra in
    let r = packets_in n (drop 10 s) in
    ap₂ (λ (x y : ℕ). cond (eqb x front) (cond (leb (ahead t y) most) (unroll_from n front (ahead t y) (drop 10 s)) None) None) (front_of_lem s (omega arith)) (sym (extra_of s))
    ∙ ap (λ (v : Option ℕ). cond (eqb (front_of f) front) (cond (leb u most) v None) None) (unroll_is n front u (drop 10 s) (omega (arith, length-drop 10 s)))
    ∙ go (eqb (front_of f) front) (leb u most) (fronts front r) (not_above (totals u r)) (Some (last_of u (totals u r)))
  where
    go : (a b c d : Bool) (v : Option ℕ) → cond a (cond b (cond (c && d) v None) None) None ≡ cond ((a && c) && (b && d)) v None
    go true true c d v = refl
    go true false c d v = rw (and-false c)
    go false b c d v = refl

pub last_is : (n t : ℕ) (s : List ℕ) → last_from n t s ≡ last_of t (totals t (packets_in n s))
last_is zero t s = refl
last_is (suc n) t s =
    ap (λ (x : ℕ). last_from n (ahead t x) (drop 10 s)) (sym (extra_of s)) ∙ last_is n (ahead t (fields_of (take 10 s)).extra) (drop 10 s)

pub dates_are : (n from t : ℕ) (s : List ℕ) → dates_from n from t s ≡ map (λ (x : ℕ). held_micros_at (from + x * 33 / 16)) (totals t (packets_in n s))
dates_are zero from t s = refl
dates_are (suc n) from t s =
    ap (λ (x : ℕ). held_micros_at (from + ahead t x * 33 / 16) ∷ dates_from n from (ahead t x) (drop 10 s)) (sym (extra_of s))
    ∙ ap (λ (l : List ℤ). held_micros_at (from + ahead t (fields_of (take 10 s)).extra * 33 / 16) ∷ l)
    (dates_are n from (ahead t (fields_of (take 10 s)).extra) (drop 10 s))

-- ---- alike the first
pub fronts_alike : (f : Fields) → Within f → (n : ℕ) (s : List ℕ) → Bytes s → 10 * n ≤ length s → fronts (front_of f) (packets_in n s) ≡ all (alike f) (packets_in n s)
fronts_alike f v zero s b h = refl
fronts_alike f v (suc n) s b h =
    ap₂ ◌&&◌ (front_same f (fields_of (take 10 s)) v (within s b (omega arith)))
    (fronts_alike f v n (drop 10 s) (bytes_drop 10 b) (omega (arith, length-drop 10 s)))

module _ (f : Fields) where
  limits_same : (g : Fields) → alike f g ≡ true → is_in_limits g ≡ is_in_limits f
  limits_same g e = let q = same f g e in ap₂ in_limits (sym q.milli) (sym q.micro)

  date_same : (g : Fields) (t : ℕ) → alike f g ≡ true → date_of g t ≡ date_of f t
  date_same g t e =
      let q = same f g e in
      ap₂ (λ (d : ℕ) (m : ℕ). sixteenths d m g.microsecond t / 16) (sym q.day) (sym q.milli)
      ∙ ap (λ (u : ℕ). sixteenths f.day f.millisecond u t / 16) (sym q.micro)

  pub limits_alike : (gs : List Fields) → all (alike f) gs ≡ true → (is_in_limits f && all is_in_limits gs) ≡ is_in_limits f
  limits_alike [] e = and-true (is_in_limits f)
  limits_alike (g ∷ gs) e =
      let q = and_both (alike f g) (all (alike f) gs) e in
      ap (λ (b : Bool). is_in_limits f && (b && all is_in_limits gs)) (limits_same g q.0) ∙ go (is_in_limits f) (limits_alike gs q.1)
    where
      go : (b : Bool) → (b && all is_in_limits gs) ≡ b → (b && (b && all is_in_limits gs)) ≡ b
      go true k = k
      go false k = refl

  pub dates_alike : (gs : List Fields) (t : ℕ) → all (alike f) gs ≡ true → dates_of gs (totals t gs) ≡ map (date_of f) (totals t gs)
  dates_alike [] t e = refl
  dates_alike (g ∷ gs) t e =
      let q = and_both (alike f g) (all (alike f) gs) e in
      ap₂ ◌∷◌ (date_same g (ahead t g.extra) q.0) (dates_alike gs (ahead t g.extra) q.1)
