-- What `judge` finds is what the meaning's tests come to: all of the limits, of one second, and of the span. Assumes nothing.
use Rattle.std.specs.Prelude.{◌≡◌, refl, Bool, true, false, cond, ◌&&◌, List, [], ◌∷◌, map, ℕ, zero, suc, ◌+◌, ◌*◌, ◌/◌, ◌%◌, ◌≤◌, ◌<◌, leb, ltb, eqb, ℤ, length, take, drop, Result, Ok, Err, Option, Some, None}
use Rattle.std.proofs.Common.{sym, ap, ap₂, ◌∙◌, arith, ltb-true, leb-true, lt-ltb, le-ltb, le-leb, eq-eqb}
use Rattle.std.proofs.Math.Bool.{and-false}
use Rattle.std.proofs.lemmas.Bool.{lt-leb}
use Rattle.axis.specs.Meaning.{day_at}
use Rattle.axis.specs.Diff.{Way, way, below, above}
use Rattle.octets.specs.Meaning.{part}
use Rattle.octets.specs.Field.{Bytes}
use Rattle.scales.specs.declared.Refusal.{Refusal}
use Rattle.scales.specs.Meaning.{in_span}
use Rattle.scales.specs.Place.{and_both, span_in, span_late}
use Rattle.scales.specs.declared.Scale.TheVariants as S
use Rattle.scales.specs.declared.Refusal.TheVariants as R
use Rattle.layout_fields.specs.Siral.{fields_of}
use Rattle.layout_fields.specs.declared.siral.Fields.{Fields}
use Rattle.layout_times.specs.Days.{day_is}
use Rattle.runs.specs.Meaning.{packets_in, all, extras, totals, last_of, is_in_limits, alike, are_alike, most, is_one_second, date_of, dates_of, is_in_span}
use Rattle.runs.specs.Passes.{unrolled_in, limits_in, place_of, second_by, second_of}
use Rattle.runs.specs.Totals.{last_up, last_decides}
use Rattle.runs.specs.Alike.{front_of, front_of_lem, within, unroll_is, fronts_alike, limits_alike, dates_alike}
use Rattle.runs.specs.declared.Second.{Second}

-- ---- of each
module _ {A : Type 0} where
  all_same : (p q : A → Bool) → ((x : A) → p x ≡ q x) → (xs : List A) → all p xs ≡ all q xs
  all_same p q e [] = refl
  all_same p q e (x ∷ xs) = ap₂ ◌&&◌ (e x) (all_same p q e xs)

  all_map : {B : Type 0} (p : B → Bool) (f : A → B) (xs : List A) → all p (map f xs) ≡ all (λ (x : A). p (f x)) xs
  all_map p f [] = refl
  all_map p f (x ∷ xs) = ap (λ (b : Bool). p (f x) && b) (all_map p f xs)

-- ---- a date is in the span where it is before day 36525
abbrev pub before : Fields → ℕ → Bool
before f t = ltb (place_of f + t * 33 / 16) 6611760000000000

span_date : (n : ℕ) → is_in_span n ≡ ltb n 3155760000000000
span_date n = ap (λ (d : ℤ). in_span S.Tai d (n % 86400000000)) (day_is 40000 n) ∙ go (way n 3155760000000000)
  where
    go : Way n 3155760000000000 → in_span S.Tai (day_at (40000 + n / 86400000000)) (n % 86400000000) ≡ ltb n 3155760000000000
    go (below h) =
        span_in S.Tai (40000 + n / 86400000000) (n % 86400000000) (omega arith) (omega arith) (omega arith) ∙ sym (lt-ltb n 3155760000000000 h)
    go (above h) = span_late S.Tai (40000 + n / 86400000000) (n % 86400000000) (omega arith) ∙ sym (le-ltb n 3155760000000000 h)

pub date_is : (f : Fields) (t : ℕ) → place_of f + t * 33 / 16 ≡ 3456000000000000 + date_of f t
date_is f t = omega arith

pub in_span_by : (f : Fields) (t : ℕ) → is_in_span (date_of f t) ≡ before f t
in_span_by f t = span_date (date_of f t) ∙ go (way (date_of f t) 3155760000000000)
  where
    go : Way (date_of f t) 3155760000000000 → ltb (date_of f t) 3155760000000000 ≡ before f t
    go (below h) = lt-ltb _ 3155760000000000 h ∙ sym (lt-ltb (place_of f + t * 33 / 16) 6611760000000000 (omega (arith, date_is f t)))
    go (above h) = le-ltb _ 3155760000000000 h ∙ sym (le-ltb (place_of f + t * 33 / 16) 6611760000000000 (omega (arith, date_is f t)))

before_down : (f : Fields) (a b : ℕ) → a ≤ b → before f b ≡ true → before f a ≡ true
before_down f a b h e =
    let k : place_of f + b * 33 / 16 < 6611760000000000 = ltb-true _ 6611760000000000 e in
    lt-ltb (place_of f + a * 33 / 16) 6611760000000000 (omega arith)

most_down : (a b : ℕ) → a ≤ b → leb b most ≡ true → leb a most ≡ true
most_down a b h e = let k : b ≤ 484848 = leb-true b 484848 e in le-leb a 484848 (omega arith)

-- ---- the verdict, by the meaning's three tests
abbrev pub verdict : ℕ → ℕ → Bool → Bool → Bool → Result Second Refusal
verdict place last limits one spans =
    cond limits (cond one (cond spans (Ok (record { from = place; last = last })) (Err R.OutsideSpan)) (Err R.NotOneSecond)) (Err R.FieldOver)

alike_self : (f : Fields) → alike f f ≡ true
alike_self f = rw (eq-eqb f.day f.day refl, eq-eqb f.millisecond f.millisecond refl, eq-eqb f.microsecond f.microsecond refl)

-- so all are alike the first, and it itself
pub alike_all : (f : Fields) (gs : List Fields) → are_alike (f ∷ gs) ≡ true → all (alike f) (f ∷ gs) ≡ true
alike_all f gs e = rw (alike_self f, e)

pub all_alike : (n : ℕ) (s : List ℕ) → are_alike (packets_in n s) ≡ true → all (alike (fields_of (take 10 s))) (packets_in n s) ≡ true
all_alike zero s e = refl
all_alike (suc n) s e = alike_all (fields_of (take 10 s)) (packets_in n (drop 10 s)) e

-- the span of packets that are alike
pub spans_are : (f : Fields) (gs : List Fields) (told : ℕ) → all (alike f) gs ≡ true →
    all is_in_span (dates_of gs (totals told gs)) ≡ all (before f) (totals told gs)
spans_are f gs told e =
    ap (all is_in_span) (dates_alike f gs told e)
    ∙ all_map is_in_span (date_of f) (totals told gs)
    ∙ all_same (λ (t : ℕ). is_in_span (date_of f t)) (before f) (in_span_by f) (totals told gs)

module _ (f : Fields) (gs : List Fields) (told : ℕ) where
  span_last : all (alike f) gs ≡ true → all is_in_span (dates_of (f ∷ gs) (totals told (f ∷ gs))) ≡ before f (last_of told (totals told (f ∷ gs)))
  span_last e = spans_are f (f ∷ gs) told (alike_all f gs e) ∙ last_decides (before f) (before_down f) told f.extra (extras gs)

  most_last : all (λ (t : ℕ). leb t most) (totals told (f ∷ gs)) ≡ leb (last_of told (totals told (f ∷ gs))) most
  most_last = last_decides (λ (t : ℕ). leb t most) most_down told f.extra (extras gs)

  -- the verdict, by what the pass came to
  judged : (b : Bool) → is_one_second told (f ∷ gs) ≡ b → second_by f (all is_in_limits (f ∷ gs)) (cond b (Some (last_of told (totals told (f ∷ gs)))) None) ≡
      verdict (place_of f) (last_of told (totals told (f ∷ gs))) (all is_in_limits (f ∷ gs)) (is_one_second told (f ∷ gs)) (all is_in_span (dates_of (f ∷ gs) (totals told (f ∷ gs))))
  judged false e = rw e
  judged true e =
      let q = and_both (all (alike f) gs) (all (λ (t : ℕ). leb t most) (totals told (f ∷ gs))) e in
      rw (e, span_last q.0, limits_alike f gs q.0)

  -- a told count above the most is below none of the totals
  told_over : most < told → all (λ (t : ℕ). leb t most) (totals told (f ∷ gs)) ≡ false
  told_over h = most_last ∙ lt-leb (last_of told (totals told (f ∷ gs))) 484848 (omega (arith, last_up told (extras (f ∷ gs))))

-- of one second: its last total is not above the most
pub last_most : (n : ℕ) (s : List ℕ) (told : ℕ) → 0 < n → all (λ (t : ℕ). leb t most) (totals told (packets_in n s)) ≡ true →
    last_of told (totals told (packets_in n s)) ≤ 484848
last_most zero s told z e = absurd (omega arith)
last_most (suc n) s told z e = leb-true _ 484848 (sym (most_last (fields_of (take 10 s)) (packets_in n (drop 10 s)) told) ∙ e)

pub second_is : (n : ℕ) (s : List ℕ) (told : ℕ) → Bytes s → 0 < n → 10 * n ≤ length s → let fs = packets_in n s in
    second_of n s told ≡ verdict (place_of (fields_of (take 10 s))) (last_of told (totals told fs)) (all is_in_limits fs) (is_one_second told fs) (all is_in_span (dates_of fs (totals told fs)))
second_is zero s told b z h = absurd (omega arith)
second_is (suc m) s told b z h =
    ap (second_by (fields_of (take 10 s)) (limits_in (suc m) s)) (go (way most told))
    ∙ judged (fields_of (take 10 s)) (packets_in m (drop 10 s)) told (is_one_second told (packets_in (suc m) s)) refl
  where
    f : Fields
    f = fields_of (take 10 s)

    last : Option ℕ
    last = Some (last_of told (totals told (packets_in (suc m) s)))

    fronts : all (λ (g : Fields). eqb (front_of g) (part s 0 8)) (packets_in (suc m) s) ≡ are_alike (packets_in (suc m) s)
    fronts =
        ap (λ (x : ℕ). all (λ (g : Fields). eqb (front_of g) x) (packets_in (suc m) s)) (front_of_lem s (omega arith))
        ∙ fronts_alike f (within s b (omega arith)) (suc m) s b h
        ∙ ap (λ (x : Bool). x && all (alike f) (packets_in m (drop 10 s))) (alike_self f)

    go : Way most told → unrolled_in (suc m) s told ≡ cond (is_one_second told (packets_in (suc m) s)) last None
    go (below k) =
        rw (lt-leb told 484848 k, told_over f (packets_in m (drop 10 s)) told k, and-false (are_alike (packets_in (suc m) s)))
    go (above k) =
        rw (le-leb told 484848 k)
        (unroll_is (suc m) (part s 0 8) told s h
        ∙ ap (λ (x : Bool). cond (x && all (λ (t : ℕ). leb t most) (totals told (packets_in (suc m) s))) last None) fronts)
