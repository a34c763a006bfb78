-- The meanings of an exact value, with sign and size apart: its span and its nearest microsecond as tests and quotients of naturals, and
-- its day and microsecond by the place on the axis. Assumes nothing.
use Rattle.std.specs.Prelude.{◌≡◌, refl, Bool, true, false, not, ◌&&◌, ℕ, suc, ◌+◌, ◌-◌, ◌*◌, ◌/◌, ◌%◌, ◌≤◌, ◌<◌, leb, ltb, ℤ, pos, neg_ℤ, ◌+ℤ◌, ◌*ℤ◌}
use Rattle.std.proofs.Common.{sym, ap, ◌∙◌, div-lt_iff_lt-mul, arith, lit<, lit≤, lt-ltb, le-ltb, le-leb, ltb-true, leb-true}
use Rattle.std.proofs.Math.Nat.{div-eq_of_lt, add-div_right}
use Rattle.std.proofs.Math.IntN.{sub_ℕ}
use Rattle.std.specs.Int.Signed.{lt_z}
use Rattle.std.proofs.lemmas.Bool.{lt-leb}
use Rattle.axis.specs.Meaning.{place_of_day, day_at, micros_at, floor_z, mod_z, day_micros, Moment, moment_of}
use Rattle.axis.specs.Diff.{is_pos, is_negsuc, neg_pos, sub_eq, sub_mul, sub_add, sub_lt, sub_pos, sub_neg, Way, way, below, above}
use Rattle.axis.specs.Axis.{place_day, moment_at_lem}
use Rattle.scales.specs.Meaning.{first}
use Rattle.scales.specs.Place.{first_at}
use Rattle.scales.specs.declared.Scale.{Scale}
use Rattle.scales.specs.declared.Scale.TheVariants as S
use Rattle.double.specs.Meaning.{signed, Exact, over, under, nearest}
use Rattle.handed.specs.Meaning.{spans, micros_of}
use Rattle.double.proofs.Exact.{under_pos}
use Rattle.handed.specs.Parts.{first_of, half_up, half_down, micros_in, inside, place_in, place_of}

pub double_pos : (c : ℕ) → 0 < c → 0 < c * 2
double_pos c h = omega arith

pub first_in_lem : (s : Scale) → (0 < first_of s) × (first_of s ≤ 36525)
first_in_lem S.Tai = (lit< tt, lit≤ tt)
first_in_lem S.Utc = (lit< tt, lit≤ tt)
first_in_lem S.Gps = (lit< tt, lit≤ tt)

-- ---- sign and size as a difference
abbrev plus : Bool → ℕ → ℕ
plus false n = n
plus true n = 0

abbrev less : Bool → ℕ → ℕ
less false n = 0
less true n = n

signed_is : (s : Bool) (n : ℕ) → signed s n ≡ sub_ℕ (plus s n) (less s n)
signed_is false n = is_pos n
signed_is true n = neg_pos n

first_is : (s : Scale) → first s ≡ sub_ℕ 0 (first_of s)
first_is S.Tai = is_negsuc 10226
first_is S.Utc = is_negsuc 10226
first_is S.Gps = is_negsuc 7299

-- ---- the span
module _ (s : Scale) (a c : ℕ) (C : 0 < c) where
  late : lt_z (signed true a) (pos 36525 *ℤ pos c) ≡ ltb (0 + 0) (36525 * c + a)
  late =
      ap (λ (z : ℤ). lt_z z (pos (36525 * c))) (neg_pos a) ∙ ap (λ (z : ℤ). lt_z (sub_ℕ 0 a) z) (is_pos (36525 * c))
      ∙ sub_lt 0 a (36525 * c) 0

  early : (b : Bool) → lt_z (signed b a) (first s *ℤ pos c) ≡ ltb (plus b a + first_of s * c) (0 * c + less b a)
  early b =
      ap (λ (z : ℤ). lt_z z (first s *ℤ pos c)) (signed_is b a)
      ∙ ap (λ (z : ℤ). lt_z (sub_ℕ (plus b a) (less b a)) z) (ap (λ (z : ℤ). z *ℤ pos c) (first_is s) ∙ sub_mul 0 (first_of s) c)
      ∙ sub_lt (plus b a) (less b a) (0 * c) (first_of s * c)

  in_by : (b : Bool) → not (lt_z (signed b a) (first s *ℤ pos c)) && lt_z (signed b a) (pos 36525 *ℤ pos c) ≡ inside (first_of s) b a c
  in_by false =
      let e : ltb (a + first_of s * c) (0 * c + 0) ≡ false = le-ltb (a + first_of s * c) (0 * c + 0) (omega arith) in
      rw (early false, e)
  in_by true =
      let e : ltb (0 + 0) (36525 * c + a) ≡ true = lt-ltb (0 + 0) (36525 * c + a) (omega arith) in
      rw (early true, late, e) (go (way (first_of s * c) a))
    where
      go : Way (first_of s * c) a → not (ltb (0 + first_of s * c) (0 * c + a)) && true ≡ leb a (first_of s * c)
      go (below h) = rw (lt-ltb (0 + first_of s * c) (0 * c + a) (omega arith)) (sym (lt-leb a (first_of s * c) h))
      go (above h) = rw (le-ltb (0 + first_of s * c) (0 * c + a) (omega arith)) (sym (le-leb a (first_of s * c) h))

pub spans_is : (s : Scale) (v : Exact) → spans s v ≡ inside (first_of s) v.minus (over v) (under v)
spans_is s v = in_by s (over v) (under v) (under_pos v.power) v.minus

-- ---- the nearest microsecond
near_sub : (p q c : ℕ) → nearest (sub_ℕ p q) c ≡ floor_z (sub_ℕ (p * 2 + c) (q * 2 + 0)) (c * 2)
near_sub p q c =
    ap (λ (z : ℤ). floor_z (z +ℤ pos c) (c * 2)) (sub_mul p q 2)
    ∙ ap (λ (z : ℤ). floor_z (sub_ℕ (p * 2) (q * 2) +ℤ z) (c * 2)) (is_pos c)
    ∙ ap (λ (z : ℤ). floor_z z (c * 2)) (sub_add (p * 2) (q * 2) c 0)

near_after : (n c : ℕ) → 0 < c → nearest (sub_ℕ n 0) c ≡ pos (half_up n c)
near_after n c C =
    near_sub n 0 c
    ∙ ap (λ (z : ℤ). floor_z z (c * 2)) (sub_pos (n * 2 + c) (0 * 2 + 0) (omega arith))
    ∙ ap (λ (k : ℕ). pos (k / (c * 2))) (omega arith)

near_before : (n c : ℕ) → 0 < c → nearest (sub_ℕ 0 n) c ≡ neg_ℤ (pos (half_down n c))
near_before n c C = near_sub 0 n c ∙ go (way (0 * 2 + c) (n * 2 + 0))
  where
    go : Way (0 * 2 + c) (n * 2 + 0) → floor_z (sub_ℕ (0 * 2 + c) (n * 2 + 0)) (c * 2) ≡ neg_ℤ (pos (half_down n c))
    go (above h) =
        let d : half_down n c ≡ 0 = div-eq_of_lt {n = n * 2 + (c - 1)} {m = c * 2} (omega arith) in
        rw (sub_pos (0 * 2 + c) (n * 2 + 0) h, d)
        (ap pos (div-eq_of_lt {n = 0 * 2 + c - (n * 2 + 0)} {m = c * 2} (omega arith)))
    go (below h) =
        let w = n * 2 + 0 - suc (0 * 2 + c) in
        let e : n * 2 + (c - 1) ≡ w + c * 2 = omega arith in
        let d : half_down n c ≡ suc (w / (c * 2)) = ap (λ (x : ℕ). x / (c * 2)) e ∙ add-div_right w (omega arith) ∙ omega arith in
        rw (sub_neg (0 * 2 + c) (n * 2 + 0) h, d)

times : (s : Bool) (a m : ℕ) → signed s a *ℤ pos m ≡ sub_ℕ (plus s (a * m)) (less s (a * m))
times s a m = ap (λ (z : ℤ). z *ℤ pos m) (signed_is s a) ∙ sub_mul (plus s a) (less s a) m ∙ go s
  where
    go : (s : Bool) → sub_ℕ (plus s a * m) (less s a * m) ≡ sub_ℕ (plus s (a * m)) (less s (a * m))
    go false = sub_eq (a * m) (0 * m) (a * m) 0 (omega arith)
    go true = sub_eq (0 * m) (a * m) 0 (a * m) (omega arith)

micros_by : (s : Bool) (a c : ℕ) → 0 < c → nearest (signed s a *ℤ pos day_micros) c ≡ signed s (micros_in s a c)
micros_by false a c C = ap (λ (z : ℤ). nearest z c) (times false a day_micros) ∙ near_after (a * day_micros) c C
micros_by true a c C = ap (λ (z : ℤ). nearest z c) (times true a day_micros) ∙ near_before (a * day_micros) c C

micros_is : (v : Exact) → micros_of v ≡ signed v.minus (micros_in v.minus (over v) (under v))
micros_is v = micros_by v.minus (over v) (under v) (under_pos v.power)

-- ---- rounding leaves the span by no more than its ends
pub within : (back : ℕ) (s : Bool) (a c : ℕ) → back ≤ 36525 → 0 < c → inside back s a c ≡ true →
    (40000 * day_micros ≤ place_in s (micros_in s a c) + back * day_micros) × (place_in s (micros_in s a c) ≤ 76525 * day_micros) × (micros_in s a c ≤ 36525 * day_micros)
within back false a c B C e =
    let l : a < 36525 * c = ltb-true a (36525 * c) e in
    let m : micros_in false a c < 36525 * day_micros + 1 = (div-lt_iff_lt-mul (double_pos c C)).1 (omega arith) in
    go (micros_in false a c) m
  where
    go : (n : ℕ) → n < 36525 * day_micros + 1 → (40000 * day_micros ≤ 3456000000000000 + n + back * day_micros) × (3456000000000000 + n ≤ 76525 * day_micros) × (n ≤ 36525 * day_micros)
    go n m = (omega arith, omega arith, omega arith)
within back true a c B C e =
    let l : a ≤ back * c = leb-true a (back * c) e in
    let m : micros_in true a c < back * day_micros + 1 = (div-lt_iff_lt-mul (double_pos c C)).1 (omega arith) in
    go (micros_in true a c) m
  where
    go : (n : ℕ) → n < back * day_micros + 1 → (40000 * day_micros ≤ 3456000000000000 - n + back * day_micros) × (3456000000000000 - n ≤ 76525 * day_micros) × (n ≤ 36525 * day_micros)
    go n m = (omega arith, omega arith, omega arith)

-- ---- the day and the microsecond of day, by the place
at_place : (s : Bool) (n : ℕ) → n ≤ 36525 * day_micros → micros_at (place_in s n) ≡ signed s n
at_place false n h = sub_eq (3456000000000000 + n) 3456000000000000 n 0 (omega arith) ∙ sym (is_pos n)
at_place true n h = sub_eq (3456000000000000 - n) 3456000000000000 0 n (omega arith) ∙ sym (neg_pos n)

firsts : (s : Scale) → first_at s + first_of s ≡ 40000
firsts S.Tai = refl
firsts S.Utc = refl
firsts S.Gps = refl

module _ (s : Scale) (v : Exact) (f : spans s v ≡ true) where
  stays : (40000 * day_micros ≤ place_of v + first_of s * day_micros) × (place_of v ≤ 76525 * day_micros) × (micros_in v.minus (over v) (under v) ≤ 36525 * day_micros)
  stays = within (first_of s) v.minus (over v) (under v) (first_in_lem s).1 (under_pos v.power) (sym (spans_is s v) ∙ f)

  pub place_from : first_at s * day_micros ≤ place_of v
  place_from = omega (arith, stays.0, firsts s)

  pub place_to : place_of v ≤ 76525 * day_micros
  place_to = stays.1

  micros_at_lem : micros_of v ≡ micros_at (place_of v)
  micros_at_lem = micros_is v ∙ sym (at_place v.minus (micros_in v.minus (over v) (under v)) stays.2)

  pub moment_place : moment_of (micros_of v) ≡ record { day = day_at (place_of v / day_micros); micro = place_of v % day_micros }
  moment_place = ap moment_of micros_at_lem ∙ moment_at_lem (place_of v)

  pub day_at_lem : place_of_day (floor_z (micros_of v) day_micros) ≡ place_of v / day_micros
  day_at_lem =
      let u : place_of v / day_micros < 76526 = (div-lt_iff_lt-mul {k = day_micros} (lit< tt)).1 (omega (arith, place_to)) in
      ap (λ (m : Moment). place_of_day m.day) moment_place ∙ place_day (place_of v / day_micros) (omega arith)

  pub micro_at : mod_z (micros_of v) day_micros ≡ place_of v % day_micros
  micro_at = ap (λ (m : Moment). m.micro) moment_place
