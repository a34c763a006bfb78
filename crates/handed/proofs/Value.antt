-- What `value_of` makes of a / c depends on the value alone, and how the code's shifted product gives it. Numbers only.
-- Assumes nothing.
use mathlib.Core.Path.{◌≡◌, sym, ap, ◌∙◌, subst}
use mathlib.Core.Bool.{Bool, true, false, cond}
use Rattle.std.specs.Prelude.{Ok, Err}
use Prim.Native.Nat.{ℕ, ◌+◌, ◌-◌, ◌*◌, ◌/◌, ◌^◌, ◌≤◌, ◌<◌}
use native.Mathlib.Nat.{mul-le-mul_right, mul-lt-mul_of_pos_right, lt_of_mul-lt-mul_right, le_of_mul-le-mul_right, div-mul-le_self, lt-div-mul-add, div-eq_of_lt-le, div-div-eq-div-mul, add-div_right}
use native.Mathlib.Omega.{arith}
use lib.Dec.{T, ltb, leb, ltb→lt, lt→ltb, leb→le, le→leb}
use lib.Ieee.Nearest.{div_same}
use lib.Pow.{pow_pos, pow-add}
use Rattle.axis.specs.Meaning.{day_micros}
use Rattle.handed.specs.declared.Unread.TheVariants.{Outside}
use Rattle.handed.specs.Signs.{double_pos}
use Rattle.handed.proofs.Product.{same_test}
use Rattle.handed.specs.Parts.{half_up, half_down, micros_in, inside, place_in, value_of}

-- ---- the two ways out
pub value_in : (back : ℕ) (s : Bool) (a c : ℕ) → inside back s a c ≡ true → value_of back s a c ≡ Ok (place_in s (micros_in s a c))
value_in back s a c e = rw e

pub value_out : (back : ℕ) (s : Bool) (a c : ℕ) → inside back s a c ≡ false → value_of back s a c ≡ Err Outside
value_out back s a c e = rw e

-- ---- `half_down` by the two ends of the interval
down_is : (a c r : ℕ) → 0 < c → r * (c * 2) < a * 2 + c → a * 2 + c ≤ (r + 1) * (c * 2) → half_down a c ≡ r
down_is a c r C h k =
    let lo : r * (c * 2) ≤ a * 2 + (c - 1) = go (r * (c * 2)) h in
    let hi : a * 2 + (c - 1) < (r + 1) * (c * 2) = go' ((r + 1) * (c * 2)) k in
    div-eq_of_lt-le (c * 2) lo hi
  where
    go : (x : ℕ) → x < a * 2 + c → x ≤ a * 2 + (c - 1)
    go x l = omega arith

    go' : (x : ℕ) → a * 2 + c ≤ x → a * 2 + (c - 1) < x
    go' x l = omega arith

down_lo : (a c : ℕ) → 0 < c → half_down a c * (c * 2) < a * 2 + c
down_lo a c C = go (half_down a c * (c * 2)) (div-mul-le_self (a * 2 + (c - 1)) (c * 2))
  where
    go : (x : ℕ) → x ≤ a * 2 + (c - 1) → x < a * 2 + c
    go x l = omega arith

down_hi : (a c : ℕ) → 0 < c → a * 2 + c ≤ (half_down a c + 1) * (c * 2)
down_hi a c C = go (half_down a c) (lt-div-mul-add {a = a * 2 + (c - 1)} (double_pos c C))
  where
    go : (r : ℕ) → a * 2 + (c - 1) < r * (c * 2) + c * 2 → a * 2 + c ≤ (r + 1) * (c * 2)
    go r l = omega arith

-- ---- two fractions of one value: v / d is a / c
module _ (v d a c : ℕ) (D : 0 < d) (C : 0 < c) (e : v * c ≡ a * d) where
  less_test : (l : ℕ) → ltb v (l * d) ≡ ltb a (l * c)
  less_test l =
      same_test (ltb v (l * d)) (ltb a (l * c))
      (λ t. let h : v * c < l * d * c = mul-lt-mul_of_pos_right (ltb→lt v (l * d) t) C in lt→ltb a (l * c) (lt_of_mul-lt-mul_right d (omega arith)))
      (λ t. let h : a * d < l * c * d = mul-lt-mul_of_pos_right (ltb→lt a (l * c) t) D in lt→ltb v (l * d) (lt_of_mul-lt-mul_right c (omega arith)))

  most_test : (l : ℕ) → leb v (l * d) ≡ leb a (l * c)
  most_test l =
      same_test (leb v (l * d)) (leb a (l * c))
      (λ t. let h : v * c ≤ l * d * c = mul-le-mul_right c (leb→le v (l * d) t) in let g : a * d ≤ l * c * d = omega arith in le→leb a (l * c) (le_of_mul-le-mul_right g D))
      (λ t. let h : a * d ≤ l * c * d = mul-le-mul_right d (leb→le a (l * c) t) in let g : v * c ≤ l * d * c = omega arith in le→leb v (l * d) (le_of_mul-le-mul_right g C))

  same_span : (back : ℕ) (s : Bool) → inside back s v d ≡ inside back s a c
  same_span back false = less_test 36525
  same_span back true = most_test back

  same_up : (m : ℕ) → half_up (v * m) d ≡ half_up (a * m) c
  same_up m = div_same (v * m * 2 + d) (d * 2) (a * m * 2 + c) (c * 2) (double_pos d D) (double_pos c C) (omega (arith, ap (λ (z : ℕ). z * m) e))

  same_down : (m : ℕ) → half_down (v * m) d ≡ half_down (a * m) c
  same_down m =
      let r = half_down (a * m) c in
      let em : v * c * m ≡ a * d * m = ap (λ (z : ℕ). z * m) e in
      let lo : r * (c * 2) * d < (a * m * 2 + c) * d = mul-lt-mul_of_pos_right (down_lo (a * m) c C) D in
      let hi : (a * m * 2 + c) * d ≤ (r + 1) * (c * 2) * d = mul-le-mul_right d (down_hi (a * m) c C) in
      let lo' : r * (d * 2) * c < (v * m * 2 + d) * c = omega arith in
      let hi' : (v * m * 2 + d) * c ≤ (r + 1) * (d * 2) * c = omega arith in
      down_is (v * m) d r D (lt_of_mul-lt-mul_right c lo') (le_of_mul-le-mul_right hi' C)

  same_micros : (s : Bool) → micros_in s v d ≡ micros_in s a c
  same_micros false = same_up day_micros
  same_micros true = same_down day_micros

  pub same_value : (back : ℕ) (s : Bool) → value_of back s v d ≡ value_of back s a c
  same_value back s =
      ap (λ (t : Bool). cond t (Ok (place_in s (micros_in s v d))) (Err Outside)) (same_span back s)
      ∙ ap (λ (n : ℕ). cond (inside back s a c) (Ok (place_in s n)) (Err Outside)) (same_micros s)

-- ---- the code's product: q * 86400000000 is q * 10546875 * 2 ^ 13, and c is W * 2 ^ 14
halved : (X W : ℕ) → 0 < W → (X / W + 1) / 2 ≡ (X + W) / (W * 2)
halved X W P = ap (λ (z : ℕ). z / 2) (sym (add-div_right X P)) ∙ div-div-eq-div-mul (X + W) W 2

module _ (q W c : ℕ) (P : 0 < W) (e : c ≡ W * 16384) where
  product_up : ((q * 10546875 + 0) / W + 1) / 2 ≡ micros_in false q c
  product_up =
      halved (q * 10546875 + 0) W P
      ∙ div_same (q * 10546875 + 0 + W) (W * 2) (q * day_micros * 2 + c) (c * 2) (double_pos W P) (omega arith)
      (ap (λ (z : ℕ). (q * 10546875 + 0 + W) * (z * 2)) e ∙ swap ∙ sym (ap (λ (z : ℕ). (q * day_micros * 2 + z) * (W * 2)) e))
    where
      swap : (q * 10546875 + 0 + W) * (W * 16384 * 2) ≡ (q * day_micros * 2 + W * 16384) * (W * 2)
      swap = omega arith

  product_down : 0 < q → (((q - 1) * 10546875 + 10546874) / W + 1) / 2 ≡ micros_in true q c
  product_down Q =
      let X = (q - 1) * 10546875 + 10546874 in
      let r = (X / W + 1) / 2 in
      let is : r ≡ (X + W) / (W * 2) = halved X W P in
      let lo : r * (W * 2) ≤ X + W = subst (λ (z : ℕ). z * (W * 2) ≤ X + W) (sym is) (div-mul-le_self (X + W) (W * 2)) in
      let hi : X + W < r * (W * 2) + W * 2 = subst (λ (z : ℕ). X + W < z * (W * 2) + W * 2) (sym is) (lt-div-mul-add (double_pos W P)) in
      sym (down_is (q * day_micros) c r (omega arith) (first r lo) (second r hi))
    where
      first : (r : ℕ) → r * (W * 2) ≤ (q - 1) * 10546875 + 10546874 + W → r * (c * 2) < q * day_micros * 2 + c
      first r l =
          let w : r * (c * 2) ≡ r * (W * 16384 * 2) = ap (λ (z : ℕ). r * (z * 2)) e in
          omega arith

      second : (r : ℕ) → (q - 1) * 10546875 + 10546874 + W < r * (W * 2) + W * 2 → q * day_micros * 2 + c ≤ (r + 1) * (c * 2)
      second r l =
          let w : (r + 1) * (c * 2) ≡ (r + 1) * (W * 16384 * 2) = ap (λ (z : ℕ). (r + 1) * (z * 2)) e in
          omega arith

-- ---- what `read_number` computes, for 37 ≤ sh
module _ (back q sh : ℕ) (H : 37 ≤ sh) where
  abbrev W : ℕ
  W = 2 ^ (23 + (sh - 37))

  parts : 2 ^ sh ≡ W * 16384
  parts =
      let g : 23 + (sh - 37) + 14 ≡ sh = omega arith in
      ap (λ (z : ℕ). 2 ^ z) (sym g) ∙ pow-add 2 (23 + (sh - 37)) 14

  pub after_is : (n : ℕ) → inside back false q (2 ^ sh) ≡ true → n ≡ ((q * 10546875 + 0) / W + 1) / 2 → Ok (place_in false n) ≡ value_of back false q (2 ^ sh)
  after_is n t e =
      ap (λ (k : ℕ). Ok (place_in false k)) (e ∙ product_up q W (2 ^ sh) (pow_pos (23 + (sh - 37))) parts)
      ∙ sym (value_in back false q (2 ^ sh) t)

  module _ (Q : 0 < q) where
    -- the code's test of q - 1
    pub one_less : inside back true q (2 ^ sh) ≡ ltb (q - 1) (back * 2 ^ sh)
    one_less = same_test (leb q (back * 2 ^ sh)) (ltb (q - 1) (back * 2 ^ sh)) (λ t. to (back * 2 ^ sh) t) (λ t. from (back * 2 ^ sh) t)
      where
        to : (l : ℕ) → T (leb q l) → T (ltb (q - 1) l)
        to l t = let h : q ≤ l = leb→le q l t in lt→ltb (q - 1) l (omega arith)

        from : (l : ℕ) → T (ltb (q - 1) l) → T (leb q l)
        from l t = let h : q - 1 < l = ltb→lt (q - 1) l t in le→leb q l (omega arith)

    pub micros_before : (n : ℕ) → n ≡ (((q - 1) * 10546875 + 10546874) / W + 1) / 2 → n ≡ micros_in true q (2 ^ sh)
    micros_before n e = e ∙ product_down q W (2 ^ sh) (pow_pos (23 + (sh - 37))) parts Q

    pub before_is : (n : ℕ) → inside back true q (2 ^ sh) ≡ true → n ≡ (((q - 1) * 10546875 + 10546874) / W + 1) / 2 → Ok (place_in true n) ≡ value_of back true q (2 ^ sh)
    before_is n t e = ap (λ (k : ℕ). Ok (place_in true k)) (micros_before n e) ∙ sym (value_in back true q (2 ^ sh) t)
