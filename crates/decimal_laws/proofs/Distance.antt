-- Distances of values and quotients, as naturals. Assumes nothing.
use mathlib.Core.Path.{◌≡◌, sym, ap, ap₂, subst, ◌∙◌}
use mathlib.Core.Bool.{Bool, true, false, not}
use Prim.Native.Nat.{ℕ, zero, suc, ◌+◌, ◌-◌, ◌*◌, ◌^◌, ◌≤◌, ◌<◌}
use native.Mathlib.Nat.{lt_of_mul-lt-mul_right, mul-le-mul_right, mul-lt-mul_of_pos_right}
use native.Mathlib.Omega.{arith}
use lib.Dec.{lit<}
use lib.IntN.{ℤ, pos, negsuc, sub_ℕ, nat_abs, ◌+ℤ◌, ◌-ℤ◌, ◌*ℤ◌}
use lib.Ieee.{Float}
use lib.Pow.{pow_pos}
use Rattle.axis.specs.Diff.{is_pos, neg_pos, sub_pos, sub_neg, sub_mul, sub_add, sub_negate, Way, way, below, above}
use Rattle.axis.specs.Meaning.{day_micros}
use Rattle.double.specs.Meaning.{signed, Exact, exact_of, over, under, apart, Nearest, plus_zero}
use Rattle.double.proofs.Exact.{under_pos}
use Rattle.decimal.specs.Meaning.{DayOf}
use Rattle.decimal_laws.specs.Meaning.{off}

abs_sub : (a b : ℕ) → nat_abs (sub_ℕ a b) ≡ apart a b
abs_sub a b = go (way a b)
  where
    go : Way a b → nat_abs (sub_ℕ a b) ≡ apart a b
    go (below h) = rw (sub_neg a b h) (omega arith)
    go (above h) = rw (sub_pos a b h) (omega arith)

pub off_sub : (A B P Q d c : ℕ) → nat_abs (sub_ℕ A B *ℤ pos d -ℤ sub_ℕ P Q *ℤ pos c) ≡ apart (A * d + Q * c) (B * d + P * c)
off_sub A B P Q d c =
    ap₂ (λ (x y : ℤ). nat_abs (x -ℤ y)) (sub_mul A B d) (sub_mul P Q c)
    ∙ ap nat_abs (ap (λ (z : ℤ). sub_ℕ (A * d) (B * d) +ℤ z) (sub_negate (P * c) (Q * c)) ∙ sub_add (A * d) (B * d) (Q * c) (P * c))
    ∙ abs_sub (A * d + Q * c) (B * d + P * c)

-- ---- by sign and size: on one side of zero, and across it
off_one : (s : Bool) (a n d c : ℕ) → nat_abs (signed s a *ℤ pos d -ℤ signed s n *ℤ pos c) ≡ apart (a * d) (n * c)
off_one false a n d c =
    ap₂ (λ (x y : ℤ). nat_abs (x *ℤ pos d -ℤ y *ℤ pos c)) (is_pos a) (is_pos n) ∙ off_sub a 0 n 0 d c ∙ omega arith
off_one true a n d c =
    ap₂ (λ (x y : ℤ). nat_abs (x *ℤ pos d -ℤ y *ℤ pos c)) (neg_pos a) (neg_pos n) ∙ off_sub 0 a 0 n d c ∙ omega arith

off_across : (s : Bool) (a n d c : ℕ) → nat_abs (signed (not s) a *ℤ pos d -ℤ signed s n *ℤ pos c) ≡ a * d + n * c
off_across false a n d c =
    ap₂ (λ (x y : ℤ). nat_abs (x *ℤ pos d -ℤ y *ℤ pos c)) (neg_pos a) (is_pos n) ∙ off_sub 0 a n 0 d c ∙ omega arith
off_across true a n d c =
    ap₂ (λ (x y : ℤ). nat_abs (x *ℤ pos d -ℤ y *ℤ pos c)) (is_pos a) (neg_pos n) ∙ off_sub a 0 0 n d c ∙ omega arith

pub off_same : (s : Bool) (n d : ℕ) (v : Exact) → v.minus ≡ s → off (signed s n) d v ≡ apart (over v * d) (n * under v)
off_same s n d v e =
    ap (λ (t : Bool). nat_abs (signed t (over v) *ℤ pos d -ℤ signed s n *ℤ pos (under v))) e ∙ off_one s (over v) n d (under v)

pub off_other : (s : Bool) (n d : ℕ) (v : Exact) → v.minus ≡ not s → off (signed s n) d v ≡ over v * d + n * under v
off_other s n d v e =
    ap (λ (t : Bool). nat_abs (signed t (over v) *ℤ pos d -ℤ signed s n *ℤ pos (under v))) e ∙ off_across s (over v) n d (under v)

-- ---- a distance in other parts
apart_mul : (a b m : ℕ) → apart a b * m ≡ apart (a * m) (b * m)
apart_mul a b m = go (way a b)
  where
    by : (a b x : ℕ) → b ≡ a + x → apart a b * m ≡ apart (a * m) (b * m)
    by a b x e =
        let f : apart a b ≡ x = omega arith in
        let g : b * m ≡ a * m + x * m = ap (λ (y : ℕ). y * m) e ∙ omega arith in
        ap (λ (y : ℕ). y * m) f ∙ omega arith

    turned : (x y : ℕ) → apart x y ≡ apart y x
    turned x y = omega arith

    go : Way a b → apart a b * m ≡ apart (a * m) (b * m)
    go (below h) = by a b (b - a) (omega arith)
    go (above h) = ap (λ (y : ℕ). y * m) (turned a b) ∙ by b a (a - b) (omega arith) ∙ turned (b * m) (a * m)

-- a / c and w / l are one value: so are their distances from n / d
pub other_parts : (a c w l n d : ℕ) → a * l ≡ w * c → apart (a * d) (n * c) * l ≡ apart (w * d) (n * l) * c
other_parts a c w l n d e =
    apart_mul (a * d) (n * c) l
    ∙ ap₂ apart (omega (arith, ap (λ (x : ℕ). x * d) e)) (omega arith)
    ∙ sym (apart_mul (w * d) (n * l) c)

-- the distance of the nearest double, by its significand and its step
pub near_off : (s : Bool) (n d : ℕ) (x : Float) (k : Nearest s n d x) →
    off (signed s n) d (exact_of x) * 2 ^ 1074 ≡ apart (k.q * (d * 2 ^ k.k)) (n * 2 ^ 1074) * under (exact_of x)
near_off s n d x k =
    ap (λ (y : ℕ). y * 2 ^ 1074) (off_same s n d (exact_of x) k.value.sign)
    ∙ other_parts (over (exact_of x)) (under (exact_of x)) (k.q * 2 ^ k.k) (2 ^ 1074) n d k.value.size
    ∙ ap (λ (y : ℕ). apart y (n * 2 ^ 1074) * under (exact_of x)) (turn k.q (2 ^ k.k))
  where
    turn : (q K : ℕ) → q * K * d ≡ q * (d * K)
    turn q K = omega arith

-- ---- a decimal day is less than half a microsecond off: below 2 ^ 52 microseconds the step is less than one
module _ (s : Bool) (n : ℕ) (x : Float) (k : Nearest s n day_micros x) (l : n < 2 ^ 52) where
  finer : (K L : ℕ) → 0 < L → 2 ^ 52 * (day_micros * K) ≤ n * L → day_micros * K < L
  finer K L P h = let g : suc n * L ≤ 2 ^ 52 * L = mul-le-mul_right L l in omega arith

  close_some : off (signed s n) day_micros (exact_of x) * 2 < under (exact_of x)
  close_some = go (off (signed s n) day_micros (exact_of x)) (apart (k.q * (day_micros * 2 ^ k.k)) (n * 2 ^ 1074)) (day_micros * 2 ^ k.k) (2 ^ 1074) (under (exact_of x))
      (near_off s n day_micros x k) k.near (finer (2 ^ k.k) (2 ^ 1074) (pow_pos 1074) k.least) (under_pos (exact_of x).power)
    where
      go : (f g u L c : ℕ) → f * L ≡ g * c → g * 2 ≤ u → u < L → 0 < c → f * 2 < c
      go f g u L c e h i p =
          let a : g * 2 * c ≤ u * c = mul-le-mul_right c h in
          let b : u * c < L * c = mul-lt-mul_of_pos_right i p in
          lt_of_mul-lt-mul_right L (omega arith)

zero_close : off (pos 0) day_micros (exact_of plus_zero) * 2 < under (exact_of plus_zero)
zero_close = lit< tt

pub close : (z : ℤ) (x : Float) → DayOf z x → nat_abs z < 2 ^ 52 → off z day_micros (exact_of x) * 2 < under (exact_of x)
close (pos zero) x d l = subst (λ (y : Float). off (pos 0) day_micros (exact_of y) * 2 < under (exact_of y)) (sym d) zero_close
close (pos (suc n)) x d l = close_some false (suc n) x d l
close (negsuc n) x d l = close_some true (suc n) x d l
