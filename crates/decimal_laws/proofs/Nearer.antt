-- No double is nearer to the quotient than the one that is written. Assumes nothing.
use mathlib.Core.Path.{◌≡◌, refl, sym, ap, ◌∙◌, subst}
use mathlib.Core.Bool.{Bool, true, false, not, false≢true}
use Prim.Native.Nat.{ℕ, zero, suc, ◌+◌, ◌-◌, ◌*◌, ◌^◌, ◌≤◌, ◌<◌}
use native.Mathlib.Nat.{le_of_suc-le-suc, lt_of_not-le, lt_of_lt_of_le, lt_irrefl, le_trans, le_of_eq, le_antisymm, mul-one, mul_assoc, mul-le-mul_right, le_of_mul-le-mul_right, pow-suc}
use native.Mathlib.Omega.{arith}
use lib.Dec.{T, leb, ltb, ltb→lt, nltb→le, leb→le, nleb→lt, lit<}
use lib.IntN.{ℤ, pos, negsuc}
use lib.Pow.{pow-lt, pow-add, pow_pos, pow_mono}
use lib.Ieee.{Float, nan, inf, fin, binary64, fits}
use lib.Ieee.Digits.{back}
use Rattle.axis.specs.Meaning.{day_micros}
use Rattle.decimal.specs.Meaning.{DayOf}
use Rattle.double.proofs.Exact.{digits, under_pos}
use Rattle.double.specs.Meaning.{signed, up, down, Exact, exact_of, over, under, finite, apart, Nearest, plus_zero}
use Rattle.decimal_laws.specs.Meaning.{off}
use Rattle.decimal_laws.proofs.Distance.{off_same, off_other, other_parts, near_off}

pow_le_back : (i p : ℕ) → 2 ^ i ≤ 2 ^ p → i ≤ p
pow_le_back i p h = le_of_suc-le-suc (lt_of_not-le (λ (g : suc p ≤ i). lt_irrefl (2 ^ p) (lt_of_lt_of_le (pow-lt g) h)))

-- ---- a double is p * 2 ^ j of the smallest, with p below 2 ^ 53
record Shape (v : Exact) : Type 0 where
  pub p : ℕ
  pub j : ℕ
  pub under53 : p < 2 ^ 53
  pub value : over v * 2 ^ 1074 ≡ p * 2 ^ j * under v

shape_up : (m a : ℕ) → m * 2 ^ a * 2 ^ 1074 ≡ m * 2 ^ (a + 1074) * 1
shape_up m a = mul_assoc m (2 ^ a) (2 ^ 1074) ∙ ap (λ (z : ℕ). m * z) (sym (pow-add 2 a 1074)) ∙ sym (mul-one (m * 2 ^ (a + 1074)))

shape_down : (m a : ℕ) → a ≤ 1074 → m * 1 * 2 ^ 1074 ≡ m * 2 ^ (1074 - a) * 2 ^ a
shape_down m a l =
    ap (λ (z : ℕ). z * 2 ^ 1074) (mul-one m) ∙ ap (λ (z : ℕ). m * 2 ^ z) (sym (back 1074 a l)) ∙ ap (λ (z : ℕ). m * z) (pow-add 2 (1074 - a) a)
    ∙ sym (mul_assoc m (2 ^ (1074 - a)) (2 ^ a))

shape : (y : Float) → T (fits binary64 y) → finite y ≡ true → Shape (exact_of y)
shape nan F h = absurd (false≢true h)
shape (inf t) F h = absurd (false≢true h)
shape (fin t zero e) F h = record { p = 0; j = 0; under53 = lit< tt; value = none (up e) (down e) (2 ^ 1074) (2 ^ 0) }
  where
    none : (u d l o : ℕ) → 0 * u * l ≡ 0 * o * d
    none u d l o = omega arith
shape (fin t (suc m) (pos a)) F h =
    record { p = suc m; j = a + 1074; under53 = (digits t (suc m) (pos a) F).0; value = shape_up (suc m) a }
shape (fin t (suc m) (negsuc a)) F h =
    let k = digits t (suc m) (negsuc a) F in
    record { p = suc m; j = 1074 - suc a; under53 = k.0; value = shape_down (suc m) (suc a) (pow_le_back (suc a) 1074 k.1) }

-- ---- on one side of zero: q steps are no further off than any other multiple, and what has a smaller step lies below 2 ^ 52 steps
multiple : (q w u N : ℕ) → apart (q * u) N * 2 ≤ u → apart (q * u) N ≤ apart (w * u) N
multiple q w u N h = go (ltb w q) (ltb q w) (ltb→lt w q) (nltb→le w q) (ltb→lt q w) (nltb→le q w)
  where
    lower : suc w * u ≤ q * u → apart (q * u) N ≤ apart (w * u) N
    lower g = omega arith

    upper : suc q * u ≤ w * u → apart (q * u) N ≤ apart (w * u) N
    upper g = omega arith

    go : (a b : Bool) → (T a → w < q) → (T (not a) → q ≤ w) → (T b → q < w) → (T (not b) → w ≤ q) → apart (q * u) N ≤ apart (w * u) N
    go true b i j k l = lower (mul-le-mul_right u (i tt))
    go false true i j k l = upper (mul-le-mul_right u (k tt))
    go false false i j k l = le_of_eq (ap (λ (z : ℕ). apart (z * u) N) (le_antisymm (j tt) (l tt)))

finer : (p J K d N : ℕ) → p < 2 ^ 53 → J * 2 ≤ K → 2 ^ 52 * (d * K) ≤ N → apart (2 ^ 52 * (d * K)) N ≤ apart (p * J * d) N
finer p J K d N P h l =
    let a : suc p * (J * d) ≤ 2 ^ 53 * (J * d) = mul-le-mul_right (J * d) P in
    let b : J * 2 * d ≤ K * d = mul-le-mul_right d h in
    omega arith

module _ (N d q k : ℕ) (near : apart (q * (d * 2 ^ k)) N * 2 ≤ d * 2 ^ k) (least : 2 ^ 52 * (d * 2 ^ k) ≤ N) where
  cut : (p j : ℕ) → k ≤ j → p * 2 ^ j * d ≡ p * 2 ^ (j - k) * (d * 2 ^ k)
  cut p j l = ap (λ (v : ℕ). p * 2 ^ v * d) (sym (back j k l)) ∙ ap (λ (v : ℕ). p * v * d) (pow-add 2 (j - k) k) ∙ move (2 ^ (j - k)) (2 ^ k)
    where
      move : (i c : ℕ) → p * (i * c) * d ≡ p * i * (d * c)
      move i c = omega arith

  none : (p j : ℕ) → p < 2 ^ 53 → apart (q * (d * 2 ^ k)) N ≤ apart (p * 2 ^ j * d) N
  none p j P = go (leb k j) (leb→le k j) (nleb→lt k j)
    where
      go : (t : Bool) → (T t → k ≤ j) → (T (not t) → j < k) → apart (q * (d * 2 ^ k)) N ≤ apart (p * 2 ^ j * d) N
      go true l g = subst (λ (v : ℕ). apart (q * (d * 2 ^ k)) N ≤ apart v N) (sym (cut p j (l tt))) (multiple q (p * 2 ^ (j - k)) (d * 2 ^ k) N near)
      go false l g =
          le_trans (multiple q (2 ^ 52) (d * 2 ^ k) N near)
          (finer p (2 ^ j) (2 ^ k) d N P (le_trans (le_of_eq (sym (pow-suc 2 j))) (pow_mono (g tt))) least)

module _ (s : Bool) (n d : ℕ) (x : Float) (a : Nearest s n d x) (y : Float) (F : T (fits binary64 y)) (h : finite y ≡ true) where
  beside : (exact_of y).minus ≡ s → off (signed s n) d (exact_of x) * under (exact_of y) ≤ off (signed s n) d (exact_of y) * under (exact_of x)
  beside e =
      let z = shape y F h in
      go (off (signed s n) d (exact_of x)) (off (signed s n) d (exact_of y)) (apart (a.q * (d * 2 ^ a.k)) (n * 2 ^ 1074)) (apart (z.p * 2 ^ z.j * d) (n * 2 ^ 1074))
      (under (exact_of x)) (under (exact_of y)) (2 ^ 1074) (pow_pos 1074)
      (near_off s n d x a)
      (ap (λ (v : ℕ). v * 2 ^ 1074) (off_same s n d (exact_of y) e) ∙ other_parts (over (exact_of y)) (under (exact_of y)) (z.p * 2 ^ z.j) (2 ^ 1074) n d z.value)
      (none (n * 2 ^ 1074) d a.q a.k a.near a.least z.p z.j z.under53)
    where
      go : (f g u v b c l : ℕ) → 0 < l → f * l ≡ u * b → g * l ≡ v * c → u ≤ v → f * c ≤ g * b
      go f g u v b c l P i j k =
          let w : u * (b * c) ≤ v * (b * c) = mul-le-mul_right (b * c) k in
          let t : f * c * l ≤ g * b * l = omega (arith, ap (λ (z : ℕ). z * c) i, ap (λ (z : ℕ). z * b) j) in
          le_of_mul-le-mul_right t P

  across : (exact_of y).minus ≡ not s → off (signed s n) d (exact_of x) * under (exact_of y) ≤ off (signed s n) d (exact_of y) * under (exact_of x)
  across e =
      rw (off_other s n d (exact_of y) e)
      (go (off (signed s n) d (exact_of x)) (over (exact_of y)) (apart (a.q * (d * 2 ^ a.k)) (n * 2 ^ 1074)) (under (exact_of x)) (under (exact_of y)) (2 ^ 1074) (pow_pos 1074)
      (near_off s n d x a) (most (apart (a.q * (d * 2 ^ a.k)) (n * 2 ^ 1074)) (d * 2 ^ a.k) (n * 2 ^ 1074) a.near a.least))
    where
      most : (u w N : ℕ) → u * 2 ≤ w → 2 ^ 52 * w ≤ N → u ≤ N
      most u w N i j = omega arith

      go : (f o u b c l : ℕ) → 0 < l → f * l ≡ u * b → u ≤ n * l → f * c ≤ (o * d + n * c) * b
      go f o u b c l P i k =
          let w : u * (b * c) ≤ n * l * (b * c) = mul-le-mul_right (b * c) k in
          let t : f * c * l ≤ (o * d + n * c) * b * l = omega (arith, ap (λ (z : ℕ). z * c) i) in
          le_of_mul-le-mul_right t P

  nearer_some : off (signed s n) d (exact_of x) * under (exact_of y) ≤ off (signed s n) d (exact_of y) * under (exact_of x)
  nearer_some = go s refl (exact_of y).minus refl
    where
      go : (t : Bool) → s ≡ t → (u : Bool) → (exact_of y).minus ≡ u → off (signed s n) d (exact_of x) * under (exact_of y) ≤ off (signed s n) d (exact_of y) * under (exact_of x)
      go true i true j = beside (j ∙ sym i)
      go true i false j = across (j ∙ sym (ap not i))
      go false i true j = across (j ∙ sym (ap not i))
      go false i false j = beside (j ∙ sym i)

zero_off : off (pos 0) day_micros (exact_of plus_zero) ≡ 0
zero_off = refl

-- No double y is nearer to z / 86,400,000,000 than the decimal day of z.
pub no_nearer : (z : ℤ) (x y : Float) → DayOf z x → T (fits binary64 y) → finite y ≡ true →
    off z day_micros (exact_of x) * under (exact_of y) ≤ off z day_micros (exact_of y) * under (exact_of x)
no_nearer (pos zero) x y d F h =
    let e : off (pos 0) day_micros (exact_of x) ≡ 0 = ap (λ (w : Float). off (pos 0) day_micros (exact_of w)) d ∙ zero_off in
    omega (arith, ap (λ (w : ℕ). w * under (exact_of y)) e)
no_nearer (pos (suc n)) x y d F h = nearer_some false (suc n) day_micros x d y F h
no_nearer (negsuc n) x y d F h = nearer_some true (suc n) day_micros x d y F h

-- So a quotient that is a double is written exactly.
pub exact_day : (z : ℤ) (x y : Float) → DayOf z x → T (fits binary64 y) → finite y ≡ true → off z day_micros (exact_of y) ≡ 0 → off z day_micros (exact_of x) ≡ 0
exact_day z x y d F h e =
    none_left (off z day_micros (exact_of x)) (under (exact_of y)) (under_pos (exact_of y).power)
    (le_trans (no_nearer z x y d F h) (le_of_eq (ap (λ (w : ℕ). w * under (exact_of x)) e ∙ omega arith)))
  where
    none_left : (f c : ℕ) → 0 < c → f * c ≤ 0 → f ≡ 0
    none_left zero c C k = refl
    none_left (suc f) c C k = absurd (omega arith)
