-- Any two answers that the contract of `write` allows are equal: the relation of a quotient and its nearest double allows one double.
-- Assumes nothing.
use mathlib.Core.Path.{◌≡◌, sym, ap, ◌∙◌, subst}
use mathlib.Core.Bool.{Bool, true, false, cond}
use Rattle.std.specs.Prelude.{Result}
use Prim.Native.Nat.{ℕ, zero, suc, ◌+◌, ◌-◌, ◌*◌, ◌/◌, ◌%◌, ◌^◌, ◌≤◌, ◌<◌}
use native.Mathlib.Nat.{lt_irrefl, lt_of_lt_of_le, le_antisymm, lt_of_not-le, le_of_suc-le-suc, mul-pos, mul-le-mul_right, lt_of_mul-lt-mul_right, le_of_mul-le-mul_right, mul-div_cancel, pow-succ'}
use native.Mathlib.Omega.{arith}
use lib.Dec.{T, lit<}
use lib.IntN.{ℤ, pos, negsuc}
use lib.Pow.{pow_mono, pow_pos}
use lib.Ieee.{Float, nan, inf, fin, binary64, up, down, size, fits, to_bits, of_bits}
use lib.Ieee.Fits.{down_pos}
use lib.Ieee.Exact.{HasValue}
use lib.Ieee.Bits.{of_bits-to_bits}
use Rattle.axis.specs.Meaning.{day_micros}
use Rattle.scales.specs.Meaning.{Outcome, refused, answer, outcome, Valued}
use Rattle.scales.specs.Same.{same_reply}
use Rattle.scales.specs.declared.Refusal.{Refusal}
use Rattle.handed.specs.declared.Handed.{Handed}
use Rattle.decimal.specs.Meaning.{decimal_slip, Allowed, writing, WroteDay}
use Rattle.double.proofs.Exact.{has}
use Rattle.double.specs.Meaning.{apart, Holds, Nearest, plus_zero, QuotientOf}

-- ---- two doubles of one size and sign are one
abbrev bits_of : Bool → ℕ → ℕ
bits_of s n = cond s 9223372036854775808 0 + (size n - 53) * 4503599627370496 + n / 2 ^ (size n - 53)

bits_is : (x : Float) (s : Bool) (a : ℕ) → HasValue x s a (2 ^ 1074) → to_bits binary64 x ≡ bits_of s a
unfolding to_bits
bits_is nan s a h = absurd h
bits_is (inf t) s a h = absurd h
bits_is (fin t m e) s a h =
    let n : m * up e * 2 ^ 1074 / down e ≡ a = ap (λ (z : ℕ). z / down e) h.1 ∙ mul-div_cancel a (down_pos e) in
    ap (λ (z : ℕ). bits_of t z) n ∙ ap (λ (u : Bool). bits_of u a) h.0

same_float : (x y : Float) (s : Bool) (a : ℕ) → T (fits binary64 x) → T (fits binary64 y) → Holds x s a (2 ^ 1074) → Holds y s a (2 ^ 1074) → x ≡ y
same_float x y s a F G h k =
    sym (of_bits-to_bits binary64 x F)
    ∙ ap (λ (z : ℕ). of_bits binary64 z) (bits_is x s a (has x s a (2 ^ 1074) h) ∙ sym (bits_is y s a (has y s a (2 ^ 1074) k)))
    ∙ of_bits-to_bits binary64 y G

-- ---- the step is determined
pow_lt_back : (i p : ℕ) → 2 ^ i < 2 ^ p → i < p
pow_lt_back i p h = lt_of_not-le (λ (g : p ≤ i). lt_irrefl (2 ^ i) (lt_of_lt_of_le h (pow_mono g)))

step_le : (d N j k : ℕ) → 0 < d → 2 ^ 52 * (d * 2 ^ j) ≤ N → N < 2 ^ 53 * (d * 2 ^ k) → j ≤ k
step_le d N j k D a b = le_of_suc-le-suc (pow_lt_back j (suc k) (subst (λ (z : ℕ). 2 ^ j < z) (sym (pow-succ' 2 k)) (go (2 ^ j) (2 ^ k) a b)))
  where
    go : (J K : ℕ) → 2 ^ 52 * (d * J) ≤ N → N < 2 ^ 53 * (d * K) → J < 2 * K
    go J K x y =
        let w : J * d < 2 * K * d = omega arith in
        lt_of_mul-lt-mul_right d w

-- ---- and so is the significand
next : (q r : ℕ) → q < r → r * 2 ≤ q * 2 + 2 → r ≡ q + 1
next q r h w = omega arith

one_odd : (q : ℕ) → q % 2 ≡ 0 → (q + 1) % 2 ≡ 0 → ⊥
one_odd q x y = omega arith

no_more : (q r u N : ℕ) → 0 < u → apart (q * u) N * 2 ≤ u → apart (r * u) N * 2 ≤ u → (apart (q * u) N * 2 ≡ u → q % 2 ≡ 0) → (apart (r * u) N * 2 ≡ u → r % 2 ≡ 0) → q < r → ⊥
no_more q r u N U a b e f h =
    let g : suc q * u ≤ r * u = mul-le-mul_right u h in
    let x : apart (q * u) N * 2 ≡ u = omega arith in
    let y : apart (r * u) N * 2 ≡ u = omega arith in
    let t : r * 2 * u ≤ (q * 2 + 2) * u = omega arith in
    let w : r * 2 ≤ q * 2 + 2 = le_of_mul-le-mul_right t U in
    one_odd q (e x) (subst (λ (z : ℕ). z % 2 ≡ 0) (next q r h w) (f y))

same_step : (q r u N : ℕ) → 0 < u → apart (q * u) N * 2 ≤ u → apart (r * u) N * 2 ≤ u → (apart (q * u) N * 2 ≡ u → q % 2 ≡ 0) → (apart (r * u) N * 2 ≡ u → r % 2 ≡ 0) → q ≡ r
same_step q r u N U a b e f =
    le_antisymm (le_of_suc-le-suc (lt_of_not-le (λ (h : suc r ≤ q). no_more r q u N U b a f e h)))
    (le_of_suc-le-suc (lt_of_not-le (λ (h : suc q ≤ r). no_more q r u N U a b e f h)))

pub nearest_one : (s : Bool) (n d : ℕ) (x y : Float) → 0 < d → Nearest s n d x → Nearest s n d y → x ≡ y
nearest_one s n d x y D a b =
    let N = n * 2 ^ 1074 in
    let K : a.k ≡ b.k = le_antisymm (step_le d N a.k b.k D a.least b.most) (step_le d N b.k a.k D b.least a.most) in
    let u = d * 2 ^ b.k in
    let an : apart (a.q * u) N * 2 ≤ u = subst (λ (z : ℕ). apart (a.q * (d * 2 ^ z)) N * 2 ≤ d * 2 ^ z) K a.near in
    let at : apart (a.q * u) N * 2 ≡ u → a.q % 2 ≡ 0 = subst (λ (z : ℕ). apart (a.q * (d * 2 ^ z)) N * 2 ≡ d * 2 ^ z → a.q % 2 ≡ 0) K a.tie in
    let Q : a.q ≡ b.q = same_step a.q b.q u N (mul-pos D (pow_pos b.k)) an b.near at b.tie in
    same_float x y s (b.q * 2 ^ b.k) a.double b.double
    (subst (λ (z : ℕ). Holds x s (z * 2 ^ b.k) (2 ^ 1074)) Q (subst (λ (z : ℕ). Holds x s (a.q * 2 ^ z) (2 ^ 1074)) K a.value))
    b.value

pub quotient_one : (z : ℤ) (d : ℕ) (x y : Float) → 0 < d → QuotientOf z d x → QuotientOf z d y → x ≡ y
quotient_one (pos zero) d x y D a b = a ∙ sym b
quotient_one (pos (suc n)) d x y D a b = nearest_one false (suc n) d x y D a b
quotient_one (negsuc n) d x y D a b = nearest_one true (suc n) d x y D a b

-- ---- the answers
pub allowed_one : (o : Outcome ℤ) (v w : Valued Float) → Allowed o v → Allowed o w → v ≡ w
allowed_one (refused n) v w a b =
    let p = a.0 ∙ sym b.0 in
    let q = a.1 ∙ sym b.1 in
    λ i. record { number = p i; value = q i }
allowed_one (answer z) v w a b =
    let p = a.0 ∙ sym b.0 in
    let q = quotient_one z day_micros v.value w.value (lit< tt) a.1 b.1 in
    λ i. record { number = p i; value = q i }

pub wrote_one : (h : Handed) (a b : Result Float Refusal) → WroteDay h a → WroteDay h b → a ≡ b
wrote_one h a b p q = same_reply plus_zero a b (allowed_one (outcome (writing h)) (decimal_slip a) (decimal_slip b) p q)
