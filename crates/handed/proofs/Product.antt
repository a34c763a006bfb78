-- A product by 10546875 in two limbs, shifted; and a quotient by a power of two against a limit. Numbers only. Assumes nothing.
use mathlib.Core.Path.{◌≡◌, refl, sym, ap, ◌∙◌}
use mathlib.Core.Bool.{Bool, true, false}
use Prim.Native.Nat.{ℕ, ◌+◌, ◌*◌, ◌/◌, ◌%◌, ◌^◌, ◌≤◌, ◌<◌}
use native.Mathlib.Nat.{mul-add-div_right, div-add-mod', div-lt_iff_lt-mul, mul-le-mul_right}
use native.Mathlib.Omega.{arith}
use lib.Dec.{T, ltb, ltb→lt, lt→ltb}
use lib.Pow.{pow_pos, pow_mono, shr-shr}

-- two tests that pass together are one
pub same_test : (a b : Bool) → (T a → T b) → (T b → T a) → a ≡ b
same_test true true p q = refl
same_test true false p q = absurd (p tt)
same_test false true p q = absurd (q tt)
same_test false false p q = refl

-- the high limb of q * p + e, for limbs of b
limbs : (q p e b : ℕ) → 0 < b → q / b * p + (q % b * p + e) / b ≡ (q * p + e) / b
limbs q p e b B =
    let w : q / b * p * b + (q % b * p + e) ≡ q * p + e = omega (arith, ap (λ (z : ℕ). z * p) (div-add-mod' q b)) in
    sym (ap (λ (z : ℕ). z / b) (sym w) ∙ mul-add-div_right B (q / b * p) (q % b * p + e))

pub shifted : (q p e j v : ℕ) → (q / 2 ^ j * p + (q % 2 ^ j * p + e) / 2 ^ j) / 2 ^ v ≡ (q * p + e) / 2 ^ (j + v)
shifted q p e j v = ap (λ (z : ℕ). z / 2 ^ v) (limbs q p e (2 ^ j) (pow_pos j)) ∙ shr-shr (q * p + e) j v

pub under_limit : (q sh limit : ℕ) → q < 2 ^ 53 → 52 < sh → 0 < limit → q < limit * 2 ^ sh
under_limit q sh limit Q S L =
    let p : 2 ^ 53 ≤ 2 ^ sh = pow_mono S in
    let l : 1 * 2 ^ sh ≤ limit * 2 ^ sh = mul-le-mul_right (2 ^ sh) L in
    omega arith

pub limit_test : (q sh limit : ℕ) → ltb (q / 2 ^ sh) limit ≡ ltb q (limit * 2 ^ sh)
limit_test q sh limit =
    same_test (ltb (q / 2 ^ sh) limit) (ltb q (limit * 2 ^ sh))
    (λ t. lt→ltb q (limit * 2 ^ sh) ((div-lt_iff_lt-mul (pow_pos sh)).0 (ltb→lt (q / 2 ^ sh) limit t)))
    (λ t. lt→ltb (q / 2 ^ sh) limit ((div-lt_iff_lt-mul (pow_pos sh)).1 (ltb→lt q (limit * 2 ^ sh) t)))
