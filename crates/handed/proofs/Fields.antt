-- What is found of a bit pattern, in the four ranges of the exponent's field that the code tells apart. Assumes nothing.
use mathlib.Core.Path.{◌≡◌, refl, sym, ap, ◌∙◌}
use mathlib.Core.Bool.{Bool, true, false, false≢true}
use Rattle.std.specs.Prelude.{Ok, Err}
use Prim.Native.Nat.{ℕ, zero, suc, ◌+◌, ◌-◌, ◌*◌, ◌^◌, ◌≤◌, ◌<◌}
use native.Mathlib.Nat.{le_trans, le_of_eq, lt_of_lt_of_le, lt_of_le_of_lt, mul_assoc, mul-one, mul-le-mul_right, mul-le-mul, mul-lt-mul_of_pos_right, div-eq_of_lt, le-add_right, mod-lt}
use native.Mathlib.Omega.{arith}
use lib.Dec.{lit<, lit≤}
use lib.Pow.{pow-add, pow_pos, pow_mono, shl_lt}
use lib.Ieee.{Float, nan, inf, fin, binary64, of_bits}
use borrow.Author.Tests.{lt-ltb, le-ltb, le-leb, lt-leb}
use Rattle.axis.specs.Meaning.{day_micros}
use Rattle.double.specs.Meaning.{up, down, finite, Holds, bits_of, size_at}
use Rattle.double.proofs.Exact.{under_pos}
use Rattle.double.proofs.Pattern.{bits_infinite, bits_hold}
use Rattle.handed.specs.declared.Unread.TheVariants.{Outside, NotFinite}
use Rattle.handed.specs.Parts.{place_in, value_of, found}
use Rattle.handed.proofs.Value.{same_value, value_in, value_out}

pub found_nothing : (back : ℕ) (x : Float) → finite x ≡ false → found back x ≡ Err NotFinite
unfolding found
found_nothing back nan h = refl
found_nothing back (inf s) h = refl
found_nothing back (fin s m e) h = absurd (false≢true (sym h))

of_value : (back : ℕ) (x : Float) (s : Bool) (a c : ℕ) → 0 < c → Holds x s a c → found back x ≡ value_of back s a c
unfolding found
of_value back nan s a c C h = absurd (false≢true h.ends)
of_value back (inf t) s a c C h = absurd (false≢true h.ends)
of_value back (fin t m e) s a c C h =
    same_value (m * up e) (down e) a c (under_pos e) C h.size back t ∙ ap (λ (k : Bool). value_of back k a c) h.sign

-- ---- 2 ^ 16 days or more
out : (back : ℕ) (s : Bool) (a c : ℕ) → back ≤ 36525 → 0 < c → 65536 * c ≤ a → value_of back s a c ≡ Err Outside
out back false a c F C h = value_out back false a c (le-ltb a (36525 * c) (omega arith))
out back true a c F C h = value_out back true a c (lt-leb a (back * c) (omega (arith, mul-le-mul_right c F)))

large : (x t : ℕ) → 1038 < x → 65536 * 2 ^ 1074 ≤ size_at x t
large zero t h = absurd (no h)
  where
    no : 1038 < 0 → ⊥
    no h = omega arith
large (suc j) t h =
    let g : 1038 ≤ j = omega arith in
    le_trans (lit≤ {n = 2 ^ 52 * 2 ^ 1038} tt) (mul-le-mul (le-add_right (2 ^ 52) t) (pow_mono g))

-- ---- less than half a microsecond
near_zero : (back : ℕ) (s : Bool) (a c : ℕ) → 0 < back → 0 < c → a * (day_micros * 2) < c → value_of back s a c ≡ Ok 3456000000000000
near_zero back false a c F C h =
    value_in back false a c (lt-ltb a (36525 * c) (omega arith))
    ∙ ap (λ (n : ℕ). Ok (place_in false n)) (div-eq_of_lt {n = a * day_micros * 2 + c} {m = c * 2} (omega arith))
near_zero back true a c F C h =
    value_in back true a c (le-leb a (back * c) (omega (arith, mul-le-mul_right c F)))
    ∙ ap (λ (n : ℕ). Ok (place_in true n)) (div-eq_of_lt {n = a * day_micros * 2 + (c - 1)} {m = c * 2} (omega arith))

small_size : (x t : ℕ) → t < 2 ^ 52 → x < 985 → size_at x t < 2 ^ 1036
small_size zero t h k = lt_of_le_of_lt (le_of_eq (mul-one t)) (lt_of_lt_of_le h (lit≤ tt))
small_size (suc j) t h k =
    let q : 2 ^ 52 + t < 2 ^ 53 = omega arith in
    let g : 53 + j ≤ 1036 = omega arith in
    lt_of_lt_of_le (shl_lt 53 j q) (pow_mono g)

small : (x t : ℕ) → t < 2 ^ 52 → x < 985 → size_at x t * (day_micros * 2) < 2 ^ 1074
small x t h k = lt_of_lt_of_le (mul-lt-mul_of_pos_right (small_size x t h k) (lit< tt)) (lit≤ tt)

-- ---- between the two: q / 2 ^ (1075 - x)
middle : (back : ℕ) (s : Bool) (x t : ℕ) → 985 ≤ x → x ≤ 1038 → value_of back s (size_at x t) (2 ^ 1074) ≡ value_of back s (2 ^ 52 + t) (2 ^ (1075 - x))
middle back s zero t h k = absurd (no h)
  where
    no : 985 ≤ 0 → ⊥
    no h = omega arith
middle back s (suc j) t h k =
    let g : j + (1075 - suc j) ≡ 1074 = omega arith in
    same_value ((2 ^ 52 + t) * 2 ^ j) (2 ^ 1074) (2 ^ 52 + t) (2 ^ (1075 - suc j)) (pow_pos 1074) (pow_pos (1075 - suc j))
    (mul_assoc (2 ^ 52 + t) (2 ^ j) (2 ^ (1075 - suc j)) ∙ ap (λ (z : ℕ). (2 ^ 52 + t) * z) (sym (pow-add 2 j (1075 - suc j)) ∙ ap (λ (z : ℕ). 2 ^ z) g))
    back s

-- ---- by the parts of the bits
module _ (back b : ℕ) where
  finite_bits : (bits_of b).exponent < 2047 → found back (of_bits binary64 b) ≡ value_of back (bits_of b).minus (size_at (bits_of b).exponent (bits_of b).digits) (2 ^ 1074)
  finite_bits h = of_value back (of_bits binary64 b) (bits_of b).minus (size_at (bits_of b).exponent (bits_of b).digits) (2 ^ 1074) (pow_pos 1074) (bits_hold b h)

  pub bits_top : (bits_of b).exponent ≡ 2047 → found back (of_bits binary64 b) ≡ Err NotFinite
  bits_top h = found_nothing back (of_bits binary64 b) (bits_infinite b h)

  pub bits_out : back ≤ 36525 → (bits_of b).exponent < 2047 → 1038 < (bits_of b).exponent → found back (of_bits binary64 b) ≡ Err Outside
  bits_out F h k = finite_bits h ∙ out back (bits_of b).minus (size_at (bits_of b).exponent (bits_of b).digits) (2 ^ 1074) F (pow_pos 1074) (large (bits_of b).exponent (bits_of b).digits k)

  pub bits_small : 0 < back → (bits_of b).exponent < 985 → found back (of_bits binary64 b) ≡ Ok 3456000000000000
  bits_small F h =
      finite_bits (lt_of_lt_of_le h (lit≤ tt))
      ∙ near_zero back (bits_of b).minus (size_at (bits_of b).exponent (bits_of b).digits) (2 ^ 1074) F (pow_pos 1074)
      (small (bits_of b).exponent (bits_of b).digits (mod-lt b (pow_pos 52)) h)

  pub bits_middle : 985 ≤ (bits_of b).exponent → (bits_of b).exponent ≤ 1038 →
      found back (of_bits binary64 b) ≡ value_of back (bits_of b).minus (2 ^ 52 + (bits_of b).digits) (2 ^ (1075 - (bits_of b).exponent))
  bits_middle h k = finite_bits (lt_of_le_of_lt k (lit< tt)) ∙ middle back (bits_of b).minus (bits_of b).exponent (bits_of b).digits h k
