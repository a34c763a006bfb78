-- Signed numbers of 64 bits: their bits and back, and the place at which the bits keep the numbers' order. Assumes nothing.
use Rattle.std.specs.Prelude.{◌≡◌, cond, ℕ, suc, ◌+◌, ◌-◌, ◌≤◌, ◌<◌, leb, ltb, ℤ, pos, negsuc}
use Rattle.std.proofs.Common.{sym, ap₂, ◌∙◌, arith, lt-ltb, le-ltb}
use Rattle.std.proofs.Math.IntN.{sub_ℕ}
use Rattle.std.specs.Int.Signed.{le_z, lt_z, mag}
use Rattle.axis.specs.Diff.{Way, way, below, above, sub_eq, sub_neg, sub_lt, is_pos, is_negsuc, sub_le_same}
use Rattle.axis.specs.Meaning.{signed_of, bits_of}

-- 2^63 further on, round the end of 64 bits
abbrev pub turned : ℕ → ℕ
turned n = cond (ltb n 9223372036854775808) (n + 9223372036854775808) (n - 9223372036854775808)

lower : (n : ℕ) → n < 9223372036854775808 → turned n ≡ n + 9223372036854775808
lower n h = rw (lt-ltb n 9223372036854775808 h)

upper : (n : ℕ) → 9223372036854775808 ≤ n → turned n ≡ n - 9223372036854775808
upper n h = rw (le-ltb n 9223372036854775808 h)

module _ (n : ℕ) (h : n < 18446744073709551616) where
  pub turned_back : turned (turned n) ≡ n
  turned_back = go (way n 9223372036854775808)
    where
      go : Way n 9223372036854775808 → turned (turned n) ≡ n
      go (below k) = rw (lower n k) (omega (arith, upper (n + 9223372036854775808) (omega arith)))
      go (above k) = rw (upper n k) (omega (arith, lower (n - 9223372036854775808) (omega arith)))

  pub signed_turned : signed_of n ≡ sub_ℕ (turned n) 9223372036854775808
  signed_turned = go (way n 9223372036854775808)
    where
      go : Way n 9223372036854775808 → signed_of n ≡ sub_ℕ (turned n) 9223372036854775808
      go (below k) = rw (lt-ltb n 9223372036854775808 k) (is_pos n ∙ sub_eq n 0 (n + 9223372036854775808) 9223372036854775808 (omega arith))
      go (above k) =
          rw (le-ltb n 9223372036854775808 k)
          (sub_eq n 18446744073709551616 (n - 9223372036854775808) 9223372036854775808 (omega arith))

  pub bits_signed : bits_of (signed_of n) ≡ n
  bits_signed = go (way n 9223372036854775808)
    where
      go : Way n 9223372036854775808 → bits_of (signed_of n) ≡ n
      go (below k) = rw (lt-ltb n 9223372036854775808 k)
      go (above k) = rw (le-ltb n 9223372036854775808 k, sub_neg n 18446744073709551616 h) (omega arith)

pub signed_bits : (z : ℤ) → mag z < 9223372036854775808 → signed_of (bits_of z) ≡ z
signed_bits (pos n) h = rw (lt-ltb n 9223372036854775808 h)
signed_bits (negsuc n) h =
    rw (le-ltb (18446744073709551616 - suc n) 9223372036854775808 (omega arith))
    (sub_eq (18446744073709551616 - suc n) 18446744073709551616 0 (suc n) (omega arith) ∙ sym (is_negsuc n))

pub bits_lt : (z : ℤ) → mag z < 9223372036854775808 → bits_of z < 18446744073709551616
bits_lt (pos n) h = omega arith
bits_lt (negsuc n) h = omega arith

-- ---- the order of the numbers is that of the places
module _ (a b : ℕ) (h : a < 18446744073709551616) (k : b < 18446744073709551616) where
  pub signed_le : le_z (signed_of a) (signed_of b) ≡ leb (turned a) (turned b)
  signed_le = ap₂ le_z (signed_turned a h) (signed_turned b k) ∙ sub_le_same 9223372036854775808 (turned a) (turned b)

  pub signed_lt : lt_z (signed_of a) (signed_of b) ≡ ltb (turned a) (turned b)
  signed_lt =
      ap₂ lt_z (signed_turned a h) (signed_turned b k) ∙ sub_lt (turned a) 9223372036854775808 (turned b) 9223372036854775808
      ∙ go (way (turned a) (turned b))
    where
      go : Way (turned a) (turned b) → ltb (turned a + 9223372036854775808) (turned b + 9223372036854775808) ≡ ltb (turned a) (turned b)
      go (below l) = rw (lt-ltb (turned a) (turned b) l) (lt-ltb (turned a + 9223372036854775808) (turned b + 9223372036854775808) (omega arith))
      go (above l) = rw (le-ltb (turned a) (turned b) l) (le-ltb (turned a + 9223372036854775808) (turned b + 9223372036854775808) (omega arith))
