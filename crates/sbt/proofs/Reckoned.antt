-- The arithmetic of `time_at`, `ends_of` and `last_at`. Assumes nothing.
use Rattle.std.proofs.Common.{◌≡◌, sym, ap, ◌∙◌, ℕ, ◌+◌, ◌-◌, ◌*◌, ◌/◌, ◌≤◌, arith, mul-le-mul, add-mul}
use Rattle.sbt.specs.Places.{time_at, last_at, Based, Near}

-- n counts before the reference or after it
module _ (r p n : ℕ) (b : Based r p) (few : n ≤ 2147483648) where
  pub far : n * p ≤ 8389144870912000000
  far = mul-le-mul few b.slow

  pub back_is : r - (n * p + 999999) / 1000000 ≡ time_at r p (2147483648 - n)
  back_is =
      is (n * p) ((2147483648 - n) * p) (sym (add-mul n (2147483648 - n) p) ∙ ap (λ (m : ℕ). m * p) (omega arith)) far
    where
      is : (x y : ℕ) → x + y ≡ 2147483648 * p → x ≤ 8389144870912000000 → r - (x + 999999) / 1000000 ≡ (r * 1000000 + y - 2147483648 * p) / 1000000
      is x y e l = omega (arith, b.early)

  pub ahead_is : r + n * p / 1000000 ≡ time_at r p (2147483648 + n)
  ahead_is = is (n * p) ((2147483648 + n) * p) (sym (add-mul 2147483648 n p))
    where
      is : (x y : ℕ) → 2147483648 * p + x ≡ y → r + x / 1000000 ≡ (r * 1000000 + y - 2147483648 * p) / 1000000
      is x y e = omega arith

module _ (r p w : ℕ) (n : Near r p w) where
  pub reaches : r ≤ w + 8389144870912
  reaches = omega (arith, n.low, n.based.slow)

  pub last_is : ((w + 8389144870912 - r) * 1000000 + 999999 - (8389144870912000000 - 2147483648 * p)) / p ≡ last_at r p w
  last_is = ap (λ (m : ℕ). m / p) (omega (arith, n.low, reaches, n.based.slow))
