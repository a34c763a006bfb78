-- The arithmetic of `time_at` and `last_at`: one law of the split into seconds and fractions, used both ways. Assumes nothing.
use Rattle.std.proofs.Common.{◌≡◌, sym, ap, ◌∙◌, ℕ, ◌+◌, ◌-◌, ◌*◌, ◌/◌, ◌%◌, ◌≤◌, ◌<◌, arith, mul-le-mul, div-add-mod', div-mul-le_self, div-le_self, mod-lt}
use Rattle.std.proofs.Math.Nat.{add-mul-div_right}
use Rattle.goce.specs.Places.{time_at, last_at, Based, Near}

split : (n x : ℕ) → n * x ≡ 65536 * (n / 65536 * x) + n % 65536 * x
split n x = omega (arith, ap (λ (y : ℕ). y * x) (div-add-mod' n 65536))

module _ (s g k : ℕ) (b : Based s g) (few : k < 281474976710656) where
  pub seconds_le : k / 65536 * g ≤ 4299262262295000000
  seconds_le = mul-le-mul {n₂ = 4294967295} {m₂ = 1001000000} (omega arith) b.fast

  pub fractions_le : k % 65536 * g ≤ 65600535000000
  fractions_le = mul-le-mul {n₂ = 65535} {m₂ = 1001000000} (omega arith) b.fast

  pub time_is :
      (s / 65536 * 1000000000 + k / 65536 * g - 2147483648 * g + (s % 65536 * 1000000000 + k % 65536 * g) / 65536) / 1000 ≡ time_at s g k
  time_is = is (k / 65536 * g) (k % 65536 * g) (k * g) (split k g)
    where
      is : (x y z : ℕ) → z ≡ 65536 * x + y →
          (s / 65536 * 1000000000 + x - 2147483648 * g + (s % 65536 * 1000000000 + y) / 65536) / 1000
          ≡ (s * 1000000000 + z - 140737488355328 * g) / 65536000
      is x y z e = omega (arith, b.early, b.fast)

-- what is left of a division of n is divided with the fractions m
divide : (n m g : ℕ) → 0 < g → (65536 * n + m) / g ≡ n / g * 65536 + (n % g * 65536 + m) / g
divide n m g p =
    ap (λ (x : ℕ). x / g) (is (n / g * g) (n / g * 65536 * g) (omega arith) (div-add-mod' n g))
    ∙ add-mul-div_right (n % g * 65536 + m) (n / g * 65536) p
    ∙ omega arith
  where
    is : (x y : ℕ) → y ≡ 65536 * x → x + n % g ≡ n → 65536 * n + m ≡ n % g * 65536 + m + y
    is x y e f = omega arith

abbrev pub nanos : ℕ → ℕ → ℕ → ℕ
nanos s g w = w * 1000 + 999 + 2147483648 * g - s / 65536 * 1000000000 - s % 65536 * 1000000000 / 65536

module _ (s g w : ℕ) (b : Near s g w) where
  some : 0 < g
  some = omega (arith, b.based.slow)

  pub quotient_le : nanos s g w / g ≤ 11000000000
  quotient_le = is (nanos s g w) (omega (arith, b.high, b.based.fast))
    where
      is : (n : ℕ) → n ≤ 10950000000000000000 → n / g ≤ 11000000000
      is n l = omega (arith, div-mul-le_self n g, mul-le-mul {n₁ = n / g} {n₂ = n / g} (omega arith) b.based.slow)

  pub rest_le : nanos s g w % g ≤ 1001000000
  rest_le = omega (arith, mod-lt (nanos s g w) some, b.based.fast)

  apart : 65536 * nanos s g w + (65535 - s % 65536 * 1000000000 % 65536) ≡ (w + 1) * 65536000 + 140737488355328 * g - s * 1000000000 - 1
  apart =
      is (s / 65536 * 1000000000) (s % 65536 * 1000000000 / 65536) (s % 65536 * 1000000000 % 65536) (omega arith)
      (split s 1000000000 ∙ ap (λ (x : ℕ). 65536 * (s / 65536 * 1000000000) + x) (sym (div-add-mod' (s % 65536 * 1000000000) 65536)))
    where
      is : (p q m : ℕ) → m < 65536 → s * 1000000000 ≡ 65536 * p + (q * 65536 + m) →
          65536 * (w * 1000 + 999 + 2147483648 * g - p - q) + (65535 - m) ≡ (w + 1) * 65536000 + 140737488355328 * g - s * 1000000000 - 1
      is p q m l e = omega (arith, b.low)

  pub last_is :
      nanos s g w / g * 65536 + (nanos s g w % g * 65536 + 65535 - s % 65536 * 1000000000 % 65536) / g ≡ last_at s g w
  last_is =
      ap (λ (x : ℕ). nanos s g w / g * 65536 + x / g) (omega arith)
      ∙ sym (divide (nanos s g w) (65535 - s % 65536 * 1000000000 % 65536) g some)
      ∙ ap (λ (x : ℕ). x / g) apart

  pub last_le : nanos s g w / g * 65536 + (nanos s g w % g * 65536 + 65535 - s % 65536 * 1000000000 % 65536) / g ≤ 800000000000000
  last_le = is (nanos s g w % g * 65536 + 65535 - s % 65536 * 1000000000 % 65536) (omega (arith, rest_le))
    where
      is : (x : ℕ) → x ≤ 65602000000000 → nanos s g w / g * 65536 + x / g ≤ 800000000000000
      is x l = omega (arith, quotient_le, div-le_self x g)
