-- The fraction rule, over the number n of bits and the rounding: reading is monotone, and what is written is read as a time that
-- is not later and the last such. Where neighbours are a microsecond or more apart (2 ^ n ≤ 1000000) reading is strictly monotone
-- and gives the same fraction back; else writing gives the same time back. Assumes nothing.
use Rattle.std.specs.Prelude.{◌≡◌, Bool}
use Rattle.std.proofs.Math.Path.{refl}
use Rattle.std.proofs.Common.{sym, subst, le_refl, le-div_iff_mul-le, div-lt_iff_lt-mul, div-mul-le_self, mul-le-mul_right, lit<, pow_pos}
use Rattle.std.proofs.Math.Bool.{true, false}
use Prim.Native.Nat.{ℕ, zero, suc, ◌+◌, ◌-◌, ◌*◌, ◌/◌, ◌^◌, ◌≤◌, ◌<◌}
use Rattle.std.proofs.Math.Nat.{lt-div-mul-add, div-lt_self, div-eq_of_lt-le}
use native.Mathlib.Omega.{arith}
use Rattle.std.proofs.Math.Dec.{leb}
use Rattle.std.proofs.Math.Pow.{le_ones}
use borrow.Author.Tests.{le-leb, lt-leb, leb-true, leb-false}
use Rattle.layout_times.specs.Meaning.{Rounding, whole_part, nearest, added, stands_for, last_to, last_fraction}

million : 0 < 1000000
million = lit< tt

pub added_lt : (r : Rounding) (n : ℕ) → added r n < 2 ^ n
added_lt whole_part n = pow_pos n
added_lt nearest n = div-lt_self (pow_pos n) (lit< tt)

module _ (r : Rounding) (n : ℕ) where
  -- ---- reading is monotone
  module _ (f g : ℕ) where
    low : stands_for r n f * 2 ^ n ≤ f * 1000000 + added r n
    low = div-mul-le_self (f * 1000000 + added r n) (2 ^ n)

    pub monotone : f ≤ g → stands_for r n f ≤ stands_for r n g
    monotone h = (le-div_iff_mul-le (pow_pos n)).1 (omega (arith, low))

    pub strictly_monotone : 2 ^ n ≤ 1000000 → f < g → stands_for r n f < stands_for r n g
    strictly_monotone k h = (le-div_iff_mul-le (pow_pos n)).1 (go (stands_for r n f) (2 ^ n) (added r n) low k)
      where
        go : (x p o : ℕ) → x * p ≤ f * 1000000 + o → p ≤ 1000000 → suc x * p ≤ g * 1000000 + o
        go x p o a b = omega arith

  -- a fraction stands for less than a second
  pub below_second : (f : ℕ) → 2 ^ n ≤ 1000000 → f < 2 ^ n → stands_for r n f < 1000000
  below_second f k h = (div-lt_iff_lt-mul (pow_pos n)).1 (go (2 ^ n) (added r n) (added_lt r n) k (mul-le-mul_right 1000000 h))
    where
      go : (p o : ℕ) → o < p → p ≤ 1000000 → suc f * 1000000 ≤ p * 1000000 → f * 1000000 + o < 1000000 * p
      go p o a b c = omega arith

  -- ---- the number that the search finds
  to_is : (u m most : ℕ) → m ≤ most → stands_for r n m ≤ u → ((j : ℕ) → m < j → j ≤ most → u < stands_for r n j) → last_to r n u most ≡ m
  unfolding last_to
  to_is u m zero h p q = omega arith
  to_is u m (suc most) h p q =
      go (leb (suc most) m) refl (λ (g : m ≤ most). to_is u m most g p (λ (j : ℕ) (a : m < j) (b : j ≤ most). q j a (omega arith)))
    where
      go : (b : Bool) → leb (suc most) m ≡ b → (m ≤ most → last_to r n u most ≡ m) → last_to r n u (suc most) ≡ m
      go true e t =
          let l : suc most ≤ m = leb-true (suc most) m e in
          let s : m ≡ suc most = omega arith in
          rw (le-leb (stands_for r n (suc most)) u (subst (λ (x : ℕ). stands_for r n x ≤ u) s p)) (sym s)
      go false e t =
          let l : m < suc most = leb-false (suc most) m e in
          rw (lt-leb (stands_for r n (suc most)) u (q (suc most) l (le_refl (suc most)))) (t (omega arith))

  -- ---- read and written: the same fraction
  pub same_fraction : (f : ℕ) → 2 ^ n ≤ 1000000 → f < 2 ^ n → last_fraction r n (stands_for r n f) ≡ f
  same_fraction f k h =
      to_is (stands_for r n f) f (2 ^ n - 1) (le_ones n h) (le_refl (stands_for r n f))
      (λ (j : ℕ) (a : f < j) (b : j ≤ 2 ^ n - 1). strictly_monotone f j k a)

  -- ---- the last fraction by one division
  abbrev pub last_by : ℕ → ℕ
  last_by u = (u * 2 ^ n + (2 ^ n - 1 - added r n)) / 1000000

  module _ (u : ℕ) where
    under : (f : ℕ) → f ≤ last_by u → stands_for r n f ≤ u
    under f h =
        less (stands_for r n f) ((div-lt_iff_lt-mul (pow_pos n)).1 (go (2 ^ n) (added r n) (added_lt r n) ((le-div_iff_mul-le million).0 h)))
      where
        less : (x : ℕ) → x < suc u → x ≤ u
        less x l = omega arith

        go : (p o : ℕ) → o < p → f * 1000000 ≤ u * p + (p - 1 - o) → f * 1000000 + o < suc u * p
        go p o s l = omega arith

    over : (f : ℕ) → last_by u < f → u < stands_for r n f
    over f h = (le-div_iff_mul-le (pow_pos n)).1 (go (2 ^ n) (added r n) (added_lt r n) ((div-lt_iff_lt-mul million).0 h))
      where
        go : (p o : ℕ) → o < p → u * p + (p - 1 - o) < f * 1000000 → suc u * p ≤ f * 1000000 + o
        go p o s l = omega arith

    module _ (h : u < 1000000) where
      pub last_fits : last_by u < 2 ^ n
      last_fits = (div-lt_iff_lt-mul million).1 (go (2 ^ n) (added r n) (added_lt r n) (mul-le-mul_right (2 ^ n) h))
        where
          go : (p o : ℕ) → o < p → suc u * p ≤ 1000000 * p → u * p + (p - 1 - o) < p * 1000000
          go p o s l = omega arith

      pub last_is : last_fraction r n u ≡ last_by u
      last_is =
          to_is u (last_by u) (2 ^ n - 1) (le_ones n last_fits) (under (last_by u) (le_refl (last_by u)))
          (λ (j : ℕ) (a : last_by u < j) (b : j ≤ 2 ^ n - 1). over j a)

      -- ---- written and read: never later, and no fraction is read as a time between
      pub never_later : stands_for r n (last_fraction r n u) ≤ u
      never_later = rw last_is (under (last_by u) (le_refl (last_by u)))

      pub last_such : (f : ℕ) → stands_for r n f ≤ u → stands_for r n f ≤ stands_for r n (last_fraction r n u)
      last_such f k = rw last_is (monotone f (last_by u) (go (leb f (last_by u)) refl))
        where
          go : (b : Bool) → leb f (last_by u) ≡ b → f ≤ last_by u
          go true e = leb-true f (last_by u) e
          go false e = absurd (omega (arith, over f (leb-false f (last_by u) e)))

      -- the same time, where neighbours are closer than a microsecond
      pub same_time : 1000000 ≤ 2 ^ n → stands_for r n (last_fraction r n u) ≡ u
      same_time k =
          between (stands_for r n (last_fraction r n u)) never_later
          (rw last_is ((le-div_iff_mul-le (pow_pos n)).1 (go (2 ^ n) (added r n) (added_lt r n) k (lt-div-mul-add {a = u * 2 ^ n + (2 ^ n - 1 - added r n)} million))))
        where
          between : (x : ℕ) → x ≤ u → u ≤ x → x ≡ u
          between x a b = omega arith

          go : (p o : ℕ) → o < p → 1000000 ≤ p → u * p + (p - 1 - o) < last_by u * 1000000 + 1000000 → u * p ≤ last_by u * 1000000 + o
          go p o s l m = omega arith

-- ---- "the nearest microsecond, halves upward": f / 2 ^ n s is less than half a microsecond after it, or half a microsecond or less
-- before it. That holds of one number alone
module _ (n f : ℕ) where
  pub nearest_is : let m = stands_for nearest n f in (m * 2 ^ n ≤ f * 1000000 + 2 ^ n / 2) × (f * 1000000 + 2 ^ n / 2 < (m + 1) * 2 ^ n)
  nearest_is = (div-mul-le_self (f * 1000000 + 2 ^ n / 2) (2 ^ n), go (stands_for nearest n f) (2 ^ n) (lt-div-mul-add {a = f * 1000000 + 2 ^ n / 2} (pow_pos n)))
    where
      go : (x p : ℕ) → f * 1000000 + 2 ^ n / 2 < x * p + p → f * 1000000 + 2 ^ n / 2 < (x + 1) * p
      go x p l = omega arith

  pub nearest_one : (m : ℕ) → m * 2 ^ n ≤ f * 1000000 + 2 ^ n / 2 → f * 1000000 + 2 ^ n / 2 < (m + 1) * 2 ^ n → stands_for nearest n f ≡ m
  nearest_one m h k = div-eq_of_lt-le (2 ^ n) h k
