-- What the theorems share: a microsecond since day 0 is its day and its microsecond of day; the elapsed count is the one number of
-- the paper, for any half of the modulus. Assumes nothing.
use mathlib.Core.Path.{◌≡◌, sym, ap, ap₂, ◌∙◌}
use mathlib.Core.Bool.{true}
use Prim.Native.Nat.{ℕ, suc, ◌+◌, ◌-◌, ◌*◌, ◌/◌, ◌%◌, ◌≤◌, ◌<◌}
use native.Mathlib.Nat.{div-add-mod', mod-lt, mod-eq_of_lt, mod-add-mod, add-mul-mod_self_right}
use native.Mathlib.Omega.{arith}
use lib.IntN.{ℤ, pos, negsuc, neg_ℤ, sub_ℕ, ◌+ℤ◌}
use lib.Signed.{le_z}
use borrow.Author.Tests.{leb-true, le-leb}
use Rattle.axis.specs.Meaning.{floor_z, mod_z, day_micros, since}
use Rattle.axis.specs.Diff.{is_pos, is_negsuc, neg_pos, sub_eq, sub_add, sub_le, sub_le_same}
use Rattle.clock.specs.Meaning.{Clock, elapsed, count_at}
use Rattle.clock.specs.Signs.{steps, steps_to}
use Rattle.clock.specs.Places.{count_from, elapsed_place, count_place}

-- ---- the more counts back, the earlier
pub further : (m n : ℕ) → m ≤ n → le_z (neg_ℤ (pos n)) (neg_ℤ (pos m)) ≡ true
further m n l = ap₂ le_z (neg_pos n) (neg_pos m) ∙ sub_le 0 n 0 m ∙ le-leb (0 + m) (0 + n) (omega arith)

-- ---- a microsecond since day 0, and the day and the microsecond of day that it falls on
pub whole : (z : ℤ) → since (floor_z z day_micros) (mod_z z day_micros) ≡ z
whole (pos n) = ap pos (div-add-mod' n 86400000000)
whole (negsuc n) =
    ap₂ ◌+ℤ◌ (neg_pos (suc (n / 86400000000) * 86400000000)) (is_pos (86400000000 - suc (n % 86400000000)))
    ∙ sub_add 0 (suc (n / 86400000000) * 86400000000) (86400000000 - suc (n % 86400000000)) 0
    ∙ sub_eq (0 + (86400000000 - suc (n % 86400000000))) (suc (n / 86400000000) * 86400000000 + 0) 0 (suc n) (omega arith)
    ∙ sym (is_negsuc n)

pub left_under : (m : ℕ) → 0 < m → (z : ℤ) → mod_z z m < m
left_under m p (pos n) = mod-lt n p
left_under m p (negsuc n) = omega arith

-- ---- what the counter shows at a count, and the count of what it shows, undo each other: 2 * h = n + 1
module _ (h r n : ℕ) (e : 2 * h ≡ suc n) where
  sum : (x : ℕ) → x + (r + h) + (h + r * n) ≡ x + (r + 1) * (2 * h)
  sum x = omega (arith, ap (λ (y : ℕ). r * y) e)

  shown : (t : ℕ) → (r + (t + h + r * n) % (2 * h) + h) % (2 * h) ≡ t % (2 * h)
  shown t =
      ap (λ (x : ℕ). x % (2 * h)) (omega arith)
      ∙ mod-add-mod (t + h + r * n) (2 * h) (r + h)
      ∙ ap (λ (x : ℕ). x % (2 * h)) (omega (arith, sum t))
      ∙ add-mul-mod_self_right t (r + 1) (2 * h)

  counted : (t j : ℕ) → j < 2 * h → (r + j + h) % (2 * h) ≡ t % (2 * h) → j ≡ (t + h + r * n) % (2 * h)
  counted t j l f =
      sym (ap (λ (x : ℕ). x % (2 * h)) (omega arith)
      ∙ sym (mod-add-mod t (2 * h) (h + r * n))
      ∙ ap (λ (x : ℕ). (x + (h + r * n)) % (2 * h)) (sym f)
      ∙ mod-add-mod (r + j + h) (2 * h) (h + r * n)
      ∙ ap (λ (x : ℕ). x % (2 * h)) (omega (arith, sum j))
      ∙ add-mul-mod_self_right j (r + 1) (2 * h)
      ∙ mod-eq_of_lt l)

-- ---- the elapsed count: count minus reference modulo 2 * half, and the only such number from -half to half - 1
module _ (c : Clock) (p : 0 < c.half) where
  pub count_whole : (k : ℤ) → count_at c k % (2 * c.half) ≡ count_at c k
  count_whole k = mod-eq_of_lt (left_under (2 * c.half) (omega arith) (pos c.reference +ℤ k))

  pub elapsed_from : (t : ℕ) → count_at c (elapsed c t) ≡ t % (2 * c.half)
  elapsed_from t =
      ap (count_at c) (elapsed_place c t p)
      ∙ count_place c (count_from c.half t c.reference) p
      ∙ shown c.half c.reference (2 * c.half - 1) (omega arith) t

  last : pos (c.half - 1) ≡ sub_ℕ (2 * c.half - 1) c.half
  last = is_pos (c.half - 1) ∙ sub_eq (c.half - 1) 0 (2 * c.half - 1) c.half (omega arith)

  pub elapsed_range : (t : ℕ) → (le_z (neg_ℤ (pos c.half)) (elapsed c t) ≡ true) × (le_z (elapsed c t) (pos (c.half - 1)) ≡ true)
  elapsed_range t =
      let n = count_from c.half t c.reference in
      let l : n < 2 * c.half = mod-lt (t + c.half + c.reference * (2 * c.half - 1)) (omega arith) in (
        ap₂ le_z (neg_pos c.half) (elapsed_place c t p) ∙ sub_le_same c.half 0 n ∙ le-leb 0 n (omega arith),
        ap₂ le_z (elapsed_place c t p) last ∙ sub_le_same c.half n (2 * c.half - 1) ∙ le-leb n (2 * c.half - 1) (omega arith),
      )

  pub elapsed_one : (t : ℕ) (k : ℤ) → le_z (neg_ℤ (pos c.half)) k ≡ true → le_z k (pos (c.half - 1)) ≡ true →
      count_at c k ≡ t % (2 * c.half) → k ≡ elapsed c t
  elapsed_one t k from to e =
      at
      ∙ ap (λ (x : ℕ). sub_ℕ x c.half)
      (counted c.half c.reference (2 * c.half - 1) (omega arith) t j (omega (arith, few)) (sym (ap (count_at c) at ∙ count_place c j p) ∙ e))
      ∙ sym (elapsed_place c t p)
    where
      j : ℕ
      j = steps (neg_ℤ (pos c.half)) k

      at : k ≡ sub_ℕ j c.half
      at =
          steps_to (neg_ℤ (pos c.half)) k from
          ∙ ap₂ ◌+ℤ◌ (neg_pos c.half) (is_pos j) ∙ sub_add 0 c.half j 0 ∙ sub_eq (0 + j) (c.half + 0) j c.half (omega arith)

      few : j ≤ 2 * c.half - 1
      few = leb-true j (2 * c.half - 1) (sym (ap₂ le_z at last ∙ sub_le_same c.half j (2 * c.half - 1)) ∙ to)
