-- Orders of signed numbers, and floors under them. Assumes nothing.
use Rattle.std.specs.Prelude.{◌≡◌, true, false, ℕ, suc, ◌+◌, ◌-◌, ◌*◌, ◌/◌, ◌≤◌, ◌<◌, leb, ℤ, ◌+ℤ◌, ◌*ℤ◌}
use Rattle.std.proofs.Math.Path.{sym, ap, ap₂}
use Rattle.std.proofs.Common.{◌∙◌, mul-le-mul_right, le-mul_of_pos_right, arith, le-leb, leb-true, leb-false}
use Rattle.std.proofs.Math.Nat.{div-mul-le_self, lt-div-mul-add}
use Rattle.std.proofs.Math.IntN.{pos, sub_ℕ}
use Rattle.std.specs.Int.Signed.{le_z}
use Rattle.std.proofs.lemmas.Bool.{lt-leb}
use Rattle.axis.specs.Meaning.{floor_z}
use Rattle.axis.specs.Diff.{up, down, parts, tests, sub_eq, sub_mul, sub_le, sub_floor}
use Rattle.axis.specs.Shift.{number_add}

-- ---- orders
le_parts : (x y : ℤ) → le_z x y ≡ leb (up x + down y) (up y + down x)
le_parts x y = ap₂ le_z (parts x) (parts y) ∙ sub_le (up x) (down x) (up y) (down y)

yes : (x y : ℤ) → le_z x y ≡ true → up x + down y ≤ up y + down x
yes x y e = leb-true (up x + down y) (up y + down x) (sym (le_parts x y) ∙ e)

le : (x y : ℤ) → up x + down y ≤ up y + down x → le_z x y ≡ true
le x y h = le_parts x y ∙ le-leb (up x + down y) (up y + down x) h

pub le_refl : (x : ℤ) → le_z x x ≡ true
le_refl x = le x x (omega arith)

pub le_trans : (x y z : ℤ) → le_z x y ≡ true → le_z y z ≡ true → le_z x z ≡ true
le_trans x y z e f = le x z (omega (arith, yes x y e, yes y z f))

pub le_both : (x y : ℤ) → le_z x y ≡ true → le_z y x ≡ true → x ≡ y
le_both x y e f = parts x ∙ sub_eq (up x) (down x) (up y) (down y) (omega (arith, yes x y e, yes y x f)) ∙ sym (parts y)

pub plus : (x : ℤ) (n : ℕ) → x +ℤ pos n ≡ sub_ℕ (up x + n) (down x)
plus x n = ap (λ (y : ℤ). y +ℤ pos n) (parts x) ∙ sym (number_add (down x) (up x) n)

-- what is not at or below y is at or above the next
pub above_next : (x y : ℤ) → le_z x y ≡ false → le_z (y +ℤ pos 1) x ≡ true
above_next x y e =
    ap₂ le_z (plus y 1) (parts x) ∙ sub_le (up y + 1) (down y) (up x) (down x)
    ∙ le-leb (up y + 1 + down x) (up x + down y) (omega (arith, leb-false (up x + down y) (up y + down x) (sym (le_parts x y) ∙ e)))

-- and the other way
pub next_above : (x y : ℤ) → le_z (y +ℤ pos 1) x ≡ true → le_z x y ≡ false
next_above x y e =
    let h = leb-true (up y + 1 + down x) (up x + down y) (sym (ap₂ le_z (plus y 1) (parts x) ∙ sub_le (up y + 1) (down y) (up x) (down x)) ∙ e) in
    le_parts x y ∙ lt-leb (up x + down y) (up y + down x) (omega arith)

pub le_less : (x y : ℤ) (n : ℕ) → le_z (x +ℤ pos 1) (y +ℤ pos (suc n)) ≡ true → le_z x (y +ℤ pos n) ≡ true
le_less x y n e =
    let h = leb-true (up x + 1 + down y) (up y + suc n + down x) (sym (ap₂ le_z (plus x 1) (plus y (suc n)) ∙ sub_le (up x + 1) (down x) (up y + suc n) (down y)) ∙ e) in
    ap₂ le_z (parts x) (plus y n) ∙ sub_le (up x) (down x) (up y + n) (down y) ∙ le-leb (up x + down y) (up y + n + down x) (omega arith)

-- numbers a number of steps from one another
pub le_steps : (x : ℤ) (m n : ℕ) → le_z (x +ℤ pos m) (x +ℤ pos n) ≡ leb m n
le_steps x m n =
    ap₂ le_z (plus x m) (plus x n) ∙ sub_le (up x + m) (down x) (up x + n) (down x)
    ∙ tests (up x + m + down x) (up x + n + down x) m n (λ h. omega arith) (λ h. omega arith)

abbrev pub steps : ℤ → ℤ → ℕ
steps x y = up y + down x - (up x + down y)

pub steps_to : (x y : ℤ) → le_z x y ≡ true → y ≡ x +ℤ pos (steps x y)
steps_to x y e =
    parts y ∙ sub_eq (up y) (down y) (up x + steps x y) (down x) (omega (arith, yes x y e)) ∙ sym (plus x (steps x y))

-- ---- the floor by m: the one number of which both hold
module _ (m : ℕ) (p : 0 < m) where
  floor_at : (a b : ℕ) → floor_z (sub_ℕ a b) m ≡ sub_ℕ ((a + b * m - b) / m) b
  floor_at a b =
      ap (λ (x : ℤ). floor_z x m) (sub_eq a b (a + b * m - b) (b * m) (omega (arith, le-mul_of_pos_right b p)))
      ∙ sub_floor (a + b * m - b) b m p

  module _ (a b u v : ℕ) where
    q : ℕ
    q = (a + b * m - b) / m

    low : q * m ≤ a + b * m - b
    unfolding q
    low = div-mul-le_self (a + b * m - b) m

    high : a + b * m - b < q * m + m
    unfolding q
    high = lt-div-mul-add p

    grown : b ≤ b * m
    grown = le-mul_of_pos_right b p

    under_at : leb (u + b) (q + v) ≡ leb (u * m + b) (a + v * m)
    under_at =
        tests (u + b) (q + v) (u * m + b) (a + v * m)
        (λ h. omega (arith, mul-le-mul_right m h, low, grown))
        (λ h. let k : q + v + 1 ≤ u + b = omega arith in omega (arith, mul-le-mul_right m k, high, grown))

    over_at : leb (q + v) (u + b) ≡ leb (a + 1 + v * m) ((u + 1) * m + b)
    over_at =
        tests (q + v) (u + b) (a + 1 + v * m) ((u + 1) * m + b)
        (λ h. omega (arith, mul-le-mul_right m h, high, grown))
        (λ h. let k : u + b + 1 ≤ q + v = omega arith in omega (arith, mul-le-mul_right m k, low, grown))

  -- z is not above the floor of x
  pub under_floor : (x z : ℤ) → le_z z (floor_z x m) ≡ le_z (z *ℤ pos m) x
  unfolding q
  under_floor x z =
      ap₂ (λ (y w : ℤ). le_z w (floor_z y m)) (parts x) (parts z)
      ∙ ap (le_z (sub_ℕ (up z) (down z))) (floor_at (up x) (down x))
      ∙ sub_le (up z) (down z) ((up x + down x * m - down x) / m) (down x)
      ∙ under_at (up x) (down x) (up z) (down z)
      ∙ sym (ap₂ le_z (ap (λ (w : ℤ). w *ℤ pos m) (parts z) ∙ sub_mul (up z) (down z) m) (parts x)
      ∙ sub_le (up z * m) (down z * m) (up x) (down x))

  -- and not below it
  pub over_floor : (x z : ℤ) → le_z (floor_z x m) z ≡ le_z (x +ℤ pos 1) ((z +ℤ pos 1) *ℤ pos m)
  unfolding q
  over_floor x z =
      ap₂ (λ (y w : ℤ). le_z (floor_z y m) w) (parts x) (parts z)
      ∙ ap (λ (y : ℤ). le_z y (sub_ℕ (up z) (down z))) (floor_at (up x) (down x))
      ∙ sub_le ((up x + down x * m - down x) / m) (down x) (up z) (down z)
      ∙ over_at (up x) (down x) (up z) (down z)
      ∙ sym (ap₂ le_z (plus x 1) (ap (λ (w : ℤ). w *ℤ pos m) (plus z 1) ∙ sub_mul (up z + 1) (down z) m)
      ∙ sub_le (up x + 1) (down x) ((up z + 1) * m) (down z * m))
