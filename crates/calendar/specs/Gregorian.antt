-- Laws of months and their first days. Assumes nothing.
use Rattle.std.specs.Prelude.{◌≡◌, refl, Bool, true, false, cond, ◌||◌, ℕ, zero, suc, ◌+◌, ◌-◌, ◌≤◌, eqb}
use Rattle.std.proofs.Common.{subst, add-zero, add-suc, arith}
use Rattle.calendar.specs.Meaning.{leap, month_length, length_of, year_of, month_of, first_day}

-- a choice of two numbers lies where both lie
within : (b : Bool) (x y : ℕ) → (28 ≤ x) × (x ≤ 31) → (28 ≤ y) × (y ≤ 31) → (28 ≤ cond b x y) × (cond b x y ≤ 31)
within true x y p q = p
within false x y p q = q

pub month_bounds : (y m : ℕ) → (28 ≤ month_length y m) × (month_length y m ≤ 31)
unfolding month_length
month_bounds y m =
    within (eqb m 2) (cond (leap y) 29 28) (cond (eqb m 4 || eqb m 6 || eqb m 9 || eqb m 11) 30 31)
    (within (leap y) 29 28 (omega arith) (omega arith))
    (within (eqb m 4 || eqb m 6 || eqb m 9 || eqb m 11) 30 31 (omega arith) (omega arith))

pub length_bounds : (k : ℕ) → (28 ≤ length_of k) × (length_of k ≤ 31)
unfolding length_of
length_bounds k = month_bounds (year_of k) (month_of k)

pub first_start : first_day 0 ≡ 0
unfolding first_day
first_start = refl

pub first_next : (k : ℕ) → first_day (suc k) ≡ first_day k + length_of k
unfolding first_day
first_next k = refl

-- 1 January 2000
pub first_epoch : first_day 336 ≡ 10227
unfolding first_day length_of month_length leap
first_epoch = refl

-- 1 January 2100
pub first_end : first_day 1536 ≡ 46752
unfolding first_day length_of month_length leap
first_end = refl

-- a later month starts later, by a day at least for each month between
first_later : (k d : ℕ) → first_day k + d ≤ first_day (k + d)
first_later k zero = rw (add-zero (first_day k), add-zero k) (omega arith)
first_later k (suc d) = rw (add-suc k d, first_next) (omega (arith, first_later k d, length_bounds (k + d)))

pub first_mono : (j k : ℕ) → j ≤ k → first_day j ≤ first_day k
first_mono j k h =
    let e : j + (k - j) ≡ k = omega arith in
    subst (λ (n : ℕ). first_day j ≤ first_day n) e (omega (arith, first_later j (k - j)))
