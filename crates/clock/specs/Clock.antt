-- The law of a clock, time(k) = floor((r + k * n) / d), and of its inverse, which is a division: for every r in ℤ and n ≥ d > 0.
-- Assumes nothing.
use Rattle.std.specs.Prelude.{◌≡◌, refl, Bool, true, false, cond, ℕ, zero, suc, ◌+◌, ◌*◌, ◌≤◌, ◌<◌, ◌+ℤ◌, ◌-ℤ◌, ◌*ℤ◌}
use Rattle.std.proofs.Math.Path.{sym, ap, ap₂}
use Rattle.std.proofs.Common.{◌∙◌, arith}
use Rattle.std.proofs.lemmas.Bool.{false≢true}
use Rattle.std.proofs.Math.IntN.{ℤ, pos, sub_ℕ, +ℤ_idr}
use Rattle.std.specs.Int.Signed.{le_z}
use borrow.Author.Tests.{le-leb, lt-leb, leb-true}
use Rattle.axis.specs.Meaning.{floor_z}
use Rattle.axis.specs.Diff.{Way, way, below, above, is_negsuc, sub_eq, sub_add, sub_mul, sub_negate, sub_le, tests, up, down, parts}
use Rattle.axis.specs.Shift.{number_add}
use Rattle.clock.specs.Meaning.{clock, latest}
use Rattle.clock.specs.Signs.{plus, le_refl, le_trans, le_both, above_next, next_above, le_less, le_steps, steps, steps_to, under_floor, over_floor}

-- ---- sums and orders, at the parts
pub less_one : (a b c d : ℕ) → sub_ℕ a b -ℤ pos 1 -ℤ sub_ℕ c d ≡ sub_ℕ (a + d) (b + 1 + c)
less_one a b c d =
    ap (λ (x : ℤ). sub_ℕ a b +ℤ x -ℤ sub_ℕ c d) (is_negsuc 0)
    ∙ ap₂ ◌+ℤ◌ (sub_add a b 0 1) (sub_negate c d)
    ∙ sub_add (a + 0) (b + 1) d c
    ∙ sub_eq (a + 0 + d) (b + 1 + c) (a + d) (b + 1 + c) (omega arith)

-- what is added on one side is taken away on the other
moved : (r x w : ℤ) → le_z (r +ℤ x +ℤ pos 1) w ≡ le_z x (w -ℤ pos 1 -ℤ r)
moved r x w =
    rw (parts r, parts x, parts w) (at (up r) (down r) (up x) (down x) (up w) (down w))
  where
    at : (a b c d e f : ℕ) → le_z (sub_ℕ a b +ℤ sub_ℕ c d +ℤ pos 1) (sub_ℕ e f) ≡ le_z (sub_ℕ c d) (sub_ℕ e f -ℤ pos 1 -ℤ sub_ℕ a b)
    at a b c d e f =
        ap (λ (y : ℤ). le_z y (sub_ℕ e f)) (ap (λ (y : ℤ). y +ℤ pos 1) (sub_add a b c d) ∙ sym (number_add (b + d) (a + c) 1))
        ∙ sub_le (a + c + 1) (b + d) e f
        ∙ tests (a + c + 1 + f) (e + (b + d)) (c + (f + 1 + a)) (e + b + d) (λ h. omega arith) (λ h. omega arith)
        ∙ sym (ap (le_z (sub_ℕ c d)) (less_one e f a b) ∙ sub_le c d (e + b) (f + 1 + a))

-- the sum r + k * n, at the parts
sum_at : (n : ℕ) (r k : ℤ) → r +ℤ k *ℤ pos n ≡ sub_ℕ (up r + up k * n) (down r + down k * n)
sum_at n r k =
    ap₂ ◌+ℤ◌ (parts r) (ap (λ (x : ℤ). x *ℤ pos n) (parts k) ∙ sub_mul (up k) (down k) n)
    ∙ sub_add (up r) (down r) (up k * n) (down k * n)

-- the same one count later
sum_next : (n : ℕ) (r k : ℤ) → r +ℤ (k +ℤ pos 1) *ℤ pos n ≡ sub_ℕ (up r + (up k + 1) * n) (down r + down k * n)
sum_next n r k =
    ap₂ ◌+ℤ◌ (parts r) (ap (λ (x : ℤ). x *ℤ pos n) (plus k 1) ∙ sub_mul (up k + 1) (down k) n)
    ∙ sub_add (up r) (down r) ((up k + 1) * n) (down k * n)

-- ---- the search downwards finds the one count that its test singles out
latest_is : (f : ℤ → ℤ) (z lo : ℤ) (m n : ℕ) → m ≤ n → le_z (f (lo +ℤ pos m)) z ≡ true →
    ((j : ℕ) → m < j → j ≤ n → le_z (f (lo +ℤ pos j)) z ≡ false) → latest f z lo n ≡ lo +ℤ pos m
unfolding latest
latest_is f z lo m zero l e g = sym (ap (λ (k : ℕ). lo +ℤ pos k) (omega arith) ∙ +ℤ_idr lo)
latest_is f z lo m (suc n) l e g = go (way m (suc n)) (λ k. latest_is f z lo m n k e (λ j a b. g j a (omega arith)))
  where
    go : Way m (suc n) → (m ≤ n → latest f z lo n ≡ lo +ℤ pos m) → latest f z lo (suc n) ≡ lo +ℤ pos m
    go (below k) i = rw (g (suc n) k (omega arith)) (i (omega arith))
    go (above k) i = same (suc n) (omega arith)
      where
        same : (j : ℕ) → m ≡ j → cond (le_z (f (lo +ℤ pos j)) z) (lo +ℤ pos j) (latest f z lo n) ≡ lo +ℤ pos m
        same j d = rw (← d, e)

-- ---- the inverse
abbrev pub last_of : ℤ → ℕ → ℕ → ℤ → ℤ
last_of r n d z = floor_z ((z +ℤ pos 1) *ℤ pos d -ℤ pos 1 -ℤ r) n

module _ (r : ℤ) (n d : ℕ) (p : 0 < d) (l : d ≤ n) where
  -- a count's time is not later than z where the count is not after the division's
  pub not_later : (k z : ℤ) → le_z (clock r n d k) z ≡ le_z k (last_of r n d z)
  unfolding clock
  not_later k z =
      over_floor d p (r +ℤ k *ℤ pos n) z
      ∙ moved r (k *ℤ pos n) ((z +ℤ pos 1) *ℤ pos d)
      ∙ sym (under_floor n (omega arith) ((z +ℤ pos 1) *ℤ pos d -ℤ pos 1 -ℤ r) k)

  -- with each count the clock gains at least 1
  pub gains : (k : ℤ) → le_z (clock r n d k +ℤ pos 1) (clock r n d (k +ℤ pos 1)) ≡ true
  unfolding clock
  gains k =
      under_floor d p (r +ℤ (k +ℤ pos 1) *ℤ pos n) (f +ℤ pos 1)
      ∙ ap₂ le_z (ap (λ (x : ℤ). x *ℤ pos d) (plus f 1) ∙ sub_mul (up f + 1) (down f) d) (sum_next n r k)
      ∙ sub_le ((up f + 1) * d) (down f * d) (up r + (up k + 1) * n) (down r + down k * n)
      ∙ le-leb ((up f + 1) * d + (down r + down k * n)) (up r + (up k + 1) * n + down f * d) (omega (arith, had))
    where
      f : ℤ
      f = floor_z (r +ℤ k *ℤ pos n) d

      had : up f * d + (down r + down k * n) ≤ up r + up k * n + down f * d
      had =
          leb-true _ _
          (sym (ap₂ le_z (ap (λ (x : ℤ). x *ℤ pos d) (parts f) ∙ sub_mul (up f) (down f) d) (sum_at n r k)
          ∙ sub_le (up f * d) (down f * d) (up r + up k * n) (down r + down k * n))
          ∙ sym (under_floor d p (r +ℤ k *ℤ pos n) f) ∙ le_refl f)

  -- and at most s, where n is at most s * d
  pub gains_most : (s : ℕ) → n ≤ s * d → (k : ℤ) → le_z (clock r n d (k +ℤ pos 1)) (clock r n d k +ℤ pos s) ≡ true
  unfolding clock
  gains_most s h k =
      over_floor d p (r +ℤ (k +ℤ pos 1) *ℤ pos n) (f +ℤ pos s)
      ∙ ap₂ le_z
      (ap (λ (x : ℤ). x +ℤ pos 1) (sum_next n r k) ∙ sym (number_add (down r + down k * n) (up r + (up k + 1) * n) 1))
      (ap (λ (x : ℤ). (x +ℤ pos 1) *ℤ pos d) (plus f s) ∙ ap (λ (x : ℤ). x *ℤ pos d) (sym (number_add (down f) (up f + s) 1))
      ∙ sub_mul (up f + s + 1) (down f) d)
      ∙ sub_le (up r + (up k + 1) * n + 1) (down r + down k * n) ((up f + s + 1) * d) (down f * d)
      ∙ le-leb (up r + (up k + 1) * n + 1 + down f * d) ((up f + s + 1) * d + (down r + down k * n)) (omega (arith, had))
    where
      f : ℤ
      f = floor_z (r +ℤ k *ℤ pos n) d

      had : up r + up k * n + 1 + down f * d ≤ (up f + 1) * d + (down r + down k * n)
      had =
          leb-true _ _
          (sym (ap₂ le_z
          (ap (λ (x : ℤ). x +ℤ pos 1) (sum_at n r k) ∙ sym (number_add (down r + down k * n) (up r + up k * n) 1))
          (ap (λ (x : ℤ). x *ℤ pos d) (plus f 1) ∙ sub_mul (up f + 1) (down f) d)
          ∙ sub_le (up r + up k * n + 1) (down r + down k * n) ((up f + 1) * d) (down f * d))
          ∙ sym (over_floor d p (r +ℤ k *ℤ pos n) f) ∙ le_refl f)

  -- ---- the clock rises, and the division undoes it
  pub rises : (j k : ℤ) → le_z j k ≡ true → le_z (clock r n d j) (clock r n d k) ≡ true
  rises j k e =
      not_later j (clock r n d k)
      ∙ le_trans j k (last_of r n d (clock r n d k)) e (sym (not_later k (clock r n d k)) ∙ le_refl (clock r n d k))

  pub last_of_clock : (k : ℤ) → last_of r n d (clock r n d k) ≡ k
  last_of_clock k =
      le_both x k (after (le_z x k) refl) (sym (not_later k (clock r n d k)) ∙ le_refl (clock r n d k))
    where
      x : ℤ
      x = last_of r n d (clock r n d k)

      after : (t : Bool) → le_z x k ≡ t → le_z x k ≡ true
      after true e = e
      after false e =
          absurd (false≢true (sym (next_above (clock r n d (k +ℤ pos 1)) (clock r n d k) (gains k))
          ∙ not_later (k +ℤ pos 1) (clock r n d k) ∙ above_next x k e))

  -- the time at the division's count is not later than z, and less than what the clock gains earlier
  pub last_early : (z : ℤ) → le_z (clock r n d (last_of r n d z)) z ≡ true
  last_early z = not_later (last_of r n d z) z ∙ le_refl (last_of r n d z)

  pub last_late : (k z : ℤ) → le_z k (last_of r n d z) ≡ false → le_z (z +ℤ pos 1) (clock r n d k) ≡ true
  last_late k z e = above_next (clock r n d k) z (not_later k z ∙ e)

  pub last_close : (s : ℕ) → n ≤ suc s * d → (z : ℤ) → le_z z (clock r n d (last_of r n d z) +ℤ pos s) ≡ true
  last_close s h z =
      le_less z (clock r n d x) s
      (le_trans (z +ℤ pos 1) (clock r n d (x +ℤ pos 1)) (clock r n d x +ℤ pos (suc s))
      (last_late (x +ℤ pos 1) z (next_above (x +ℤ pos 1) x (le_refl (x +ℤ pos 1)))) (gains_most (suc s) h x))
    where
      x : ℤ
      x = last_of r n d z

  -- ---- the search downwards finds the division's count, in a window whose times z lies between
  pub latest_last : (z lo : ℤ) (m : ℕ) → le_z (clock r n d lo) z ≡ true → le_z z (clock r n d (lo +ℤ pos m)) ≡ true →
      latest (clock r n d) z lo m ≡ last_of r n d z
  latest_last z lo m e f =
      latest_is (clock r n d) z lo j m
      (leb-true j m (sym (le_steps lo j m) ∙ ap (λ (y : ℤ). le_z y (lo +ℤ pos m)) (sym at) ∙ inside))
      (not_later (lo +ℤ pos j) z ∙ ap (λ (y : ℤ). le_z y x) (sym at) ∙ le_refl x)
      (λ i h k. not_later (lo +ℤ pos i) z ∙ ap (le_z (lo +ℤ pos i)) at ∙ le_steps lo i j ∙ lt-leb i j h)
      ∙ sym at
    where
      x : ℤ
      x = last_of r n d z

      j : ℕ
      j = steps lo x

      at : x ≡ lo +ℤ pos j
      at = steps_to lo x (sym (not_later lo z) ∙ e)

      inside : le_z x (lo +ℤ pos m) ≡ true
      inside =
          ap (le_z x) (sym (last_of_clock (lo +ℤ pos m)))
          ∙ sym (not_later x (clock r n d (lo +ℤ pos m)))
          ∙ le_trans (clock r n d x) z (clock r n d (lo +ℤ pos m)) (last_early z) f
