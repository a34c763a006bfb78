-- A correlated counter on the places of the axis, as the code reckons: a time in microseconds from day -40000 on, a count with half the
-- modulus added. Each law says that a meaning is the one computed on the places. Assumes nothing.
use Rattle.std.specs.Prelude.{◌≡◌, Bool, true, ◌&&◌, ℕ, suc, ◌+◌, ◌-◌, ◌*◌, ◌/◌, ◌%◌, ◌≤◌, ◌<◌, leb, ℤ, pos, neg_ℤ, ◌*ℤ◌}
use Rattle.std.proofs.Common.{sym, ap₂, ◌∙◌, le-div_iff_mul-le, arith, leb-true}
use Rattle.std.proofs.Math.Path.{ap}
use Rattle.std.proofs.Math.IntN.{sub_ℕ, ◌+ℤ◌}
use Rattle.std.specs.Int.Signed.{le_z}
use Rattle.axis.specs.Meaning.{micros_at, floor_z, mod_z}
use Rattle.axis.specs.Diff.{is_pos, neg_pos, sub_eq, sub_add, sub_mul, sub_floor, sub_mod, sub_le_same}
use Rattle.axis.specs.Shift.{number_add}
use Rattle.clock.specs.Meaning.{Clock, elapsed, clock, time, in_window, Cover, cover, within, count_at}
use Rattle.clock.specs.Clock.{less_one}
use Rattle.clock.specs.Window.{Runs, divided, divided_to}
use Rattle.clock.specs.declared.inner.Base.{Base}
use Rattle.clock.specs.declared.inner.Ends.{Ends}
use Rattle.clock.specs.declared.inner.Reckoned.{Reckoned}

-- ---- r parts of a microsecond from day -40000 on, n gained with each count, d parts to a microsecond, h half the modulus
abbrev pub time_at : ℕ → ℕ → ℕ → ℕ → ℕ → ℕ
time_at r n d h k = (r + k * n - h * n) / d

abbrev pub last_at : ℕ → ℕ → ℕ → ℕ → ℕ → ℕ
last_at r n d h w = ((w + 1) * d + h * n - r - 1) / n

abbrev pub base_as : ℕ → Bool → Base
base_as n b = record { at = n; current = b }

-- the cover of a window of b counts back and a ahead
abbrev pub ends_at : ℕ → ℕ → ℕ → ℕ → ℕ → ℕ → Ends
ends_at r n d h b a = record { from = time_at r n d h (h - b); to = time_at r n d h (h + a) }

-- k + h of a count k is in the window
abbrev pub window_at : ℕ → ℕ → ℕ → ℕ → Bool
window_at h b a k = leb (h - b) k && leb k (h + a)

-- what is reckoned of a count, held as k
abbrev pub reckoned_at : ℕ → ℕ → ℕ → ℕ → ℕ → ℕ → ℕ → Reckoned
reckoned_at r n d h b a k = record { inside = window_at h b a k; ends = ends_at r n d h b a; at = time_at r n d h k }

abbrev pub cover_of : Ends → Cover
cover_of v = record { from = micros_at v.from; to = micros_at v.to }

-- the place w is in the cover
abbrev pub within_at : Ends → ℕ → Bool
within_at v w = leb v.from w && leb w v.to

-- k + h of the elapsed count k, and the counter at it
abbrev pub count_from : ℕ → ℕ → ℕ → ℕ
count_from h t r = (t + h + r * (2 * h - 1)) % (2 * h)

abbrev pub shown_at : ℕ → ℕ → ℕ → ℕ
shown_at h r k = (r + k + h) % (2 * h)

pub within_place : (v : Ends) (w : ℕ) → within (cover_of v) (micros_at w) ≡ within_at v w
unfolding within
within_place v w = ap₂ ◌&&◌ (sub_le_same 3456000000000000 v.from w) (sub_le_same 3456000000000000 w v.to)

-- ---- counts
module _ (c : Clock) where
  pub elapsed_place : (t : ℕ) → 0 < c.half → elapsed c t ≡ sub_ℕ (count_from c.half t c.reference) c.half
  elapsed_place t p =
      let h = c.half in
      let r = c.reference in
      ap (λ (n : ℕ). sub_ℕ n h)
      (ap (λ (x : ℤ). mod_z x (2 * h)) (sub_eq (t + h) r (t + h + r * (2 * h - 1)) (r * (2 * h)) (omega (arith, around (2 * h - 1) (2 * h) (omega arith))))
      ∙ sub_mod (t + h + r * (2 * h - 1)) r (2 * h) (omega arith))
    where
      around : (m n : ℕ) → n ≡ suc m → c.reference * n ≡ c.reference * m + c.reference
      around m n e = omega (arith, ap (λ (x : ℕ). c.reference * x) e)

  pub count_place : (k : ℕ) → 0 < c.half → count_at c (sub_ℕ k c.half) ≡ shown_at c.half c.reference k
  count_place k p =
      ap (λ (x : ℤ). mod_z x (2 * c.half))
      (ap (λ (x : ℤ). x +ℤ sub_ℕ k c.half) (is_pos c.reference) ∙ sub_add c.reference 0 k c.half
      ∙ sub_eq (c.reference + k) (0 + c.half) (c.reference + k + c.half) (1 * (2 * c.half)) (omega arith))
      ∙ sub_mod (c.reference + k + c.half) 1 (2 * c.half) (omega arith)

  pub back_place : c.back ≤ c.half → neg_ℤ (pos c.back) ≡ sub_ℕ (c.half - c.back) c.half
  back_place l = neg_pos c.back ∙ sub_eq 0 c.back (c.half - c.back) c.half (omega arith)

  pub ahead_place : pos c.ahead ≡ sub_ℕ (c.half + c.ahead) c.half
  ahead_place = is_pos c.ahead ∙ sub_eq c.ahead 0 (c.half + c.ahead) c.half (omega arith)

  pub window_place : c.back ≤ c.half → (k : ℕ) → in_window c (sub_ℕ k c.half) ≡ window_at c.half c.back c.ahead k
  unfolding in_window
  window_place l k =
      rw (
        back_place l,
        ahead_place,
        sub_le_same c.half (c.half - c.back) k,
        sub_le_same c.half k (c.half + c.ahead),
      )

-- ---- a clock whose start lies r parts from day -40000 on, and half the counter's gain before it too, 10 s from there or more: the
-- first offset of a list can be taken away
pub record Based (c : Clock) (r : ℕ) : Type 0 where
  pub runs : Runs c
  pub start : c.start ≡ sub_ℕ r (3456000000000000 * c.per)
  pub early : c.half * c.gain + 10000000 * c.per ≤ r

module _ (c : Clock) (r : ℕ) (b : Based c r) where
  pub time_place : (k : ℕ) → time c (sub_ℕ k c.half) ≡ micros_at (time_at r c.gain c.per c.half k)
  unfolding clock
  time_place k =
      let n = c.gain in
      let d = c.per in
      let h = c.half in
      ap (λ (x : ℤ). floor_z x d)
      (ap₂ ◌+ℤ◌ b.start (sub_mul k h n)
      ∙ sub_add r (3456000000000000 * d) (k * n) (h * n)
      ∙ sub_eq (r + k * n) (3456000000000000 * d + h * n) (r + k * n - h * n) (3456000000000000 * d) (omega (arith, b.early)))
      ∙ sub_floor (r + k * n - h * n) 3456000000000000 d b.runs.whole

  pub counted_place : (t : ℕ) → time c (elapsed c t) ≡ micros_at (time_at r c.gain c.per c.half (count_from c.half t c.reference))
  counted_place t = ap (time c) (elapsed_place c t (omega (arith, b.runs.ahead_to))) ∙ time_place (count_from c.half t c.reference)

  pub time_far : (k : ℕ) → 10000000 ≤ time_at r c.gain c.per c.half k
  time_far k = (le-div_iff_mul-le b.runs.whole).1 (omega (arith, b.early))

  pub divided_place : (w : ℕ) → r < (w + 1) * c.per + c.half * c.gain →
      divided c (micros_at w) ≡ sub_ℕ (last_at r c.gain c.per c.half w) c.half
  divided_place w l =
      let n = c.gain in
      let d = c.per in
      let h = c.half in
      ap (λ (x : ℤ). floor_z x n)
      (ap₂ (λ (x y : ℤ). x +ℤ neg_ℤ (pos 1) +ℤ neg_ℤ y)
      (ap (λ (x : ℤ). x *ℤ pos d) (sym (number_add 3456000000000000 w 1)) ∙ sub_mul (w + 1) 3456000000000000 d)
      b.start
      ∙ less_one ((w + 1) * d) (3456000000000000 * d) r (3456000000000000 * d)
      ∙ sub_eq ((w + 1) * d + 3456000000000000 * d) (3456000000000000 * d + 1 + r) ((w + 1) * d + h * n - r - 1) (h * n) (omega (arith, l)))
      ∙ sub_floor ((w + 1) * d + h * n - r - 1) h n (omega (arith, b.runs.whole, b.runs.fast))

  pub cover_place : cover c ≡ cover_of (ends_at r c.gain c.per c.half c.back c.ahead)
  cover_place =
      ap₂ (λ (x y : ℤ). record { from = x; to = y })
      (ap (time c) (back_place c b.runs.back_to) ∙ time_place (c.half - c.back))
      (ap (time c) (ahead_place c) ∙ time_place (c.half + c.ahead))

  -- ---- a place in the cover: the division's count is one of the counter's
  module _ (w : ℕ) (e : within (cover c) (micros_at w) ≡ true) (l : r < (w + 1) * c.per + c.half * c.gain) where
    pub last_few : last_at r c.gain c.per c.half w < 2 * c.half
    last_few =
        let k =
        leb-true (last_at r c.gain c.per c.half w) (c.half + c.ahead)
        (sym (ap₂ le_z (divided_place w l) (ahead_place c) ∙ sub_le_same c.half (last_at r c.gain c.per c.half w) (c.half + c.ahead))
        ∙ divided_to c b.runs (micros_at w) e) in
        omega (arith, b.runs.ahead_to)
