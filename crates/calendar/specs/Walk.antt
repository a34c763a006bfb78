-- Counting off months finds the month in which a day lies. Assumes nothing.
use Rattle.std.specs.Prelude.{◌≡◌}
use Rattle.std.proofs.Math.Path.{ap}
use Rattle.std.proofs.Common.{◌∙◌, add-zero, lt-ltb, le-ltb}
use Prim.Native.Nat.{ℕ, zero, suc, ◌+◌, ◌-◌, ◌<◌, ◌≤◌}
use native.Mathlib.Omega.{arith}
use Rattle.axis.specs.Diff.{Way, way, below, above}
use Rattle.calendar.specs.Meaning.{length_of, first_day, walk}
use Rattle.calendar.specs.Gregorian.{first_start, first_next, first_end, first_mono}

-- day n lies in month k of the span, with r days of the month before it
pub record Located (n k r : ℕ) : Type 0 where
  pub early : k < 1536
  pub whole : first_day k + r ≡ n
  pub short : r < length_of k

-- a day of month k is before the first of the next
pub before_next : (n k r : ℕ) → Located n k r → n < first_day (suc k)
before_next n k r l = let s = l.short in let w = l.whole in omega (arith, first_next k)

-- two months with a day in common are one
same_month : (k n j r : ℕ) → first_day k + n ≡ first_day j + r → n < length_of k → k ≤ j → k ≡ j
same_month k n j r e h p = go (way k j)
  where
    go : Way k j → k ≡ j
    go (below q) = absurd (omega (arith, first_next k, first_mono (suc k) j q))
    go (above q) = omega arith

module _ (j r : ℕ) (h : r < length_of j) where
  walk_found : (f k n : ℕ) → first_day k + n ≡ first_day j + r → k ≤ j → j < k + f → walk f k n ≡ record { month = j; past = r }
  unfolding walk
  walk_found zero k n e p q = absurd (omega arith)
  walk_found (suc f) k n e p q = go (way n (length_of k)) (walk_found f (suc k) (n - length_of k))
    where
      go : Way n (length_of k)
          → (first_day (suc k) + (n - length_of k) ≡ first_day j + r → suc k ≤ j → j < suc k + f
          → walk f (suc k) (n - length_of k) ≡ record { month = j; past = r })
          → walk (suc f) k n ≡ record { month = j; past = r }
      go (below l) rest =
          let s : k ≡ j = same_month k n j r e l p in
          let t : n ≡ r = omega (arith, ap first_day s) in
          rw (lt-ltb n (length_of k) l) (rw (s, t))
      go (above l) rest =
          rw (le-ltb n (length_of k) l) (rest (omega (arith, first_next k)) (later (way k j)) (omega arith))
        where
          later : Way k j → suc k ≤ j
          later (below q) = q
          later (above q) = let s : k ≡ j = omega arith in absurd (omega (arith, ap first_day s, ap length_of s))

-- where a day of the span lies is where counting finds it
pub walk_at : (n k r : ℕ) → Located n k r → walk 1536 0 n ≡ record { month = k; past = r }
walk_at n k r l =
    let w = l.whole in
    let e = l.early in
    walk_found k r l.short 1536 0 n (omega (arith, first_start)) (omega arith) (omega arith)

-- from 1 January 2100 on all the months are counted off
walk_all : (f k n : ℕ) → first_day (k + f) ≤ first_day k + n → (walk f k n).past ≡ first_day k + n - first_day (k + f)
unfolding walk
walk_all zero k n h = rw (add-zero k) (omega arith)
walk_all (suc f) k n h =
    let e : k + suc f ≡ suc k + f = omega arith in
    let g : first_day (suc k + f) ≤ first_day k + n = rw (← e) h in
    let l : length_of k ≤ n = omega (arith, first_next k, first_mono (suc k) (suc k + f) (omega arith)) in
    rw (le-ltb n (length_of k) l, e)
    (walk_all f (suc k) (n - length_of k) (omega (arith, first_next k)) ∙ omega (arith, first_next k))

pub walk_end : (n : ℕ) → 46752 ≤ n → (walk 1536 0 n).past ≡ n - 46752
walk_end n h = walk_all 1536 0 n (omega (arith, first_start, first_end)) ∙ omega (arith, first_start, first_end)

-- every day of the span lies somewhere
pub record Spotted (n : ℕ) : Type 0 where
  pub month : ℕ
  pub past : ℕ
  pub there : Located n month past

found : (f n : ℕ) → f ≤ 1536 → n < first_day f → Spotted n
found zero n p h = absurd (omega (arith, first_start))
found (suc f) n p h = go (way n (first_day f)) (found f n)
  where
    go : Way n (first_day f) → (f ≤ 1536 → n < first_day f → Spotted n) → Spotted n
    go (below l) rest = rest (omega arith) l
    go (above l) rest =
        record { month = f; past = n - first_day f; there = record { early = omega arith; whole = omega arith; short = omega (arith, first_next f) } }

pub spotted : (n : ℕ) → n < 46752 → Spotted n
spotted n h = found 1536 n (omega arith) (omega (arith, first_end))
