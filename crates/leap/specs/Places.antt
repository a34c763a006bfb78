-- The list's meaning on the axis: days by their places, TAI counts by their places in microseconds. Assumes nothing.
use Rattle.std.specs.Prelude.{◌≡◌, ◌&&◌, List, ℕ, ◌+◌, ◌-◌, ◌*◌, ◌/◌, ◌%◌, ◌≤◌, ◌<◌, leb, eqb, ℤ, ◌+ℤ◌}
use Rattle.std.proofs.Common.{ap, ap₂, ◌∙◌, arith, le-leb, eq-eqb, ne_eqb}
use Rattle.std.proofs.lemmas.Bool.{lt-leb}
use Rattle.axis.specs.Meaning.{place_of_day, day_at, micros_at, Moment, day_micros, moment_of}
use Rattle.axis.specs.Diff.{Way, way, below, above}
use Rattle.axis.specs.Axis.{day_from, day_to, since_at, day_before, micros_add, moment_at_lem, micros_minus}
use Rattle.leap.specs.Meaning.{seconds, same_day, offset_on, tai_of, tai_of_start, plain, sixty}

-- ---- days
-- two tests of order are one of equality
pub both_ways : (p a : ℕ) → (leb p a && leb a p) ≡ eqb p a
both_ways p a = go (way p a) (way a p)
  where
    go : Way p a → Way a p → (leb p a && leb a p) ≡ eqb p a
    go (below x) y = rw (le-leb p a (omega arith), lt-leb a p x, ne_eqb p a (λ q. omega arith))
    go (above x) (below y) = rw (lt-leb p a y, ne_eqb p a (λ q. omega arith))
    go (above x) (above y) = rw (le-leb p a y, le-leb a p x, eq-eqb p a (omega arith))

-- whether a day is the day at a place
pub same_at : (d : ℤ) (a : ℕ) → 0 < a → a < 100000 → same_day d (day_at a) ≡ eqb (place_of_day d) a
same_at d a h k = ap₂ ◌&&◌ (day_to a d k) (day_from a d h (omega arith)) ∙ both_ways (place_of_day d) a

-- ---- TAI counts
pub tai_at_lem : (ds : List ℤ) (os : List ℕ) (a u : ℕ) → tai_of ds os (day_at a) u ≡ micros_at (a * day_micros + u + offset_on ds os (day_at a) * 1000000)
tai_at_lem ds os a u =
    ap (λ (z : ℤ). z +ℤ seconds (offset_on ds os (day_at a))) (since_at a u) ∙ micros_add (a * day_micros + u) (offset_on ds os (day_at a) * 1000000)

pub start_at : (s p : ℕ) → tai_of_start (day_at s) p ≡ micros_at (s * day_micros + p * 1000000)
start_at s p =
    let e : s * day_micros + 0 + p * 1000000 ≡ s * day_micros + p * 1000000 = omega arith in
    ap (λ (z : ℤ). z +ℤ seconds p) (since_at s 0) ∙ micros_add (s * day_micros + 0) (p * 1000000) ∙ ap micros_at e

-- the UTC day and microsecond by the offset p
abbrev pub plain_at : ℕ → ℕ → Moment
plain_at p c = record { day = day_at ((c - p * 1000000) / day_micros); micro = (c - p * 1000000) % day_micros }

pub plain_at_lem : (p c : ℕ) → p * 1000000 ≤ c → plain p (micros_at c) ≡ plain_at p c
plain_at_lem p c h = ap moment_of (micros_minus c (p * 1000000) h) ∙ moment_at_lem (c - p * 1000000)

-- second 60 before the step (s, p)
abbrev pub sixty_at : ℕ → ℕ → ℕ → Moment
sixty_at s p c = record { day = day_at (s - 1); micro = day_micros + (c - (p - 1) * 1000000) % day_micros }

pub sixty_at_lem : (s p c : ℕ) → 0 < s → (p - 1) * 1000000 ≤ c → sixty (day_at s) p (micros_at c) ≡ sixty_at s p c
sixty_at_lem s p c h k =
    ap₂ {C = Moment} (λ (d : ℤ) (m : Moment). record { day = d; micro = day_micros + m.micro }) (day_before s h)
    (ap moment_of (micros_minus c ((p - 1) * 1000000) k) ∙ moment_at_lem (c - (p - 1) * 1000000))
