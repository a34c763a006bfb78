-- Microseconds from a day on, and its place p on the axis: there and back. Assumes nothing.
use Rattle.std.specs.Prelude.{◌≡◌, refl, ℕ, ◌+◌, ◌-◌, ◌*◌, ◌/◌, ◌%◌, ◌≤◌, ◌<◌, ℤ}
use Rattle.std.proofs.Common.{sym, ap, ap₂, ◌∙◌, arith}
use Rattle.axis.specs.Meaning.{place_of_day, day_at, Moment}
use Rattle.axis.specs.Axis.{place_day, day_place}
use Rattle.axis.specs.Shift.{number_add}
use Rattle.layout_times.specs.Meaning.{moment_from, micros_from}

module _ (p : ℕ) where
  pub day_is : (n : ℕ) → (moment_from (day_at p) n).day ≡ day_at (p + n / 86400000000)
  day_is n = sym (number_add 40000 p (n / 86400000000))

  pub place_is : (n : ℕ) → p + n / 86400000000 ≤ 100000 → place_of_day (moment_from (day_at p) n).day ≡ p + n / 86400000000
  place_is n h = ap place_of_day (day_is n) ∙ place_day (p + n / 86400000000) h

  -- n microseconds after day p and back
  pub micros_moment : (n : ℕ) → p + n / 86400000000 ≤ 100000 → micros_from (day_at p) (moment_from (day_at p) n).day (moment_from (day_at p) n).micro ≡ n
  micros_moment n h =
      ap₂ (λ (x y : ℕ). (x - y) * 86400000000 + n % 86400000000) (place_is n h) (place_day p (omega arith)) ∙ go
    where
      go : (p + n / 86400000000 - p) * 86400000000 + n % 86400000000 ≡ n
      go = omega arith

  -- a day and a microsecond and back
  module _ (d : ℤ) (u : ℕ) (h : p ≤ place_of_day d) (l : 0 < place_of_day d) (k : place_of_day d < 100000) (m : u < 86400000000) where
    pub micros_is : micros_from (day_at p) d u ≡ (place_of_day d - p) * 86400000000 + u
    micros_is = ap (λ (x : ℕ). (place_of_day d - x) * 86400000000 + u) (place_day p (omega arith))

    pub moment_micros : moment_from (day_at p) (micros_from (day_at p) d u) ≡ record { day = d; micro = u }
    moment_micros =
        ap (moment_from (day_at p)) micros_is
        ∙ ap₂ {C = Moment} (λ (x : ℤ) (y : ℕ). record { day = x; micro = y })
        (day_is ((place_of_day d - p) * 86400000000 + u) ∙ ap day_at (over (place_of_day d) _ h refl) ∙ day_place d l k)
        (rest (place_of_day d - p) _ refl)
      where
        over : (x n : ℕ) → p ≤ x → n ≡ (x - p) * 86400000000 + u → p + n / 86400000000 ≡ x
        over x n h e = omega arith

        rest : (x n : ℕ) → n ≡ x * 86400000000 + u → n % 86400000000 ≡ u
        rest x n e = omega arith
