-- An accepted list, whole: the UTC times that its days have, in the order of their TAI counts, up to E. Assumes nothing.
use Rattle.std.specs.Prelude.{◌≡◌, true, List, ℕ, ◌+◌, ◌*◌, ◌<◌, ◌≤◌, ltb, ℤ}
use Rattle.std.proofs.Common.{sym, ap, ◌∙◌, arith}
use Rattle.std.specs.Int.Signed.{lt_z}
use Rattle.axis.specs.Meaning.{place_of_day, day_at, day_micros}
use Rattle.axis.specs.Diff.{Way, way, below, above}
use Rattle.axis.specs.Axis.{day_lt}
use Rattle.leap.specs.Meaning.{accepted, offset_on, is_expired_day}
use Rattle.leap.specs.Steps.{Steps, steps}
use Rattle.leap.specs.Force.{offset_most, offset_mono, step_gain}
use Rattle.leap.specs.Back.{Real, Right}

-- the place of the TAI count of microsecond u of the day at place a
abbrev pub tai_at : List ℤ → List ℕ → ℕ → ℕ → ℕ
tai_at ds os a u = a * day_micros + u + offset_on ds os (day_at a) * 1000000

module _ (ds : List ℤ) (os : List ℕ) (e : ℤ) (h : accepted ds os e ≡ true) where
  list : Steps ds os e
  list = steps ds os e h

  -- a UTC day is expired after E
  pub expired_at : (a : ℕ) → is_expired_day e (day_at a) ≡ ltb (place_of_day e) a
  expired_at a = ap (λ (z : ℤ). lt_z z (day_at a)) (sym list.day) ∙ day_lt (place_of_day e) a

  pub offset_small : (a : ℕ) → offset_on ds os (day_at a) ≤ 73
  offset_small a = omega (arith, offset_most list.grown a, list.few)

  -- a time that its day has comes before the next day
  pub day_ends : (a u : ℕ) → Real ds a u → tai_at ds os a u < tai_at ds os (a + 1) 0
  day_ends a u r = go (way u day_micros)
    where
      go : Way u day_micros → tai_at ds os a u < tai_at ds os (a + 1) 0
      go (below x) = omega (arith, offset_mono list.grown a (a + 1) r.from (omega arith))
      go (above x) = omega (arith, step_gain list.grown a r.from (r.has x), r.under)

  -- later stays later, second 60 included
  pub tai_later : (a u c v : ℕ) → Real ds a u → Real ds c v → a * 86401000000 + u < c * 86401000000 + v → tai_at ds os a u < tai_at ds os c v
  tai_later a u c v r q l = go (way a c)
    where
      go : Way a c → tai_at ds os a u < tai_at ds os c v
      go (below x) = omega (arith, day_ends a u r, offset_mono list.grown (a + 1) c (omega (arith, r.from)) (omega arith))
      go (above x) =
          let z : a ≡ c = omega (arith, r.under, q.under) in
          omega (arith, ap (λ (n : ℕ). offset_on ds os (day_at n)) z)

  -- a day up to E ends before the TAI of 00:00:00 UTC on E+1
  pub known_before : (a u : ℕ) → Real ds a u → a ≤ place_of_day e → tai_at ds os a u < tai_at ds os (place_of_day e + 1) 0
  known_before a u r l =
      omega (arith, day_ends a u r, offset_mono list.grown (a + 1) (place_of_day e + 1) (omega (arith, r.from)) (omega arith))

  -- a TAI count before it is that of a day up to E
  pub before_known : (c : ℕ) (r : Right ds os c) → c < tai_at ds os (place_of_day e + 1) 0 → r.place ≤ place_of_day e
  before_known c r l = go (way (place_of_day e) r.place)
    where
      go : Way (place_of_day e) r.place → r.place ≤ place_of_day e
      go (below x) =
          absurd (omega (arith, r.tai, offset_mono list.grown (place_of_day e + 1) r.place (omega (arith, list.from)) (omega arith)))
      go (above x) = x
