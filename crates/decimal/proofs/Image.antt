-- The ways out of `write`. Assumes nothing.
use mathlib.Core.Path.{◌≡◌, refl, sym, subst, ◌∙◌}
use mathlib.Core.Bool.{true, false}
use Prim.Native.Nat.{ℕ, ◌+◌, ◌-◌, ◌*◌, ◌/◌, ◌≤◌, ◌<◌}
use native.Mathlib.Omega.{arith}
use lib.IntN.{ℤ}
use lib.Ieee.{Float}
use lib.Dec.{ltb}
use borrow.Author.Tests.{lt-ltb, le-ltb}
use Rattle.axis.specs.Meaning.{since, place_of_day, day_at, micros_at, Moment, day_micros}
use Rattle.axis.specs.Diff.{is_pos, neg_pos, sub_eq}
use Rattle.axis.specs.Axis.{since_at}
use Rattle.scales.specs.Meaning.{given, gives, bound, outcome, time_scale, time_count}
use Rattle.scales.specs.Place.{apart, day_part}
use Rattle.scales.specs.declared.Refusal.{Refusal}
use Rattle.scales.specs.declared.Refusal.TheVariants as R
use Rattle.scales.specs.declared.Time.{Time}
use Rattle.double.specs.Meaning.{signed}
use Rattle.handed.specs.declared.Handed.{Handed}
use Rattle.decimal.specs.Meaning.{DayOf, decimal_slip, Allowed, WroteDay}
use Rattle.decimal.specs.Parts.{imaging, Imaged}
use Rattle.handed.specs.Told.{untaken_lem, Told, handed_placed, told_scale, told_count, told_moment, count_in}
use Rattle.handed.specs.Meaning.{scale_of, day_of, micro_of, Took, refusal_by}
use Rattle.handed.specs.declared.Untaken.{Untaken}
use Rattle.std.specs.Prelude.{Result, Ok, Err}

-- ---- a place of the axis, by its distance from day 0
pub place_before : (n : ℕ) → n < 3456000000000000 → signed true (3456000000000000 - n) ≡ micros_at n
place_before n h = neg_pos (3456000000000000 - n) ∙ sub_eq 0 (3456000000000000 - n) n 3456000000000000 (omega arith)

pub place_after : (n : ℕ) → 3456000000000000 ≤ n → signed false (n - 3456000000000000) ≡ micros_at n
place_after n h = is_pos (n - 3456000000000000) ∙ sub_eq (n - 3456000000000000) 0 n 3456000000000000 (omega arith)

-- ---- second 60, and the rest of the day
pub image_no : (d : ℤ) (u : ℕ) → day_micros ≤ u → Allowed (outcome (imaging d u)) (decimal_slip (Err R.NoImage))
image_no d u h = rw (le-ltb u day_micros h) ((refl, refl))

pub image_at_lem : (p u : ℕ) (x : Float) → u < day_micros → DayOf (micros_at (p * day_micros + u)) x → Allowed (outcome (imaging (day_at p) u)) (decimal_slip (Ok x))
image_at_lem p u x h k = rw (lt-ltb u day_micros h) ((refl, subst (λ (z : ℤ). DayOf z x) (sym (since_at p u)) k))

-- ---- from what `take` told
module _ (h : Handed) where
  pub wrote_nothing : (t : Result Time Untaken) → Took h t → (e : Untaken) → t ≡ Err e → WroteDay h (Err (refusal_by e))
  wrote_nothing t w e q = rw (untaken_lem h t w e q (given (ltb (micro_of h) day_micros) 12 (gives (since (day_of h) (micro_of h))))) (refl, refl)

  module _ (t : Time) (w : Told h t) where
    pub count_small : time_count t / bound (time_scale t) < 100000
    count_small =
        let p = handed_placed h t w in
        let e : time_count t / bound (time_scale t) ≡ count_in h / bound (scale_of h) = rw (told_scale h t w, told_count h t w) in
        let f = day_part (bound (scale_of h)) (place_of_day (day_of h)) (micro_of h) p.under in
        omega (arith, p.to, (apart (scale_of h)).to)

    pub wrote_at : (r : Result Float Refusal) → Imaged (bound (time_scale t)) (time_count t) r → WroteDay h r
    wrote_at r i =
        let k : Allowed (outcome (imaging (day_of h) (micro_of h))) (decimal_slip r) =
        subst (λ (m : Moment). Allowed (outcome (imaging m.day m.micro)) (decimal_slip r)) (told_moment h t w) i in
        rw (w.finite, w.inside) k
