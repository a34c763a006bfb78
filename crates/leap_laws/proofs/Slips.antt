-- What a slip tells of the outcome behind it, whatever its mark. Assumes nothing.
use mathlib.Core.Path.{◌≡◌, sym, ap}
use native.Mathlib.Omega.{arith}
use Rattle.axis.specs.Meaning.{Moment}
use Rattle.scales.specs.Meaning.{Outcome, refused, answer, dated_as}
use Rattle.scales.specs.declared.Scale.{Scale}
use Rattle.scales.specs.declared.Mark.{Mark}

module _ (m : Mark) (s : Scale) where
  pub nine : (o : Outcome Moment) → o ≡ refused 9 → (dated_as m s o).number ≡ 9
  nine o q = ap (λ (x : Outcome Moment). (dated_as m s x).number) q

  pub by_nine : (o : Outcome Moment) → (dated_as m s o).number ≡ 9 → o ≡ refused 9
  by_nine (refused n) q = ap refused q
  by_nine (answer t) q = absurd (omega arith)

  pub same : (o p : Outcome Moment) → (o ≡ refused 0 → ⊥) → (p ≡ refused 0 → ⊥) → dated_as m s o ≡ dated_as m s p → o ≡ p
  same (refused n) (refused k) a b q = ap refused (λ i. (q i).number)
  same (refused n) (answer t) a b q = absurd (a (ap refused (λ i. (q i).number)))
  same (answer t) (refused n) a b q = absurd (b (ap refused (λ i. (sym q i).number)))
  same (answer t) (answer u) a b q = λ i. answer (record { day = (q i).day; micro = (q i).micro })
