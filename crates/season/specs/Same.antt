-- The answers of the season's functions are fixed by what their contracts say of them. Assumes nothing.
use Rattle.std.specs.Prelude.{◌≡◌, List, ℕ, ℤ, Result, Ok, Err}
use Rattle.std.proofs.Common.{refl, sym, ap}
use Rattle.scales.specs.Meaning.{Valued}
use Rattle.scales.specs.Same.{refusals, no_zero, same_valued}
use Rattle.scales.specs.declared.Refusal.{Refusal}
use Rattle.clock.specs.Meaning.{Cover}
use Rattle.season.specs.Places.{cover_slip}
use Rattle.season.specs.Bodies.{entered_by}
use Rattle.season.specs.declared.question.Cover as Q

pub same_cover_lem : (a b : Result Q.Cover Refusal) → cover_slip a ≡ cover_slip b → a ≡ b
same_cover_lem =
    same_valued (λ (v : Valued Cover). v.number) cover_slip (λ a. refl) (λ f. refl)
    (λ a b e i. record { first = (e i).value.from; last = (e i).value.to })

pub same_entered : (a b : Result ℕ Refusal) (x y : List ℤ) → entered_by a x ≡ entered_by b y → (a ≡ b) × (x ≡ y)
same_entered (Ok n) (Ok m) x y e = (λ i. Ok (e i).count, λ i. (e i).lent)
same_entered (Ok n) (Err r) x y e = absurd (no_zero r (sym (λ i. (e i).number)))
same_entered (Err r) (Ok m) x y e = absurd (no_zero r (λ i. (e i).number))
same_entered (Err r) (Err q) x y e = (ap Err (refusals r q (λ i. (e i).number)), λ i. (e i).lent)
