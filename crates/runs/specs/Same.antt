-- The answer of a run, and the slice as it is left, are fixed by what the contract says of them. Assumes nothing.
use Rattle.std.specs.Prelude.{◌≡◌, List, ℤ, Result, Ok, Err}
use Rattle.std.proofs.Common.{sym, ap}
use Rattle.scales.specs.declared.Refusal.{Refusal}
use Rattle.scales.specs.Same.{refusals, no_zero}
use Rattle.runs.specs.Passes.{run_slip}
use Rattle.runs.specs.declared.Dates.{Dates}

pub same_run : (a b : Result Dates Refusal) (x y : List ℤ) → run_slip a x ≡ run_slip b y → (a ≡ b) × (x ≡ y)
same_run (Ok a) (Ok b) x y e = (λ i. Ok (record { count = (e i).count; last = (e i).last }), λ i. (e i).lent)
same_run (Ok a) (Err r) x y e = absurd (no_zero r (sym (λ i. (e i).number)))
same_run (Err r) (Ok b) x y e = absurd (no_zero r (λ i. (e i).number))
same_run (Err r) (Err q) x y e = (ap Err (refusals r q (λ i. (e i).number)), λ i. (e i).lent)
