-- Demand 1 of a run of SIRAL's packets. For C it is the same: what is handed out is the number, how many dates, the last total and the
-- slice. Assumes nothing.
use Rattle.std.specs.Prelude.{refl, Bool, List, ℕ, ℤ}
use Rattle.scales.specs.Meaning.{Judged}
use Rattle.runs.specs.Meaning as Runs
use Rattle.runs.specs.Meaning.{Run, ran}
use Rattle.promises.specs.Meaning.{Promise}
use Rattle.promises.specs.First.{promised}
use Rattle.promises.specs.Rows as Rows

-- the last total, and the slice that is lent
abbrev pub Ran : ℕ → List ℤ → Run → Judged (List ℤ) → List (ℕ × Bool) → Type 0
Ran last out r j rows = Promise (ran last out) (λ (x : Run). x.number) r j rows

pub siral_run_lem : (s : List ℕ) (told : ℕ) (out : List ℤ) →
    Ran (Runs.last_of told (Runs.totals told (Runs.packets s))) out (Runs.siral s told out) (Runs.running s told out) (Rows.siral_run s told out)
unfolding Runs.siral
siral_run_lem s told out = promised (record { of_refusal = λ n. refl; of_answer = λ a. refl }) (Runs.running s told out) refl refl
