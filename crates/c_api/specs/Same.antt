-- The answer of a writer, of the season's reader or of a run, and the lent slice as it leaves it are fixed by what the contract says of
-- them. Assumes nothing.
use Rattle.std.specs.Prelude.{◌≡◌, List, ℕ, ℤ}
use Rattle.c_api.specs.Bytes.{wrote_of}
use Rattle.c_api.specs.Runs.{run_of}
use Rattle.c_api.specs.Seasons.{entered_of}
use Rattle.c_api.specs.declared.VrkCount.{VrkCount}
use Rattle.c_api.specs.declared.bytes.VrkWritten.{VrkWritten}
use Rattle.c_api.specs.declared.run.VrkRun.{VrkRun}

pub same_wrote_of : (a b : VrkWritten) (x y : List ℕ) → wrote_of a x ≡ wrote_of b y → (a ≡ b) × (x ≡ y)
same_wrote_of a b x y e = (λ i. record { refusal = (e i).number; length = (e i).length }, λ i. (e i).lent)

pub same_entered_of : (a b : VrkCount) (x y : List ℤ) → entered_of a x ≡ entered_of b y → (a ≡ b) × (x ≡ y)
same_entered_of a b x y e = (λ i. record { refusal = (e i).number; count = (e i).count }, λ i. (e i).lent)

pub same_run_of : (a b : VrkRun) (x y : List ℤ) → run_of a x ≡ run_of b y → (a ≡ b) × (x ≡ y)
same_run_of a b x y e = (λ i. record { refusal = (e i).number; count = (e i).count; last = (e i).last }, λ i. (e i).lent)
