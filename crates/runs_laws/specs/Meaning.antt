-- What is promised of a run: a run of one, a run cut in two, dates that never go back, totals that are the least, and counts that are told
-- right. Assumes nothing.
use Rattle.std.specs.Prelude.{◌≡◌, Bool, true, cond, ◌&&◌, List, [], ◌∷◌, ◌++◌, ℕ, ◌+◌, ◌-◌, ◌%◌, ◌≤◌, ◌<◌, eqb, ℤ, take, drop}
use Rattle.std.specs.Int.Signed.{le_z}
use Rattle.axis.specs.Meaning.{since}
use Rattle.scales.specs.Meaning.{Slip}
use Rattle.runs.specs.Meaning.{all, Run}

-- the dates that a run handed back
abbrev pub dates : Run → List ℤ
dates r = take r.count r.lent

-- "A run of one is 01's reading": of a reading t, with a place z and more lent, and with no place; x is the extra counter
abbrev pub refused_as : ℕ → List ℤ → Run
refused_as n out = record { number = n; count = 0; last = 0; lent = out }

abbrev pub one_of : Slip → ℕ → List ℤ → Run
one_of t x [] = refused_as (cond (eqb t.number 0) 13 t.number) []
one_of t x (z ∷ more) =
    cond (eqb t.number 0) (record { number = 0; count = 1; last = x; lent = since t.day t.micro ∷ more }) (refused_as t.number (z ∷ more))

-- "They never go back within a run": none is later than one behind it
abbrev pub never_back : List ℤ → Bool
never_back [] = true
never_back (d ∷ ds) = all (le_z d) ds && never_back ds

-- "a run cut after any packet gives the same dates .. when the second part is told the last unrolled count": the parts have the slices
-- `front` and `back`, and the first has k packets
pub record Cut (whole first second : Run) (k : ℕ) (front back : List ℤ) : Type 0 where
  pub first_is : first ≡ record { number = 0; count = k; last = first.last; lent = take k (dates whole) ++ drop k front }
  pub second_is : second ≡ record { number = 0; count = whole.count - k; last = whole.last; lent = drop k (dates whole) ++ drop (whole.count - k) back }

-- "the least amount not below zero ahead of the one before, modulo 65,536"
pub record Least (before extra total : ℕ) : Type 0 where
  pub not_below : before ≤ total
  pub leads : total % 65536 ≡ extra
  pub least : (c : ℕ) → before ≤ c → c % 65536 ≡ extra → total ≤ c

-- "right where the first packet falls before the first roll and neighbours are less than one roll apart": true counts after a count
pub data Near : ℕ → List ℕ → Type 0 where
  none : {before : ℕ} → Near before []
  more : {before c : ℕ} {cs : List ℕ} → before ≤ c → c < before + 65536 → Near c cs → Near before (c ∷ cs)
