-- The marked cases hold, all in one computation, and they are the paper's ten. Assumes nothing.
use mathlib.Core.Path.{◌≡◌, refl}
use mathlib.Core.Bool.{true, cond}
use mathlib.Core.List.{List, [], ◌∷◌, map}
use Prim.Native.Nat.{ℕ}
use lib.IntN.{pos}
use lib.Dec.{eqb}
use Rattle.decimal.specs.Meaning.{read_of}
use Rattle.clock.specs.Meaning.{in_window, within, clock}
use Rattle.sbt.specs.Meaning.{date_of, accepted}
use Rattle.calendar.specs.Meaning.{leap, month_length, length_of, first_day, day_after, days_to, walk, is_first}
use Rattle.leap.specs.Meaning as L
use Rattle.leap.specs.Meaning.{begins, rises_from, rises, counts_from, counts_up, none_later, through, is_step, published_days, published_offsets}
use Rattle.leap.specs.Published.{published}
use Rattle.changes.specs.Meaning.{change_of}
use Rattle.octets.specs.Meaning.{number}
use Rattle.layout_times.specs.Cuc as Cuc
use Rattle.layout_times.specs.Proteus as Proteus
use Rattle.layout_times.specs.Siral as Siral
use Rattle.marked.specs.Table.{Row, table, received}

-- the list is judged once for each last day
early : L.accepted published_days published_offsets (pos 6209) ≡ true
unfolding L.accepted begins rises_from rises counts_from counts_up none_later is_first walk days_to day_after first_day length_of month_length leap
early = refl

pub marked : map (λ (r : Row). r.meaning) table ≡ map (λ (r : Row). r.paper) table
unfolding number Cuc.read Proteus.read Siral.read read_of date_of accepted in_window within clock change_of through is_step
marked = rw (published, early)

pub by_receipt : map (λ (r : Row). r.meaning) received ≡ map (λ (r : Row). r.paper) received
unfolding date_of accepted in_window within clock through is_step
by_receipt = rw published

-- ---- no case is left out: a case's rows stand together, and a number beside the same one is a repeat
abbrev pub without_repeats : List ℕ → List ℕ
without_repeats [] = []
without_repeats (n ∷ []) = n ∷ []
without_repeats (n ∷ m ∷ ns) = cond (eqb n m) (without_repeats (m ∷ ns)) (n ∷ without_repeats (m ∷ ns))

-- "The ten marked cases", in the paper's order
pub ten_cases : without_repeats (map (λ (r : Row). r.case) table) ≡ 1 ∷ 2 ∷ 3 ∷ 4 ∷ 5 ∷ 6 ∷ 7 ∷ 8 ∷ 9 ∷ 10 ∷ []
ten_cases = refl
