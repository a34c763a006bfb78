-- The mark of a date, of any counter: the reference where it is answered, plain where it is refused. Assumes nothing.
use mathlib.Core.Path.{◌≡◌, sym, ap}
use mathlib.Core.Bool.{true, cond}
use lib.Dec.{eqb}
use Rattle.axis.specs.Meaning.{Moment}
use Rattle.scales.specs.Meaning.{Judged, outcome, Slip, dated_as}
use Rattle.scales.specs.Order.{numbered}
use Rattle.scales.specs.Marks.{remarked}
use Rattle.scales.specs.declared.Mark.TheVariants as M
use Rattle.clock.specs.Meaning.{Clock, mark_of}

-- what is handed back of a date
abbrev pub hand_back : Clock → Judged Moment → Slip
hand_back c j = dated_as (mark_of c) c.scale (outcome j)

-- an answer has the number 0, and no refusal of the chain has
pub correlated : (c : Clock) (j : Judged Moment) → numbered j ≡ true →
    (hand_back c j).mark ≡ cond (eqb (hand_back c j).number 0) (M.Correlated c.reference) M.Plain
correlated c j p = ap (λ (x : Slip). x.mark) (sym (remarked (mark_of c) (mark_of c) c.scale j p))
