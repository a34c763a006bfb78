use Rattle.lines.specs.Kept.{kept_small}
use Rattle.desk.proofs.Block.print_lines.Goals as goal

pub invariant_of-self : goal.invariant_of-self
invariant_of-self g c = record { few = kept_small _ _ _ _ _ c.keep-self.ensures }
