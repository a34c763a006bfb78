use Rattle.std.proofs.Common.{rules}
use Rattle.layout_times.specs.Proteus.{write, writing}
use Rattle.c_api.proofs.bytes.vrk_proteus_write.Goals as goal

pub returns : goal.returns
unfolding write
returns c = c.write_by.ensures writing (λ h b r a p. search rules)
