use Rattle.sbt.proofs.Reckoned.{last_is}
use Rattle.sbt.proofs.last_at.Goals as goal

pub returns : goal.returns
returns c = last_is c.args.r c.args.p c.args.w c.requires
