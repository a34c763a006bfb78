use Rattle.std.proofs.Common.{sym}
use Rattle.layout_times.specs.Meaning.{rounding}
use Rattle.layout_times.specs.Fraction.{last_is}
use Rattle.layout_times.proofs.fraction_at.Goals as goal

pub returns : goal.returns
returns c = sym (last_is rounding 16 c.args.micros c.requires)
