use Rattle.std.proofs.Common.{◌-◌, arith, ap, ◌∙◌}
use Rattle.sbt.specs.Places.{time_at}
use Rattle.sbt.proofs.Reckoned.{back_is, ahead_is}
use Rattle.sbt.proofs.time_at.Goals as goal

pub returns-then-k-lt2147483648 : goal.returns-then-k-lt2147483648
returns-then-k-lt2147483648 c =
    let a = c.args in
    back_is a.r a.p (2147483648 - a.k) c.requires.0 (omega arith) ∙ ap (time_at a.r a.p) (omega (arith, c.if-k-lt2147483648.true))

pub returns-else-k-lt2147483648 : goal.returns-else-k-lt2147483648
returns-else-k-lt2147483648 c =
    let a = c.args in
    ahead_is a.r a.p (a.k - 2147483648) c.requires.0 (omega (arith, c.requires.1)) ∙ ap (time_at a.r a.p) (omega (arith, c.if-k-lt2147483648.false))
