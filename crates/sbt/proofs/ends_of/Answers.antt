use Rattle.std.proofs.Common.{arith, ap₂, ℕ}
use Rattle.sbt.proofs.Reckoned.{back_is, ahead_is}
use Rattle.sbt.proofs.ends_of.Goals as goal

pub returns : goal.returns
returns c =
    let a = c.args in
    ap₂ (λ (x y : ℕ). record { from = x; to = y })
    (back_is a.r a.p a.back c.requires.based c.requires.back_to)
    (ahead_is a.r a.p a.ahead c.requires.based (omega (arith, c.requires.ahead_to)))
