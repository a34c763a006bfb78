use Rattle.std.proofs.Common.{Bool, sym, subst}
use lib.IntN.{pos}
use lib.Ieee.{binary64, of_int, neg}
use Rattle.double.specs.Meaning.{Holds}
use Rattle.double.proofs.Division.{whole_held, minus_held}
use Rattle.double.proofs.inner.held.Goals as goal

-- up to 2 ^ 53 the cast is exact, and a negation changes the sign alone
pub returns-then-neg : goal.returns-then-neg
returns-then-neg c =
    let n = c.args.n in
    subst (λ (t : Bool). Holds (neg (of_int binary64 (pos n))) t n 1) (sym c.if-neg.true) (minus_held n c.requires)

pub returns-else-neg : goal.returns-else-neg
returns-else-neg c =
    let n = c.args.n in
    subst (λ (t : Bool). Holds (of_int binary64 (pos n)) t n 1) (sym c.if-neg.false) (whole_held n c.requires)
