use Rattle.std.proofs.Common.{sym, ◌∙◌, ◌*◌, ◌^◌, lt-ltb}
use Rattle.handed.proofs.Product.{under_limit, limit_test}
use Rattle.handed.proofs.below.Goals as goal

-- from 2 ^ 53 on the power of two is above q by itself
pub returns-then-sh-gt52 : goal.returns-then-sh-gt52
returns-then-sh-gt52 c =
    let a = c.args in
    lt-ltb 52 a.sh c.if-sh-gt52.true ∙ sym (lt-ltb a.q (a.limit * 2 ^ a.sh) (under_limit a.q a.sh a.limit c.requires.0 c.if-sh-gt52.true c.requires.1))

pub returns-else-sh-gt52 : goal.returns-else-sh-gt52
returns-else-sh-gt52 c = limit_test c.args.q c.args.sh c.args.limit
