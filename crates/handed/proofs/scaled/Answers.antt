use Rattle.std.proofs.Common.{ℕ, ◌+◌, ◌*◌, ◌/◌, ◌%◌, ap, arith}
use lib.Pow.{shr_le}
use Rattle.handed.proofs.Product.{shifted}
use Rattle.handed.proofs.scaled.Goals as goal

pub returns : goal.returns
returns c =
    let a = c.args in
    let high = a.q / 8388608 * 10546875 + (a.q % 8388608 * 10546875 + a.extra) / 8388608 in
    (ap (λ (z : ℕ). (z + 1) / 2) (shifted a.q 10546875 a.extra 23 a.v), omega (arith, shr_le high a.v))
