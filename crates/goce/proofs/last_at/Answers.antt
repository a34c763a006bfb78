use Rattle.std.proofs.Common.{arith}
use Rattle.goce.proofs.Reckoned.{quotient_le, rest_le, last_is, last_le}
use Rattle.goce.proofs.last_at.Goals as goal

pub overflow_mul-result : goal.overflow_mul-result
overflow_mul-result c = omega (arith, quotient_le c.args.s c.args.g c.args.w c.requires)

pub overflow_mul-result-2 : goal.overflow_mul-result-2
overflow_mul-result-2 c = omega (arith, rest_le c.args.s c.args.g c.args.w c.requires)

pub overflow_add-result : goal.overflow_add-result
overflow_add-result c = omega (arith, rest_le c.args.s c.args.g c.args.w c.requires)

pub overflow_add-result-2 : goal.overflow_add-result-2
overflow_add-result-2 c = omega (arith, last_le c.args.s c.args.g c.args.w c.requires)

pub returns : goal.returns
returns c = last_is c.args.s c.args.g c.args.w c.requires
