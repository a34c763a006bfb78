use Rattle.std.proofs.Common.{arith}
use Rattle.goce.proofs.Reckoned.{seconds_le, fractions_le, time_is}
use Rattle.goce.proofs.time_at.Goals as goal

pub overflow_mul-seconds-2 : goal.overflow_mul-seconds-2
overflow_mul-seconds-2 c = omega (arith, seconds_le c.args.s c.args.g c.args.k c.requires.0 c.requires.1)

pub overflow_add-seconds : goal.overflow_add-seconds
overflow_add-seconds c = omega (arith, seconds_le c.args.s c.args.g c.args.k c.requires.0 c.requires.1)

pub overflow_mul-fractions-2 : goal.overflow_mul-fractions-2
overflow_mul-fractions-2 c = omega (arith, fractions_le c.args.s c.args.g c.args.k c.requires.0 c.requires.1)

pub overflow_add-fractions : goal.overflow_add-fractions
overflow_add-fractions c = omega (arith, fractions_le c.args.s c.args.g c.args.k c.requires.0 c.requires.1)

pub overflow_add-result : goal.overflow_add-result
overflow_add-result c =
    let a = c.args in
    omega (arith, seconds_le a.s a.g a.k c.requires.0 c.requires.1, fractions_le a.s a.g a.k c.requires.0 c.requires.1)

pub returns : goal.returns
returns c = time_is c.args.s c.args.g c.args.k c.requires.0 c.requires.1
