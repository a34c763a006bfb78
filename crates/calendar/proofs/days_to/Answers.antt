use Rattle.std.proofs.Common.{◌+◌, ◌-◌, arith}
use Rattle.calendar.specs.Meaning.{months_to}
use Rattle.calendar.specs.Formula.{first_of_lem}
use Rattle.calendar.proofs.days_to.Goals as goal

pub returns-then-m-lt3 : goal.returns-then-m-lt3
returns-then-m-lt3 c =
    let a = c.args in
    let f = first_of_lem (a.year - 1969) (a.month + 12) (months_to a.year a.month) (omega arith) (omega arith) (omega arith) (omega arith) in
    omega arith

pub returns : goal.returns
returns c =
    let a = c.args in
    let f = first_of_lem (a.year - 1968) a.month (months_to a.year a.month) (omega arith) (omega arith) (omega arith) (omega arith) in
    omega arith
