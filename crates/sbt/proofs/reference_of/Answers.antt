use Rattle.std.proofs.Common.{rules}
use Rattle.sbt.specs.Accepted.{not_fast, not_slow, not_back, not_ahead, reference_is}
use Rattle.sbt.proofs.reference_of.Goals.{then-c-lt3906000000-via-then-c-lt3906000000, then-c-lt3906000000-via-else-c-lt3906000000+then-c-gt3906500000}
use Rattle.sbt.proofs.reference_of.Goals.{then-c-gt2147483648-via-then-c-gt2147483648, then-c-gt2147483648-via-else-c-gt2147483648+then-c-gt2147483647}
use Rattle.sbt.proofs.reference_of.Goals as goal

pub returns-then-c-lt3906000000 : goal.returns-then-c-lt3906000000
returns-then-c-lt3906000000 c =
    let a = c.args.c in
    elim c.then-c-lt3906000000.branch [
      | then-c-lt3906000000-via-then-c-lt3906000000 w ↦ not_fast a w.if-c-lt3906000000.true
      | then-c-lt3906000000-via-else-c-lt3906000000+then-c-gt3906500000 w ↦ not_slow a w.if-c-lt3906000000.false w.if-c-gt3906500000.true
    ]

pub returns-then-c-gt2147483648 : goal.returns-then-c-gt2147483648
returns-then-c-gt2147483648 c =
    let a = c.args.c in
    let f = c.if-c-lt3906000000.false in
    let s = c.if-c-gt3906500000.false in
    elim c.then-c-gt2147483648.branch [
      | then-c-gt2147483648-via-then-c-gt2147483648 w ↦ not_back a f s w.if-c-gt2147483648.true
      | then-c-gt2147483648-via-else-c-gt2147483648+then-c-gt2147483647 w ↦ not_ahead a f s w.if-c-gt2147483648.false w.if-c-gt2147483647.true
    ]

pub returns : goal.returns
returns c =
    let k = reference_is c.args.c c.if-c-lt3906000000.false c.if-c-gt3906500000.false c.if-c-gt2147483648.false c.if-c-gt2147483647.false in
    search rules
