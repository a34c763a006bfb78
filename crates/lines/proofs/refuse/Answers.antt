use Rattle.std.proofs.Common.{ℕ, arith, ◌/◌, ap, ◌∙◌}
use Rattle.scales.specs.Meaning.{number_of}
use Rattle.lines.specs.Meaning.{digit}
use Rattle.lines.specs.Told.{one_digit, two_digits}
use Rattle.lines.proofs.refuse.Goals as goal

pub returns-then-n-lt10 : goal.returns-then-n-lt10
returns-then-n-lt10 c =
    rw c.put.ensures.1 (one_digit (number_of c.args.f) c.digit-unit.result c.args.out.now (c.digit-unit.ensures ∙ ap digit c.number-n.ensures) (omega arith))

pub returns : goal.returns
returns c =
    rw c.put-2.ensures.1
    (two_digits (number_of c.args.f) c.digit-unit.result c.args.out.now (c.digit-unit.ensures ∙ ap digit c.number-n.ensures) (omega arith)
    c.digit-ten.result (c.digit-ten.ensures ∙ ap (λ (k : ℕ). digit (k / 10)) c.number-n.ensures))
