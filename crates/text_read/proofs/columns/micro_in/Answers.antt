use Rattle.text_read.specs.Digits.{micros}
use Rattle.text_read.proofs.columns.micro_in.Goals as goal

pub six-requires : goal.six-requires
six-requires c = (micros c.args.s.now c.if-s-lt27.false c.requires).1
