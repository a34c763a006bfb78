use Rattle.std.proofs.Common.{rules}
use Rattle.text_read.specs.Meaning.{stamp_in}
use Rattle.text_read.specs.Digits.{digits}
use Rattle.text_read.proofs.columns.stamp_in.Goals as goal

pub two-day-requires : goal.two-day-requires
two-day-requires c = (digits c.args.s.now c.requires.1).day

pub four-year-requires : goal.four-year-requires
four-year-requires c = (digits c.args.s.now c.requires.1).year

pub two-hour-requires : goal.two-hour-requires
two-hour-requires c = (digits c.args.s.now c.requires.1).hour

pub two-minute-requires : goal.two-minute-requires
two-minute-requires c = (digits c.args.s.now c.requires.1).minute

pub two-second-requires : goal.two-second-requires
two-second-requires c = (digits c.args.s.now c.requires.1).second

pub micro_in-micro-requires : goal.micro_in-micro-requires
micro_in-micro-requires c = (digits c.args.s.now c.requires.1).micro

pub returns : goal.returns
unfolding stamp_in
returns c = search rules
