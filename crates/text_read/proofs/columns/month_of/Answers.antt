use Rattle.std.proofs.Common.{refl, arith}
use Rattle.text_fields.specs.Meaning.{names, letter}
use Rattle.text_read.specs.Meaning.{is_named, seek, month_named}
use Rattle.text_read.specs.Months.{month_named_lem, not_named}
use Rattle.text_read.proofs.columns.month_of.Goals as goal

pub returns-in-4866382 : goal.returns-in-4866382
unfolding month_named seek is_named letter names
returns-in-4866382 c = month_named_lem c.args.a c.args.b c.args.c (c.ranges.a.fits, c.ranges.b.fits, c.ranges.c.fits) 1 refl (omega arith)

pub returns-in-4605250 : goal.returns-in-4605250
unfolding month_named seek is_named letter names
returns-in-4605250 c = month_named_lem c.args.a c.args.b c.args.c (c.ranges.a.fits, c.ranges.b.fits, c.ranges.c.fits) 2 refl (omega arith)

pub returns-in-5062994 : goal.returns-in-5062994
unfolding month_named seek is_named letter names
returns-in-5062994 c = month_named_lem c.args.a c.args.b c.args.c (c.ranges.a.fits, c.ranges.b.fits, c.ranges.c.fits) 3 refl (omega arith)

pub returns-in-4280402 : goal.returns-in-4280402
unfolding month_named seek is_named letter names
returns-in-4280402 c = month_named_lem c.args.a c.args.b c.args.c (c.ranges.a.fits, c.ranges.b.fits, c.ranges.c.fits) 4 refl (omega arith)

pub returns-in-5063001 : goal.returns-in-5063001
unfolding month_named seek is_named letter names
returns-in-5063001 c = month_named_lem c.args.a c.args.b c.args.c (c.ranges.a.fits, c.ranges.b.fits, c.ranges.c.fits) 5 refl (omega arith)

pub returns-in-4871502 : goal.returns-in-4871502
unfolding month_named seek is_named letter names
returns-in-4871502 c = month_named_lem c.args.a c.args.b c.args.c (c.ranges.a.fits, c.ranges.b.fits, c.ranges.c.fits) 6 refl (omega arith)

pub returns-in-4871500 : goal.returns-in-4871500
unfolding month_named seek is_named letter names
returns-in-4871500 c = month_named_lem c.args.a c.args.b c.args.c (c.ranges.a.fits, c.ranges.b.fits, c.ranges.c.fits) 7 refl (omega arith)

pub returns-in-4281671 : goal.returns-in-4281671
unfolding month_named seek is_named letter names
returns-in-4281671 c = month_named_lem c.args.a c.args.b c.args.c (c.ranges.a.fits, c.ranges.b.fits, c.ranges.c.fits) 8 refl (omega arith)

pub returns-in-5457232 : goal.returns-in-5457232
unfolding month_named seek is_named letter names
returns-in-5457232 c = month_named_lem c.args.a c.args.b c.args.c (c.ranges.a.fits, c.ranges.b.fits, c.ranges.c.fits) 9 refl (omega arith)

pub returns-in-5194580 : goal.returns-in-5194580
unfolding month_named seek is_named letter names
returns-in-5194580 c = month_named_lem c.args.a c.args.b c.args.c (c.ranges.a.fits, c.ranges.b.fits, c.ranges.c.fits) 10 refl (omega arith)

pub returns-in-5132118 : goal.returns-in-5132118
unfolding month_named seek is_named letter names
returns-in-5132118 c = month_named_lem c.args.a c.args.b c.args.c (c.ranges.a.fits, c.ranges.b.fits, c.ranges.c.fits) 11 refl (omega arith)

pub returns-in-4474179 : goal.returns-in-4474179
unfolding month_named seek is_named letter names
returns-in-4474179 c = month_named_lem c.args.a c.args.b c.args.c (c.ranges.a.fits, c.ranges.b.fits, c.ranges.c.fits) 12 refl (omega arith)

pub returns-in_default : goal.returns-in_default
unfolding month_named seek letter names
returns-in_default c =
    let x = c.args in
    rw (
      not_named x.a x.b x.c 1 (λ q. omega arith),
      not_named x.a x.b x.c 2 (λ q. omega arith),
      not_named x.a x.b x.c 3 (λ q. omega arith),
      not_named x.a x.b x.c 4 (λ q. omega arith),
      not_named x.a x.b x.c 5 (λ q. omega arith),
      not_named x.a x.b x.c 6 (λ q. omega arith),
      not_named x.a x.b x.c 7 (λ q. omega arith),
      not_named x.a x.b x.c 8 (λ q. omega arith),
      not_named x.a x.b x.c 9 (λ q. omega arith),
      not_named x.a x.b x.c 10 (λ q. omega arith),
      not_named x.a x.b x.c 11 (λ q. omega arith),
      not_named x.a x.b x.c 12 (λ q. omega arith),
    )
