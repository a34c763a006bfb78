use Rattle.text_write.specs.Columns.{clock_laid}
use Rattle.text_write.proofs.image.put_clock.Goals as goal

pub returns : goal.returns
returns c = clock_laid c.args.out.now 11 c.args.t _ _ _ c.put_two.ensures c.put_two-2.ensures c.put_two-3.ensures
