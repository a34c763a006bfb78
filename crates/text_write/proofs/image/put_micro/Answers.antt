use Rattle.text_write.specs.Columns.{micro_laid}
use Rattle.text_write.proofs.image.put_micro.Goals as goal

pub returns : goal.returns
returns c = micro_laid c.args.out.now 20 c.args.t _ _ _ c.put_two.ensures c.put_two-2.ensures c.put_two-3.ensures
