use Rattle.text_write.specs.Columns.{date_laid}
use Rattle.text_write.proofs.image.put_date.Goals as goal

pub returns : goal.returns
returns c = date_laid c.args.out.now 0 c.args.t _ _ _ _ c.put_two.ensures c.put_name.ensures c.put_two-2.ensures c.put_two-3.ensures
