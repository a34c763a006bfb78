use Rattle.text_write.specs.Columns.{name_laid}
use Rattle.text_write.proofs.image.put_name.Goals as goal

pub returns : goal.returns
returns c = name_laid c.args.out.now c.args.at c.args.m c.name_of-n.result c.name_of-n.ensures
