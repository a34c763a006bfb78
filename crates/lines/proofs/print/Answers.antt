use Rattle.scales.specs.Meaning.{record_moment}
use Rattle.lines.specs.Told.{printed}
use Rattle.lines.proofs.print.Goals as goal

pub returns : goal.returns
returns c = printed c.args.t.scale (record_moment c.args.t) c.args.out.now c.requires.in_bounds c.write_record.result c.write_record.new.out c.write_record.ensures
