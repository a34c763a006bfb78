use Rattle.std.proofs.Common.{◌/◌, ◌%◌}
use Rattle.decimal.proofs.Image.{image_at_lem}
use Rattle.decimal.proofs.write_count.Goals as goal

pub returns : goal.returns
returns c =
    let a = c.args in
    image_at_lem (a.count / a.bound) (a.count % a.bound) c.day_of.result c.if-micro-ge86400000000.false c.day_of.ensures
