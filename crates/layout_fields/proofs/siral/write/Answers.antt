use Rattle.std.proofs.Common.{rules, ◌≡◌, ◌+◌, ◌*◌, ◌++◌, arith, append_assoc}
use Rattle.octets.specs.Meaning.{field}
use Rattle.octets.specs.Parts.{field_two}
use Rattle.scales.specs.Meaning.{wrote, written, outcome}
use Rattle.layout_fields.specs.Meaning.{placing}
use Rattle.layout_fields.specs.Siral.{write}
use Rattle.layout_fields.proofs.siral.write.Goals as goal

pub returns : goal.returns
unfolding write
returns c =
    let f = c.args.f in
    let o = c.args.out.now in
    let e : field 6 (f.day * 4294967296 + f.millisecond) ≡ field 2 f.day ++ field 4 f.millisecond =
    field_two 2 4 f.day f.millisecond (omega arith) (omega arith) in
    let g : field 4 (f.microsecond * 65536 + f.extra) ≡ field 2 f.microsecond ++ field 2 f.extra =
    field_two 2 2 f.microsecond f.extra (omega arith) (omega arith) in
    let k : wrote c.place_two.result c.place_two.new.out ≡ written o (outcome (placing (field 6 (f.day * 4294967296 + f.millisecond) ++ field 4 (f.microsecond * 65536 + f.extra)) o)) = search rules in
    let w = rw (e, g, append_assoc (field 2 f.day) (field 4 f.millisecond) (field 2 f.microsecond ++ field 2 f.extra)) at k in
    search rules
