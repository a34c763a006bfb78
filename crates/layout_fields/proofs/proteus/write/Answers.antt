use Rattle.std.proofs.Common.{rules, ◌≡◌, ◌+◌, ◌*◌, ◌++◌, arith}
use Rattle.octets.specs.Meaning.{field}
use Rattle.octets.specs.Parts.{field_two}
use Rattle.scales.specs.Meaning.{wrote, written, outcome}
use Rattle.layout_fields.specs.Meaning.{placing}
use Rattle.layout_fields.specs.Proteus.{write}
use Rattle.layout_fields.proofs.proteus.write.Goals as goal

pub returns : goal.returns
unfolding write
returns c =
    let f = c.args.f in
    let o = c.args.out.now in
    let e : field 6 (f.second * 65536 + f.fraction) ≡ field 4 f.second ++ field 2 f.fraction =
    field_two 4 2 f.second f.fraction (omega arith) (omega arith) in
    let k : wrote c.place_two.result c.place_two.new.out ≡ written o (outcome (placing (field 2 c.head.result ++ field 6 (f.second * 65536 + f.fraction)) o)) = search rules in
    let w = rw e at k in
    search rules
