use Rattle.std.proofs.Common.{◌≡◌, Some, Ok, rules}
use Rattle.scales.specs.Meaning.{wrote}
use Rattle.text_write.specs.Meaning.{write_text}
use Rattle.c_api.specs.Meaning.{given_of}
use Rattle.c_api.specs.Texts.{named_form}
use Rattle.c_api.proofs.Ways.{text_wrote}
use Rattle.c_api.proofs.texts.vrk_text_write.Goals as goal

pub returns : goal.returns
returns c =
    let a = c.args in
    let f : named_form a.form ≡ Some c.in-Some.form = search rules in
    let t : given_of a.time ≡ Ok c.in-Ok.h = search rules in
    let w : wrote c.write.result c.write.new.out ≡ write_text c.in-Ok.h c.in-Some.form a.days.now a.offsets.now a.last a.out.now = search rules in
    text_wrote a.form a.days.now a.offsets.now a.last a.time a.out.now c.in-Some.form c.in-Ok.h c.into.result c.write.result c.write.new.out f t c.into.ensures w
