use Rattle.std.proofs.Common.{◌≡◌, Ok, Err, rules}
use Rattle.c_api.specs.Meaning.{given_of}
use Rattle.c_api.proofs.Ways.{handed_wrote, handed_three}
use Rattle.c_api.proofs.bytes.write_by.Goals as goal

pub returns-in-Ok : goal.returns-in-Ok
returns-in-Ok g c = λ m p.
    let a = c.args in
    let t : given_of a.time ≡ Ok c.in-Ok.h = search rules in
    handed_wrote m a.time a.out.now c.in-Ok.h c.into.result c.write.result c.write.new.arg3 t c.into.ensures (p c.in-Ok.h _ c.write.result _ c.write.ensures)

pub returns-in-Err : goal.returns-in-Err
returns-in-Err g c = λ m p.
    let t : given_of c.args.time ≡ Err c.in-Err.field-0 = search rules in
    handed_three m c.args.time c.args.out.now c.in-Err.field-0 t
