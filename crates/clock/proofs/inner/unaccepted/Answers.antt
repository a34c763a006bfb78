use Rattle.std.proofs.Common.{◌≡◌, rules, Ok, Err}
use Rattle.handed.specs.Told.{told_nothing, told_outside, told_at}
use Rattle.handed.specs.declared.Untaken.TheVariants as K
use Rattle.clock.proofs.inner.unaccepted.Goals as goal

pub returns-in-Err-NotFinite : goal.returns-in-Err-NotFinite
returns-in-Err-NotFinite c =
    let h = c.args.h in
    let s = c.in-Err-NotFinite.field-0-0 in
    let f : c.take.result ≡ Err (K.NotFinite s) = search rules in
    rw (told_nothing h c.take.result c.take.ensures s f).0

pub returns-in-Err-Outside : goal.returns-in-Err-Outside
returns-in-Err-Outside c =
    let h = c.args.h in
    let s = c.in-Err-Outside.field-0-0 in
    let f : c.take.result ≡ Err (K.Outside s) = search rules in
    rw (told_outside h c.take.result c.take.ensures s f).0

pub returns-in-Ok : goal.returns-in-Ok
returns-in-Ok c =
    let h = c.args.h in
    let t = c.in-Ok.field-0 in
    let f : c.take.result ≡ Ok t = search rules in
    rw (told_at h c.take.result c.take.ensures t f).finite
