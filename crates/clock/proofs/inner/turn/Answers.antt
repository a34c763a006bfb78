use Rattle.std.proofs.Common.{◌≡◌, rules, Ok, Err}
use Rattle.handed.specs.Told.{told_at}
use Rattle.clock.specs.Places.{cover_of}
use Rattle.clock.specs.Turning.{own_untaken, own_at}
use Rattle.clock.proofs.inner.turn.Goals as goal

pub returns-in_err-take : goal.returns-in_err-take
returns-in_err-take c =
    let a = c.args in
    let e = c.in_err-take.field-0.0 in
    let f : c.take.result ≡ Err e = search rules in
    let k = own_untaken a.due (cover_of a.v) a.h c.take.result c.take.ensures e f in
    search rules

pub returns : goal.returns
returns c =
    let a = c.args in
    let t = c.in_ok-take.field-0 in
    let f : c.take.result ≡ Ok t = search rules in
    let k = own_at a.due (cover_of a.v) a.h t (told_at a.h c.take.result c.take.ensures t f) in
    search rules
