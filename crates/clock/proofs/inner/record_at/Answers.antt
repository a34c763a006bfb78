use Rattle.std.proofs.Common.{◌≡◌, rules, ◌/◌, ◌%◌, Ok, Err}
use Rattle.axis.specs.Meaning.{day_at}
use Rattle.scales.specs.Meaning.{slip_timed, spanned, record_of}
use Rattle.clock.proofs.Ways.{result_found, result_out}
use Rattle.clock.proofs.inner.record_at.Goals as goal

pub returns-in-Ok : goal.returns-in-Ok
returns-in-Ok c =
    let a = c.args in
    let m : c.new-r.result ≡ record_of a.scale (day_at (a.place / 86400000000)) (a.place % 86400000000) = search rules in
    let e : slip_timed (Ok c.in-Ok.field-0) ≡ spanned a.scale (day_at (a.place / 86400000000)) (a.place % 86400000000) = search rules in
    let k = result_found a.scale a.place c.in-Ok.field-0 e in
    search rules

pub returns-in-Err : goal.returns-in-Err
returns-in-Err c =
    let a = c.args in
    let m : c.new-r.result ≡ record_of a.scale (day_at (a.place / 86400000000)) (a.place % 86400000000) = search rules in
    let e : slip_timed (Err c.in-Err.field-0) ≡ spanned a.scale (day_at (a.place / 86400000000)) (a.place % 86400000000) = search rules in
    let k = result_out a.scale a.place c.in-Err.field-0 e in
    search rules
