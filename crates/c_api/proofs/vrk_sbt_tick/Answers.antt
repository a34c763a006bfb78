use Rattle.std.proofs.Common.{◌≡◌, Ok, rules, ap, ◌∙◌}
use Rattle.scales.specs.Meaning.{tick_slip}
use Rattle.sbt.specs.Meaning.{tick_of}
use Rattle.c_api.specs.Meaning.{given_of, count_out, correlation_of}
use Rattle.c_api.proofs.Ways.{tick_known}
use Rattle.c_api.proofs.vrk_sbt_tick.Goals as goal

pub returns-in-Ok : goal.returns-in-Ok
returns-in-Ok c =
    let a = c.args in
    let t : given_of a.time ≡ Ok c.in-Ok.h = search rules in
    let d : tick_slip c.tick_of.result ≡ tick_of (correlation_of a.correlation) c.in-Ok.h a.days.now a.offsets.now a.last = search rules in
    c.into-in-Ok.ensures
    ∙ ap count_out d
    ∙ tick_known a.time a.days.now a.offsets.now a.last a.correlation c.in-Ok.h t
