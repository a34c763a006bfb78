use Rattle.std.proofs.Common.{◌≡◌, Ok, rules, ap, ◌∙◌}
use Rattle.scales.specs.Meaning.{count_slip}
use Rattle.goce.specs.Meaning.{obt_of}
use Rattle.c_api.specs.Meaning.{given_of, count_out}
use Rattle.c_api.specs.Counts.{goce_of}
use Rattle.c_api.proofs.Ways.{count_known}
use Rattle.c_api.proofs.counts.vrk_goce_count.Goals as goal

pub returns-in-Ok : goal.returns-in-Ok
returns-in-Ok c =
    let a = c.args in
    let t : given_of a.time ≡ Ok c.in-Ok.h = search rules in
    let d : count_slip c.count_of.result ≡ obt_of (goce_of a.correlation) c.in-Ok.h a.days.now a.offsets.now a.last = search rules in
    c.into-in-Ok.ensures
    ∙ ap count_out d
    ∙ count_known a.time a.days.now a.offsets.now a.last a.correlation c.in-Ok.h t
