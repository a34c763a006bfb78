use Rattle.std.proofs.Common.{◌≡◌, Some, Ok, rules, ap, ◌∙◌}
use Rattle.scales.specs.Meaning.{slip}
use Rattle.changes.specs.Meaning.{change_of}
use Rattle.c_api.specs.Meaning.{named_by, given_of, time_out}
use Rattle.c_api.proofs.Ways.{change_known}
use Rattle.c_api.proofs.vrk_change.Goals as goal

pub returns-in-Ok : goal.returns-in-Ok
returns-in-Ok c =
    let a = c.args in
    let n : named_by a.to_scale ≡ Some c.in-Some.to = search rules in
    let t : given_of a.time ≡ Ok c.in-Ok.h = search rules in
    let d : slip c.change.result ≡ change_of c.in-Ok.h c.in-Some.to a.days.now a.offsets.now a.last = search rules in
    c.into.ensures
    ∙ ap time_out d
    ∙ change_known a.time a.days.now a.offsets.now a.last a.to_scale c.in-Some.to n c.in-Ok.h t
