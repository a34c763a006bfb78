use Rattle.std.proofs.Common.{rules, ◌≡◌, ◌∙◌, false, Ok, Err}
use Rattle.scales.specs.Meaning.{same_scale, slip, time_scale, time_count, refused_of}
use Rattle.changes.specs.General.{move_goes, move_out}
use Rattle.changes.proofs.inner.change.Goals as goal

pub returns-in_err-c : goal.returns-in_err-c
returns-in_err-c c =
    let a = c.args in
    let f = c.in_err-c.field-0.0 in
    let g : c.from_time.result ≡ Err f.refusal = search rules in
    let s : slip c.from_residual.result ≡ slip (Err (refused_of a.to f.refusal)) = search rules in
    s ∙ move_out (time_scale a.t) (time_count a.t) _ _ _ c.from_time.ensures a.to g

pub returns : goal.returns
returns c =
    let a = c.args in
    let g : c.from_time.result ≡ Ok c.in_ok-c.c = search rules in
    let d : same_scale (time_scale a.t) a.to ≡ false = search rules in
    move_goes (time_scale a.t) (time_count a.t) _ _ _ c.from_time.ensures a.to g d c.to_scale.ensures
