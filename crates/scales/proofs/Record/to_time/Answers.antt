use Rattle.std.proofs.Common.{◌≡◌, rules, ap, ◌∙◌, Ok, Err}
use Rattle.scales.specs.Meaning.{time_slip}
use Rattle.scales.specs.Place.{fit_of}
use Rattle.scales.specs.Counts.{count_at_lem, count_out_lem, fit_out, timed_count}
use Rattle.scales.specs.declared.Scale.{Scale}
use Rattle.scales.specs.declared.Refused.{Refused}
use Rattle.scales.proofs.Record.to_time.Goals as goal

pub returns-in_err-n : goal.returns-in_err-n
returns-in_err-n c =
    let r = c.args.self in
    let e = c.in_err-n.field-0.0 in
    let f : fit_of r.scale r.day r.micro ≡ Err e = search rules in
    let s : e.scale ≡ r.scale = ap (λ (x : Refused). x.scale) (fit_out r.scale r.day r.micro e f).1 in
    let k = ap (λ (z : Scale). time_slip z (Err e.refusal)) s ∙ count_out_lem r.scale r.day r.micro e f in
    search rules

pub returns : goal.returns
returns c =
    let r = c.args.self in
    let n = c.in_ok-n.n in
    let f : fit_of r.scale r.day r.micro ≡ Ok n = search rules in
    let k = timed_count r.scale n ∙ count_at_lem r.scale r.day r.micro n f in
    search rules
