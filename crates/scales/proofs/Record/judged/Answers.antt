use Rattle.std.proofs.Common.{◌≡◌, rules, Ok, Err}
use Rattle.scales.specs.Place.{fit_of, marked_in, marked_out}
use Rattle.scales.specs.Counts.{fit_at, fit_out}
use Rattle.scales.proofs.Record.judged.Goals as goal

pub returns-in_err-count_of : goal.returns-in_err-count_of
returns-in_err-count_of c =
    let r = c.args.self in
    let e = c.in_err-count_of.field-0.0 in
    let f : fit_of r.scale r.day r.micro ≡ Err e = search rules in
    let k = fit_out r.scale r.day r.micro e f in
    let m = marked_out r.mark r.scale r.day r.micro k.0 in
    search rules

pub returns : goal.returns
returns c =
    let r = c.args.self in
    let n = c.in_ok-count_of.field-0 in
    let f : fit_of r.scale r.day r.micro ≡ Ok n = search rules in
    let m = marked_in r.mark r.scale r.day r.micro (fit_at r.scale r.day r.micro n f).0 in
    search rules
