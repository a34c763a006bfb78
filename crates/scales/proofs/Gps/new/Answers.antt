use Rattle.std.proofs.Common.{◌≡◌, rules, Ok, Err}
use Rattle.scales.specs.Place.{fit_of}
use Rattle.scales.specs.Counts.{count_at_lem, count_out_lem}
use Rattle.scales.specs.declared.Scale.TheVariants as S
use Rattle.scales.proofs.Gps.new.Goals as goal

pub returns-in_err-count_of : goal.returns-in_err-count_of
returns-in_err-count_of c =
    let a = c.args in
    let e = c.in_err-count_of.field-0.0 in
    let f : fit_of S.Gps a.day a.micro ≡ Err e = search rules in
    let k = count_out_lem S.Gps a.day a.micro e f in
    search rules

pub returns : goal.returns
returns c =
    let a = c.args in
    let n = c.in_ok-count_of.field-0 in
    let f : fit_of S.Gps a.day a.micro ≡ Ok n = search rules in
    count_at_lem S.Gps a.day a.micro n f
