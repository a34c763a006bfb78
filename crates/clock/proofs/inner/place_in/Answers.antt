use Rattle.std.proofs.Common.{◌≡◌, rules, Some, None}
use Rattle.std.specs.Result.{result_ok}
use Rattle.scales.specs.Meaning.{slip_timed, spanned}
use Rattle.clock.proofs.Ways.{place_found, place_none}
use Rattle.clock.proofs.inner.place_in.Goals as goal

pub returns-in_err-ok : goal.returns-in_err-ok
returns-in_err-ok c =
    let a = c.args in
    let e : slip_timed c.to_time.result ≡ spanned a.scale a.day a.micro = search rules in
    let f : result_ok c.to_time.result ≡ None = search rules in
    let k = place_none a.scale a.day a.micro c.to_time.result e f in
    search rules

pub returns : goal.returns
returns c =
    let a = c.args in
    let e : slip_timed c.to_time.result ≡ spanned a.scale a.day a.micro = search rules in
    let f : result_ok c.to_time.result ≡ Some c.in_ok-ok.field-0 = search rules in
    let k = place_found a.scale a.day a.micro c.if-micro-ge86400000000.false c.to_time.result e c.in_ok-ok.field-0 f in
    search rules
