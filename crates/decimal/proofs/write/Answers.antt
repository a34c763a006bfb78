use Rattle.std.proofs.Common.{◌≡◌, rules, Ok, Err}
use Rattle.handed.specs.Meaning.{refusal_by}
use Rattle.handed.specs.Told.{told_at}
use Rattle.decimal.proofs.Image.{wrote_nothing, wrote_at}
use Rattle.decimal.proofs.write.Goals as goal

pub returns-in_err-take : goal.returns-in_err-take
returns-in_err-take c =
    let e = c.in_err-take.field-0.0 in
    let q : c.take.result ≡ Err e = search rules in
    let r : c.from_residual.result ≡ Err (refusal_by e) = search rules in
    rw r (wrote_nothing c.args.h c.take.result c.take.ensures e q)

pub returns : goal.returns
returns c =
    let t = c.in_ok-take.field-0 in
    let q : c.take.result ≡ Ok t = search rules in
    wrote_at c.args.h t (told_at c.args.h c.take.result c.take.ensures t q) c.write_time.result c.write_time.ensures
