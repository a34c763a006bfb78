use Rattle.std.proofs.Common.{◌≡◌, rules, ◌∙◌, Ok, Err}
use Rattle.text_write.specs.Writes.{write_refused, write_answer, write_inside}
use Rattle.text_write.proofs.inner.write_time.Goals as goal

pub returns-in_err-judge : goal.returns-in_err-judge
returns-in_err-judge c =
    let l = c.args.list.now in
    let e = c.in_err-judge.field-0.0 in
    let q : c.judge.result ≡ Err e = search rules in
    let r : c.from_residual.result ≡ Err e.refusal = search rules in
    rw r (write_refused c.args.r c.args.form l.days l.offsets l.last c.args.out.now c.judge.result c.judge.ensures e q)

pub write_record-requires : goal.write_record-requires
write_record-requires c =
    let l = c.args.list.now in
    let t = c.in_ok-judge.field-0 in
    let q : c.judge.result ≡ Ok t = search rules in
    write_inside c.args.r c.args.form l.days l.offsets l.last c.args.out.now c.judge.result c.judge.ensures t q

pub returns : goal.returns
returns c =
    let l = c.args.list.now in
    let t = c.in_ok-judge.field-0 in
    let q : c.judge.result ≡ Ok t = search rules in
    c.write_record.ensures ∙ write_answer c.args.r c.args.form l.days l.offsets l.last c.args.out.now c.judge.result c.judge.ensures t q
