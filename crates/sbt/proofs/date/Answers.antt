use Rattle.std.proofs.Common.{◌≡◌, ℕ, rules, ap, ◌∙◌, Ok, Err}
use Rattle.scales.specs.Meaning.{slip, remark}
use Rattle.scales.specs.Marks.{remark_refused}
use Rattle.scales.specs.declared.Record.{Record}
use Rattle.scales.specs.declared.Mark.TheVariants as M
use Rattle.sbt.specs.Places.{unmarked_of}
use Rattle.sbt.specs.Found.{marked_is}
use Rattle.sbt.proofs.date.Goals as goal

pub returns-in_err-r : goal.returns-in_err-r
returns-in_err-r c =
    let a = c.args in
    let l = a.list.now in
    let e = c.in_err-r.field-0.0 in
    let f : slip (Err e) ≡ unmarked_of a.c a.tick.0 a.receipt.day a.receipt.micro l.days l.offsets l.last = search rules in
    let x : slip c.from_residual.result ≡ slip (Err e) = search rules in
    x ∙ remark_refused (M.Correlated a.c.tick.0) e ∙ ap (remark (M.Correlated a.c.tick.0)) f ∙ marked_is a.c l.days l.offsets l.last a.tick.0 a.receipt.day a.receipt.micro

pub returns : goal.returns
returns c =
    let a = c.args in
    let l = a.list.now in
    let f : slip (Ok c.in_ok-r.r) ≡ unmarked_of a.c a.tick.0 a.receipt.day a.receipt.micro l.days l.offsets l.last = search rules in
    let t : c.from.result ≡ a.c.tick.0 = search rules in
    ap (λ (r : Record). slip (Ok r)) c.with_mark.ensures
    ∙ ap (λ (n : ℕ). remark (M.Correlated n) (slip (Ok c.in_ok-r.r))) t
    ∙ ap (remark (M.Correlated a.c.tick.0)) f ∙ marked_is a.c l.days l.offsets l.last a.tick.0 a.receipt.day a.receipt.micro
