use Rattle.std.proofs.Common.{◌≡◌, rules, sym, ap, ◌∙◌, Ok, Err}
use Rattle.scales.specs.Meaning.{slip, slip_utc, remark, refused_of, marked_record}
use Rattle.scales.specs.Marks.{remark_refused}
use Rattle.scales.specs.declared.Record.{Record}
use Rattle.scales.specs.declared.Mark.TheVariants as M
use Rattle.scales.specs.declared.Scale.TheVariants as S
use Rattle.goce.specs.Found.{marked_is}
use Rattle.goce.proofs.date.Goals as goal

pub returns-in_err-t : goal.returns-in_err-t
returns-in_err-t c =
    let a = c.args in
    let l = a.list.now in
    let f = c.in_err-t.field-0.0 in
    let g : c.dated.result ≡ Err f.refusal = search rules in
    let x : slip c.from_residual.result ≡ slip (Err (refused_of S.Utc f.refusal)) = search rules in
    x ∙ remark_refused (M.Correlated a.c.obt0) (refused_of S.Utc f.refusal)
    ∙ ap (remark (M.Correlated a.c.obt0)) (ap slip_utc (sym g) ∙ c.dated.ensures)
    ∙ marked_is a.c l.days l.offsets l.last a.obt a.receipt.day a.receipt.micro

pub returns : goal.returns
returns c =
    let a = c.args in
    let l = a.list.now in
    let g : c.dated.result ≡ Ok c.in_ok-t.t = search rules in
    ap (λ (r : Record). slip (Ok r)) (c.with_mark.ensures ∙ ap (marked_record (M.Correlated a.c.obt0)) c.to_record.ensures)
    ∙ ap (remark (M.Correlated a.c.obt0)) (ap slip_utc (sym g) ∙ c.dated.ensures)
    ∙ marked_is a.c l.days l.offsets l.last a.obt a.receipt.day a.receipt.micro
