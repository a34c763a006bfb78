use Rattle.std.proofs.Common.{◌≡◌, rules, true, ◌∙◌, Ok, Err}
use Rattle.via_tai.specs.Meaning.{is_utc}
use Rattle.handed.specs.Laid.{not_laid, laid_nothing, laid_at}
use Rattle.changes.specs.Asked.{lacks_list}
use Rattle.text_write.specs.Writes.{write_nothing, write_lacks, write_laid}
use Rattle.text_write.proofs.write.Goals as goal

pub returns-in_err-r : goal.returns-in_err-r
returns-in_err-r c =
    let l = c.args.list.now in
    let n = c.in_err-r.field-0.0 in
    let q : c.lay.result ≡ Err n = search rules in
    let r : c.from_residual.result ≡ Err (not_laid n) = search rules in
    rw r (write_nothing c.args.h c.args.form l.days l.offsets l.last c.args.out.now (laid_nothing c.args.h c.lay.result c.lay.ensures n q).0)

pub returns-then-lacks_list : goal.returns-then-lacks_list
returns-then-lacks_list c =
    let l = c.args.list.now in
    let r = c.in_ok-r.r in
    let q : c.lay.result ≡ Ok r = search rules in
    let u : lacks_list (is_utc r.scale) l.days l.offsets l.last ≡ true = search rules in
    write_lacks r c.args.form l.days l.offsets l.last c.args.out.now u
    ∙ write_laid r c.args.form l.days l.offsets l.last c.args.out.now c.args.h (laid_at c.args.h c.lay.result c.lay.ensures r q)

pub returns : goal.returns
returns c =
    let l = c.args.list.now in
    let r = c.in_ok-r.r in
    let q : c.lay.result ≡ Ok r = search rules in
    c.write_time.ensures ∙ write_laid r c.args.form l.days l.offsets l.last c.args.out.now c.args.h (laid_at c.args.h c.lay.result c.lay.ensures r q)
