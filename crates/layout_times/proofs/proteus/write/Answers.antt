use Rattle.std.proofs.Common.{◌≡◌, rules, refl, ap, ◌∙◌, ℕ, Bool, Err}
use Rattle.handed.specs.Meaning.{mark_of}
use Rattle.layout_fields.specs.Proteus.{in_limits, image_of, write as fields_write}
use Rattle.layout_fields.specs.declared.proteus.Fields.{Fields}
use Rattle.layout_times.specs.Chain.{write_no, write_at}
use Rattle.layout_times.specs.Due.{since1980}
use Rattle.layout_times.specs.Proteus.{h3_of, fields_at, write}
use Rattle.layout_times.proofs.Ways.{proteus_below, proteus_limits}
use Rattle.layout_times.proofs.proteus.write.Goals as goal

pub returns-in_err-n : goal.returns-in_err-n
unfolding write
returns-in_err-n c =
    let a = c.args in
    let e = c.in_err-n.field-0.0 in
    let r : c.from_residual.result ≡ Err e = search rules in
    rw r (write_no (λ (n : ℕ). image_of (fields_at (h3_of (mark_of a.h)) n)) a.out.now (since1980 a.h) e c.in_err-n.ensures)

pub returns : goal.returns
unfolding write fields_write
returns c =
    let a = c.args in
    let o = a.out.now in
    let n = c.in_ok-n.n in
    let b = h3_of (mark_of a.h) in
    let v = c.in_ok-n.ensures in
    write_at (λ (n : ℕ). image_of (fields_at b n)) o (since1980 a.h) refl n v
    (in_limits (fields_at b n)) (proteus_limits b n (proteus_below a.h n v))
    (c.write.ensures ∙ ap (λ (f : Fields). fields_write f o) (c.fields_at.ensures ∙ ap (λ (x : Bool). fields_at x n) (c.h3_of.ensures ∙ ap h3_of c.mark.ensures)))
