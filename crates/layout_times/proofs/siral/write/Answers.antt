use Rattle.std.proofs.Common.{◌≡◌, rules, refl, ap, ◌∙◌, ℕ, Err}
use Rattle.layout_fields.specs.Cryosat.{in_limits}
use Rattle.layout_fields.specs.Siral.{image_of, write as fields_write}
use Rattle.layout_fields.specs.declared.siral.Fields.{Fields}
use Rattle.layout_times.specs.Chain.{write_no, write_at}
use Rattle.layout_times.specs.Due.{since2000}
use Rattle.layout_times.specs.Siral.{fields_at, write}
use Rattle.layout_times.proofs.Ways.{cryosat_limits}
use Rattle.layout_times.proofs.siral.write.Goals as goal

pub returns-in_err-since_2000 : goal.returns-in_err-since_2000
unfolding write
returns-in_err-since_2000 c =
    let a = c.args in
    let e = c.in_err-since_2000.field-0.0 in
    let r : c.from_residual.result ≡ Err e = search rules in
    rw r (write_no (λ (n : ℕ). image_of (fields_at n)) a.out.now (since2000 a.h) e c.in_err-since_2000.ensures)

pub returns : goal.returns
unfolding write fields_write
returns c =
    let a = c.args in
    let o = a.out.now in
    let n = c.in_ok-since_2000.field-0 in
    write_at (λ (n : ℕ). image_of (fields_at n)) o (since2000 a.h) refl n c.in_ok-since_2000.ensures
    (in_limits (fields_at n).millisecond (fields_at n).microsecond) (cryosat_limits n)
    (c.write.ensures ∙ ap (λ (f : Fields). fields_write f o) c.fields_at.ensures)
