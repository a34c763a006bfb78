use Rattle.std.proofs.Common.{◌≡◌, rules, refl, ap, ◌∙◌, ℕ, true, Err}
use Rattle.scales.specs.declared.Scale.TheVariants as S
use Rattle.handed.specs.Meaning.{day_of, micro_of}
use Rattle.layout_fields.specs.Cuc.{write as fields_write}
use Rattle.layout_fields.specs.declared.cuc.Fields.{Fields}
use Rattle.layout_times.specs.Chain.{write_no, write_at}
use Rattle.layout_times.specs.Due.{due_in, held_in}
use Rattle.layout_times.specs.Cuc.{fields_at, image_at, write}
use Rattle.layout_times.proofs.Ways.{cuc_from, cuc_below, cuc_micros}
use Rattle.layout_times.proofs.cuc.write.Goals as goal

pub returns-in_err-n : goal.returns-in_err-n
unfolding write
returns-in_err-n c =
    let a = c.args in
    let e = c.in_err-n.field-0.0 in
    let r : c.from_residual.result ≡ Err e = search rules in
    rw r (write_no (λ (n : ℕ). image_at (day_of a.h) (micro_of a.h)) a.out.now (due_in S.Gps a.h) e c.in_err-n.ensures)

pub overflow_sub-n : goal.overflow_sub-n
overflow_sub-n c =
    let n = c.in_ok-n.field-0 in
    cuc_from c.args.h n (held_in S.Gps c.args.h n c.in_ok-n.ensures)

pub fields_at-requires : goal.fields_at-requires
fields_at-requires c =
    let n = c.in_ok-n.field-0 in
    cuc_below c.args.h n (held_in S.Gps c.args.h n c.in_ok-n.ensures)

pub returns : goal.returns
unfolding write fields_write
returns c =
    let a = c.args in
    let o = a.out.now in
    let n = c.in_ok-n.field-0 in
    let v = c.in_ok-n.ensures in
    write_at (λ (n : ℕ). image_at (day_of a.h) (micro_of a.h)) o (due_in S.Gps a.h) refl n v true refl
    (c.write.ensures ∙ ap (λ (f : Fields). fields_write f o) (c.fields_at.ensures ∙ ap fields_at (cuc_micros a.h n (held_in S.Gps a.h n v))))
