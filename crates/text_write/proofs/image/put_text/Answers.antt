use Rattle.std.proofs.Common.{◌≤◌, ℕ, List, Bool, Ok, sym, ap, ap₂, subst₂, ◌∙◌, length}
use Rattle.octets.specs.Meaning.{onto}
use Rattle.octets.specs.Place.{rest_lent, rest_back}
use Rattle.scales.specs.Meaning.{wrote}
use Rattle.text_write.specs.Meaning.{body_of}
use Rattle.text_write.specs.Image.{text_short, front_room, from_room, rest_room, text_put}
use Rattle.text_write.proofs.image.put_text.Goals as goal

pub returns-then-out-n : goal.returns-then-out-n
returns-then-out-n c = text_short c.args.form c.args.z c.args.t c.args.out.now c.size-n.result c.size-n.ensures c.if-out-n.true

pub put_prefix-from-requires : goal.put_prefix-from-requires
put_prefix-from-requires c = front_room c.args.form c.args.z c.args.t c.args.out.now c.size-n.result c.size-n.ensures c.if-out-n.false

pub slice_bounds-fill-count : goal.slice_bounds-fill-count
slice_bounds-fill-count c =
    let p = c.put_prefix-from in
    from_room c.args.form c.args.z c.args.t c.args.out.now c.size-n.result c.size-n.ensures c.if-out-n.false p.result p.ensures.0 p.new.out p.ensures.1

pub slice_bounds-fill-start : goal.slice_bounds-fill-start
slice_bounds-fill-start c =
    let p = c.put_prefix-from in
    from_room c.args.form c.args.z c.args.t c.args.out.now c.size-n.result c.size-n.ensures c.if-out-n.false p.result p.ensures.0 p.new.out p.ensures.1

pub fill-requires-clause-t_in_bounds : goal.fill-requires-clause-t_in_bounds
fill-requires-clause-t_in_bounds c =
    let p = c.put_prefix-from in
    subst₂ (λ (y : Bool) (l : List ℕ). length (body_of y c.args.t) ≤ length l) (sym c.has_micros.ensures) (sym (rest_lent p.result p.new.out))
    (rest_room c.args.form c.args.z c.args.t c.args.out.now c.size-n.result c.size-n.ensures c.if-out-n.false p.result p.ensures.0 p.new.out p.ensures.1)

pub returns : goal.returns
returns c =
    let p = c.put_prefix-from in
    let b = c.fill.new.out in
    let e = c.fill.ensures ∙ ap₂ (λ (y : Bool) (s : List ℕ). onto (body_of y c.args.t) s) c.has_micros.ensures (rest_lent p.result p.new.out) in
    ap (wrote (Ok c.size-n.result)) (rest_back p.result p.new.out b)
    ∙ text_put c.args.form c.args.z c.args.t c.args.out.now c.size-n.result c.size-n.ensures c.if-out-n.false p.result p.ensures.0 p.new.out p.ensures.1 b e
