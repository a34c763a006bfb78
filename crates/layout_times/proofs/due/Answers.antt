use Rattle.std.proofs.Common.{◌≡◌, rules, refl, sym, ◌∙◌, Ok, Err}
use denote.Enum.Bare.{differs_true, differs_false}
use Rattle.scales.specs.contracts.Scale.{the_type}
use Rattle.handed.specs.Meaning.{refusal_by}
use Rattle.handed.specs.Told.{told_at}
use Rattle.layout_times.specs.Due.{due_untaken, due_other, due_at}
use Rattle.layout_times.proofs.due.Goals as goal

pub returns-in_err-t : goal.returns-in_err-t
returns-in_err-t c =
    let e = c.in_err-t.field-0.0 in
    let r : c.from_residual.result ≡ Err (refusal_by e) = search rules in
    rw r (due_untaken c.args.scale c.args.h (Err e) c.in_err-t.ensures e refl)

pub returns-then-ne : goal.returns-then-ne
returns-then-ne c =
    let a = c.args in
    let t = c.in_ok-t.t in
    due_other a.scale a.h t (told_at a.h (Ok t) c.in_ok-t.ensures t refl)
    (λ e. differs_true the_type c.scale.result a.scale (sym c.if-ne.ensures) (c.scale.ensures ∙ e))

pub returns : goal.returns
returns c =
    let a = c.args in
    let t = c.in_ok-t.t in
    let s = differs_false the_type (search rules) c.scale.result a.scale (sym c.if-ne.ensures) in
    rw c.count.ensures (due_at a.scale a.h t (told_at a.h (Ok t) c.in_ok-t.ensures t refl) (sym c.scale.ensures ∙ s))
