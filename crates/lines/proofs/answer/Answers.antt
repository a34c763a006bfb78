use Rattle.std.proofs.Common.{◌≡◌, ℕ, List, [], ◌∷◌, ◌++◌, rules, ap, subst, ◌∙◌, Ok, Err}
use Rattle.scales.specs.Meaning.{outcome, refused, answer, dated, slip, number_of, in_span, record_moment}
use Rattle.scales.specs.declared.Scale.{Scale}
use Rattle.scales.specs.declared.Scale.TheVariants as S
use Rattle.text_write.specs.Meaning.{image_of}
use Rattle.text_write.specs.declared.Form.TheVariants as F
use Rattle.lines.specs.Meaning.{line_dating}
use Rattle.lines.specs.Stage.{Put}
use Rattle.lines.specs.Dates.{line_answer, line_refused, line_inside}
use Rattle.lines.specs.Told.{refused_is, answer_is}
use Rattle.lines.proofs.answer.Goals as goal

pub print-requires-clause-micro_value : goal.print-requires-clause-micro_value
print-requires-clause-micro_value c =
    let l = c.args.list.now in
    let s = c.args.line.now in
    let t = c.in-Ok.t in
    let q : slip (Ok t) ≡ dated S.Tai (outcome (line_dating l.days l.offsets l.last s)) = search rules in
    let k = line_answer l.days l.offsets l.last s t q in
    ap (λ (z : Scale). in_span z t.day t.micro) k.0 ∙ line_inside l.days l.offsets l.last s (record_moment t) k.1

pub returns-in-Ok : goal.returns-in-Ok
returns-in-Ok c =
    let l = c.args.list.now in
    let s = c.args.line.now in
    let t = c.in-Ok.t in
    let q : slip (Ok t) ≡ dated S.Tai (outcome (line_dating l.days l.offsets l.last s)) = search rules in
    let k = line_answer l.days l.offsets l.last s t q in
    subst (λ (image : List ℕ). Put image c.args.out.now c.print.new.out c.print.result)
    (ap (λ (z : Scale). image_of F.PrefixedMicros z (record_moment t) ++ (10 ∷ [])) k.0 ∙ answer_is l.days l.offsets l.last s (answer (record_moment t)) k.1)
    c.print.ensures

pub returns-in-Err : goal.returns-in-Err
returns-in-Err c =
    let l = c.args.list.now in
    let s = c.args.line.now in
    let e = c.in-Err.e in
    let q : slip (Err e) ≡ dated S.Tai (outcome (line_dating l.days l.offsets l.last s)) = search rules in
    let o = line_refused l.days l.offsets l.last s e.refusal e.scale q in
    subst (λ (image : List ℕ). Put image c.args.out.now c.refuse.new.out c.refuse.result)
    (refused_is (number_of e.refusal) ∙ answer_is l.days l.offsets l.last s (refused (number_of e.refusal)) o)
    c.refuse.ensures
