use Rattle.std.proofs.Common.{◌≡◌, rules, ◌∙◌, Ok, Err}
use Rattle.scales.specs.Meaning.{slip, refused_of}
use Rattle.text_read.specs.In.{in_refused, in_parsed}
use Rattle.text_read.proofs.inner.read_in.Goals as goal

pub returns-in_err-r : goal.returns-in_err-r
returns-in_err-r c =
    let l = c.args.list.now in
    let f = c.in_err-r.field-0.0 in
    let g : c.parse.result ≡ Err f.refusal = search rules in
    let s : slip c.from_residual.result ≡ slip (Err (refused_of c.args.to f.refusal)) = search rules in
    s ∙ in_refused c.args.to l.days l.offsets l.last c.args.text.now c.parse.result c.parse.ensures f.refusal g

pub returns : goal.returns
returns c =
    let l = c.args.list.now in
    let t = c.in_ok-r.r in
    let g : c.parse.result ≡ Ok t = search rules in
    c.record_in.ensures ∙ in_parsed c.args.to l.days l.offsets l.last c.args.text.now c.parse.result c.parse.ensures t g
