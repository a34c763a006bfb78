use Rattle.std.proofs.Common.{◌≡◌, rules, refl, ap, ◌∙◌, true, sym, Ok, Err}
use Rattle.std.specs.Result.{MatchResult}
use Rattle.std.proofs.lemmas.Result.{err_from_is_err_and, MatchResult-weaker}
use Rattle.scales.specs.Meaning.{slip, slip_timed, refused_of}
use Rattle.leap.specs.Meaning.{accepted}
use Rattle.text_read.specs.In.{in_lacks, in_at}
use Rattle.text_read.proofs.inner.record_in.Goals as goal

pub returns-in_err-t : goal.returns-in_err-t
returns-in_err-t c =
    let l = c.args.list.now in
    let a : accepted l.days l.offsets l.last ≡ true = search rules in
    let f = c.in_err-t.field-0.0 in
    let m : c.map_err.result ≡ Err f = search rules in
    let s : slip c.from_residual.result ≡ slip (Err f) = search rules in
    let k : MatchResult c.to_time.result (λ t. c.map_err.result ≡ Ok t) (λ e. c.map_err.result ≡ Err (refused_of c.args.to e.refusal)) =
    MatchResult-weaker c.to_time.result c.map_err.ensures.cases (λ t p. p)
    (λ e q. let p = err_from_is_err_and c.map_err.result q in let z : p.0 ≡ refused_of c.args.to e.refusal = search rules in rw (p.1, z) refl)
    in
    s ∙ in_lacks c.args.to l.days l.offsets l.last a c.args.r c.to_time.result c.map_err.result c.to_time.ensures k f m

pub returns : goal.returns
returns c =
    let l = c.args.list.now in
    let a : accepted l.days l.offsets l.last ≡ true = search rules in
    let t = c.in_ok-t.t in
    let g : c.to_time.result ≡ Ok t = search rules in
    (rw c.list-list.ensures.same at c.change.ensures) ∙ in_at c.args.to l.days l.offsets l.last a c.args.r t (ap slip_timed (sym g) ∙ c.to_time.ensures)
