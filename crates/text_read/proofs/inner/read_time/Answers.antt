use Rattle.std.proofs.Common.{◌≡◌, rules, refl, Ok, Err}
use Rattle.std.specs.Result.{MatchResult}
use Rattle.std.proofs.lemmas.Result.{err_from_is_err_and, MatchResult-weaker}
use Rattle.scales.specs.Meaning.{outcome, refused_of}
use Rattle.scales.specs.declared.Scale.TheVariants as S
use Rattle.changes.specs.Asked.{record_asked, asked_sound}
use Rattle.text_read.specs.Ways.{in_tai}
use Rattle.text_read.proofs.inner.read_time.Goals as goal

pub returns : goal.returns
returns c =
    let l = c.args.list.now in
    let r = c.args.r in
    let k : MatchResult c.judge.result (λ t. c.map_err.result ≡ Ok t) (λ e. c.map_err.result ≡ Err (refused_of S.Tai e.refusal)) =
    MatchResult-weaker c.judge.result c.map_err.ensures.cases (λ t p. p)
    (λ e q. let p = err_from_is_err_and c.map_err.result q in let z : p.0 ≡ refused_of S.Tai e.refusal = search rules in rw (p.1, z) refl)
    in
    in_tai r.scale (outcome (record_asked r l.days l.offsets l.last)) (asked_sound r l.days l.offsets l.last) c.judge.result c.map_err.result c.judge.ensures k
