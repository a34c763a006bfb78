use Rattle.std.proofs.Common.{◌≡◌, rules, refl}
use Rattle.std.specs.Prelude.{Result, Ok, Err}
use Rattle.std.specs.Result.{MatchResult}
use Rattle.std.proofs.lemmas.Result.{err_from_is_err_and, MatchResult-weaker}
use Rattle.scales.specs.Meaning.{slip_timed, spanned}
use Rattle.scales.specs.declared.Record.{Record}
use Rattle.scales.specs.declared.Refused.{Refused}
use Rattle.scales.specs.declared.Time.{Time}
use Rattle.handed.specs.declared.Handed.TheVariants as H
use Rattle.handed.specs.declared.Untaken.{Untaken}
use Rattle.handed.specs.declared.Untaken.TheVariants as K
use Rattle.handed.specs.Meaning.{Took}
use Rattle.handed.proofs.Ways.{record_at_lem, record_out}
use Rattle.handed.proofs.take_record.Goals as goal

mapped : (r : Record) (t : Result Time Refused) (m : Result Time Untaken) → slip_timed t ≡ spanned r.scale r.day r.micro →
    MatchResult t (λ x. m ≡ Ok x) (λ e. m ≡ Err (K.Outside e.scale)) → Took (H.Record r) m
mapped r (Ok x) m e k = rw k (record_at_lem r x e)
mapped r (Err d) m e k = rw k (record_out r d.refusal d.scale e)

pub returns : goal.returns
returns c =
    let k : MatchResult c.to_time.result (λ x. c.map_err.result ≡ Ok x) (λ e. c.map_err.result ≡ Err (K.Outside e.scale)) =
    MatchResult-weaker c.to_time.result c.map_err.ensures.cases (λ x p. p)
    (λ e q. let p = err_from_is_err_and c.map_err.result q in let z : p.0 ≡ K.Outside e.scale = search rules in rw (p.1, z) refl)
    in
    mapped c.args.r c.to_time.result c.map_err.result c.to_time.ensures k
