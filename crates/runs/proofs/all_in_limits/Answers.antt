use Rattle.std.proofs.Common.{rules, tests, arith, ◌∙◌, ℕ}
use Rattle.std.proofs.lemmas.Iterator.{YieldsList-from_range}
use Rattle.std.proofs.lemmas.Iterator.Search.{all_from_yields_List}
use Rattle.layout_fields.specs.Siral.{fields_of}
use Rattle.runs.specs.Meaning.{is_in_limits}
use Rattle.runs.specs.Passes.{packet_at}
use Rattle.runs.specs.Turns.{limits_from}
use Rattle.runs.proofs.all_in_limits.Goals as goal

pub returns : goal.returns
returns c =
    let s = c.args.bytes.now in
    let n = c.args.n in
    all_from_yields_List (λ (i : ℕ). is_in_limits (fields_of (packet_at s i))) _ _ c.all.result c.all.ensures.ran (YieldsList-from_range 0 n n (cc) (omega arith))
    (λ x b q h. search (rules, tests))
    ∙ limits_from s n 0
