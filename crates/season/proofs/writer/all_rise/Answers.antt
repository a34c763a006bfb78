use Rattle.std.proofs.Common.{◌≡◌, Some, None, sym, ap, ◌∙◌, rules, arith}
use Rattle.clock.specs.declared.inner.Ends.{Ends}
use Rattle.season.specs.Meaning.{is_written, correlation_at}
use Rattle.season.specs.Each.{all_not, all_next}
use Rattle.season.specs.Covers.{ends_of, ends_next}
use Rattle.season.specs.Taking.{next_at, may_next, may_not}
use Rattle.season.specs.Writing.{next_is_lem}
use Rattle.season.proofs.writer.all_rise.Goals as goal

pub returns-in_default : goal.returns-in_default
returns-in_default c =
    let ws = c.args.words.now in
    let l = c.loop-k in
    let e : next_at ws l.k l.before ≡ None = search rules in
    sym (all_not (is_written ws) c.args.n l.k (omega arith)
    (sym (next_is_lem ws l.k l.before l.invariant.rise l.invariant.ends) ∙ may_not ws l.k l.before e))

pub loop-k-preserved : goal.loop-k-preserved
loop-k-preserved c =
    let ws = c.args.words.now in
    let l = c.loop-k in
    let e : next_at ws l.k l.before ≡ Some c.in-Some.v = search rules in
    let m = may_next ws l.k l.before c.in-Some.v e in
    record {
      rise = all_next (is_written ws) l.k l.invariant.rise (sym (next_is_lem ws l.k l.before l.invariant.rise l.invariant.ends) ∙ m.0);
      ends = ends_next (λ j. (ends_of (correlation_at ws j)).to) l.k c.in-Some.v.to (sym (ap (λ (x : Ends). x.to) m.1));
    }

pub returns : goal.returns
returns c =
    let z : c.loop-k.k ≡ c.args.n = omega arith in
    rw (← z) (sym c.loop-k.invariant.rise)
