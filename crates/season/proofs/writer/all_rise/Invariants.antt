use Rattle.std.proofs.Common.{◌≡◌, true}
use Rattle.season.specs.Meaning.{all, is_written, correlation_at}
use Rattle.season.specs.Covers.{ends_of, EndsAt}
use Rattle.season.proofs.writer.all_rise.Given as goal

-- all before k are written, and the last of them ends at a place
abbrev pub invariant-loop-k : goal.invariant-loop-k
invariant-loop-k l = record {
  rise : all (is_written l.words) l.k ≡ true;
  ends : EndsAt (λ j. (ends_of (correlation_at l.words j)).to) l.k l.before;
}
