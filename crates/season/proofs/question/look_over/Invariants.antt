use Rattle.std.proofs.Common.{◌≡◌, true}
use Rattle.season.specs.Meaning.{all, entry_kept}
use Rattle.season.specs.Places.{entry_of, seen_in}
use Rattle.season.specs.Covers.{EndsAt}
use Rattle.season.proofs.question.look_over.Given as goal

-- before entry k all entries are kept, and what covers the receipt is seen
abbrev pub invariant-loop-k : goal.invariant-loop-k
invariant-loop-k l = record {
  kept : all (entry_kept l.bytes) l.k ≡ true;
  ends : EndsAt (λ j. (entry_of l.bytes j).to) l.k l.before;
  seen : l.seen ≡ seen_in l.bytes l.receipt l.k;
}
