use Rattle.std.proofs.Common.{◌≡◌, true}
use Rattle.season.specs.Places.{entry_of}
use Rattle.season.specs.Covers.{EndsAt}
use Rattle.season.specs.Bodies.{all_stand}
use Rattle.season.proofs.reader.all_stand.Given as goal

-- before entry k all entries and their bodies are kept
abbrev pub invariant-loop-k : goal.invariant-loop-k
invariant-loop-k l = record {
  stand : all_stand l.bytes l.k ≡ true;
  ends : EndsAt (λ j. (entry_of l.bytes j).to) l.k l.before;
}
