use Rattle.std.proofs.Common.{◌*◌}
use Rattle.season.specs.Meaning.{each, entry_words}
use Rattle.season.specs.Filling.{Filled}
use Rattle.season.proofs.reader.fill.Given as goal

-- before entry k the numbers of the entries before it are written, and the rest is as it was
abbrev pub invariant-loop-k : goal.invariant-loop-k
invariant-loop-k l = Filled (9 * l.k) (each (entry_words l.bytes) l.k) l.initial.words l.words
