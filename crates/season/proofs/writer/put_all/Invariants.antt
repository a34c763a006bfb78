use Rattle.std.proofs.Common.{◌*◌}
use Rattle.season.specs.Meaning.{each, entry_bytes, body_bytes}
use Rattle.season.specs.Filling.{Filled}
use Rattle.season.proofs.writer.put_all.Given as goal

-- the entries and the bodies before k are there, and the rest is as it was
abbrev pub invariant-loop-k : goal.invariant-loop-k
invariant-loop-k l = record {
  contents : Filled (20 * l.k) (each (entry_bytes l.n l.words) l.k) l.initial.contents l.contents;
  bodies : Filled (28 * l.k) (each (body_bytes l.words) l.k) l.initial.bodies l.bodies;
}
