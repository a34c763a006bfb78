use Rattle.std.proofs.Common.{ℕ}
use Rattle.octets.specs.Field.{bytes_all}
use Rattle.octets.specs.Parts.{part_word}
use Rattle.octets.proofs.inner.part.Goals as goal

pub returns : goal.returns
returns c =
    let a = c.args in
    part_word a.b.now a.from a.n c.requires.0 (bytes_all a.b.now (λ (k : ℕ). (c.type_inv.b k).fits)) c.requires.1 c.number_of.result c.number_of.ensures
