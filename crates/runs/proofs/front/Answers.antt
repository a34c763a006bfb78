use Rattle.std.proofs.Common.{ℕ, ◌+◌, ◌*◌, sym, ap₂, ◌∙◌, arith}
use Rattle.octets.specs.Parts.{part_two}
use Rattle.runs.proofs.front.Goals as goal

-- two halves side by side are one number
pub returns : goal.returns
returns c =
    let a = c.args in
    record {
      is = ap₂ (λ (x y : ℕ). x * 4294967296 + y) c.part.ensures.is c.part-2.ensures.is ∙ sym (part_two a.bytes.now (10 * a.i) 4 4 (omega arith));
      small = omega (arith, c.part.ensures.small, c.part-2.ensures.small);
    }
