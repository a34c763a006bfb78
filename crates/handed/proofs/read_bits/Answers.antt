use Rattle.std.proofs.Common.{arith, sym, ap, ◌∙◌, ◌+◌, ◌-◌, ◌^◌}
use Rattle.double.specs.declared.inner.Bits.{Bits}
use Rattle.handed.specs.Parts.{value_of}
use Rattle.handed.proofs.Fields.{bits_top, bits_out, bits_small, bits_middle}
use Rattle.handed.proofs.read_bits.Goals as goal

-- each answer is one of the four ranges of `proofs/Fields.antt`
pub returns-then-field-eq2047 : goal.returns-then-field-eq2047
returns-then-field-eq2047 c =
    let a = c.args in
    let e = ap (λ (p : Bits). p.exponent) c.split-parts.ensures in
    sym (bits_top a.first a.bits (omega arith))

pub returns-then-field-gt1038 : goal.returns-then-field-gt1038
returns-then-field-gt1038 c =
    let a = c.args in
    let e = ap (λ (p : Bits). p.exponent) c.split-parts.ensures in
    sym (bits_out a.first a.bits c.requires.1 (omega arith) (omega arith))

pub returns-then-field-lt985 : goal.returns-then-field-lt985
returns-then-field-lt985 c =
    let a = c.args in
    let e = ap (λ (p : Bits). p.exponent) c.split-parts.ensures in
    sym (bits_small a.first a.bits c.requires.0 (omega arith))

pub returns : goal.returns
returns c =
    let a = c.args in
    let e = ap (λ (p : Bits). p.exponent) c.split-parts.ensures in
    c.read_number.ensures
    ∙ ap (λ (p : Bits). value_of a.first p.minus (2 ^ 52 + p.digits) (2 ^ (1075 - p.exponent))) c.split-parts.ensures
    ∙ sym (bits_middle a.first a.bits (omega arith) (omega arith))
