use Rattle.std.proofs.Common.{sym, ap, subst, ◌∙◌}
use lib.Dec.{T}
use lib.Ieee.{Float, binary64}
use lib.Ieee.Bits.{of_bits-to_bits}
use Rattle.double.proofs.Pattern.{at_nan}
use Rattle.handed.specs.Parts.{found}
use Rattle.handed.proofs.Fields.{found_nothing}
use Rattle.handed.proofs.read_days.Goals as goal

-- a NaN has no bits, and any other value is that of its own
pub returns-then-is_nan : goal.returns-then-is_nan
returns-then-is_nan c = sym (found_nothing c.args.first c.args.day (at_nan c.args.day (sym c.if-is_nan.ensures.value)))

pub returns : goal.returns
returns c =
    let a = c.args in
    c.read_bits.ensures ∙ ap (λ (y : Float). found a.first y) (of_bits-to_bits binary64 a.day (subst T (sym c.well_formed.1.0.1) tt))
