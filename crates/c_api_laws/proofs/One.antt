-- A relation that stands in a contract for C allows one result. Assumes nothing.
use mathlib.Core.Path.{◌≡◌}
use Rattle.scales.specs.Meaning.{given, outcome}
use Rattle.decimal.specs.Meaning.{writing}
use Rattle.decimal_laws.proofs.Unique.{allowed_one}
use Rattle.c_api.specs.Meaning.{known, handed_of, DecimalWrote}
use Rattle.c_api.specs.declared.VrkHanded.{VrkHanded}
use Rattle.c_api.specs.declared.VrkDecimal.{VrkDecimal}

pub decimal_one : (h : VrkHanded) (a b : VrkDecimal) → DecimalWrote h a → DecimalWrote h b → a ≡ b
unfolding DecimalWrote
decimal_one h a b p q =
    let e =
    allowed_one (outcome (given (known h) 3 (writing (handed_of h)))) (record { number = a.refusal; value = a.day })
    (record { number = b.refusal; value = b.day }) p q
    in
    λ i. record { refusal = (e i).number; day = (e i).value }
