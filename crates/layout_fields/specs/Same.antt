-- The number and the value of an answer fix the answer, in every layout: any two that a contract allows are equal.
-- Assumes nothing.
use Rattle.std.specs.Prelude.{◌≡◌, Result}
use Rattle.scales.specs.Same.{same_reply}
use Rattle.scales.specs.declared.Refusal.{Refusal}
use Rattle.layout_fields.specs.Cuc as Cuc
use Rattle.layout_fields.specs.Proteus as Proteus
use Rattle.layout_fields.specs.Cryosat as Cryosat
use Rattle.layout_fields.specs.Siral as Siral
use Rattle.layout_fields.specs.declared.cuc.Fields as CucFields
use Rattle.layout_fields.specs.declared.proteus.Fields as ProteusFields
use Rattle.layout_fields.specs.declared.cryosat.Fields as CryosatFields
use Rattle.layout_fields.specs.declared.siral.Fields as SiralFields

pub same_cuc : (a b : Result CucFields.Fields Refusal) → Cuc.slip a ≡ Cuc.slip b → a ≡ b
same_cuc = same_reply Cuc.empty

pub same_proteus : (a b : Result ProteusFields.Fields Refusal) → Proteus.slip a ≡ Proteus.slip b → a ≡ b
same_proteus = same_reply Proteus.empty

pub same_cryosat : (a b : Result CryosatFields.Fields Refusal) → Cryosat.slip a ≡ Cryosat.slip b → a ≡ b
same_cryosat = same_reply Cryosat.empty

pub same_siral : (a b : Result SiralFields.Fields Refusal) → Siral.slip a ≡ Siral.slip b → a ≡ b
same_siral = same_reply Siral.empty
