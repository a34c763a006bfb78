-- "SIRAL (10 bytes): the same, then a 16-bit extra counter": the same as CryoSat general. Assumes nothing.
use Rattle.std.specs.Prelude.{List, ◌++◌, ℕ, eqb, length, Result}
use Rattle.octets.specs.Meaning.{field, part}
use Rattle.scales.specs.Meaning.{Judged, given, gives, outcome, Wrote, written, Valued, valued, value_slip}
use Rattle.layout_fields.specs.Meaning.{placing}
use Rattle.layout_fields.specs.Cryosat.{in_limits}
use Rattle.layout_fields.specs.declared.siral.Fields.{Fields}
use Rattle.scales.specs.declared.Refusal.{Refusal}

abbrev pub fields_of : List ℕ → Fields
fields_of s = record { day = part s 0 2; millisecond = part s 2 4; microsecond = part s 6 2; extra = part s 8 2 }

abbrev pub image_of : Fields → List ℕ
image_of f = field 2 f.day ++ (field 4 f.millisecond ++ (field 2 f.microsecond ++ field 2 f.extra))

abbrev pub reading : List ℕ → Judged Fields
reading s =
    given (eqb (length s) 10) 1
    (given (in_limits (part s 2 4) (part s 6 2)) 3
    (gives (fields_of s)))

abbrev pub writing : Fields → List ℕ → Judged (List ℕ)
writing f out =
    given (in_limits f.millisecond f.microsecond) 3
    (placing (image_of f) out)

-- ---- what is handed back
abbrev pub empty : Fields
empty = record { day = 0; millisecond = 0; microsecond = 0; extra = 0 }

abbrev pub slip : Result Fields Refusal → Valued Fields
slip r = value_slip empty r

unfoldable pub read : List ℕ → Valued Fields
read s = valued empty (outcome (reading s))

unfoldable pub write : Fields → List ℕ → Wrote ℕ
write f out = written out (outcome (writing f out))
