-- "CUC, Aeolus (6 bytes): seconds 32 bits, fraction 16 bits". Assumes nothing.
use Rattle.std.specs.Prelude.{List, ◌++◌, ℕ, eqb, length, Result}
use Rattle.octets.specs.Meaning.{field, part}
use Rattle.scales.specs.Meaning.{Judged, given, gives, outcome, Wrote, written, Valued, valued, value_slip}
use Rattle.layout_fields.specs.Meaning.{placing}
use Rattle.layout_fields.specs.declared.cuc.Fields.{Fields}
use Rattle.scales.specs.declared.Refusal.{Refusal}

abbrev pub fields_of : List ℕ → Fields
fields_of s = record { seconds = part s 0 4; fraction = part s 4 2 }

abbrev pub image_of : Fields → List ℕ
image_of f = field 4 f.seconds ++ field 2 f.fraction

abbrev pub reading : List ℕ → Judged Fields
reading s =
    given (eqb (length s) 6) 1
    (gives (fields_of s))

abbrev pub writing : Fields → List ℕ → Judged (List ℕ)
writing f out = placing (image_of f) out

-- ---- what is handed back
abbrev pub empty : Fields
empty = record { seconds = 0; fraction = 0 }

abbrev pub slip : Result Fields Refusal → Valued Fields
slip r = value_slip empty r

unfoldable pub read : List ℕ → Valued Fields
read s = valued empty (outcome (reading s))

unfoldable pub write : Fields → List ℕ → Wrote ℕ
write f out = written out (outcome (writing f out))
