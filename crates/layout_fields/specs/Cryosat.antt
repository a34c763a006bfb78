-- "CryoSat general (8 bytes): day 16 bits, millisecond 32 bits (below 86,400,000), microsecond 16 bits (below 1,000)".
-- Assumes nothing.
use Rattle.std.specs.Prelude.{Bool, cond, ◌&&◌, List, ◌++◌, ℕ, ltb, eqb, length, Result, Ok, Err}
use Rattle.octets.specs.Meaning.{field, part}
use Rattle.scales.specs.Meaning.{Judged, given, gives, outcome, Wrote, written, Valued, valued, value_slip}
use Rattle.scales.specs.declared.Refusal.TheVariants as R
use Rattle.layout_fields.specs.Meaning.{placing}
use Rattle.layout_fields.specs.declared.cryosat.Fields.{Fields}
use Rattle.scales.specs.declared.Refusal.{Refusal}

abbrev pub fields_of : List ℕ → Fields
fields_of s = record { day = part s 0 2; millisecond = part s 2 4; microsecond = part s 6 2 }

abbrev pub image_of : Fields → List ℕ
image_of f = field 2 f.day ++ (field 4 f.millisecond ++ field 2 f.microsecond)

-- of a millisecond and a microsecond
abbrev pub in_limits : ℕ → ℕ → Bool
in_limits milli micro = ltb milli 86400000 && ltb micro 1000

abbrev pub reading : List ℕ → Judged Fields
reading s =
    given (eqb (length s) 8) 1
    (given (in_limits (part s 2 4) (part s 6 2)) 3
    (gives (fields_of s)))

abbrev pub writing : Fields → List ℕ → Judged (List ℕ)
writing f out =
    given (in_limits f.millisecond f.microsecond) 3
    (placing (image_of f) out)

-- the fields that bytes begin with, or 3: SIRAL's begin so too
abbrev pub front_of : List ℕ → Result Fields Refusal
front_of s = cond (in_limits (part s 2 4) (part s 6 2)) (Ok (fields_of s)) (Err R.FieldOver)

-- ---- what is handed back
abbrev pub empty : Fields
empty = record { day = 0; millisecond = 0; microsecond = 0 }

abbrev pub slip : Result Fields Refusal → Valued Fields
slip r = value_slip empty r

unfoldable pub read : List ℕ → Valued Fields
read s = valued empty (outcome (reading s))

unfoldable pub write : Fields → List ℕ → Wrote ℕ
write f out = written out (outcome (writing f out))
