-- "Proteus, SMOS (8 bytes): week 12 bits, three zero bits, H3, second of week 32 bits (at most 604,799), fraction as in CUC".
-- Assumes nothing.
use Rattle.std.specs.Prelude.{Bool, true, false, ◌&&◌, List, ◌++◌, ℕ, ◌+◌, ◌*◌, ◌/◌, ◌%◌, leb, ltb, eqb, length, Result}
use Rattle.octets.specs.Meaning.{field, part}
use Rattle.scales.specs.Meaning.{Judged, given, gives, outcome, Wrote, written, Valued, valued, value_slip}
use Rattle.layout_fields.specs.Meaning.{placing}
use Rattle.layout_fields.specs.declared.proteus.Fields.{Fields}
use Rattle.scales.specs.declared.Refusal.{Refusal}

-- ---- the first 16 bits: week, three zero bits, H3
abbrev pub head_of : ℕ → Bool → ℕ
head_of week true = week * 16 + 1
head_of week false = week * 16

abbrev pub week_in : ℕ → ℕ
week_in head = head / 16

abbrev pub zeros_in : ℕ → ℕ
zeros_in head = head / 2 % 8

abbrev pub h3_in : ℕ → Bool
h3_in head = eqb (head % 2) 1

-- ----
abbrev pub fields_of : List ℕ → Fields
fields_of s = record { week = week_in (part s 0 2); h3 = h3_in (part s 0 2); second = part s 2 4; fraction = part s 6 2 }

abbrev pub image_of : Fields → List ℕ
image_of f = field 2 (head_of f.week f.h3) ++ (field 4 f.second ++ field 2 f.fraction)

abbrev pub reading : List ℕ → Judged Fields
reading s =
    given (eqb (length s) 8) 1
    (given (eqb (zeros_in (part s 0 2)) 0) 2
    (given (leb (part s 2 4) 604799) 3
    (gives (fields_of s))))

-- the week has 12 bits
abbrev pub in_limits : Fields → Bool
in_limits f = ltb f.week 4096 && leb f.second 604799

abbrev pub writing : Fields → List ℕ → Judged (List ℕ)
writing f out =
    given (in_limits f) 3
    (placing (image_of f) out)

-- ---- what is handed back
abbrev pub empty : Fields
empty = record { week = 0; h3 = false; second = 0; fraction = 0 }

abbrev pub slip : Result Fields Refusal → Valued Fields
slip r = value_slip empty r

unfoldable pub read : List ℕ → Valued Fields
read s = valued empty (outcome (reading s))

unfoldable pub write : Fields → List ℕ → Wrote ℕ
write f out = written out (outcome (writing f out))
