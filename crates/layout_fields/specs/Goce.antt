-- "GOCE OBT (6 bytes): the same two fields, kept as a 48-bit count, no epoch". Assumes nothing.
use Rattle.std.specs.Prelude.{List, ℕ, ◌^◌, ltb, eqb, length}
use Rattle.octets.specs.Meaning.{field, part}
use Rattle.scales.specs.Meaning.{Judged, given, gives, outcome, Wrote, written, Valued, valued}
use Rattle.layout_fields.specs.Meaning.{placing}

abbrev pub reading : List ℕ → Judged ℕ
reading s =
    given (eqb (length s) 6) 1
    (gives (part s 0 6))

abbrev pub writing : ℕ → List ℕ → Judged (List ℕ)
writing n out =
    given (ltb n (2 ^ 48)) 3
    (placing (field 6 n) out)

unfoldable pub read : List ℕ → Valued ℕ
read s = valued 0 (outcome (reading s))

unfoldable pub write : ℕ → List ℕ → Wrote ℕ
write n out = written out (outcome (writing n out))
