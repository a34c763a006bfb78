-- "OBET, SMOS (8 bytes): one byte equal to 66 hexadecimal, coarse 32 bits, fine 24 bits, kept as a 56-bit count".
-- Assumes nothing.
use Rattle.std.specs.Prelude.{List, ◌++◌, ℕ, ◌^◌, ltb, eqb, length}
use Rattle.octets.specs.Meaning.{field, part}
use Rattle.scales.specs.Meaning.{Judged, given, gives, outcome, Wrote, written, Valued, valued}
use Rattle.layout_fields.specs.Meaning.{placing}

-- 66 hexadecimal
abbrev pub marker : ℕ
marker = 102

abbrev pub reading : List ℕ → Judged ℕ
reading s =
    given (eqb (length s) 8) 1
    (given (eqb (part s 0 1) marker) 2
    (gives (part s 1 7)))

abbrev pub writing : ℕ → List ℕ → Judged (List ℕ)
writing n out =
    given (ltb n (2 ^ 56)) 3
    (placing (field 1 marker ++ field 7 n) out)

unfoldable pub read : List ℕ → Valued ℕ
read s = valued 0 (outcome (reading s))

unfoldable pub write : ℕ → List ℕ → Wrote ℕ
write n out = written out (outcome (writing n out))
