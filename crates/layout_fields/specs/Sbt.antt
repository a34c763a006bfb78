-- "SBT (4 bytes): the tick". Assumes nothing.
use Rattle.std.specs.Prelude.{List, ℕ, eqb, length}
use Rattle.octets.specs.Meaning.{field, part}
use Rattle.scales.specs.Meaning.{Judged, given, gives, outcome, Valued, valued, Wrote, written}
use Rattle.layout_fields.specs.Meaning.{placing}

abbrev pub reading : List ℕ → Judged ℕ
reading s =
    given (eqb (length s) 4) 1
    (gives (part s 0 4))

abbrev pub image_of : ℕ → List ℕ
image_of t = field 4 t

abbrev pub writing : ℕ → List ℕ → Judged (List ℕ)
writing t out = placing (image_of t) out

unfoldable pub read : List ℕ → Valued ℕ
read s = valued 0 (outcome (reading s))

unfoldable pub write : ℕ → List ℕ → Wrote ℕ
write t out = written out (outcome (writing t out))
