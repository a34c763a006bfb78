-- "SIRAL: the same, then a 16-bit extra counter of 165 x 12.5 ns = 33/16 microsecond": the same as CryoSat general. Assumes nothing.
use Rattle.std.specs.Prelude.{List, ℕ, ◌+◌, ◌*◌, ◌/◌, ◌%◌, ℤ}
use Rattle.axis.specs.Meaning.{Moment}
use Rattle.scales.specs.Meaning.{and_then, Judged, outcome, Slip, dated, Wrote, written}
use Rattle.scales.specs.declared.Scale.TheVariants as S
use Rattle.handed.specs.declared.Handed.{Handed}
use Rattle.handed.specs.Meaning.{scale_of, day_of, micro_of}
use Rattle.layout_fields.specs.Siral as F
use Rattle.layout_fields.specs.declared.siral.Fields.{Fields}
use Rattle.layout_times.specs.Meaning.{moment_from, micros_from, judged, imaging}
use Rattle.layout_times.specs.Cryosat.{epoch, has_image}

-- ---- bytes to a record: "All four are added and the whole part is taken; a carry may pass midnight"
-- the sum of the four in sixteenths of a microsecond, for any number of units; its whole part
abbrev pub sixteenths : ℕ → ℕ → ℕ → ℕ → ℕ
sixteenths day milli micro units = (day * 86400000000 + milli * 1000 + micro) * 16 + units * 33

abbrev pub micros_of : Fields → ℕ
micros_of f = sixteenths f.day f.millisecond f.microsecond f.extra / 16

abbrev pub reading : List ℕ → Judged Moment
reading s = and_then (F.reading s) (λ (f : Fields). judged S.Tai (moment_from epoch (micros_of f)))

unfoldable pub read : List ℕ → Slip
read s = dated S.Tai (outcome (reading s))

-- ---- a handed time to bytes: "The writer from a record sets the extra counter to 0"
abbrev pub fields_at : ℕ → Fields
fields_at n = record { day = n / 86400000000; millisecond = n % 86400000000 / 1000; microsecond = n % 1000; extra = 0 }

abbrev pub image_at : ℤ → ℕ → List ℕ
image_at d u = F.image_of (fields_at (micros_from epoch d u))

abbrev pub writing : Handed → List ℕ → Judged (List ℕ)
writing h out = imaging h (has_image (scale_of h) (day_of h)) (image_at (day_of h) (micro_of h)) out

unfoldable pub write : Handed → List ℕ → Wrote ℕ
write h out = written out (outcome (writing h out))
