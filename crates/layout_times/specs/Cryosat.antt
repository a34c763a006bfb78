-- "CryoSat general: .. Read as TAI, MJD2000". Assumes nothing.
use Rattle.std.specs.Prelude.{Bool, ◌&&◌, List, ℕ, ◌+◌, ◌*◌, ◌/◌, ◌%◌, ℤ, pos}
use Rattle.std.specs.Int.Signed.{le_z}
use Rattle.axis.specs.Meaning.{Moment}
use Rattle.scales.specs.Meaning.{and_then, same_scale, Judged, outcome, Slip, dated, Wrote, written}
use Rattle.scales.specs.declared.Scale.{Scale}
use Rattle.scales.specs.declared.Scale.TheVariants as S
use Rattle.handed.specs.declared.Handed.{Handed}
use Rattle.handed.specs.Meaning.{scale_of, day_of, micro_of}
use Rattle.layout_fields.specs.Cryosat as F
use Rattle.layout_fields.specs.declared.cryosat.Fields.{Fields}
use Rattle.layout_times.specs.Meaning.{moment_from, micros_from, judged, imaging}

abbrev pub epoch : ℤ
epoch = pos 0

-- ---- bytes to a record
abbrev pub micros_in : ℕ → ℕ → ℕ → ℕ
micros_in day milli micro = day * 86400000000 + milli * 1000 + micro

abbrev pub micros_of : Fields → ℕ
micros_of f = micros_in f.day f.millisecond f.microsecond

abbrev pub reading : List ℕ → Judged Moment
reading s = and_then (F.reading s) (λ (f : Fields). judged S.Tai (moment_from epoch (micros_of f)))

unfoldable pub read : List ℕ → Slip
read s = dated S.Tai (outcome (reading s))

-- ---- a handed time to bytes
abbrev pub fields_at : ℕ → Fields
fields_at n = record { day = n / 86400000000; millisecond = n % 86400000000 / 1000; microsecond = n % 1000 }

abbrev pub image_at : ℤ → ℕ → List ℕ
image_at d u = F.image_of (fields_at (micros_from epoch d u))

-- no image: wrong scale, a day that the field cannot hold (every later day of the span fits)
abbrev pub has_image : Scale → ℤ → Bool
has_image s d = same_scale S.Tai s && le_z epoch d

abbrev pub writing : Handed → List ℕ → Judged (List ℕ)
writing h out = imaging h (has_image (scale_of h) (day_of h)) (image_at (day_of h) (micro_of h)) out

unfoldable pub write : Handed → List ℕ → Wrote ℕ
write h out = written out (outcome (writing h out))
