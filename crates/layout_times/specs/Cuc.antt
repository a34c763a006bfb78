-- "CUC, Aeolus: .. GPS seconds since 6 January 1980", which is day -7300. Assumes nothing.
use Rattle.std.specs.Prelude.{List, ℕ, ◌+◌, ◌*◌, ◌/◌, ◌%◌, ℤ, negsuc}
use Rattle.axis.specs.Meaning.{Moment}
use Rattle.scales.specs.Meaning.{and_then, same_scale, Judged, outcome, Slip, dated, Wrote, written}
use Rattle.scales.specs.declared.Scale.TheVariants as S
use Rattle.handed.specs.declared.Handed.{Handed}
use Rattle.handed.specs.Meaning.{scale_of, day_of, micro_of}
use Rattle.layout_fields.specs.Cuc as F
use Rattle.layout_fields.specs.declared.cuc.Fields.{Fields}
use Rattle.layout_times.specs.Meaning.{fraction_micros, fraction_at, moment_from, micros_from, judged, imaging}

abbrev pub epoch : ℤ
epoch = negsuc 7299

-- ---- bytes to a record
abbrev pub micros_of : Fields → ℕ
micros_of f = f.seconds * 1000000 + fraction_micros f.fraction

abbrev pub reading : List ℕ → Judged Moment
reading s = and_then (F.reading s) (λ (f : Fields). judged S.Gps (moment_from epoch (micros_of f)))

unfoldable pub read : List ℕ → Slip
read s = dated S.Gps (outcome (reading s))

-- ---- a handed time to bytes
abbrev pub fields_at : ℕ → Fields
fields_at n = record { seconds = n / 1000000; fraction = fraction_at (n % 1000000) }

abbrev pub image_at : ℤ → ℕ → List ℕ
image_at d u = F.image_of (fields_at (micros_from epoch d u))

abbrev pub writing : Handed → List ℕ → Judged (List ℕ)
writing h out = imaging h (same_scale S.Gps (scale_of h)) (image_at (day_of h) (micro_of h)) out

unfoldable pub write : Handed → List ℕ → Wrote ℕ
write h out = written out (outcome (writing h out))
