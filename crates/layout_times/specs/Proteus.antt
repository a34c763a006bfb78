-- "Proteus, SMOS: .. fraction as in CUC. UTC, in weeks of 604,800 s from day -7300. Neither way uses a leap list"; a mark "from Proteus
-- with its H3 bit". Assumes nothing.
use Rattle.std.specs.Prelude.{Bool, false, ◌&&◌, List, ℕ, ◌+◌, ◌*◌, ◌/◌, ◌%◌, ltb, ℤ, pos, negsuc}
use Rattle.std.specs.Int.Signed.{le_z}
use Rattle.axis.specs.Meaning.{Moment}
use Rattle.scales.specs.Meaning.{and_then, same_scale, Judged, outcome, Slip, dated_as, Wrote, written}
use Rattle.scales.specs.declared.Scale.{Scale}
use Rattle.scales.specs.declared.Scale.TheVariants as S
use Rattle.scales.specs.declared.Mark.{Mark}
use Rattle.scales.specs.declared.Mark.TheVariants as M
use Rattle.handed.specs.declared.Handed.{Handed}
use Rattle.handed.specs.Meaning.{scale_of, mark_of, day_of, micro_of}
use Rattle.layout_fields.specs.Proteus as F
use Rattle.layout_fields.specs.declared.proteus.Fields.{Fields}
use Rattle.layout_times.specs.Meaning.{fraction_micros, fraction_at, moment_from, micros_from, judged, imaging}

abbrev pub epoch : ℤ
epoch = negsuc 7299

-- ---- bytes to a record
abbrev pub micros_of : Fields → ℕ
micros_of f = (f.week * 604800 + f.second) * 1000000 + fraction_micros f.fraction

abbrev pub reading : List ℕ → Judged Moment
reading s = and_then (F.reading s) (λ (f : Fields). judged S.Utc (moment_from epoch (micros_of f)))

-- an answer is marked with the H3 of the bytes
unfoldable pub read : List ℕ → Slip
read s = dated_as (M.Proteus (F.fields_of s).h3) S.Utc (outcome (reading s))

-- ---- a handed time to bytes
-- "writing Proteus takes H3 from a Proteus mark and is 0 otherwise"
abbrev pub h3_of : Mark → Bool
h3_of M.Plain = false
h3_of (M.Proteus h3) = h3
h3_of (M.Correlated reference) = false

abbrev pub fields_at : Bool → ℕ → Fields
fields_at b n = record { week = n / 604800000000; h3 = b; second = n / 1000000 % 604800; fraction = fraction_at (n % 1000000) }

abbrev pub image_at : ℤ → ℕ → Bool → List ℕ
image_at d u b = F.image_of (fields_at b (micros_from epoch d u))

-- no image: wrong scale, a week that the field cannot hold (4096 weeks end with day 21371), second 60
abbrev pub has_image : Scale → ℤ → ℕ → Bool
has_image s d u = same_scale S.Utc s && (le_z epoch d && (le_z d (pos 21371) && ltb u 86400000000))

abbrev pub writing : Handed → List ℕ → Judged (List ℕ)
writing h out = imaging h (has_image (scale_of h) (day_of h) (micro_of h)) (image_at (day_of h) (micro_of h) (h3_of (mark_of h))) out

unfoldable pub write : Handed → List ℕ → Wrote ℕ
write h out = written out (outcome (writing h out))
