-- What the functions on fields of the C interface mean: a field that is too wide for the library is refused 3, before what it
-- judges. Assumes nothing.
use Rattle.std.specs.Prelude.{Bool, ◌&&◌, List, ℕ, eqb, leb, ltb}
use Rattle.scales.specs.Meaning.{Judged, given, Valued}
use Rattle.layout_fields.specs.Cuc as Cuc
use Rattle.layout_fields.specs.Proteus as Proteus
use Rattle.layout_fields.specs.Cryosat as Cryosat
use Rattle.layout_fields.specs.Siral as Siral
use Rattle.layout_fields.specs.declared.cuc.Fields as CucFields
use Rattle.layout_fields.specs.declared.proteus.Fields as ProteusFields
use Rattle.layout_fields.specs.declared.cryosat.Fields as CryosatFields
use Rattle.layout_fields.specs.declared.siral.Fields as SiralFields
use Rattle.c_api.specs.Marks.{bit_of}
use Rattle.c_api.specs.declared.parts.VrkCucFields.{VrkCucFields}
use Rattle.c_api.specs.declared.parts.VrkProteusFields.{VrkProteusFields}
use Rattle.c_api.specs.declared.parts.VrkCryosatFields.{VrkCryosatFields}
use Rattle.c_api.specs.declared.parts.VrkSiralFields.{VrkSiralFields}

-- ---- readers
abbrev pub cuc_fields : Valued CucFields.Fields → VrkCucFields
cuc_fields v = record { refusal = v.number; seconds = v.value.seconds; fraction = v.value.fraction }

abbrev pub proteus_fields : Valued ProteusFields.Fields → VrkProteusFields
proteus_fields v =
    record {
      refusal = v.number;
      week = v.value.week;
      h3 = bit_of v.value.h3;
      second = v.value.second;
      fraction = v.value.fraction;
    }

abbrev pub cryosat_fields : Valued CryosatFields.Fields → VrkCryosatFields
cryosat_fields v = record { refusal = v.number; day = v.value.day; millisecond = v.value.millisecond; microsecond = v.value.microsecond }

abbrev pub siral_fields : Valued SiralFields.Fields → VrkSiralFields
siral_fields v =
    record {
      refusal = v.number;
      day = v.value.day;
      millisecond = v.value.millisecond;
      microsecond = v.value.microsecond;
      extra = v.value.extra;
    }

-- ---- writers
-- what a field of 16 bits holds
abbrev narrow : ℕ → Bool
narrow n = ltb n 65536

abbrev pub cuc_fields_writing : ℕ → ℕ → List ℕ → Judged (List ℕ)
cuc_fields_writing seconds fraction out =
    given (narrow fraction) 3
    (Cuc.writing (record { seconds = seconds; fraction = fraction }) out)

abbrev pub proteus_fields_writing : ℕ → ℕ → ℕ → ℕ → List ℕ → Judged (List ℕ)
proteus_fields_writing week h3 second fraction out =
    given (narrow week && (leb h3 1 && narrow fraction)) 3
    (Proteus.writing (record { week = week; h3 = eqb h3 1; second = second; fraction = fraction }) out)

abbrev pub cryosat_fields_writing : ℕ → ℕ → ℕ → List ℕ → Judged (List ℕ)
cryosat_fields_writing day millisecond microsecond out =
    given (narrow day && narrow microsecond) 3
    (Cryosat.writing (record { day = day; millisecond = millisecond; microsecond = microsecond }) out)

abbrev pub siral_fields_writing : ℕ → ℕ → ℕ → ℕ → List ℕ → Judged (List ℕ)
siral_fields_writing day millisecond microsecond extra out =
    given (narrow day && (narrow microsecond && narrow extra)) 3
    (Siral.writing (record { day = day; millisecond = millisecond; microsecond = microsecond; extra = extra }) out)
