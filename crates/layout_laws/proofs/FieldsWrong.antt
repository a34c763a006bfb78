-- Wrong readers and writers of fields, each shut out by an input at which its answer is not the meaning's. Assumes nothing.
use mathlib.Core.Path.{refl}
use mathlib.Core.Bool.{true, false}
use mathlib.Core.List.{List, [], ◌∷◌, reverse}
use Prim.Native.Nat.{ℕ, ◌+◌, ◌*◌, ◌%◌, ◌^◌}
use native.Mathlib.Omega.{arith}
use lib.Dec.{leb, eqb}
use lib.ListN.{length, take, drop}
use Rattle.evidence.specs.ShutOut.{ShutOut, differ}
use Rattle.octets.specs.Meaning.{number, field, part}
use Rattle.scales.specs.Meaning.{given, gives, outcome, Wrote, written, Valued, valued}
use Rattle.layout_fields.specs.Meaning.{placing}
use Rattle.layout_fields.specs.Cuc as Cuc
use Rattle.layout_fields.specs.Goce as Goce
use Rattle.layout_fields.specs.Obet as Obet
use Rattle.layout_fields.specs.Proteus as Proteus
use Rattle.layout_fields.specs.Cryosat as Cryosat
use Rattle.layout_fields.specs.Siral as Siral
use Rattle.layout_fields.specs.Sbt as Sbt
use Rattle.layout_fields.specs.declared.cuc.Fields as C
use Rattle.layout_fields.specs.declared.proteus.Fields as P
use Rattle.layout_fields.specs.declared.cryosat.Fields as Y
use Rattle.layout_fields.specs.declared.siral.Fields as R
use Rattle.ground_laws.proofs.Desks.{got, keeps, bytes_at, made_up, clearing, scribbling, sevens}

-- ---- wrong in any layout
-- a little-endian field
abbrev little : List ℕ → ℕ → ℕ → ℕ
little s from n = number (reverse (take n (drop from s)))

-- ---- CUC
abbrev cuc_little : List ℕ → Valued C.Fields
cuc_little s = valued Cuc.empty (outcome (given (eqb (length s) 6) 1 (gives (record { seconds = little s 0 4; fraction = little s 4 2 }))))

pub cuc_little_lem : ShutOut (Cuc.read (0 ∷ 0 ∷ 0 ∷ 1 ∷ 0 ∷ 1 ∷ [])) (record { number = 0; value = record { seconds = 1; fraction = 1 } })
    (cuc_little (0 ∷ 0 ∷ 0 ∷ 1 ∷ 0 ∷ 1 ∷ [])) (record { number = 0; value = record { seconds = 16777216; fraction = 256 } })
unfolding Cuc.read number
cuc_little_lem = (refl, refl, differ (λ (v : Valued C.Fields). v.value.seconds) (λ e. omega arith))

-- the length not tested
abbrev cuc_any_length : List ℕ → Valued C.Fields
cuc_any_length s = valued Cuc.empty (outcome (gives (Cuc.fields_of s)))

pub cuc_any_length_lem : ShutOut (Cuc.read (0 ∷ 0 ∷ 0 ∷ 1 ∷ [])) (record { number = 1; value = Cuc.empty })
    (cuc_any_length (0 ∷ 0 ∷ 0 ∷ 1 ∷ [])) (record { number = 0; value = record { seconds = 1; fraction = 0 } })
unfolding Cuc.read number
cuc_any_length_lem = (refl, refl, differ (λ (v : Valued C.Fields). v.number) (λ e. omega arith))

abbrev cuc_fields : C.Fields
cuc_fields = record { seconds = 1; fraction = 2 }

pub cuc_clearing : ShutOut (Cuc.write cuc_fields (sevens 7)) (got 6 (0 ∷ 0 ∷ 0 ∷ 1 ∷ 0 ∷ 2 ∷ 7 ∷ []))
    (clearing (sevens 7) (Cuc.write cuc_fields (sevens 7))) (got 6 (0 ∷ 0 ∷ 0 ∷ 1 ∷ 0 ∷ 2 ∷ 0 ∷ []))
unfolding Cuc.write field
cuc_clearing = (refl, refl, differ (bytes_at 6) (λ e. omega arith))

pub cuc_scribbling : ShutOut (Cuc.write cuc_fields (sevens 3)) (keeps 13 (sevens 3)) (scribbling (Cuc.write cuc_fields (sevens 3))) (keeps 13 (0 ∷ 7 ∷ 7 ∷ []))
unfolding Cuc.write field
cuc_scribbling = (refl, refl, differ (bytes_at 0) (λ e. omega arith))

-- ---- GOCE
abbrev goce_little : List ℕ → Valued ℕ
goce_little s = valued 0 (outcome (given (eqb (length s) 6) 1 (gives (little s 0 6))))

pub goce_little_lem : ShutOut (Goce.read (0 ∷ 0 ∷ 0 ∷ 0 ∷ 0 ∷ 1 ∷ [])) (record { number = 0; value = 1 }) (goce_little (0 ∷ 0 ∷ 0 ∷ 0 ∷ 0 ∷ 1 ∷ []))
    (record { number = 0; value = 1099511627776 })
unfolding Goce.read number
goce_little_lem = (refl, refl, differ (λ (v : Valued ℕ). v.value) (λ e. omega arith))

abbrev goce_any_length : List ℕ → Valued ℕ
goce_any_length s = valued 0 (outcome (gives (number s)))

pub goce_any_length_lem : ShutOut (Goce.read (1 ∷ [])) (record { number = 1; value = 0 }) (goce_any_length (1 ∷ [])) (record { number = 0; value = 1 })
unfolding Goce.read number
goce_any_length_lem = (refl, refl, differ (λ (v : Valued ℕ). v.number) (λ e. omega arith))

-- a count wider than the field is cut
abbrev goce_cut : ℕ → List ℕ → Wrote ℕ
goce_cut n out = written out (outcome (placing (field 6 n) out))

pub goce_cut_lem : ShutOut (Goce.write (2 ^ 48) (sevens 6)) (keeps 3 (sevens 6))
    (goce_cut (2 ^ 48) (sevens 6)) (got 6 (0 ∷ 0 ∷ 0 ∷ 0 ∷ 0 ∷ 0 ∷ []))
unfolding Goce.write field
goce_cut_lem = (refl, refl, differ (bytes_at 0) (λ e. omega arith))

pub goce_made_up : ShutOut (Goce.write 1 (sevens 6)) (got 6 (0 ∷ 0 ∷ 0 ∷ 0 ∷ 0 ∷ 1 ∷ []))
    (made_up (Goce.write 1 (sevens 6))) (got 8 (0 ∷ 0 ∷ 0 ∷ 0 ∷ 0 ∷ 1 ∷ []))
unfolding Goce.write field
goce_made_up = (refl, refl, differ (λ (w : Wrote ℕ). w.length) (λ e. omega arith))

-- ---- OBET
-- the marker not tested
abbrev obet_unmarked : List ℕ → Valued ℕ
obet_unmarked s = valued 0 (outcome (given (eqb (length s) 8) 1 (gives (part s 1 7))))

pub obet_unmarked_lem : ShutOut (Obet.read (103 ∷ 0 ∷ 0 ∷ 0 ∷ 0 ∷ 0 ∷ 0 ∷ 1 ∷ [])) (record { number = 2; value = 0 })
    (obet_unmarked (103 ∷ 0 ∷ 0 ∷ 0 ∷ 0 ∷ 0 ∷ 0 ∷ 1 ∷ [])) (record { number = 0; value = 1 })
unfolding Obet.read number
obet_unmarked_lem = (refl, refl, differ (λ (v : Valued ℕ). v.number) (λ e. omega arith))

-- byte 66 as a CCSDS width code: two coarse octets, two fine
abbrev obet_width_code : List ℕ → Valued ℕ
obet_width_code s = valued 0 (outcome (given (eqb (length s) 8) 1 (gives (part s 1 2 * 65536 + part s 3 2))))

pub obet_width_code_lem : ShutOut (Obet.read (102 ∷ 0 ∷ 0 ∷ 0 ∷ 1 ∷ 0 ∷ 0 ∷ 2 ∷ [])) (record { number = 0; value = 16777218 })
    (obet_width_code (102 ∷ 0 ∷ 0 ∷ 0 ∷ 1 ∷ 0 ∷ 0 ∷ 2 ∷ [])) (record { number = 0; value = 1 })
unfolding Obet.read number
obet_width_code_lem = (refl, refl, differ (λ (v : Valued ℕ). v.value) (λ e. omega arith))

-- written without the marker
abbrev obet_no_marker : ℕ → List ℕ → Wrote ℕ
obet_no_marker n out = written out (outcome (placing (field 8 n) out))

pub obet_no_marker_lem : ShutOut (Obet.write 1 (sevens 8)) (got 8 (102 ∷ 0 ∷ 0 ∷ 0 ∷ 0 ∷ 0 ∷ 0 ∷ 1 ∷ [])) (obet_no_marker 1 (sevens 8)) (got 8 (0 ∷ 0 ∷ 0 ∷ 0 ∷ 0 ∷ 0 ∷ 0 ∷ 1 ∷ []))
unfolding Obet.write field
obet_no_marker_lem = (refl, refl, differ (bytes_at 0) (λ e. omega arith))

pub obet_scribbling : ShutOut (Obet.write (2 ^ 56) (sevens 3)) (keeps 3 (sevens 3)) (scribbling (Obet.write (2 ^ 56) (sevens 3))) (keeps 3 (0 ∷ 7 ∷ 7 ∷ []))
unfolding Obet.write field
obet_scribbling = (refl, refl, differ (bytes_at 0) (λ e. omega arith))

-- ---- Proteus
-- the zero bits not tested
abbrev proteus_bits : List ℕ → Valued P.Fields
proteus_bits s = valued Proteus.empty (outcome (given (eqb (length s) 8) 1 (given (leb (part s 2 4) 604799) 3 (gives (Proteus.fields_of s)))))

pub proteus_bits_lem : ShutOut (Proteus.read (0 ∷ 2 ∷ 0 ∷ 0 ∷ 0 ∷ 1 ∷ 0 ∷ 0 ∷ [])) (record { number = 2; value = Proteus.empty })
    (proteus_bits (0 ∷ 2 ∷ 0 ∷ 0 ∷ 0 ∷ 1 ∷ 0 ∷ 0 ∷ [])) (record { number = 0; value = record { week = 0; h3 = false; second = 1; fraction = 0 } })
unfolding Proteus.read number
proteus_bits_lem = (refl, refl, differ (λ (v : Valued P.Fields). v.number) (λ e. omega arith))

-- the second's limit judged before the zero bits
abbrev proteus_late : List ℕ → Valued P.Fields
proteus_late s =
    valued Proteus.empty
    (outcome (given (eqb (length s) 8) 1 (given (leb (part s 2 4) 604799) 3 (given (eqb (Proteus.zeros_in (part s 0 2)) 0) 2 (gives (Proteus.fields_of s))))))

pub proteus_late_lem : ShutOut (Proteus.read (0 ∷ 2 ∷ 0 ∷ 9 ∷ 58 ∷ 128 ∷ 0 ∷ 0 ∷ [])) (record { number = 2; value = Proteus.empty })
    (proteus_late (0 ∷ 2 ∷ 0 ∷ 9 ∷ 58 ∷ 128 ∷ 0 ∷ 0 ∷ [])) (record { number = 3; value = Proteus.empty })
unfolding Proteus.read number
proteus_late_lem = (refl, refl, differ (λ (v : Valued P.Fields). v.number) (λ e. omega arith))

-- the week cut to its 12 bits
abbrev proteus_cut : P.Fields → List ℕ → Wrote ℕ
proteus_cut f out = Proteus.write (record { week = f.week % 4096; h3 = f.h3; second = f.second; fraction = f.fraction }) out

pub proteus_cut_lem : ShutOut (Proteus.write (record { week = 4097; h3 = false; second = 2; fraction = 3 }) (sevens 8)) (keeps 3 (sevens 8))
    (proteus_cut (record { week = 4097; h3 = false; second = 2; fraction = 3 }) (sevens 8)) (got 8 (0 ∷ 16 ∷ 0 ∷ 0 ∷ 0 ∷ 2 ∷ 0 ∷ 3 ∷ []))
unfolding Proteus.write field
proteus_cut_lem = (refl, refl, differ (bytes_at 0) (λ e. omega arith))

-- H3 dropped
abbrev proteus_no_h3 : P.Fields → List ℕ → Wrote ℕ
proteus_no_h3 f out = Proteus.write (record { week = f.week; h3 = false; second = f.second; fraction = f.fraction }) out

pub proteus_no_h3_lem : ShutOut (Proteus.write (record { week = 1; h3 = true; second = 2; fraction = 3 }) (sevens 8)) (got 8 (0 ∷ 17 ∷ 0 ∷ 0 ∷ 0 ∷ 2 ∷ 0 ∷ 3 ∷ []))
    (proteus_no_h3 (record { week = 1; h3 = true; second = 2; fraction = 3 }) (sevens 8)) (got 8 (0 ∷ 16 ∷ 0 ∷ 0 ∷ 0 ∷ 2 ∷ 0 ∷ 3 ∷ []))
unfolding Proteus.write field
proteus_no_h3_lem = (refl, refl, differ (bytes_at 1) (λ e. omega arith))

-- ---- CryoSat
-- the limit itself taken
abbrev cryosat_limit : List ℕ → Valued Y.Fields
cryosat_limit s = valued Cryosat.empty (outcome (given (eqb (length s) 8) 1 (given (leb (part s 2 4) 86400000) 3 (gives (Cryosat.fields_of s)))))

pub cryosat_limit_lem : ShutOut (Cryosat.read (0 ∷ 1 ∷ 5 ∷ 38 ∷ 92 ∷ 0 ∷ 0 ∷ 0 ∷ [])) (record { number = 3; value = Cryosat.empty })
    (cryosat_limit (0 ∷ 1 ∷ 5 ∷ 38 ∷ 92 ∷ 0 ∷ 0 ∷ 0 ∷ [])) (record { number = 0; value = record { day = 1; millisecond = 86400000; microsecond = 0 } })
unfolding Cryosat.read number
cryosat_limit_lem = (refl, refl, differ (λ (v : Valued Y.Fields). v.number) (λ e. omega arith))

-- a refusal that hands back what was read
abbrev cryosat_hands_back : List ℕ → Valued Y.Fields
cryosat_hands_back s = record { number = (Cryosat.read s).number; value = Cryosat.fields_of s }

pub cryosat_hands_back_lem : ShutOut (Cryosat.read (0 ∷ 1 ∷ 0 ∷ 0 ∷ 0 ∷ 2 ∷ 3 ∷ 232 ∷ [])) (record { number = 3; value = Cryosat.empty })
    (cryosat_hands_back (0 ∷ 1 ∷ 0 ∷ 0 ∷ 0 ∷ 2 ∷ 3 ∷ 232 ∷ [])) (record { number = 3; value = record { day = 1; millisecond = 2; microsecond = 1000 } })
unfolding Cryosat.read number
cryosat_hands_back_lem = (refl, refl, differ (λ (v : Valued Y.Fields). v.value.day) (λ e. omega arith))

abbrev cryosat_fields : Y.Fields
cryosat_fields = record { day = 1; millisecond = 2; microsecond = 3 }

pub cryosat_clearing : ShutOut (Cryosat.write cryosat_fields (sevens 11)) (got 8 (0 ∷ 1 ∷ 0 ∷ 0 ∷ 0 ∷ 2 ∷ 0 ∷ 3 ∷ sevens 3))
    (clearing (sevens 11) (Cryosat.write cryosat_fields (sevens 11))) (got 8 (0 ∷ 1 ∷ 0 ∷ 0 ∷ 0 ∷ 2 ∷ 0 ∷ 3 ∷ 0 ∷ 0 ∷ 0 ∷ []))
unfolding Cryosat.write field
cryosat_clearing = (refl, refl, differ (bytes_at 8) (λ e. omega arith))

pub cryosat_made_up : ShutOut (Cryosat.write cryosat_fields (sevens 3)) (keeps 13 (sevens 3)) (made_up (Cryosat.write cryosat_fields (sevens 3)))
    (record { number = 13; length = 2; lent = sevens 3 })
unfolding Cryosat.write field
cryosat_made_up = (refl, refl, differ (λ (w : Wrote ℕ). w.length) (λ e. omega arith))

-- ---- SIRAL
abbrev siral_no_extra : List ℕ → Valued R.Fields
siral_no_extra s =
    valued Siral.empty
    (outcome (given (eqb (length s) 10) 1 (gives (record { day = part s 0 2; millisecond = part s 2 4; microsecond = part s 6 2; extra = 0 }))))

pub siral_no_extra_lem : ShutOut (Siral.read (0 ∷ 1 ∷ 0 ∷ 0 ∷ 0 ∷ 2 ∷ 0 ∷ 3 ∷ 0 ∷ 4 ∷ []))
    (record { number = 0; value = record { day = 1; millisecond = 2; microsecond = 3; extra = 4 } })
    (siral_no_extra (0 ∷ 1 ∷ 0 ∷ 0 ∷ 0 ∷ 2 ∷ 0 ∷ 3 ∷ 0 ∷ 4 ∷ [])) (record { number = 0; value = record { day = 1; millisecond = 2; microsecond = 3; extra = 0 } })
unfolding Siral.read number
siral_no_extra_lem = (refl, refl, differ (λ (v : Valued R.Fields). v.value.extra) (λ e. omega arith))

-- CryoSat's eight bytes taken
abbrev siral_eight : List ℕ → Valued R.Fields
siral_eight s = valued Siral.empty (outcome (given (leb 8 (length s)) 1 (gives (Siral.fields_of s))))

pub siral_eight_lem : ShutOut (Siral.read (0 ∷ 1 ∷ 0 ∷ 0 ∷ 0 ∷ 2 ∷ 0 ∷ 3 ∷ [])) (record { number = 1; value = Siral.empty })
    (siral_eight (0 ∷ 1 ∷ 0 ∷ 0 ∷ 0 ∷ 2 ∷ 0 ∷ 3 ∷ [])) (record { number = 0; value = record { day = 1; millisecond = 2; microsecond = 3; extra = 0 } })
unfolding Siral.read number
siral_eight_lem = (refl, refl, differ (λ (v : Valued R.Fields). v.number) (λ e. omega arith))

abbrev siral_fields : R.Fields
siral_fields = record { day = 1; millisecond = 2; microsecond = 3; extra = 4 }

-- the extra counter that was given is set to 0
abbrev siral_zero : R.Fields → List ℕ → Wrote ℕ
siral_zero f out = Siral.write (record { day = f.day; millisecond = f.millisecond; microsecond = f.microsecond; extra = 0 }) out

pub siral_zero_lem : ShutOut (Siral.write siral_fields (sevens 11)) (got 10 (0 ∷ 1 ∷ 0 ∷ 0 ∷ 0 ∷ 2 ∷ 0 ∷ 3 ∷ 0 ∷ 4 ∷ 7 ∷ []))
    (siral_zero siral_fields (sevens 11)) (got 10 (0 ∷ 1 ∷ 0 ∷ 0 ∷ 0 ∷ 2 ∷ 0 ∷ 3 ∷ 0 ∷ 0 ∷ 7 ∷ []))
unfolding Siral.write field
siral_zero_lem = (refl, refl, differ (bytes_at 9) (λ e. omega arith))

pub siral_scribbling : ShutOut (Siral.write siral_fields (sevens 8)) (keeps 13 (sevens 8)) (scribbling (Siral.write siral_fields (sevens 8))) (keeps 13 (0 ∷ 7 ∷ 7 ∷ 7 ∷ 7 ∷ 7 ∷ 7 ∷ 7 ∷ []))
unfolding Siral.write field
siral_scribbling = (refl, refl, differ (bytes_at 0) (λ e. omega arith))

-- ---- SBT
abbrev sbt_little : List ℕ → Valued ℕ
sbt_little s = valued 0 (outcome (given (eqb (length s) 4) 1 (gives (little s 0 4))))

pub sbt_little_lem : ShutOut (Sbt.read (0 ∷ 0 ∷ 0 ∷ 1 ∷ [])) (record { number = 0; value = 1 }) (sbt_little (0 ∷ 0 ∷ 0 ∷ 1 ∷ []))
    (record { number = 0; value = 16777216 })
unfolding Sbt.read number
sbt_little_lem = (refl, refl, differ (λ (v : Valued ℕ). v.value) (λ e. omega arith))

abbrev sbt_longer : List ℕ → Valued ℕ
sbt_longer s = valued 0 (outcome (given (leb 4 (length s)) 1 (gives (part s 0 4))))

pub sbt_longer_lem : ShutOut (Sbt.read (0 ∷ 0 ∷ 0 ∷ 1 ∷ 9 ∷ [])) (record { number = 1; value = 0 }) (sbt_longer (0 ∷ 0 ∷ 0 ∷ 1 ∷ 9 ∷ []))
    (record { number = 0; value = 1 })
unfolding Sbt.read number
sbt_longer_lem = (refl, refl, differ (λ (v : Valued ℕ). v.number) (λ e. omega arith))

pub sbt_clearing : ShutOut (Sbt.write 1 (sevens 5)) (got 4 (0 ∷ 0 ∷ 0 ∷ 1 ∷ 7 ∷ []))
    (clearing (sevens 5) (Sbt.write 1 (sevens 5))) (got 4 (0 ∷ 0 ∷ 0 ∷ 1 ∷ 0 ∷ []))
unfolding Sbt.write field
sbt_clearing = (refl, refl, differ (bytes_at 4) (λ e. omega arith))

pub sbt_scribbling : ShutOut (Sbt.write 1 (sevens 3)) (keeps 13 (sevens 3)) (scribbling (Sbt.write 1 (sevens 3))) (keeps 13 (0 ∷ 7 ∷ 7 ∷ []))
unfolding Sbt.write field
sbt_scribbling = (refl, refl, differ (bytes_at 0) (λ e. omega arith))
