-- Wrong writers for C, each shut out by an input at which its answer is not the meaning's. Assumes nothing.
use mathlib.Core.Path.{refl}
use mathlib.Core.Bool.{cond}
use mathlib.Core.List.{List, [], ◌∷◌}
use Prim.Native.Nat.{ℕ, ◌+◌, ◌%◌, ◌^◌}
use native.Mathlib.Omega.{arith}
use lib.Dec.{eqb}
use lib.IntN.{ℤ, pos, negsuc}
use Rattle.evidence.specs.ShutOut.{ShutOut, differ}
use Rattle.octets.specs.Meaning.{field, has_room}
use Rattle.scales.specs.Meaning.{given, outcome, Wrote, written}
use Rattle.double.specs.Meaning.{plus_zero}
use Rattle.ground_laws.proofs.Desks.{got, keeps, bytes_at, writes_nothing, made_up, clearing, scribbling, sevens}
use Rattle.layout_fields.specs.Goce as Goce
use Rattle.layout_fields.specs.Obet as Obet
use Rattle.layout_fields.specs.Sbt as Sbt
use Rattle.layout_times.specs.Meaning.{last_to}
use Rattle.layout_times.specs.Cuc as Cuc
use Rattle.layout_times.specs.Proteus as Proteus
use Rattle.layout_times.specs.Cryosat as Cryosat
use Rattle.layout_times.specs.Siral as Siral
use Rattle.c_api.specs.Marks.{known_mark}
use Rattle.c_api.specs.Bytes.{writes, handed_writing}
use Rattle.c_api.specs.Parts.{cuc_fields_writing, proteus_fields_writing, cryosat_fields_writing, siral_fields_writing}
use Rattle.c_api.specs.declared.VrkHanded.{VrkHanded}
use Rattle.c_api_laws.proofs.Marks.{marked_with}
use Rattle.c_api_laws.proofs.Desks.{unknown_is_plain}

-- ---- what is handed in, and what is lent
abbrev handed : ℕ → ℕ → ℤ → ℕ → VrkHanded
handed k s d u = record { kind = k; scale = s; day = d; micro = u; decimal = plus_zero; mark = 0; source = 0 }

abbrev length_in : Wrote ℕ → ℕ
length_in w = w.length

-- a kind cut to its last bit, a scale to its last two: what stands for nothing is taken for a record, or for TAI, UTC or GPS
abbrev last_bits : VrkHanded → VrkHanded
last_bits h = record { kind = h.kind % 2; scale = h.scale % 4; day = h.day; micro = h.micro; decimal = h.decimal; mark = h.mark; source = h.source }

-- ---- vrk_cuc_write
-- an unknown kind judged after the room
abbrev room_first : VrkHanded → List ℕ → Wrote ℕ
room_first h out = written out (outcome (given (has_room (sevens 6) out) 13 (handed_writing Cuc.writing h out)))

pub cuc_room_first : ShutOut (writes (handed_writing Cuc.writing (handed 2 2 (pos 0) 0)) (sevens 1)) (keeps 3 (sevens 1)) (room_first (handed 2 2 (pos 0) 0) (sevens 1)) (keeps 13 (sevens 1))
unfolding writes
cuc_room_first = (refl, refl, differ (λ (w : Wrote ℕ). w.number) (λ e. omega arith))

-- an unknown kind that clears what is lent
pub cuc_clears :
    ShutOut (writes (handed_writing Cuc.writing (handed 2 2 (pos 0) 0)) (sevens 1)) (keeps 3 (sevens 1))
    (clearing (sevens 1) (writes (handed_writing Cuc.writing (handed 2 2 (pos 0) 0)) (sevens 1))) (keeps 3 (0 ∷ []))
unfolding writes
cuc_clears = (refl, refl, differ (bytes_at 0) (λ e. omega arith))

-- the first second of GPS in a scale that is unknown
pub cuc_scale_cut :
    ShutOut (writes (handed_writing Cuc.writing (handed 0 6 (negsuc 7299) 0)) (sevens 6)) (keeps 3 (sevens 6))
    (writes (handed_writing Cuc.writing (last_bits (handed 0 6 (negsuc 7299) 0))) (sevens 6)) (got 6 (0 ∷ 0 ∷ 0 ∷ 0 ∷ 0 ∷ 0 ∷ []))
unfolding writes field last_to
cuc_scale_cut = (refl, refl, differ length_in (λ e. omega arith))

pub cuc_nothing_written :
    ShutOut (writes (handed_writing Cuc.writing (handed 0 2 (negsuc 7299) 0)) (sevens 6)) (got 6 (0 ∷ 0 ∷ 0 ∷ 0 ∷ 0 ∷ 0 ∷ []))
    (writes_nothing (sevens 6) (writes (handed_writing Cuc.writing (handed 0 2 (negsuc 7299) 0)) (sevens 6))) (got 6 (sevens 6))
unfolding writes field last_to
cuc_nothing_written = (refl, refl, differ (bytes_at 0) (λ e. omega arith))

-- ---- vrk_cryosat_write
pub cryosat_kind_cut :
    ShutOut (writes (handed_writing Cryosat.writing (handed 2 0 (pos 1) 2003)) (sevens 8)) (keeps 3 (sevens 8))
    (writes (handed_writing Cryosat.writing (last_bits (handed 2 0 (pos 1) 2003))) (sevens 8)) (got 8 (0 ∷ 1 ∷ 0 ∷ 0 ∷ 0 ∷ 2 ∷ 0 ∷ 3 ∷ []))
unfolding writes field
cryosat_kind_cut = (refl, refl, differ length_in (λ e. omega arith))

pub cryosat_made_up :
    ShutOut (writes (handed_writing Cryosat.writing (handed 0 0 (pos 1) 2003)) (sevens 8)) (got 8 (0 ∷ 1 ∷ 0 ∷ 0 ∷ 0 ∷ 2 ∷ 0 ∷ 3 ∷ []))
    (made_up (writes (handed_writing Cryosat.writing (handed 0 0 (pos 1) 2003)) (sevens 8))) (got 10 (0 ∷ 1 ∷ 0 ∷ 0 ∷ 0 ∷ 2 ∷ 0 ∷ 3 ∷ []))
unfolding writes field
cryosat_made_up = (refl, refl, differ length_in (λ e. omega arith))

-- a decimal day refused for its mark: day 0
abbrev every_mark : VrkHanded → List ℕ → Wrote ℕ
every_mark h out = written out (outcome (given (known_mark h.mark h.source) 3 (handed_writing Cryosat.writing h out)))

pub cryosat_decimal_mark :
    ShutOut (writes (handed_writing Cryosat.writing (marked_with 3 0 (handed 1 0 (pos 0) 0))) (sevens 8)) (got 8 (0 ∷ 0 ∷ 0 ∷ 0 ∷ 0 ∷ 0 ∷ 0 ∷ 0 ∷ []))
    (every_mark (marked_with 3 0 (handed 1 0 (pos 0) 0)) (sevens 8)) (keeps 3 (sevens 8))
unfolding writes field
cryosat_decimal_mark = (refl, refl, differ length_in (λ e. omega arith))

-- ---- vrk_siral_write
pub siral_kind_cut :
    ShutOut (writes (handed_writing Siral.writing (handed 2 0 (pos 1) 2003)) (sevens 10)) (keeps 3 (sevens 10))
    (writes (handed_writing Siral.writing (last_bits (handed 2 0 (pos 1) 2003))) (sevens 10)) (got 10 (0 ∷ 1 ∷ 0 ∷ 0 ∷ 0 ∷ 2 ∷ 0 ∷ 3 ∷ 0 ∷ 0 ∷ []))
unfolding writes field
siral_kind_cut = (refl, refl, differ length_in (λ e. omega arith))

-- an unknown mark taken for plain
pub siral_mark_plain :
    ShutOut (writes (handed_writing Siral.writing (marked_with 3 0 (handed 0 0 (pos 1) 2003))) (sevens 10)) (keeps 3 (sevens 10))
    (writes (handed_writing Siral.writing (unknown_is_plain (marked_with 3 0 (handed 0 0 (pos 1) 2003)))) (sevens 10)) (got 10 (0 ∷ 1 ∷ 0 ∷ 0 ∷ 0 ∷ 2 ∷ 0 ∷ 3 ∷ 0 ∷ 0 ∷ []))
unfolding writes field
siral_mark_plain = (refl, refl, differ length_in (λ e. omega arith))

pub siral_scribbling :
    ShutOut (writes (handed_writing Siral.writing (handed 0 0 (pos 1) 2003)) (sevens 2)) (keeps 13 (sevens 2))
    (scribbling (writes (handed_writing Siral.writing (handed 0 0 (pos 1) 2003)) (sevens 2))) (keeps 13 (0 ∷ 7 ∷ []))
unfolding writes field
siral_scribbling = (refl, refl, differ (bytes_at 0) (λ e. omega arith))

-- ---- vrk_goce_write
pub goce_nothing_written :
    ShutOut (Goce.write 1 (sevens 6)) (got 6 (0 ∷ 0 ∷ 0 ∷ 0 ∷ 0 ∷ 1 ∷ [])) (writes_nothing (sevens 6) (Goce.write 1 (sevens 6))) (got 6 (sevens 6))
unfolding Goce.write field
goce_nothing_written = (refl, refl, differ (bytes_at 0) (λ e. omega arith))

-- a count cut to its last 48 bits
pub goce_count_cut :
    ShutOut (Goce.write (2 ^ 48 + 1) (sevens 6)) (keeps 3 (sevens 6)) (Goce.write ((2 ^ 48 + 1) % 2 ^ 48) (sevens 6)) (got 6 (0 ∷ 0 ∷ 0 ∷ 0 ∷ 0 ∷ 1 ∷ []))
unfolding Goce.write field
goce_count_cut = (refl, refl, differ length_in (λ e. omega arith))

-- ---- vrk_obet_write
pub obet_made_up :
    ShutOut (Obet.write 1 (sevens 8)) (got 8 (102 ∷ 0 ∷ 0 ∷ 0 ∷ 0 ∷ 0 ∷ 0 ∷ 1 ∷ [])) (made_up (Obet.write 1 (sevens 8))) (got 10 (102 ∷ 0 ∷ 0 ∷ 0 ∷ 0 ∷ 0 ∷ 0 ∷ 1 ∷ []))
unfolding Obet.write field
obet_made_up = (refl, refl, differ length_in (λ e. omega arith))

-- a count cut to its last 56 bits
pub obet_count_cut :
    ShutOut (Obet.write (2 ^ 56 + 1) (sevens 8)) (keeps 3 (sevens 8)) (Obet.write ((2 ^ 56 + 1) % 2 ^ 56) (sevens 8)) (got 8 (102 ∷ 0 ∷ 0 ∷ 0 ∷ 0 ∷ 0 ∷ 0 ∷ 1 ∷ []))
unfolding Obet.write field
obet_count_cut = (refl, refl, differ length_in (λ e. omega arith))

-- ---- vrk_sbt_write
pub sbt_clearing :
    ShutOut (Sbt.write 1 (sevens 5)) (got 4 (0 ∷ 0 ∷ 0 ∷ 1 ∷ 7 ∷ [])) (clearing (sevens 5) (Sbt.write 1 (sevens 5))) (got 4 (0 ∷ 0 ∷ 0 ∷ 1 ∷ 0 ∷ []))
unfolding Sbt.write field
sbt_clearing = (refl, refl, differ (bytes_at 4) (λ e. omega arith))

pub sbt_scribbling :
    ShutOut (Sbt.write 1 (sevens 3)) (keeps 13 (sevens 3)) (scribbling (Sbt.write 1 (sevens 3))) (keeps 13 (0 ∷ 7 ∷ 7 ∷ []))
unfolding Sbt.write field
sbt_scribbling = (refl, refl, differ (bytes_at 0) (λ e. omega arith))

-- ---- vrk_proteus_write: the first second of week 0
abbrev first_second : ℕ → ℕ → VrkHanded
first_second m x = marked_with m x (handed 0 1 (negsuc 7299) 0)

-- a source of Proteus that is neither 0 nor 1, cut to its last bit
pub proteus_source_cut :
    ShutOut (writes (handed_writing Proteus.writing (first_second 1 2)) (sevens 8)) (keeps 3 (sevens 8))
    (writes (handed_writing Proteus.writing (first_second 1 (2 % 2))) (sevens 8)) (got 8 (0 ∷ 0 ∷ 0 ∷ 0 ∷ 0 ∷ 0 ∷ 0 ∷ 0 ∷ []))
unfolding writes field last_to
proteus_source_cut = (refl, refl, differ length_in (λ e. omega arith))

-- and taken for H3, as any that is not 0
abbrev not_zero : ℕ → ℕ
not_zero x = cond (eqb x 0) 0 1

pub proteus_source_taken :
    ShutOut (writes (handed_writing Proteus.writing (first_second 1 2)) (sevens 8)) (keeps 3 (sevens 8))
    (writes (handed_writing Proteus.writing (first_second 1 (not_zero 2))) (sevens 8)) (got 8 (0 ∷ 1 ∷ 0 ∷ 0 ∷ 0 ∷ 0 ∷ 0 ∷ 0 ∷ []))
unfolding writes field last_to
proteus_source_taken = (refl, refl, differ length_in (λ e. omega arith))

-- H3 from the source, whatever the mark: a correlated time, its reference 1
abbrev from_source : VrkHanded → VrkHanded
from_source h = marked_with 1 h.source h

pub proteus_source_alone :
    ShutOut (writes (handed_writing Proteus.writing (first_second 2 1)) (sevens 8)) (got 8 (0 ∷ 0 ∷ 0 ∷ 0 ∷ 0 ∷ 0 ∷ 0 ∷ 0 ∷ []))
    (writes (handed_writing Proteus.writing (from_source (first_second 2 1))) (sevens 8)) (got 8 (0 ∷ 1 ∷ 0 ∷ 0 ∷ 0 ∷ 0 ∷ 0 ∷ 0 ∷ []))
unfolding writes field last_to
proteus_source_alone = (refl, refl, differ (bytes_at 1) (λ e. omega arith))

pub proteus_scale_cut :
    ShutOut (writes (handed_writing Proteus.writing (marked_with 1 1 (handed 0 5 (negsuc 7299) 0))) (sevens 8)) (keeps 3 (sevens 8))
    (writes (handed_writing Proteus.writing (last_bits (marked_with 1 1 (handed 0 5 (negsuc 7299) 0)))) (sevens 8)) (got 8 (0 ∷ 1 ∷ 0 ∷ 0 ∷ 0 ∷ 0 ∷ 0 ∷ 0 ∷ []))
unfolding writes field last_to
proteus_scale_cut = (refl, refl, differ length_in (λ e. omega arith))

-- ---- the writers of fields: a field of 65,536 or more, or an H3 above 1, cut to its last bits
pub cuc_fraction_cut :
    ShutOut (writes (cuc_fields_writing 1 65538) (sevens 6)) (keeps 3 (sevens 6))
    (writes (cuc_fields_writing 1 (65538 % 65536)) (sevens 6)) (got 6 (0 ∷ 0 ∷ 0 ∷ 1 ∷ 0 ∷ 2 ∷ []))
unfolding writes field
cuc_fraction_cut = (refl, refl, differ length_in (λ e. omega arith))

pub cuc_fields_made_up :
    ShutOut (writes (cuc_fields_writing 1 2) (sevens 6)) (got 6 (0 ∷ 0 ∷ 0 ∷ 1 ∷ 0 ∷ 2 ∷ []))
    (made_up (writes (cuc_fields_writing 1 2) (sevens 6))) (got 8 (0 ∷ 0 ∷ 0 ∷ 1 ∷ 0 ∷ 2 ∷ []))
unfolding writes field
cuc_fields_made_up = (refl, refl, differ length_in (λ e. omega arith))

pub proteus_week_cut :
    ShutOut (writes (proteus_fields_writing 65537 0 2 3) (sevens 8)) (keeps 3 (sevens 8))
    (writes (proteus_fields_writing (65537 % 65536) 0 2 3) (sevens 8)) (got 8 (0 ∷ 16 ∷ 0 ∷ 0 ∷ 0 ∷ 2 ∷ 0 ∷ 3 ∷ []))
unfolding writes field
proteus_week_cut = (refl, refl, differ length_in (λ e. omega arith))

pub proteus_fields_h3_cut :
    ShutOut (writes (proteus_fields_writing 1 3 2 3) (sevens 8)) (keeps 3 (sevens 8))
    (writes (proteus_fields_writing 1 (3 % 2) 2 3) (sevens 8)) (got 8 (0 ∷ 17 ∷ 0 ∷ 0 ∷ 0 ∷ 2 ∷ 0 ∷ 3 ∷ []))
unfolding writes field
proteus_fields_h3_cut = (refl, refl, differ length_in (λ e. omega arith))

pub cryosat_day_cut :
    ShutOut (writes (cryosat_fields_writing 65537 2 3) (sevens 8)) (keeps 3 (sevens 8))
    (writes (cryosat_fields_writing (65537 % 65536) 2 3) (sevens 8)) (got 8 (0 ∷ 1 ∷ 0 ∷ 0 ∷ 0 ∷ 2 ∷ 0 ∷ 3 ∷ []))
unfolding writes field
cryosat_day_cut = (refl, refl, differ length_in (λ e. omega arith))

pub cryosat_fields_scribbling :
    ShutOut (writes (cryosat_fields_writing 1 2 3) (sevens 3)) (keeps 13 (sevens 3))
    (scribbling (writes (cryosat_fields_writing 1 2 3) (sevens 3))) (keeps 13 (0 ∷ 7 ∷ 7 ∷ []))
unfolding writes field
cryosat_fields_scribbling = (refl, refl, differ (bytes_at 0) (λ e. omega arith))

pub siral_extra_cut :
    ShutOut (writes (siral_fields_writing 1 2 3 65540) (sevens 10)) (keeps 3 (sevens 10))
    (writes (siral_fields_writing 1 2 3 (65540 % 65536)) (sevens 10)) (got 10 (0 ∷ 1 ∷ 0 ∷ 0 ∷ 0 ∷ 2 ∷ 0 ∷ 3 ∷ 0 ∷ 4 ∷ []))
unfolding writes field
siral_extra_cut = (refl, refl, differ length_in (λ e. omega arith))

pub siral_fields_nothing_written :
    ShutOut (writes (siral_fields_writing 1 2 3 4) (sevens 10)) (got 10 (0 ∷ 1 ∷ 0 ∷ 0 ∷ 0 ∷ 2 ∷ 0 ∷ 3 ∷ 0 ∷ 4 ∷ []))
    (writes_nothing (sevens 10) (writes (siral_fields_writing 1 2 3 4) (sevens 10))) (got 10 (sevens 10))
unfolding writes field
siral_fields_nothing_written = (refl, refl, differ (bytes_at 0) (λ e. omega arith))
