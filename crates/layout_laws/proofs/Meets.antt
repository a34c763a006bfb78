-- The theorems with hypotheses, each at an input that meets them and is answered. Assumes nothing.
use mathlib.Core.Path.{◌≡◌, refl}
use mathlib.Core.Bool.{Bool, true, false, ◌&&◌}
use mathlib.Core.List.{List, [], ◌∷◌, ◌++◌}
use Prim.Native.Nat.{ℕ, ◌≤◌, ◌<◌, ◌+◌, ◌*◌}
use lib.Dec.{ltb, lit<, lit≤}
use lib.IntN.{pos, negsuc}
use lib.Ieee.{fin, fits}
use lib.ListN.{drop}
use borrow.Author.Tests.{ltb-true}
use Rattle.axis.specs.Meaning.{place_of_day}
use Rattle.octets.specs.Meaning.{number, field, part}
use Rattle.octets.specs.Field.{Bytes, none, more}
use Rattle.scales.specs.Meaning.{answer, record_of, marked_record, written, valued}
use Rattle.scales.specs.Place.{and_both}
use Rattle.scales.specs.declared.Scale.TheVariants as S
use Rattle.scales.specs.declared.Record.{Record}
use Rattle.scales.specs.declared.Mark.TheVariants as M
use Rattle.handed.specs.declared.Handed.{Handed}
use Rattle.handed.specs.declared.Handed.TheVariants as H
use Rattle.octets.specs.Parts.{part_lt, join, join_last, part_first, part_last, field_two}
use Rattle.layout_fields.specs.Cuc as FC
use Rattle.layout_fields.specs.Goce as FG
use Rattle.layout_fields.specs.Obet as FO
use Rattle.layout_fields.specs.Proteus as FP
use Rattle.layout_fields.specs.Cryosat as FY
use Rattle.layout_fields.specs.Siral as FR
use Rattle.layout_fields.specs.Sbt as FS
use Rattle.layout_times.specs.Meaning.{whole_part, nearest, stands_for, last_to, last_fraction, moment_from, micros_from}
use Rattle.layout_times.specs.Fraction as F
use Rattle.layout_times.specs.Days.{place_is, micros_moment, moment_micros}
use Rattle.layout_times.specs.Cuc as Cuc
use Rattle.layout_times.specs.Proteus as Proteus
use Rattle.layout_times.specs.Cryosat as Cryosat
use Rattle.layout_times.specs.Siral as Siral
use Rattle.layout_laws.specs.Meaning.{image, record_in, SameTime, LastNotLater}
use Rattle.layout_laws.proofs.Fields.{cuc_exact, goce_exact, obet_exact, proteus_exact, cryosat_exact, siral_exact, sbt_exact}
use Rattle.layout_laws.proofs.Later.{count_from, count_lt}
use Rattle.layout_laws.proofs.Times.{cuc_last, proteus_last, proteus_kept_lem, cryosat_same, siral_same, same_is_last}
use Rattle.layout_laws.proofs.Back.{cuc_again, proteus_again, cryosat_again, siral_again}

-- bytes, by a computed test
abbrev are_bytes : List ℕ → Bool
are_bytes [] = true
are_bytes (b ∷ s) = ltb b 256 && are_bytes s

bytes : (s : List ℕ) → are_bytes s ≡ true → Bytes s
bytes [] e = none
bytes (b ∷ s) e = let q = and_both (ltb b 256) (are_bytes s) e in more (ltb-true b 256 q.0) (bytes s q.1)

abbrev room : List ℕ
room = 7 ∷ 7 ∷ 7 ∷ 7 ∷ 7 ∷ 7 ∷ 7 ∷ 7 ∷ 7 ∷ 7 ∷ 7 ∷ []

-- one image of each layout
abbrev cuc : List ℕ
cuc = 0 ∷ 0 ∷ 0 ∷ 1 ∷ 255 ∷ 255 ∷ []

abbrev obet : List ℕ
obet = 102 ∷ 0 ∷ 0 ∷ 0 ∷ 1 ∷ 0 ∷ 0 ∷ 2 ∷ []

abbrev proteus : List ℕ
proteus = 0 ∷ 17 ∷ 0 ∷ 9 ∷ 58 ∷ 127 ∷ 255 ∷ 255 ∷ []

abbrev cryosat : List ℕ
cryosat = 0 ∷ 1 ∷ 0 ∷ 0 ∷ 0 ∷ 2 ∷ 0 ∷ 3 ∷ []

abbrev siral : List ℕ
siral = 0 ∷ 1 ∷ 0 ∷ 0 ∷ 0 ∷ 2 ∷ 0 ∷ 3 ∷ 0 ∷ 0 ∷ []

-- ---- bytes to fields to bytes
pub bytes_meet :
    (FC.write (FC.read cuc).value room ≡ written room (answer cuc)) × (FG.write (FG.read cuc).value room ≡ written room (answer cuc))
    × (FO.write (FO.read obet).value room ≡ written room (answer obet)) × (FP.write (FP.read proteus).value room ≡ written room (answer proteus))
    × (FY.write (FY.read cryosat).value room ≡ written room (answer cryosat)) × (FR.write (FR.read siral).value room ≡ written room (answer siral))
    × (FS.write (FS.read (1 ∷ 2 ∷ 3 ∷ 4 ∷ [])).value room ≡ written room (answer (1 ∷ 2 ∷ 3 ∷ 4 ∷ [])))
unfolding FC.read FG.read FO.read FP.read FY.read FR.read FS.read number
bytes_meet = (
  cuc_exact.bytes_back cuc room (bytes cuc refl) refl (lit≤ tt),
  goce_exact.bytes_back cuc room (bytes cuc refl) refl (lit≤ tt),
  obet_exact.bytes_back obet room (bytes obet refl) refl (lit≤ tt),
  proteus_exact.bytes_back proteus room (bytes proteus refl) refl (lit≤ tt),
  cryosat_exact.bytes_back cryosat room (bytes cryosat refl) refl (lit≤ tt),
  siral_exact.bytes_back siral room (bytes siral refl) refl (lit≤ tt),
  sbt_exact.bytes_back (1 ∷ 2 ∷ 3 ∷ 4 ∷ []) room (bytes (1 ∷ 2 ∷ 3 ∷ 4 ∷ []) refl) refl (lit≤ tt),
)

-- ---- fields to bytes to fields
pub fields_meet :
    (FC.read (image (FC.write (record { seconds = 1; fraction = 2 }) room)) ≡ valued FC.empty (answer (record { seconds = 1; fraction = 2 })))
    × (FG.read (image (FG.write 65538 room)) ≡ valued 0 (answer 65538)) × (FO.read (image (FO.write 65538 room)) ≡ valued 0 (answer 65538))
    × (FP.read (image (FP.write (record { week = 1; h3 = true; second = 2; fraction = 3 }) room)) ≡
    valued FP.empty (answer (record { week = 1; h3 = true; second = 2; fraction = 3 })))
    × (FY.read (image (FY.write (record { day = 1; millisecond = 2; microsecond = 3 }) room)) ≡
    valued FY.empty (answer (record { day = 1; millisecond = 2; microsecond = 3 })))
    × (FR.read (image (FR.write (record { day = 1; millisecond = 2; microsecond = 3; extra = 4 }) room)) ≡
    valued FR.empty (answer (record { day = 1; millisecond = 2; microsecond = 3; extra = 4 })))
    × (FS.read (image (FS.write 5 room)) ≡ valued 0 (answer 5))
unfolding FC.write FG.write FO.write FP.write FY.write FR.write FS.write field
fields_meet = (
  cuc_exact.fields_back (record { seconds = 1; fraction = 2 }) room (lit< tt, lit< tt) refl,
  goce_exact.fields_back 65538 room (lit< tt) refl,
  obet_exact.fields_back 65538 room (lit< tt) refl,
  proteus_exact.fields_back (record { week = 1; h3 = true; second = 2; fraction = 3 }) room (lit< tt, lit< tt, lit< tt) refl,
  cryosat_exact.fields_back (record { day = 1; millisecond = 2; microsecond = 3 }) room (lit< tt, lit< tt, lit< tt) refl,
  siral_exact.fields_back (record { day = 1; millisecond = 2; microsecond = 3; extra = 4 }) room (lit< tt, lit< tt, lit< tt, lit< tt) refl,
  sbt_exact.fields_back 5 room (lit< tt) refl,
)

-- ---- the fraction rule, at 16 bits and at 24, for both roundings
pub fraction_meets :
    (stands_for whole_part 24 1 ≤ stands_for whole_part 24 2) × (stands_for nearest 16 1 < stands_for nearest 16 2)
    × (stands_for nearest 16 65535 < 1000000) × (last_fraction nearest 16 (stands_for nearest 16 65535) ≡ 65535)
    × (stands_for whole_part 16 (last_fraction whole_part 16 14) ≤ 14) × (stands_for whole_part 16 0 ≤ stands_for whole_part 16 (last_fraction whole_part 16 14))
    × (stands_for whole_part 24 (last_fraction whole_part 24 14) ≡ 14)
    × (7813 * 65536 ≤ 512 * 1000000 + 32768) × (512 * 1000000 + 32768 < 7814 * 65536) × (stands_for nearest 16 512 ≡ 7813)
fraction_meets = (
  F.monotone whole_part 24 1 2 (lit≤ tt),
  F.strictly_monotone nearest 16 1 2 (lit≤ tt) (lit< tt),
  F.below_second nearest 16 65535 (lit≤ tt) (lit< tt),
  F.same_fraction nearest 16 65535 (lit≤ tt) (lit< tt),
  F.never_later whole_part 16 14 (lit< tt),
  F.last_such whole_part 16 14 (lit< tt) 0 (lit≤ tt),
  F.same_time whole_part 24 14 (lit< tt) (lit≤ tt),
  (F.nearest_is 16 512).0,
  (F.nearest_is 16 512).1,
  F.nearest_one 16 512 7813 (lit≤ tt) (lit< tt),
)

-- ---- a time to bytes to a time: microsecond 999,984 has no fraction of its own, and is read as 999,969; whatever mark the time has
abbrev gps : Handed
gps = H.Record (marked_record (M.Correlated 7) (record_of S.Gps (pos 0) 999984))

abbrev smos : Record
smos = marked_record (M.Proteus true) (record_of S.Utc (pos 0) 999984)

abbrev utc : Handed
utc = H.Record (marked_record (M.Correlated 7) (record_of S.Utc (pos 0) 999984))

abbrev tai : Handed
tai = H.Record (marked_record (M.Proteus true) (record_of S.Tai (pos 0) 999984))

-- half a day, as a double
abbrev half : Handed
half = H.Decimal (fin false 1 (negsuc 0)) S.Tai

pub decimal_meets : SameTime Cryosat.read half (image (Cryosat.write half room))
unfolding Cryosat.write field fits
decimal_meets = cryosat_same half room tt refl

pub times_meet :
    LastNotLater Cuc.read M.Plain gps (image (Cuc.write gps room))
    × LastNotLater Proteus.read (M.Proteus true) (H.Record smos) (image (Proteus.write (H.Record smos) room))
    × LastNotLater Proteus.read (M.Proteus false) utc (image (Proteus.write utc room))
    × ((Proteus.read (image (Proteus.write (H.Record smos) room))).mark ≡ M.Proteus true)
    × SameTime Cryosat.read tai (image (Cryosat.write tai room)) × SameTime Siral.read tai (image (Siral.write tai room))
    × LastNotLater Siral.read M.Plain tai (image (Siral.write tai room))
unfolding Cuc.write Proteus.write Cryosat.write Siral.write field last_to
times_meet = (
  cuc_last gps room (lit≤ tt) refl,
  proteus_last (H.Record smos) room (lit≤ tt) refl,
  proteus_last utc room (lit≤ tt) refl,
  proteus_kept_lem smos true room refl refl,
  cryosat_same tai room (lit≤ tt) refl,
  siral_same tai room (lit≤ tt) refl,
  same_is_last Siral.read tai (image (Siral.write tai room)) (siral_same tai room (lit≤ tt) refl),
)

-- ---- bytes to a time to bytes
pub again_meets :
    (Cuc.write (record_in (Cuc.read cuc)) room ≡ written room (answer cuc))
    × (Proteus.write (record_in (Proteus.read proteus)) room ≡ written room (answer proteus))
    × (Cryosat.write (record_in (Cryosat.read cryosat)) room ≡ written room (answer cryosat))
    × (Siral.write (record_in (Siral.read siral)) room ≡ written room (answer siral))
unfolding Cuc.read Proteus.read Cryosat.read Siral.read number
again_meets = (
  cuc_again cuc room (bytes cuc refl) refl (lit≤ tt),
  proteus_again proteus room (bytes proteus refl) refl (lit≤ tt),
  cryosat_again cryosat room (bytes cryosat refl) refl (lit≤ tt),
  siral_again siral room (bytes siral refl) refl refl (lit≤ tt),
)

-- ---- the laws that these rest on: parts of bytes, days and microseconds, counts in order
pub parts_meet :
    (part cuc 0 4 < 4294967296) × (field 4 (part cuc 0 4) ++ drop 4 cuc ≡ cuc) × (field 2 (part cuc 4 2) ≡ drop 4 cuc)
    × (part (field 4 1 ++ field 2 3) 0 4 ≡ 1) × (part (field 2 3) 0 2 ≡ 3) × (field 6 65539 ≡ field 4 1 ++ field 2 3)
parts_meet = (
  part_lt cuc 0 4 (lit≤ tt) (bytes cuc refl),
  join cuc 0 4 (lit≤ tt) (bytes cuc refl),
  join_last cuc 4 2 (lit≤ tt) (bytes cuc refl) refl,
  part_first 4 1 (field 2 3) (lit< tt),
  part_last 2 3 (lit< tt),
  field_two 4 2 1 3 (lit< tt) (lit< tt),
)

pub days_meet :
    (place_of_day (moment_from (negsuc 7299) 86400000005).day ≡ 32701) × (micros_from (negsuc 7299) (negsuc 7298) 5 ≡ 86400000005)
    × (moment_from (negsuc 7299) (micros_from (negsuc 7299) (pos 0) 5) ≡ record { day = pos 0; micro = 5 })
    × (count_from 86401000000 32700 5 < count_from 86401000000 32700 86400000000)
days_meet = (
  place_is 32700 86400000005 (lit≤ tt),
  micros_moment 32700 86400000005 (lit≤ tt),
  moment_micros 32700 (pos 0) 5 (lit≤ tt) (lit< tt) (lit< tt) (lit< tt),
  count_lt 86401000000 32700 (lit≤ tt) 5 86400000000 (lit< tt),
)
