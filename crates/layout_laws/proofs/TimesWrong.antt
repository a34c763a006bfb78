-- Wrong readers and writers of times, each shut out by an input at which its answer is not the meaning's. Assumes nothing.
use mathlib.Core.Path.{refl}
use mathlib.Core.Bool.{false, cond}
use mathlib.Core.List.{List, [], ◌∷◌}
use Prim.Native.Nat.{ℕ, ◌+◌, ◌-◌, ◌*◌, ◌/◌, ◌%◌}
use native.Mathlib.Omega.{arith}
use lib.Dec.{eqb}
use lib.IntN.{ℤ, pos, negsuc, nat_abs}
use Rattle.evidence.specs.ShutOut.{ShutOut, shut, differ}
use Rattle.octets.specs.Meaning.{number, field}
use Rattle.scales.specs.Meaning.{and_then, same_scale, bound, given, gives, refused, outcome, Slip, dated_as, dated, record_of, Wrote, written}
use Rattle.scales.specs.Place.{first_at}
use Rattle.scales.specs.declared.Scale.TheVariants as S
use Rattle.scales.specs.declared.Mark.TheVariants as M
use Rattle.handed.specs.declared.Handed.{Handed}
use Rattle.handed.specs.declared.Handed.TheVariants as H
use Rattle.handed.specs.Meaning.{scale_of, day_of, micro_of}
use Rattle.layout_fields.specs.Meaning.{placing}
use Rattle.layout_fields.specs.Cuc as FC
use Rattle.layout_fields.specs.Siral as FR
use Rattle.layout_fields.specs.declared.cuc.Fields as C
use Rattle.layout_fields.specs.declared.siral.Fields as R
use Rattle.layout_times.specs.Meaning.{whole_part, stands_for, last_to, moment_from, micros_from, judged}
use Rattle.layout_times.specs.Cuc as Cuc
use Rattle.layout_times.specs.Cryosat as Cryosat
use Rattle.layout_times.specs.Siral as Siral
use Rattle.layout_laws.proofs.Cases.{nearest_written}
use Rattle.ground_laws.proofs.Desks.{got, keeps, bytes_at, writes_nothing, made_up, clearing, scribbling, answered, marked_as, empty, by_number, by_micro, by_mark, sevens}

abbrev gps : ℤ → ℕ → Handed
gps d u = H.Record (record_of S.Gps d u)

abbrev tai : ℤ → ℕ → Handed
tai d u = H.Record (record_of S.Tai d u)

-- ---- CUC read
-- the fraction read otherwise
abbrev cuc_by : (ℕ → ℕ) → List ℕ → Slip
cuc_by micros s = dated S.Gps
    (outcome (and_then (FC.reading s) (λ (f : C.Fields). judged S.Gps (moment_from Cuc.epoch (f.seconds * 1000000 + micros f.fraction)))))

-- as the whole part still
pub cuc_whole : ShutOut (Cuc.read (0 ∷ 0 ∷ 0 ∷ 0 ∷ 255 ∷ 255 ∷ [])) (answered S.Gps (negsuc 7299) 999985)
    (cuc_by (stands_for whole_part 16) (0 ∷ 0 ∷ 0 ∷ 0 ∷ 255 ∷ 255 ∷ [])) (answered S.Gps (negsuc 7299) 999984)
unfolding Cuc.read number
cuc_whole = (refl, refl, by_micro (λ e. omega arith))

-- a half downward: 0200 is 7,812.5
abbrev half_down : ℕ → ℕ
half_down f = (f * 15625 + 511) / 1024

pub cuc_half_down : ShutOut (Cuc.read (0 ∷ 0 ∷ 0 ∷ 0 ∷ 2 ∷ 0 ∷ [])) (answered S.Gps (negsuc 7299) 7813)
    (cuc_by half_down (0 ∷ 0 ∷ 0 ∷ 0 ∷ 2 ∷ 0 ∷ [])) (answered S.Gps (negsuc 7299) 7812)
unfolding Cuc.read number
cuc_half_down = (refl, refl, by_micro (λ e. omega arith))

-- a half to the even microsecond
abbrev half_even : ℕ → ℕ
half_even f = let m = (f * 15625 + 512) / 1024 in cond (eqb (f * 15625 % 1024) 512) (m - m % 2) m

pub cuc_half_even : ShutOut (Cuc.read (0 ∷ 0 ∷ 0 ∷ 0 ∷ 2 ∷ 0 ∷ [])) (answered S.Gps (negsuc 7299) 7813)
    (cuc_by half_even (0 ∷ 0 ∷ 0 ∷ 0 ∷ 2 ∷ 0 ∷ [])) (answered S.Gps (negsuc 7299) 7812)
unfolding Cuc.read number
cuc_half_even = (refl, refl, by_micro (λ e. omega arith))

-- every fraction upward: 0001 is 15.3
abbrev upward : ℕ → ℕ
upward f = (f * 15625 + 1023) / 1024

pub cuc_upward : ShutOut (Cuc.read (0 ∷ 0 ∷ 0 ∷ 0 ∷ 0 ∷ 1 ∷ [])) (answered S.Gps (negsuc 7299) 15)
    (cuc_by upward (0 ∷ 0 ∷ 0 ∷ 0 ∷ 0 ∷ 1 ∷ [])) (answered S.Gps (negsuc 7299) 16)
unfolding Cuc.read number
cuc_upward = (refl, refl, by_micro (λ e. omega arith))

-- the span not judged
abbrev cuc_endless : List ℕ → Slip
cuc_endless s = dated S.Gps (outcome (and_then (FC.reading s) (λ (f : C.Fields). gives (moment_from Cuc.epoch (Cuc.micros_of f)))))

pub cuc_endless_lem : ShutOut (Cuc.read (225 ∷ 177 ∷ 25 ∷ 128 ∷ 0 ∷ 0 ∷ [])) (empty 7 S.Gps)
    (cuc_endless (225 ∷ 177 ∷ 25 ∷ 128 ∷ 0 ∷ 0 ∷ [])) (answered S.Gps (pos 36525) 0)
unfolding Cuc.read number
cuc_endless_lem = (refl, refl, by_number (λ e. omega arith))

-- an answer with a mark
abbrev cuc_marked : List ℕ → Slip
cuc_marked s = dated_as (M.Proteus false) S.Gps (outcome (Cuc.reading s))

pub cuc_marked_lem : ShutOut (Cuc.read (0 ∷ 0 ∷ 0 ∷ 1 ∷ 0 ∷ 1 ∷ [])) (answered S.Gps (negsuc 7299) 1000015)
    (cuc_marked (0 ∷ 0 ∷ 0 ∷ 1 ∷ 0 ∷ 1 ∷ [])) (marked_as (M.Proteus false) S.Gps (negsuc 7299) 1000015)
unfolding Cuc.read number
cuc_marked_lem = (refl, refl, by_mark (λ e. omega arith))

-- ---- CUC write
-- another fraction of a second's microseconds
abbrev cuc_with : (ℕ → ℕ) → Handed → List ℕ → Wrote ℕ
cuc_with fraction h out =
    let n = micros_from Cuc.epoch (day_of h) (micro_of h) in
    written out (outcome (placing (FC.image_of (record { seconds = n / 1000000; fraction = fraction (n % 1000000) })) out))

-- rounded down: 999,969 microseconds as FFFD, which is read as 999,954
abbrev rounded_down : ℕ → ℕ
rounded_down u = u * 65536 / 1000000

pub cuc_down : ShutOut (Cuc.write (gps (negsuc 7299) 999969) (sevens 8)) (got 6 (0 ∷ 0 ∷ 0 ∷ 0 ∷ 255 ∷ 254 ∷ 7 ∷ 7 ∷ []))
    (cuc_with rounded_down (gps (negsuc 7299) 999969) (sevens 8)) (got 6 (0 ∷ 0 ∷ 0 ∷ 0 ∷ 255 ∷ 253 ∷ 7 ∷ 7 ∷ []))
unfolding Cuc.write field last_to
cuc_down = (refl, refl, differ (bytes_at 5) (λ e. omega arith))

-- as for the whole part: 999,984 microseconds as FFFF, which is read later
abbrev as_before : ℕ → ℕ
as_before u = (u * 65536 + 65535) / 1000000

pub cuc_as_before : ShutOut (Cuc.write (gps (negsuc 7299) 999984) (sevens 8)) (got 6 (0 ∷ 0 ∷ 0 ∷ 0 ∷ 255 ∷ 254 ∷ 7 ∷ 7 ∷ []))
    (cuc_with as_before (gps (negsuc 7299) 999984) (sevens 8)) (got 6 (0 ∷ 0 ∷ 0 ∷ 0 ∷ 255 ∷ 255 ∷ 7 ∷ 7 ∷ []))
unfolding Cuc.write field last_to
cuc_as_before = (refl, refl, differ (bytes_at 5) (λ e. omega arith))

-- the nearest one: 7,812 microseconds as 0200, which is read later too
abbrev nearest_to : ℕ → ℕ
nearest_to u = (u * 65536 + 500000) / 1000000

pub cuc_nearest_to : ShutOut (Cuc.write (gps (negsuc 7299) 7812) (sevens 8)) (got 6 (0 ∷ 0 ∷ 0 ∷ 0 ∷ 1 ∷ 255 ∷ 7 ∷ 7 ∷ []))
    (cuc_with nearest_to (gps (negsuc 7299) 7812) (sevens 8)) (got 6 (0 ∷ 0 ∷ 0 ∷ 0 ∷ 2 ∷ 0 ∷ 7 ∷ 7 ∷ []))
unfolding Cuc.write field
cuc_nearest_to = shut (rw nearest_written.2) refl (differ (bytes_at 5) (λ e. omega arith))

-- a time of another scale taken
abbrev cuc_any_scale : Handed → List ℕ → Wrote ℕ
cuc_any_scale h out = written out (outcome (placing (Cuc.image_at (day_of h) (micro_of h)) out))

pub cuc_any_scale_lem : ShutOut (Cuc.write (tai (negsuc 7299) 999985) (sevens 8)) (keeps 12 (sevens 8)) (cuc_any_scale (tai (negsuc 7299) 999985) (sevens 8))
    (got 6 (0 ∷ 0 ∷ 0 ∷ 0 ∷ 255 ∷ 255 ∷ 7 ∷ 7 ∷ []))
unfolding Cuc.write field last_to
cuc_any_scale_lem = (refl, refl, differ (bytes_at 0) (λ e. omega arith))

-- 12 before 7
abbrev cuc_scale_first : Handed → List ℕ → Wrote ℕ
cuc_scale_first h out = written out (outcome (given (same_scale S.Gps (scale_of h)) 12 (Cuc.writing h out)))

pub cuc_scale_first_lem : ShutOut (Cuc.write (tai (pos 36525) 0) (sevens 8)) (keeps 7 (sevens 8)) (cuc_scale_first (tai (pos 36525) 0) (sevens 8)) (keeps 12 (sevens 8))
unfolding Cuc.write field last_to
cuc_scale_first_lem = (refl, refl, differ (λ (w : Wrote ℕ). w.number) (λ e. omega arith))

pub cuc_clearing : ShutOut (Cuc.write (gps (negsuc 7299) 999985) (sevens 8)) (got 6 (0 ∷ 0 ∷ 0 ∷ 0 ∷ 255 ∷ 255 ∷ 7 ∷ 7 ∷ []))
    (clearing (sevens 8) (Cuc.write (gps (negsuc 7299) 999985) (sevens 8))) (got 6 (0 ∷ 0 ∷ 0 ∷ 0 ∷ 255 ∷ 255 ∷ 0 ∷ 0 ∷ []))
unfolding Cuc.write field last_to
cuc_clearing = (refl, refl, differ (bytes_at 6) (λ e. omega arith))

-- the desk that writes nothing
pub writes_nothing_lem : ShutOut (Cuc.write (gps (negsuc 7299) 999985) (sevens 8)) (got 6 (0 ∷ 0 ∷ 0 ∷ 0 ∷ 255 ∷ 255 ∷ 7 ∷ 7 ∷ []))
    (writes_nothing (sevens 8) (Cuc.write (gps (negsuc 7299) 999985) (sevens 8))) (got 6 (sevens 8))
unfolding Cuc.write field last_to
writes_nothing_lem = (refl, refl, differ (bytes_at 0) (λ e. omega arith))

-- ---- CryoSat read
-- read as UTC
abbrev cryosat_utc : List ℕ → Slip
cryosat_utc s = dated S.Utc (outcome (Cryosat.reading s))

pub cryosat_utc_lem : ShutOut (Cryosat.read (0 ∷ 1 ∷ 0 ∷ 0 ∷ 0 ∷ 2 ∷ 0 ∷ 3 ∷ [])) (answered S.Tai (pos 1) 2003)
    (cryosat_utc (0 ∷ 1 ∷ 0 ∷ 0 ∷ 0 ∷ 2 ∷ 0 ∷ 3 ∷ [])) (answered S.Utc (pos 1) 2003)
unfolding Cryosat.read number
cryosat_utc_lem = (refl, refl, differ (λ (t : Slip). bound t.scale) (λ e. omega arith))

-- a refusal in another scale
abbrev cryosat_elsewhere : List ℕ → Slip
cryosat_elsewhere s = dated S.Gps (refused (Cryosat.read s).number)

pub cryosat_elsewhere_lem : ShutOut (Cryosat.read (255 ∷ 255 ∷ 0 ∷ 0 ∷ 0 ∷ 0 ∷ 0 ∷ 0 ∷ [])) (empty 7 S.Tai)
    (cryosat_elsewhere (255 ∷ 255 ∷ 0 ∷ 0 ∷ 0 ∷ 0 ∷ 0 ∷ 0 ∷ [])) (empty 7 S.Gps)
unfolding Cryosat.read number
cryosat_elsewhere_lem = (refl, refl, differ (λ (t : Slip). first_at t.scale) (λ e. omega arith))

-- ---- CryoSat write
-- a day before 0 taken as day 0
abbrev cryosat_held : Handed → List ℕ → Wrote ℕ
cryosat_held h out = written out (outcome (placing (Cryosat.image_at (day_of h) (micro_of h)) out))

pub cryosat_held_lem : ShutOut (Cryosat.write (tai (negsuc 0) 2003) (sevens 8)) (keeps 12 (sevens 8)) (cryosat_held (tai (negsuc 0) 2003) (sevens 8)) (got 8 (0 ∷ 0 ∷ 0 ∷ 0 ∷ 0 ∷ 2 ∷ 0 ∷ 3 ∷ []))
unfolding Cryosat.write field
cryosat_held_lem = (refl, refl, differ (bytes_at 0) (λ e. omega arith))

-- the desk with a made-up length
pub cryosat_made_up : ShutOut (Cryosat.write (tai (pos 1) 2003) (sevens 8)) (got 8 (0 ∷ 1 ∷ 0 ∷ 0 ∷ 0 ∷ 2 ∷ 0 ∷ 3 ∷ []))
    (made_up (Cryosat.write (tai (pos 1) 2003) (sevens 8))) (got 10 (0 ∷ 1 ∷ 0 ∷ 0 ∷ 0 ∷ 2 ∷ 0 ∷ 3 ∷ []))
unfolding Cryosat.write field
cryosat_made_up = (refl, refl, differ (λ (w : Wrote ℕ). w.length) (λ e. omega arith))

-- ---- SIRAL read
-- the carry dropped: the microsecond goes round within its day
abbrev siral_round : List ℕ → Slip
siral_round s =
    dated S.Tai
    (outcome (and_then (FR.reading s) (λ (f : R.Fields). judged S.Tai (record { day = pos f.day; micro = Siral.micros_of f % 86400000000 }))))

pub siral_round_lem : ShutOut (Siral.read (0 ∷ 0 ∷ 5 ∷ 38 ∷ 91 ∷ 255 ∷ 3 ∷ 231 ∷ 0 ∷ 1 ∷ [])) (answered S.Tai (pos 1) 1)
    (siral_round (0 ∷ 0 ∷ 5 ∷ 38 ∷ 91 ∷ 255 ∷ 3 ∷ 231 ∷ 0 ∷ 1 ∷ [])) (answered S.Tai (pos 0) 1)
unfolding Siral.read number
siral_round_lem = (refl, refl, differ (λ (t : Slip). nat_abs t.day) (λ e. omega arith))

-- each unit rounded by itself
abbrev siral_twos : List ℕ → Slip
siral_twos s =
    dated S.Tai
    (outcome (and_then (FR.reading s)
    (λ (f : R.Fields). judged S.Tai (moment_from Cryosat.epoch (Siral.sixteenths f.day f.millisecond f.microsecond 0 / 16 + f.extra * 2)))))

pub siral_twos_lem : ShutOut (Siral.read (0 ∷ 1 ∷ 0 ∷ 0 ∷ 0 ∷ 0 ∷ 0 ∷ 0 ∷ 0 ∷ 16 ∷ [])) (answered S.Tai (pos 1) 33)
    (siral_twos (0 ∷ 1 ∷ 0 ∷ 0 ∷ 0 ∷ 0 ∷ 0 ∷ 0 ∷ 0 ∷ 16 ∷ [])) (answered S.Tai (pos 1) 32)
unfolding Siral.read number
siral_twos_lem = (refl, refl, by_micro (λ e. omega arith))

-- ---- SIRAL write
-- the extra counter left as it was
abbrev siral_eight : Handed → List ℕ → Wrote ℕ
siral_eight h out = Cryosat.write h out

pub siral_eight_lem : ShutOut (Siral.write (tai (pos 1) 2003) (sevens 11)) (got 10 (0 ∷ 1 ∷ 0 ∷ 0 ∷ 0 ∷ 2 ∷ 0 ∷ 3 ∷ 0 ∷ 0 ∷ 7 ∷ []))
    (siral_eight (tai (pos 1) 2003) (sevens 11)) (got 8 (0 ∷ 1 ∷ 0 ∷ 0 ∷ 0 ∷ 2 ∷ 0 ∷ 3 ∷ 7 ∷ 7 ∷ 7 ∷ []))
unfolding Siral.write Cryosat.write field
siral_eight_lem = (refl, refl, differ (bytes_at 8) (λ e. omega arith))

pub siral_scribbling : ShutOut (Siral.write (tai (pos 1) 2003) (sevens 8)) (keeps 13 (sevens 8)) (scribbling (Siral.write (tai (pos 1) 2003) (sevens 8)))
    (keeps 13 (0 ∷ 7 ∷ 7 ∷ 7 ∷ 7 ∷ 7 ∷ 7 ∷ 7 ∷ []))
unfolding Siral.write field
siral_scribbling = (refl, refl, differ (bytes_at 0) (λ e. omega arith))
