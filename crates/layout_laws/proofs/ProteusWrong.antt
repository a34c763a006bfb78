-- Wrong readers and writers of Proteus, each shut out by an input at which its answer is not the meaning's. Assumes nothing.
use mathlib.Core.Path.{refl}
use mathlib.Core.Bool.{Bool, true, false}
use mathlib.Core.List.{List, [], ◌∷◌}
use Prim.Native.Nat.{ℕ, ◌+◌, ◌-◌, ◌%◌}
use native.Mathlib.Omega.{arith}
use lib.Dec.{eqb}
use lib.IntN.{ℤ, pos, negsuc}
use Rattle.evidence.specs.ShutOut.{ShutOut, differ}
use Rattle.octets.specs.Meaning.{number, field}
use Rattle.scales.specs.Meaning.{and_then, gives, outcome, Slip, dated_as, record_of, marked_record, Wrote, written}
use Rattle.scales.specs.declared.Scale.TheVariants as S
use Rattle.scales.specs.declared.Mark.{Mark}
use Rattle.scales.specs.declared.Mark.TheVariants as M
use Rattle.handed.specs.declared.Handed.{Handed}
use Rattle.handed.specs.declared.Handed.TheVariants as H
use Rattle.handed.specs.Meaning.{scale_of, mark_of, day_of, micro_of}
use Rattle.layout_fields.specs.Meaning.{placing}
use Rattle.layout_fields.specs.Proteus as FP
use Rattle.layout_fields.specs.declared.proteus.Fields as P
use Rattle.layout_times.specs.Meaning.{last_to, moment_from, micros_from, imaging}
use Rattle.layout_times.specs.Proteus as Proteus
use Rattle.ground_laws.proofs.Desks.{got, keeps, bytes_at, scribbling, answered, marked_as, empty, by_micro, by_mark, sevens, always_marked}

-- a handed record
abbrev utc : ℤ → ℕ → Handed
utc d u = H.Record (record_of S.Utc d u)

-- one from Proteus with H3
abbrev smos : ℤ → ℕ → Handed
smos d u = H.Record (marked_record (M.Proteus true) (record_of S.Utc d u))

-- ---- Proteus read
-- through the leap list: the 18 steps from 1981 to 2017 taken off, as if the weeks counted them
abbrev proteus_listed : List ℕ → Slip
proteus_listed s =
    dated_as (M.Proteus (FP.fields_of s).h3) S.Utc
    (outcome (and_then (FP.reading s) (λ (f : P.Fields). gives (moment_from Proteus.epoch (Proteus.micros_of f - 18000000)))))

pub proteus_listed_lem : ShutOut (Proteus.read (125 ∷ 0 ∷ 0 ∷ 0 ∷ 0 ∷ 18 ∷ 0 ∷ 0 ∷ [])) (marked_as (M.Proteus false) S.Utc (pos 6700) 18000000)
    (proteus_listed (125 ∷ 0 ∷ 0 ∷ 0 ∷ 0 ∷ 18 ∷ 0 ∷ 0 ∷ [])) (marked_as (M.Proteus false) S.Utc (pos 6700) 0)
unfolding Proteus.read number
proteus_listed_lem = (refl, refl, by_micro (λ e. omega arith))

-- another mark on what is answered
abbrev proteus_as : Mark → List ℕ → Slip
proteus_as m s = dated_as m S.Utc (outcome (Proteus.reading s))

-- H3 dropped
pub proteus_no_h3_lem : ShutOut (Proteus.read (0 ∷ 1 ∷ 0 ∷ 0 ∷ 0 ∷ 0 ∷ 0 ∷ 0 ∷ [])) (marked_as (M.Proteus true) S.Utc (negsuc 7299) 0)
    (proteus_as (M.Proteus false) (0 ∷ 1 ∷ 0 ∷ 0 ∷ 0 ∷ 0 ∷ 0 ∷ 0 ∷ [])) (marked_as (M.Proteus false) S.Utc (negsuc 7299) 0)
unfolding Proteus.read number
proteus_no_h3_lem = (refl, refl, by_mark (λ e. omega arith))

-- plain, as the other readers of bytes
pub proteus_plain : ShutOut (Proteus.read (0 ∷ 1 ∷ 0 ∷ 0 ∷ 0 ∷ 0 ∷ 0 ∷ 0 ∷ [])) (marked_as (M.Proteus true) S.Utc (negsuc 7299) 0)
    (proteus_as M.Plain (0 ∷ 1 ∷ 0 ∷ 0 ∷ 0 ∷ 0 ∷ 0 ∷ 0 ∷ [])) (answered S.Utc (negsuc 7299) 0)
unfolding Proteus.read number
proteus_plain = (refl, refl, by_mark (λ e. omega arith))

-- plain where H3 is 0
abbrev only_set : Bool → Mark
only_set true = M.Proteus true
only_set false = M.Plain

abbrev proteus_only_set : List ℕ → Slip
proteus_only_set s = proteus_as (only_set (FP.fields_of s).h3) s

pub proteus_only_set_lem : ShutOut (Proteus.read (0 ∷ 0 ∷ 0 ∷ 0 ∷ 0 ∷ 0 ∷ 0 ∷ 0 ∷ [])) (marked_as (M.Proteus false) S.Utc (negsuc 7299) 0)
    (proteus_only_set (0 ∷ 0 ∷ 0 ∷ 0 ∷ 0 ∷ 0 ∷ 0 ∷ 0 ∷ [])) (answered S.Utc (negsuc 7299) 0)
unfolding Proteus.read number
proteus_only_set_lem = (refl, refl, by_mark (λ e. omega arith))

-- a refusal that keeps the mark
abbrev proteus_kept : List ℕ → Slip
proteus_kept s = always_marked (M.Proteus (FP.fields_of s).h3) (Proteus.read s)

pub proteus_refusal_marked : ShutOut (Proteus.read (0 ∷ 3 ∷ 0 ∷ 0 ∷ 0 ∷ 0 ∷ 0 ∷ 0 ∷ [])) (empty 2 S.Utc)
    (proteus_kept (0 ∷ 3 ∷ 0 ∷ 0 ∷ 0 ∷ 0 ∷ 0 ∷ 0 ∷ [])) (record { number = 2; scale = S.Utc; day = pos 0; micro = 0; mark = M.Proteus true })
unfolding Proteus.read number
proteus_refusal_marked = (refl, refl, by_mark (λ e. omega arith))

-- ---- Proteus write
-- second 60 taken as the first of the next day
abbrev proteus_sixty : Handed → List ℕ → Wrote ℕ
proteus_sixty h out = written out (outcome (placing (Proteus.image_at (day_of h) (micro_of h) (Proteus.h3_of (mark_of h))) out))

pub proteus_sixty_lem : ShutOut (Proteus.write (smos (pos 6209) 86400999985) (sevens 8)) (keeps 12 (sevens 8))
    (proteus_sixty (smos (pos 6209) 86400999985) (sevens 8)) (got 8 (120 ∷ 161 ∷ 0 ∷ 0 ∷ 0 ∷ 0 ∷ 255 ∷ 255 ∷ []))
unfolding Proteus.write field last_to
proteus_sixty_lem = (refl, refl, differ (bytes_at 0) (λ e. omega arith))

-- through the leap list
abbrev proteus_added : Handed → List ℕ → Wrote ℕ
proteus_added h out =
    written out
    (outcome (placing (FP.image_of (Proteus.fields_at (Proteus.h3_of (mark_of h)) (micros_from Proteus.epoch (day_of h) (micro_of h) + 18000000))) out))

pub proteus_added_lem : ShutOut (Proteus.write (smos (pos 6700) 999985) (sevens 8)) (got 8 (125 ∷ 1 ∷ 0 ∷ 0 ∷ 0 ∷ 0 ∷ 255 ∷ 255 ∷ []))
    (proteus_added (smos (pos 6700) 999985) (sevens 8)) (got 8 (125 ∷ 1 ∷ 0 ∷ 0 ∷ 0 ∷ 18 ∷ 255 ∷ 255 ∷ []))
unfolding Proteus.write field last_to
proteus_added_lem = (refl, refl, differ (bytes_at 5) (λ e. omega arith))

-- another H3 of a mark
abbrev proteus_with : (Mark → Bool) → Handed → List ℕ → Wrote ℕ
proteus_with h3 h out =
    written out
    (outcome (imaging h (Proteus.has_image (scale_of h) (day_of h) (micro_of h)) (Proteus.image_at (day_of h) (micro_of h) (h3 (mark_of h))) out))

-- 0 whatever the mark
pub proteus_h3_lost : ShutOut (Proteus.write (smos (pos 6700) 999985) (sevens 8)) (got 8 (125 ∷ 1 ∷ 0 ∷ 0 ∷ 0 ∷ 0 ∷ 255 ∷ 255 ∷ []))
    (proteus_with (λ (m : Mark). false) (smos (pos 6700) 999985) (sevens 8)) (got 8 (125 ∷ 0 ∷ 0 ∷ 0 ∷ 0 ∷ 0 ∷ 255 ∷ 255 ∷ []))
unfolding Proteus.write field last_to
proteus_h3_lost = (refl, refl, differ (bytes_at 1) (λ e. omega arith))

-- a plain record with H3
abbrev set_plain : Mark → Bool
set_plain M.Plain = true
set_plain (M.Proteus b) = b
set_plain (M.Correlated n) = false

pub proteus_plain_set : ShutOut (Proteus.write (utc (pos 6700) 999985) (sevens 8)) (got 8 (125 ∷ 0 ∷ 0 ∷ 0 ∷ 0 ∷ 0 ∷ 255 ∷ 255 ∷ []))
    (proteus_with set_plain (utc (pos 6700) 999985) (sevens 8)) (got 8 (125 ∷ 1 ∷ 0 ∷ 0 ∷ 0 ∷ 0 ∷ 255 ∷ 255 ∷ []))
unfolding Proteus.write field last_to
proteus_plain_set = (refl, refl, differ (bytes_at 1) (λ e. omega arith))

-- an odd reference taken for H3
abbrev set_odd : Mark → Bool
set_odd M.Plain = false
set_odd (M.Proteus b) = b
set_odd (M.Correlated n) = eqb (n % 2) 1

abbrev correlated : ℤ → ℕ → Handed
correlated d u = H.Record (marked_record (M.Correlated 7) (record_of S.Utc d u))

pub proteus_odd_set : ShutOut (Proteus.write (correlated (pos 6700) 999985) (sevens 8)) (got 8 (125 ∷ 0 ∷ 0 ∷ 0 ∷ 0 ∷ 0 ∷ 255 ∷ 255 ∷ []))
    (proteus_with set_odd (correlated (pos 6700) 999985) (sevens 8)) (got 8 (125 ∷ 1 ∷ 0 ∷ 0 ∷ 0 ∷ 0 ∷ 255 ∷ 255 ∷ []))
unfolding Proteus.write field last_to
proteus_odd_set = (refl, refl, differ (bytes_at 1) (λ e. omega arith))

pub proteus_scribbling : ShutOut (Proteus.write (smos (pos 21372) 999985) (sevens 8)) (keeps 12 (sevens 8))
    (scribbling (Proteus.write (smos (pos 21372) 999985) (sevens 8))) (keeps 12 (0 ∷ 7 ∷ 7 ∷ 7 ∷ 7 ∷ 7 ∷ 7 ∷ 7 ∷ []))
unfolding Proteus.write field last_to
proteus_scribbling = (refl, refl, differ (bytes_at 0) (λ e. omega arith))
