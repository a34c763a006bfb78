-- Wrong programs, each shut out by a run at which its answer is not the meaning's. Assumes nothing.
use mathlib.Core.Path.{refl}
use mathlib.Core.Bool.{Bool, ◌&&◌}
use mathlib.Core.List.{List, [], ◌∷◌, ◌++◌, map}
use Prim.Native.Nat.{ℕ, ◌+◌, ◌-◌, ◌*◌, ◌%◌}
use native.Mathlib.Omega.{arith}
use lib.Dec.{leb, eqb}
use lib.IntN.{ℤ, pos, nat_abs}
use lib.ListN.{length, take, drop, get_or}
use Rattle.evidence.specs.ShutOut.{ShutOut, differ}
use Rattle.octets.specs.Meaning.{number}
use Rattle.scales.specs.Meaning.{given, gives, outcome}
use Rattle.layout_fields.specs.declared.siral.Fields.{Fields}
use Rattle.runs.specs.Meaning.{packets, all, extras, totals, last_of, is_in_limits, are_alike, is_one_second, dates_of, dates_in, is_in_span, Run, ran, siral}
use Rattle.runs_laws.specs.Meaning.{refused_as}
use Rattle.runs_laws.proofs.Cases.{packet, midnight, over, rolls, sevens, answered_as, by_number, by_last}

-- ---- a desk with totals, dates, a most and a test of the span of its own
abbrev run_with : (ℕ → List Fields → List ℕ) → (List Fields → List ℕ → List ℕ) → ℕ → (List ℕ → Bool) → List ℕ → ℕ → List ℤ → Run
run_with totals_by dates_by most spans s told out =
    let fs = packets s in
    let ts = totals_by told fs in
    let ds = dates_by fs ts in
    ran (last_of told ts) out
    (outcome
    (given (eqb (length s % 10) 0) 1
    (given (all is_in_limits fs) 3
    (given (are_alike fs && all (λ (t : ℕ). leb t most) ts) 16
    (given (spans ds) 7
    (given (leb (length fs) (length out)) 13
    (gives (map pos ds))))))))

abbrev totalled : (ℕ → List Fields → List ℕ) → List ℕ → ℕ → List ℤ → Run
totalled totals_by = run_with totals_by dates_of 484848 (all is_in_span)

-- every counter as it stands
pub as_it_stands : ShutOut (siral rolls 0 sevens) (answered_as 3 65551 (pos 86400135165 ∷ pos 86400135198 ∷ pos 86400135198 ∷ pos 7 ∷ []))
    (totalled (λ (told : ℕ) (fs : List Fields). extras fs) rolls 0 sevens) (answered_as 3 15 (pos 86400135165 ∷ pos 86400000030 ∷ pos 86400000030 ∷ pos 7 ∷ []))
unfolding siral number
as_it_stands = (refl, refl, by_last (λ e. omega arith))

-- a roll for equal neighbours: each total above the one before
abbrev unrolled_above : ℕ → List ℕ → List ℕ
unrolled_above before [] = []
unrolled_above before (x ∷ xs) =
    let t = before + 1 + (x + 65536 - (before + 1) % 65536) % 65536 in
    t ∷ unrolled_above t xs

pub equal_rolled : ShutOut (siral rolls 0 sevens) (answered_as 3 65551 (pos 86400135165 ∷ pos 86400135198 ∷ pos 86400135198 ∷ pos 7 ∷ []))
    (totalled (λ (told : ℕ) (fs : List Fields). unrolled_above told (extras fs)) rolls 0 sevens)
    (answered_as 3 131087 (pos 86400135165 ∷ pos 86400135198 ∷ pos 86400270366 ∷ pos 7 ∷ []))
unfolding siral number
equal_rolled = (refl, refl, by_last (λ e. omega arith))

-- the told count ignored
pub told_ignored : ShutOut (siral rolls 65536 sevens) (answered_as 3 131087 (pos 86400270333 ∷ pos 86400270366 ∷ pos 86400270366 ∷ pos 7 ∷ []))
    (totalled (λ (told : ℕ) (fs : List Fields). totals 0 fs) rolls 65536 sevens) (answered_as 3 65551 (pos 86400135165 ∷ pos 86400135198 ∷ pos 86400135198 ∷ pos 7 ∷ []))
unfolding siral number
told_ignored = (refl, refl, by_last (λ e. omega arith))

-- 484,848 refused
pub most_refused : ShutOut (siral (packet 101 240) 484848 sevens) (answered_as 1 484848 (pos 86400999999 ∷ pos 7 ∷ pos 7 ∷ pos 7 ∷ []))
    (run_with totals dates_of 484847 (all is_in_span) (packet 101 240) 484848 sevens) (refused_as 16 sevens)
unfolding siral number
most_refused = (refl, refl, by_number (λ e. omega arith))

-- two microseconds a unit
abbrev twos : List Fields → List ℕ → List ℕ
twos [] ts = []
twos (f ∷ fs) [] = []
twos (f ∷ fs) (t ∷ ts) = (f.day * 86400000000 + f.millisecond * 1000 + f.microsecond + t * 2) ∷ twos fs ts

pub two_a_unit : ShutOut (siral (packet 0 16) 0 sevens) (answered_as 1 16 (pos 86400000033 ∷ pos 7 ∷ pos 7 ∷ pos 7 ∷ []))
    (run_with totals twos 484848 (all is_in_span) (packet 0 16) 0 sevens) (answered_as 1 16 (pos 86400000032 ∷ pos 7 ∷ pos 7 ∷ pos 7 ∷ []))
unfolding siral number
two_a_unit = (refl, refl, differ (λ (r : Run). nat_abs (get_or r.lent 0 (pos 0))) (λ e. omega arith))

-- 7 judged on the first date
abbrev leaving : List ℕ
leaving = midnight 142 172 0 ++ midnight 142 172 1

pub first_date_judged : ShutOut (siral leaving 0 sevens) (refused_as 7 sevens)
    (run_with totals dates_of 484848 (λ (ds : List ℕ). all is_in_span (take 1 ds)) leaving 0 sevens)
    (answered_as 2 1 (pos 3155759999999999 ∷ pos 3155760000000001 ∷ pos 7 ∷ pos 7 ∷ []))
unfolding siral number
first_date_judged = (refl, refl, by_number (λ e. omega arith))

-- 16 before 3: a second packet whose millisecond is over its limit
abbrev swapped : List ℕ → ℕ → List ℤ → Run
swapped s told out =
    let fs = packets s in
    ran (last_of told (totals told fs)) out
    (outcome
    (given (eqb (length s % 10) 0) 1
    (given (is_one_second told fs) 16
    (given (all is_in_limits fs) 3
    (given (all is_in_span (dates_in s told)) 7
    (given (leb (length fs) (length out)) 13
    (gives (map pos (dates_in s told)))))))))

pub second_first_lem : ShutOut (siral (packet 0 0 ++ over) 0 sevens) (refused_as 3 sevens) (swapped (packet 0 0 ++ over) 0 sevens) (refused_as 16 sevens)
unfolding siral number
second_first_lem = (refl, refl, by_number (λ e. omega arith))

-- dates written before a refusal: those of the packets before the one that is refused
abbrev early : List ℕ → ℕ → List ℤ → Run
early s told out =
    let r = siral s told out in
    let ds = map pos (dates_in (take 10 s) told) in
    record { number = r.number; count = r.count; last = r.last; lent = ds ++ drop (length ds) r.lent }

pub dates_early : ShutOut (siral leaving 0 sevens) (refused_as 7 sevens) (early leaving 0 sevens) (refused_as 7 (pos 3155759999999999 ∷ pos 7 ∷ pos 7 ∷ pos 7 ∷ []))
unfolding siral number
dates_early = (refl, refl, differ (λ (r : Run). nat_abs (get_or r.lent 0 (pos 0))) (λ e. omega arith))
