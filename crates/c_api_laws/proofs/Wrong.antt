-- Wrong covers for C, each shut out by an input at which its answer is not the meaning's. Assumes nothing.
use mathlib.Core.Path.{◌≡◌, refl}
use mathlib.Core.Bool.{cond, ◌&&◌}
use mathlib.Core.List.{List, [], ◌∷◌}
use Prim.Native.Nat.{ℕ}
use native.Mathlib.Omega.{arith}
use lib.IntN.{ℤ, pos, negsuc}
use lib.Ieee.{Float, nan}
use Rattle.evidence.specs.ShutOut.{ShutOut, differ}
use Rattle.scales.specs.Meaning.{scale_at, given, outcome, dated_as, dated, valued}
use Rattle.scales.specs.declared.Scale.TheVariants as S
use Rattle.handed.specs.Meaning.{mark_of}
use Rattle.decimal.specs.Meaning.{reading}
use Rattle.clock.specs.Meaning.{in_window, within, clock}
use Rattle.sbt.specs.Meaning.{accepted, dating, date_of, turning}
use Rattle.calendar.specs.Meaning.{leap, month_length, length_of, first_day, day_after, days_to, walk, is_first}
use Rattle.double.specs.Meaning.{plus_zero}
use Rattle.leap.specs.Meaning as L
use Rattle.leap.specs.Meaning.{begins, rises_from, rises, counts_from, counts_up}
use Rattle.changes.specs.Meaning.{changing}
use Rattle.c_api.specs.Meaning.{known_scale, known, list_accepted, changed, handed_of, correlation_of, time_out, count_out, decimal_read, DecimalWrote, sbt_date, sbt_tick}
use Rattle.c_api.specs.declared.VrkSbtCorrelation.{VrkSbtCorrelation}
use Rattle.c_api.specs.declared.VrkCount.{VrkCount}
use Rattle.c_api.specs.declared.VrkTime.{VrkTime}
use Rattle.c_api.specs.declared.VrkHanded.{VrkHanded}
use Rattle.c_api.specs.declared.VrkDecimal.{VrkDecimal}
use Rattle.c_api_laws.proofs.One.{decimal_one}
use Rattle.c_api_laws.proofs.Marks.{marked_with}
use Rattle.c_api_laws.proofs.Desks.{empty_out, answered, plain, refusal_in, scale_in, mark_in, source_in, remarked, source_lost, unknown_is_plain}

-- ---- vrk_decimal_read
-- an unknown scale taken for TAI
abbrev unknown_is_tai : Float → ℕ → VrkTime
unknown_is_tai x c = time_out (dated (scale_at c) (outcome (reading x (scale_at c))))

pub read_unknown : ShutOut (decimal_read plus_zero 3) (empty_out 3 0) (unknown_is_tai plus_zero 3) (plain 0 (pos 0) 0)
unfolding decimal_read
read_unknown = (refl, refl, differ refusal_in (λ e. omega arith))

-- an unknown scale judged after what the day brings
pub read_four_first : ShutOut (decimal_read nan 3) (empty_out 3 0) (unknown_is_tai nan 3) (empty_out 4 0)
unfolding decimal_read
read_four_first = (refl, refl, differ refusal_in (λ e. omega arith))

-- ---- vrk_decimal_write: its contract is a relation, which allows a; the wrong program answers b, which it does not
abbrev strange : VrkHanded
strange = record { kind = 2; scale = 0; day = pos 0; micro = 0; decimal = plus_zero; mark = 0; source = 0 }

right : DecimalWrote strange (record { refusal = 3; day = plus_zero })
unfolding DecimalWrote
right = (refl, refl)

abbrev ShutWrite : VrkHanded → VrkDecimal → VrkDecimal → VrkDecimal → Type 0
ShutWrite h a wrong b = DecimalWrote h a × (wrong ≡ b) × (DecimalWrote h b → ⊥)

forbidden : (b : VrkDecimal) → (◌≡◌ {A = ℕ} 3 b.refusal → ⊥) → DecimalWrote strange b → ⊥
forbidden b d w = differ (λ (t : VrkDecimal). t.refusal) d (decimal_one strange (record { refusal = 3; day = plus_zero }) b right w)

-- an unknown kind taken for a record, which stands at day 0
abbrev any_kind : VrkHanded → VrkDecimal
any_kind h = record { refusal = 0; day = plus_zero }

pub write_unknown : ShutWrite strange (record { refusal = 3; day = plus_zero }) (any_kind strange) (record { refusal = 0; day = plus_zero })
write_unknown = (right, refl, forbidden (record { refusal = 0; day = plus_zero }) (λ e. omega arith))

-- an unknown kind refused as not finite
abbrev not_finite : VrkHanded → VrkDecimal
not_finite h = record { refusal = 4; day = plus_zero }

pub write_four : ShutWrite strange (record { refusal = 3; day = plus_zero }) (not_finite strange) (record { refusal = 4; day = plus_zero })
write_four = (right, refl, forbidden (record { refusal = 4; day = plus_zero }) (λ e. omega arith))

-- ---- vrk_sbt_date
abbrev dead : ℕ → VrkSbtCorrelation
dead scale = record { tick = 7; scale = scale; day = pos 0; micro = 0; period = 3906250000; back = 0; ahead = 0 }

-- a list without steps, which a TAI correlation does not look at
abbrev dated_bare : ℕ → VrkSbtCorrelation → VrkTime
dated_bare t c = sbt_date t c (pos 0) 0 [] [] (pos 0)

-- an unknown scale taken for TAI
abbrev taken_for_tai : VrkSbtCorrelation → VrkSbtCorrelation
taken_for_tai c = record { tick = c.tick; scale = 0; day = c.day; micro = c.micro; period = c.period; back = c.back; ahead = c.ahead }

pub date_unknown : ShutOut (dated_bare 7 (dead 3)) (empty_out 6 0) (dated_bare 7 (taken_for_tai (dead 3))) (answered 0 (pos 0) 0 2 7)
unfolding sbt_date correlation_of date_of accepted in_window within clock
date_unknown = (refl, refl, differ refusal_in (λ e. omega arith))

-- the list judged, though the scale is unknown
abbrev list_first : ℕ → VrkSbtCorrelation → VrkTime
list_first t c = time_out (dated S.Tai (outcome (given (L.accepted [] [] (pos 0)) 5 (dating (correlation_of c) t (pos 0) 0 [] [] (pos 0)))))

pub date_unknown_list : ShutOut (dated_bare 7 (dead 3)) (empty_out 6 0) (list_first 7 (dead 3)) (empty_out 5 0)
unfolding sbt_date correlation_of date_of accepted L.accepted
date_unknown_list = (refl, refl, differ refusal_in (λ e. omega arith))

-- the window left to the caller
pub date_window : ShutOut (dated_bare 6 (dead 0)) (empty_out 8 0) (dated_bare 6 (record { tick = 7; scale = 0; day = pos 0; micro = 0; period = 3906250000; back = 1; ahead = 1 })) (answered 0 (negsuc 0) 86399996093 2 7)
unfolding sbt_date correlation_of date_of accepted in_window within clock
date_window = (refl, refl, differ refusal_in (λ e. omega arith))

-- the reference lost
pub date_source_lost : ShutOut (dated_bare 7 (dead 0)) (answered 0 (pos 0) 0 2 7) (source_lost (dated_bare 7 (dead 0))) (answered 0 (pos 0) 0 2 0)
unfolding sbt_date correlation_of date_of accepted in_window within clock
date_source_lost = (refl, refl, differ source_in (λ e. omega arith))

-- ---- vrk_sbt_tick
abbrev tick_bare : VrkHanded → VrkSbtCorrelation → VrkCount
tick_bare h c = sbt_tick h c [] [] (pos 0)

-- an unknown kind judged after the correlation
abbrev six_first : VrkHanded → VrkSbtCorrelation → VrkCount
six_first h c = count_out (valued 0 (outcome (turning (correlation_of c) (handed_of h) [] [] (pos 0))))

pub tick_kind : ShutOut (tick_bare strange (dead 3)) (record { refusal = 3; count = 0 }) (six_first strange (dead 3)) (record { refusal = 6; count = 0 })
unfolding sbt_tick correlation_of accepted
tick_kind = (refl, refl, differ (λ (t : VrkCount). t.refusal) (λ e. omega arith))

-- a refusal that hands back the reference tick
abbrev hands_tick : VrkHanded → VrkSbtCorrelation → VrkCount
hands_tick h c = record { refusal = (tick_bare h c).refusal; count = c.tick }

pub tick_handed : ShutOut (tick_bare strange (dead 0)) (record { refusal = 3; count = 0 }) (hands_tick strange (dead 0)) (record { refusal = 3; count = 7 })
unfolding sbt_tick
tick_handed = (refl, refl, differ (λ (t : VrkCount). t.count) (λ e. omega arith))

-- ---- vrk_list_accepted
-- any list taken that begins as it must
abbrev head_only : List ℤ → List ℕ → ℤ → ℕ
head_only ds os e = cond (begins ds os) 1 0

pub list_head : ShutOut (list_accepted (negsuc 10226 ∷ []) (10 ∷ []) (pos 36525)) 0 (head_only (negsuc 10226 ∷ []) (10 ∷ []) (pos 36525)) 1
unfolding L.accepted begins rises rises_from is_first walk days_to day_after first_day length_of month_length leap counts_up counts_from
list_head = (refl, refl, λ e. omega arith)

-- a number for every answer but the right one
abbrev swapped_ones : List ℤ → List ℕ → ℤ → ℕ
swapped_ones ds os e = cond (L.accepted ds os e) 0 1

pub list_swapped : ShutOut (list_accepted [] [] (pos 0)) 0 (swapped_ones [] [] (pos 0)) 1
unfolding L.accepted
list_swapped = (refl, refl, λ e. omega arith)

-- ---- vrk_change
-- the empty record of the scale that was handed in
abbrev from_scale_empty : VrkHanded → ℕ → List ℤ → List ℕ → ℤ → VrkTime
from_scale_empty h c ds os e = time_out (dated_as (mark_of (handed_of h)) (scale_at h.scale) (outcome (given (known_scale c && known h) 3 (changing (handed_of h) (scale_at c) ds os e))))

abbrev late : VrkHanded
late = record { kind = 0; scale = 0; day = pos 36525; micro = 0; decimal = plus_zero; mark = 0; source = 0 }

pub change_empty : ShutOut (changed late 2 [] [] (pos 0)) (empty_out 7 2) (from_scale_empty late 2 [] [] (pos 0)) (empty_out 7 0)
unfolding changed
change_empty = (refl, refl, differ scale_in (λ e. omega arith))

-- an unknown scale wanted, taken for TAI
abbrev wants_tai : VrkHanded → ℕ → List ℤ → List ℕ → ℤ → VrkTime
wants_tai h c ds os e = time_out (dated_as (mark_of (handed_of h)) (scale_at c) (outcome (given (known h) 3 (changing (handed_of h) (scale_at c) ds os e))))

abbrev today : VrkHanded
today = record { kind = 0; scale = 0; day = pos 0; micro = 5; decimal = plus_zero; mark = 0; source = 0 }

pub change_wanted : ShutOut (changed today 3 [] [] (pos 0)) (empty_out 3 0) (wants_tai today 3 [] [] (pos 0)) (plain 0 (pos 0) 5)
unfolding changed
change_wanted = (refl, refl, differ refusal_in (λ e. omega arith))

-- the mark lost, or its source
abbrev changed_bare : VrkHanded → ℕ → VrkTime
changed_bare h c = changed h c [] [] (pos 0)

pub change_mark_lost : ShutOut (changed_bare (marked_with 1 1 today) 0) (answered 0 (pos 0) 5 1 1) (remarked 0 0 (changed_bare (marked_with 1 1 today) 0)) (plain 0 (pos 0) 5)
unfolding changed
change_mark_lost = (refl, refl, differ mark_in (λ e. omega arith))

pub change_source_lost : ShutOut (changed_bare (marked_with 2 9 today) 0) (answered 0 (pos 0) 5 2 9) (source_lost (changed_bare (marked_with 2 9 today) 0)) (answered 0 (pos 0) 5 2 0)
unfolding changed
change_source_lost = (refl, refl, differ source_in (λ e. omega arith))

-- a refusal that keeps the mark's code
abbrev keeps_code : VrkHanded → ℕ → VrkTime
keeps_code h c = remarked h.mark (changed_bare h c).source (changed_bare h c)

pub change_mark_kept : ShutOut (changed_bare (marked_with 2 9 late) 2) (empty_out 7 2) (keeps_code (marked_with 2 9 late) 2) (remarked 2 0 (empty_out 7 2))
unfolding changed
change_mark_kept = (refl, refl, differ mark_in (λ e. omega arith))

-- an unknown mark taken for plain
pub change_mark_plain : ShutOut (changed_bare (marked_with 3 0 today) 0) (empty_out 3 0) (changed_bare (unknown_is_plain (marked_with 3 0 today)) 0) (plain 0 (pos 0) 5)
unfolding changed
change_mark_plain = (refl, refl, differ refusal_in (λ e. omega arith))
