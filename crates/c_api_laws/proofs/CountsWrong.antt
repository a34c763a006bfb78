-- Wrong covers for C of GOCE's counts, each shut out by an input at which its answer is not the meaning's. Assumes nothing.
use mathlib.Core.Path.{refl}
use mathlib.Core.List.{List, []}
use Prim.Native.Nat.{ℕ, ◌%◌, ◌^◌}
use native.Mathlib.Omega.{arith}
use lib.IntN.{ℤ, pos, negsuc}
use Rattle.evidence.specs.ShutOut.{ShutOut, shut, differ}
use Rattle.scales.specs.Meaning.{outcome, valued}
use Rattle.double.specs.Meaning.{plus_zero}
use Rattle.leap.specs.Meaning.{through, is_step, published_days, published_offsets, published_last}
use Rattle.leap.specs.Meaning as Leap
use Rattle.leap.specs.Published.{published}
use Rattle.clock.specs.Meaning.{in_window, within, clock}
use Rattle.goce.specs.Meaning.{accepted, date_of, turning}
use Rattle.c_api.specs.Meaning.{handed_of, count_out}
use Rattle.c_api.specs.Counts.{goce_of, goce_date, goce_count}
use Rattle.c_api.specs.declared.VrkCount.{VrkCount}
use Rattle.c_api.specs.declared.VrkTime.{VrkTime}
use Rattle.c_api.specs.declared.VrkHanded.{VrkHanded}
use Rattle.c_api.specs.declared.counts.VrkGoceCorrelation.{VrkGoceCorrelation}
use Rattle.c_api_laws.proofs.Desks.{empty_out, answered, refusal_in, micro_in}

abbrev correlated : ℕ → ℕ → VrkGoceCorrelation
correlated obt0 utc0 = record { obt0 = obt0; utc0 = utc0; offset = pos 0; gradient = 1000000000; back = 65536; ahead = 65536 }

-- ---- vrk_goce_date
abbrev dated_by : ℕ → VrkGoceCorrelation → ℕ → VrkTime
dated_by t c u = goce_date t c (pos 0) u published_days published_offsets published_last

-- OBT cut to 48 bits on its way in
abbrev obt_cut : ℕ → VrkGoceCorrelation → ℕ → VrkTime
obt_cut t c u = dated_by (t % 2 ^ 48) c u

pub goce_obt_cut : ShutOut (dated_by 281474976710656 (correlated 0 0) 0) (empty_out 3 1) (obt_cut 281474976710656 (correlated 0 0) 0) (answered 1 (pos 0) 0 2 0)
unfolding goce_date date_of accepted in_window within clock through is_step
goce_obt_cut = shut refl (rw published) (differ refusal_in (λ e. omega arith))

-- OBT0 and UTC0 in each other's place
abbrev fields_swapped : ℕ → VrkGoceCorrelation → ℕ → VrkTime
fields_swapped t c u =
    dated_by t (record { obt0 = c.utc0; utc0 = c.obt0; offset = c.offset; gradient = c.gradient; back = c.back; ahead = c.ahead }) u

pub goce_fields_swapped : ShutOut (dated_by 16384 (correlated 0 32768) 750000) (answered 1 (pos 0) 750000 2 0) (fields_swapped 16384 (correlated 0 32768) 750000) (answered 1 (negsuc 0) 86399750000 2 32768)
unfolding goce_date date_of accepted in_window within clock through is_step
goce_fields_swapped = shut (rw published) (rw published) (differ micro_in (λ e. omega arith))

-- a list of the desk's own in the place of the caller's
abbrev own_list : ℕ → VrkGoceCorrelation → List ℤ → List ℕ → ℤ → VrkTime
own_list t c ds os e = dated_by t c 0

pub goce_own_list : ShutOut (goce_date 0 (correlated 0 0) (pos 0) 0 [] [] (pos 0)) (empty_out 5 1) (own_list 0 (correlated 0 0) [] [] (pos 0)) (answered 1 (pos 0) 0 2 0)
unfolding goce_date date_of accepted Leap.accepted in_window within clock through is_step
goce_own_list = shut refl (rw published) (differ refusal_in (λ e. omega arith))

-- ---- vrk_goce_count
abbrev strange : VrkHanded
strange = record { kind = 2; scale = 1; day = pos 0; micro = 0; decimal = plus_zero; mark = 0; source = 0 }

abbrev counted_by : VrkHanded → VrkGoceCorrelation → VrkCount
counted_by h c = goce_count h c published_days published_offsets published_last

-- an unknown kind judged after the correlation
abbrev six_first : VrkHanded → VrkGoceCorrelation → VrkCount
six_first h c = count_out (valued 0 (outcome (turning (goce_of c) (handed_of h) published_days published_offsets published_last)))

pub goce_kind : ShutOut (counted_by strange (correlated 281474976710656 0)) (record { refusal = 3; count = 0 }) (six_first strange (correlated 281474976710656 0)) (record { refusal = 6; count = 0 })
unfolding goce_count accepted
goce_kind = shut refl (rw published) (differ (λ (t : VrkCount). t.refusal) (λ e. omega arith))

-- a refusal that hands back OBT0
abbrev hands_count : VrkHanded → VrkGoceCorrelation → VrkCount
hands_count h c = record { refusal = (counted_by h c).refusal; count = c.obt0 }

pub goce_count_handed : ShutOut (counted_by strange (correlated 7 0)) (record { refusal = 3; count = 0 }) (hands_count strange (correlated 7 0)) (record { refusal = 3; count = 7 })
unfolding goce_count
goce_count_handed = (refl, refl, differ (λ (t : VrkCount). t.count) (λ e. omega arith))
