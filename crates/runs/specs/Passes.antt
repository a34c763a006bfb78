-- What the private functions answer, by their passes over the bytes. Assumes nothing.
use Rattle.std.specs.Prelude.{Bool, cond, List, [], ◌∷◌, ℕ, zero, suc, ◌+◌, ◌*◌, ◌/◌, ◌≤◌, leb, ltb, eqb, ℤ, length, take, drop, Result, Ok, Err, Option, Some, None}
use Rattle.axis.specs.Meaning.{held_micros_at}
use Rattle.octets.specs.Meaning.{part}
use Rattle.scales.specs.declared.Refusal.{Refusal}
use Rattle.scales.specs.Meaning.{number_of}
use Rattle.scales.specs.declared.Refusal.TheVariants as R
use Rattle.layout_fields.specs.Siral.{fields_of}
use Rattle.layout_fields.specs.declared.siral.Fields.{Fields}
use Rattle.layout_times.specs.Cryosat.{micros_in}
use Rattle.runs.specs.Meaning.{packets_in, all, ahead, is_in_limits, most, Run}
use Rattle.runs.specs.declared.Dates.{Dates}
use Rattle.runs.specs.declared.Second.{Second}

-- packet i
abbrev pub packet_at : List ℕ → ℕ → List ℕ
packet_at s i = take 10 (drop (10 * i) s)

-- ---- one pass: the eight bytes in front and the total, as long as it is not above the most
abbrev pub unroll_from : ℕ → ℕ → ℕ → List ℕ → Option ℕ
unroll_from zero front total s = Some total
unroll_from (suc n) front total s =
    let t = ahead total (part s 8 2) in
    cond (eqb (part s 0 8) front) (cond (leb t most) (unroll_from n front t (drop 10 s)) None) None

abbrev pub unrolled_in : ℕ → List ℕ → ℕ → Option ℕ
unrolled_in n s told = cond (leb told most) (unroll_from n (part s 0 8) told s) None

-- ---- where that is not so: the limits of all
abbrev pub limits_in : ℕ → List ℕ → Bool
limits_in n s = all is_in_limits (packets_in n s)

-- ---- the place of the three fields on the axis of microseconds, and the last total
abbrev pub place_of : Fields → ℕ
place_of f = 3456000000000000 + micros_in f.day f.millisecond f.microsecond

-- day 36525 begins at 6611760000000000
abbrev pub second_by : Fields → Bool → Option ℕ → Result Second Refusal
second_by f limits (Some t) =
    cond (is_in_limits f) (cond (ltb (place_of f + t * 33 / 16) 6611760000000000) (Ok (record { from = place_of f; last = t })) (Err R.OutsideSpan)) (Err R.FieldOver)
second_by f limits None = cond limits (Err R.NotOneSecond) (Err R.FieldOver)

abbrev pub second_of : ℕ → List ℕ → ℕ → Result Second Refusal
second_of n s told = second_by (fields_of (take 10 s)) (limits_in n s) (unrolled_in n s told)

-- ---- the pass that writes
abbrev pub last_from : ℕ → ℕ → List ℕ → ℕ
last_from zero total s = total
last_from (suc n) total s = last_from n (ahead total (part s 8 2)) (drop 10 s)

abbrev pub dates_from : ℕ → ℕ → ℕ → List ℕ → List ℤ
dates_from zero from total s = []
dates_from (suc n) from total s =
    let t = ahead total (part s 8 2) in
    held_micros_at (from + t * 33 / 16) ∷ dates_from n from t (drop 10 s)

pub record Filling (s : List ℕ) (n from told places : ℕ) : Type 0 where
  pub bytes : 10 * n ≤ length s
  pub room : n ≤ places
  pub begins : from ≤ 6611760000000000
  pub ends : last_from n told s ≤ 484848

-- ---- what is handed back: the slice as the function leaves it
abbrev pub run_slip : Result Dates Refusal → List ℤ → Run
run_slip (Ok d) out = record { number = 0; count = d.count; last = d.last; lent = out }
run_slip (Err f) out = record { number = number_of f; count = 0; last = 0; lent = out }
