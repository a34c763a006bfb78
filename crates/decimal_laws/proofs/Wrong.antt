-- Wrong programs for decimal days, each shut out by an input at which its answer is not the meaning's. Assumes nothing.
use mathlib.Core.Path.{◌≡◌, refl}
use mathlib.Core.Bool.{Bool, true, false, cond}
use Rattle.std.specs.Prelude.{Result, Ok, Err}
use Prim.Native.Nat.{ℕ, ◌+◌, ◌*◌, ◌/◌}
use native.Mathlib.Omega.{arith}
use lib.Dec.{lit<, lit≤}
use lib.IntN.{ℤ, pos, negsuc, neg_ℤ, nat_abs, ◌*ℤ◌}
use lib.Ieee.{Float, nan, inf, fin, binary64, fits, neg, div, of_int}
use lib.Ieee.Fits.{eq→eqb}
use Rattle.evidence.specs.ShutOut.{ShutOut, differ}
use Rattle.axis.specs.Meaning.{place_of_day, floor_z, mod_z, day_micros, since}
use Rattle.scales.specs.Meaning.{in_span, given, gives, outcome, Slip, dated, time_count, time_at, record_of, marked_record, code_of}
use Rattle.scales.specs.declared.Scale.{Scale}
use Rattle.scales.specs.declared.Scale.TheVariants as S
use Rattle.scales.specs.declared.Refusal.TheVariants as R
use Rattle.scales.specs.declared.Mark.{Mark}
use Rattle.scales.specs.declared.Mark.TheVariants as M
use Rattle.double.specs.Meaning.{Exact, exact_of, over, under, signed_over, signed, finite, nearest, plus_zero}
use Rattle.scales.specs.declared.Refusal.{Refusal}
use Rattle.scales.specs.declared.Time.{Time}
use Rattle.handed.specs.declared.Handed.{Handed}
use Rattle.handed.specs.declared.Handed.TheVariants as H
use Rattle.decimal.specs.Meaning.{read_of, decimal_slip, WroteDay}
use Rattle.handed.specs.declared.Untaken.{Untaken}
use Rattle.handed.specs.declared.Untaken.TheVariants as K
use Rattle.handed.specs.Meaning.{spans, micros_of, scale_of, mark_of, is_finite, day_of, micro_of, taken_of, Took}
use Rattle.decimal_laws.proofs.Unique.{wrote_one}
use Rattle.ground_laws.proofs.Desks.{answered, empty, mark_number, by_number, by_micro}

-- ---- read: a desk with another nearest microsecond
abbrev desk : (Scale → Exact → Bool) → (Exact → ℤ) → Float → Scale → Slip
desk test micros x s =
    dated s (outcome (given (finite x) 4 (given (test s (exact_of x)) 7
    (gives (record { day = floor_z (micros (exact_of x)) day_micros; micro = mod_z (micros (exact_of x)) day_micros })))))

-- ties to the earlier: 2 ^ -14 days are 5,273,437.5 microseconds
abbrev tie_earlier : Exact → ℤ
tie_earlier v = neg_ℤ (nearest (neg_ℤ (signed_over v *ℤ pos day_micros)) (under v))

pub read_tie_earlier :
    ShutOut (read_of (fin false 1 (negsuc 13)) S.Tai) (answered S.Tai (pos 0) 5273438) (desk spans tie_earlier (fin false 1 (negsuc 13)) S.Tai) (answered S.Tai (pos 0) 5273437)
unfolding read_of
read_tie_earlier = (refl, refl, by_micro (λ e. omega arith))

-- truncation: 2 ^ -15 days are 2,636,718.75 microseconds
abbrev truncated : Exact → ℤ
truncated v = signed v.minus (over v * day_micros / under v)

pub read_truncated :
    ShutOut (read_of (fin false 1 (negsuc 14)) S.Tai) (answered S.Tai (pos 0) 2636719) (desk spans truncated (fin false 1 (negsuc 14)) S.Tai) (answered S.Tai (pos 0) 2636718)
unfolding read_of
read_truncated = (refl, refl, by_micro (λ e. omega arith))

-- minus zero as day -1: every double with a minus sign is put before day 0
abbrev sign_first : Float → Scale → Slip
sign_first x s = record { number = 0; scale = s; day = cond (exact_of x).minus (negsuc (nat_abs (micros_of (exact_of x)) / day_micros)) (floor_z (micros_of (exact_of x)) day_micros); micro = mod_z (micros_of (exact_of x)) day_micros; mark = M.Plain }

pub read_minus_zero :
    ShutOut (read_of (fin true 0 (pos 0)) S.Tai) (answered S.Tai (pos 0) 0) (sign_first (fin true 0 (pos 0)) S.Tai) (answered S.Tai (negsuc 0) 0)
unfolding read_of
read_minus_zero = (refl, refl, differ (λ (t : Slip). nat_abs t.day) (λ e. omega arith))

-- the span judged on the rounded value: the double before -10227 is less than half a microsecond from it
abbrev rounded_first : Scale → Exact → Bool
rounded_first s v = in_span s (floor_z (micros_of v) day_micros) (mod_z (micros_of v) day_micros)

pub read_rounded_first :
    ShutOut (read_of (fin true 5622352708632577 (negsuc 38)) S.Tai) (empty 7 S.Tai) (desk rounded_first micros_of (fin true 5622352708632577 (negsuc 38)) S.Tai) (answered S.Tai (negsuc 10226) 0)
unfolding read_of
read_rounded_first = (refl, refl, by_number (λ e. omega arith))

-- the empty record always of TAI
pub read_empty_tai : ShutOut (read_of (inf false) S.Gps) (empty 4 S.Gps) (desk spans micros_of (inf false) S.Tai) (empty 4 S.Tai)
unfolding read_of
read_empty_tai = (refl, refl, differ (λ (t : Slip). code_of t.scale) (λ e. omega arith))

-- 7 for what is no number
abbrev seven_for_all : Float → Scale → Slip
seven_for_all x s = dated s (outcome (given (finite x) 7 (gives (record { day = pos 0; micro = 0 }))))

pub read_seven : ShutOut (read_of nan S.Tai) (empty 4 S.Tai) (seven_for_all nan S.Tai) (empty 7 S.Tai)
unfolding read_of
read_seven = (refl, refl, by_number (λ e. omega arith))

-- ---- take: its contract is a relation, which allows a; the wrong program answers b, which it does not
abbrev ShutTake : Handed → Result Time Untaken → Result Time Untaken → Result Time Untaken → Type 0
ShutTake h a wrong b = Took h a × (wrong ≡ b) × (Took h b → ⊥)

abbrev kind_of : Result Time Untaken → ℕ
kind_of (Err (K.NotFinite s)) = 0
kind_of (Err (K.Outside s)) = 1
kind_of (Ok t) = 2 + time_count t

-- what is not finite taken as outside its span
abbrev merged : Handed → Result Time Untaken
merged h = cond (is_finite h) (taken_of h) (Err (K.Outside (scale_of h)))

pub take_merged : ShutTake (H.Decimal nan S.Utc) (Err (K.NotFinite S.Utc)) (merged (H.Decimal nan S.Utc)) (Err (K.Outside S.Utc))
unfolding taken_of
take_merged = (record { is = refl; kept = lit≤ tt }, refl, λ w. differ kind_of (λ e. omega arith) w.is)

-- UTC counted with 86,400 s a day
abbrev even_days : Handed → Result Time Untaken
even_days h = Ok (time_at (scale_of h) (place_of_day (day_of h) * day_micros + micro_of h))

pub take_even_days :
    ShutTake (H.Record (record_of S.Utc (pos 0) 0)) (Ok (time_at S.Utc 3456040000000000)) (even_days (H.Record (record_of S.Utc (pos 0) 0))) (Ok (time_at S.Utc 3456000000000000))
unfolding taken_of
take_even_days = (record { is = refl; kept = refl }, refl, λ w. differ kind_of (λ e. omega arith) w.is)

-- ---- write: in the same way; it allows one answer alone (`wrote_one`)
abbrev ShutWrite : Handed → Result Float Refusal → Result Float Refusal → Result Float Refusal → Type 0
ShutWrite h a wrong b = WroteDay h a × (wrong ≡ b) × (WroteDay h b → ⊥)

forbidden : (h : Handed) (a b : Result Float Refusal) → WroteDay h a → (a ≡ b → ⊥) → WroteDay h b → ⊥
forbidden h a b p d w = d (wrote_one h a b p w)

by_day_number : {x y : Result Float Refusal} → ((decimal_slip x).number ≡ (decimal_slip y).number → ⊥) → x ≡ y → ⊥
by_day_number d e = differ (λ (t : Result Float Refusal). (decimal_slip t).number) d e

by_significand : {x y : Result Float Refusal} → ((exact_of (decimal_slip x).value).significand ≡ (exact_of (decimal_slip y).value).significand → ⊥) → x ≡ y → ⊥
by_significand d e = differ (λ (t : Result Float Refusal). (exact_of (decimal_slip t).value).significand) d e

abbrev micros5 : Handed
micros5 = H.Record (record_of S.Tai (pos 0) 5)

abbrev days5 : Float
days5 = fin false 8955006071219475 (negsuc 86)

days5_written : WroteDay micros5 (Ok days5)
unfolding fits
days5_written = (
  refl,
  record {
    double = tt;
    q = 8955006071219475;
    k = 987;
    value = record { ends = refl; sign = refl; size = refl };
    least = lit≤ tt;
    most = lit< tt;
    near = lit≤ tt;
    tie = λ t. absurd (eq→eqb t);
  },
)

-- the f64 quotient of the microseconds since day 0 by some whole number
abbrev over64 : Handed → ℕ → Float
over64 h d = div binary64 (of_int binary64 (since (day_of h) (micro_of h))) (of_int binary64 (pos d))

-- another divisor
abbrev utc_days : Handed → Result Float Refusal
utc_days h = Ok (over64 h 86401000000)

pub write_other_divisor : ShutWrite micros5 (Ok days5) (utc_days micros5) (Ok (fin false 8954902426515465 (negsuc 86)))
unfolding div of_int
write_other_divisor =
    (days5_written, refl, forbidden micros5 (Ok days5) (Ok (fin false 8954902426515465 (negsuc 86))) days5_written (by_significand (λ e. omega arith)))

-- a quotient rounded twice: to seconds, then to days
abbrev twice : Handed → Result Float Refusal
twice h = Ok (div binary64 (over64 h 1000000) (of_int binary64 (pos 86400)))

pub write_rounded_twice : ShutWrite micros5 (Ok days5) (twice micros5) (Ok (fin false 2238751517804869 (negsuc 84)))
unfolding div of_int
write_rounded_twice =
    (days5_written, refl, forbidden micros5 (Ok days5) (Ok (fin false 2238751517804869 (negsuc 84))) days5_written (by_significand (λ e. omega arith)))

-- zero with a minus sign: the count before day 0 is negated
abbrev negated : Handed → Result Float Refusal
negated h = Ok (div binary64 (neg (of_int binary64 (neg_ℤ (since (day_of h) (micro_of h))))) (of_int binary64 (pos day_micros)))

abbrev zero : Handed
zero = H.Record (record_of S.Tai (pos 0) 0)

pub write_minus_zero : ShutWrite zero (Ok plus_zero) (negated zero) (Ok (fin true 0 (pos 0)))
unfolding div of_int neg
write_minus_zero = (
  (refl, refl),
  refl,
  forbidden zero (Ok plus_zero) (Ok (fin true 0 (pos 0))) (refl, refl)
      (differ (λ (t : Result Float Refusal). cond (exact_of (decimal_slip t).value).minus 1 0) (λ e. omega arith)),
)

-- second 60 written as the next day's first
abbrev carried : Handed → Result Float Refusal
carried h = Ok (over64 h day_micros)

abbrev sixty : Handed
sixty = H.Record (record_of S.Utc (pos 6209) 86400000000)

pub write_carried : ShutWrite sixty (Err R.NoImage) (carried sixty) (Ok (fin false 3105 (pos 1)))
unfolding div of_int
write_carried =
    ((refl, refl), refl, forbidden sixty (Err R.NoImage) (Ok (fin false 3105 (pos 1))) (refl, refl) (by_day_number (λ e. omega arith)))

-- ---- Handed::mark
-- every handed time plain
abbrev all_plain : Handed → Mark
all_plain h = M.Plain

pub handed_plain :
    ShutOut (mark_of (H.Record (marked_record (M.Correlated 9) (record_of S.Tai (pos 0) 0)))) (M.Correlated 9)
    (all_plain (H.Record (marked_record (M.Correlated 9) (record_of S.Tai (pos 0) 0)))) M.Plain
handed_plain = (refl, refl, differ mark_number (λ e. omega arith))

-- a decimal day taken for one from Proteus
abbrev decimal_proteus : Handed → Mark
decimal_proteus (H.Record r) = r.mark
decimal_proteus (H.Decimal x s) = M.Proteus false

pub handed_decimal : ShutOut (mark_of (H.Decimal plus_zero S.Utc)) M.Plain (decimal_proteus (H.Decimal plus_zero S.Utc)) (M.Proteus false)
handed_decimal = (refl, refl, differ mark_number (λ e. omega arith))
