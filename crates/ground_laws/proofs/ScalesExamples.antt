-- The spans at their edges, the order of the refusals, and the laws of the scales at inputs that meet their hypotheses:
-- computed. Assumes nothing.
use mathlib.Core.Path.{◌≡◌, refl}
use mathlib.Core.Bool.{Bool, true, false}
use mathlib.Core.List.{List, [], ◌∷◌}
use Prim.Native.Nat.{ℕ}
use lib.Dec.{lit<}
use lib.IntN.{ℤ, pos, negsuc}
use Rattle.scales.specs.Meaning.{in_span, given, gives, refused, outcome, order, stands_in, moment_at, record_at, record_of, spanned_as, time_at}
use Rattle.scales.specs.Order.{Refuses, is_refuses, Answers, is_answers}
use Rattle.scales.specs.Place.{placed, in_span_lem, in_days, out_days, out_over, moment_of_lem, count_of}
use Rattle.scales.specs.Counts.{typed_at, typed_no, timed_at}
use Rattle.scales.specs.declared.Scale.{Scale}
use Rattle.scales.specs.declared.Scale.TheVariants as S
use Rattle.scales.specs.declared.Refusal.TheVariants as R

-- a day and a microsecond of a scale, and whether they lie in its span
pub record Edge : Type 0 where
  pub scale : Scale
  pub day : ℤ
  pub micro : ℕ
  pub inside : Bool

abbrev edge : Scale → ℤ → ℕ → Bool → Edge
edge s d u b = record { scale = s; day = d; micro = u; inside = b }

-- the paper's table of spans, row by row: just before, at, and just after each of its numbers
abbrev edges : List Edge
edges =
    edge S.Tai (negsuc 10227) 86399999999 false ∷ edge S.Tai (negsuc 10226) 0 true
    ∷ edge S.Tai (pos 36524) 86399999999 true ∷ edge S.Tai (pos 36524) 86400000000 false ∷ edge S.Tai (pos 36525) 0 false
    ∷ edge S.Utc (negsuc 10227) 86399999999 false ∷ edge S.Utc (negsuc 10226) 0 true
    ∷ edge S.Utc (pos 36524) 86400999999 true ∷ edge S.Utc (pos 36524) 86401000000 false ∷ edge S.Utc (pos 36525) 0 false
    ∷ edge S.Gps (negsuc 7300) 86399999999 false ∷ edge S.Gps (negsuc 7299) 0 true
    ∷ edge S.Gps (pos 36524) 86399999999 true ∷ edge S.Gps (pos 36524) 86400000000 false ∷ edge S.Gps (pos 36525) 0 false
    ∷ []

abbrev tested : List Edge → List Bool
tested [] = []
tested (e ∷ es) = in_span e.scale e.day e.micro ∷ tested es

abbrev stated : List Edge → List Bool
stated [] = []
stated (e ∷ es) = e.inside ∷ stated es

pub spans_at_their_edges : tested edges ≡ stated edges
spans_at_their_edges = refl

-- ---- the order of the numbers
pub thirteen : stands_in (1 ∷ 3 ∷ 7 ∷ 12 ∷ 13 ∷ []) order ≡ true
thirteen = refl

-- 7 before 4 is out of order, and so is a number that the slip lacks
pub out_of_order : (stands_in (7 ∷ 4 ∷ []) order ≡ false) × (stands_in (0 ∷ []) order ≡ false)
out_of_order = (refl, refl)

-- of two tests that fail the first is given
pub first_applies : outcome {A = ℕ} (given true 1 (given false 4 (given false 7 (gives 0)))) ≡ refused 4
first_applies = refl

pub refuses_meets : Refuses {A = ℕ} (given true 1 (given false 4 (given false 7 (gives 0)))) 4
refuses_meets = is_refuses (given true 1 (given false 4 (given false 7 (gives 0)))) 4 refl

pub answers_meets : Answers {A = ℕ} (given true 1 (given true 4 (gives 5))) 5
answers_meets = is_answers (given true 1 (given true 4 (gives 5))) 5 refl

-- ---- day 0 of GPS in the laws of spans and counts
day_zero_lem : in_span S.Gps (pos 0) 5 ≡ true
day_zero_lem = refl

pub spans_meet :
    (in_span S.Gps (pos 0) 5 ≡ true) × (in_span S.Gps (negsuc 7300) 5 ≡ false) × (in_span S.Gps (pos 36525) 5 ≡ false)
    × (in_span S.Gps (pos 0) 86400000000 ≡ false)
spans_meet = (
  in_span_lem S.Gps (pos 0) 5 (placed S.Gps (pos 0) 5 (in_days S.Gps (pos 0) 5 refl (lit< tt))),
  out_days S.Gps (negsuc 7300) 5 refl,
  out_days S.Gps (pos 36525) 5 refl,
  out_over S.Gps (pos 0) 86400000000 (lit< tt),
)

pub counts_meet :
    (moment_at S.Gps 3456000000000005 ≡ record { day = pos 0; micro = 5 }) × (3456000000000005 ≡ count_of S.Gps (pos 0) 5)
    × (R.OutsideSpan ≡ R.OutsideSpan) × (time_at S.Gps 3456000000000005 ≡ time_at S.Gps (count_of S.Gps (pos 0) 5))
unfolding spanned_as
counts_meet = (
  moment_of_lem S.Gps (pos 0) 5 day_zero_lem,
  (typed_at S.Gps (pos 0) 5 3456000000000005 refl).1,
  (typed_no S.Gps (pos 36525) 5 R.OutsideSpan refl).1,
  (timed_at S.Gps (pos 0) 5 (time_at S.Gps 3456000000000005) refl).1,
)

-- second 60 of day 6209 has a count of its own, and the first microsecond of day 6210 the next but 999,999
pub second_sixty :
    (record_at S.Utc (count_of S.Utc (pos 6209) 86400000000) ≡ record_of S.Utc (pos 6209) 86400000000)
    × (record_at S.Utc (count_of S.Utc (pos 6210) 0) ≡ record_of S.Utc (pos 6210) 0)
second_sixty = (refl, refl)
