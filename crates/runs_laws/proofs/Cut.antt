-- A run cut after any packet gives the same dates. Assumes nothing.
use mathlib.Core.Path.{◌≡◌, refl, sym, ap, ap₂, ◌∙◌}
use mathlib.Core.Bool.{true}
use mathlib.Core.List.{List, [], ◌∷◌, ◌++◌, map}
use Prim.Native.Nat.{ℕ, ◌-◌, ◌*◌, ◌/◌, ◌%◌, ◌≤◌}
use native.Mathlib.Omega.{arith}
use lib.Dec.{leb}
use lib.IntN.{ℤ, pos}
use lib.ListN.{length, take, drop, length-drop}
use lib.Seq.{length-take-le, take-nil, drop-nil}
use borrow.Author.Tests.{eq-eqb}
use Rattle.scales.specs.Place.{and_both}
use Rattle.layout_fields.specs.declared.siral.Fields.{Fields}
use Rattle.runs.specs.Meaning.{packets_in, packets, all, extras, unrolled, totals, last_of, is_in_limits, alike, are_alike, most, dates_of, dates_in, is_in_span, Run, siral}
use Rattle.runs.specs.Alike.{same}
use Rattle.runs.specs.Seconds.{alike_all}
use Rattle.runs_laws.specs.Meaning.{Cut}
use Rattle.runs_laws.proofs.Parts.{all_take, all_drop, map_take, map_drop, packets_take, packets_drop, unrolled_take, unrolled_drop, last_drop, dates_take, dates_drop}
use Rattle.runs_laws.proofs.Answered.{Passes, passes, answered, dates_are}

-- ---- packets alike one are alike each other
alike_both : (f g h : Fields) → alike f g ≡ true → alike f h ≡ true → alike g h ≡ true
alike_both f g h d e =
    let x = same f g d in
    let y = same f h e in
    rw (
      eq-eqb g.day h.day (sym x.day ∙ y.day),
      eq-eqb g.millisecond h.millisecond (sym x.milli ∙ y.milli),
      eq-eqb g.microsecond h.microsecond (sym x.micro ∙ y.micro),
    )

are_alike_lem : (f : Fields) (gs : List Fields) → all (alike f) gs ≡ true → are_alike gs ≡ true
are_alike_lem f [] e = refl
are_alike_lem f (g ∷ gs) e = let q = and_both (alike f g) (all (alike f) gs) e in go q.0 gs q.1
  where
    go : alike f g ≡ true → (hs : List Fields) → all (alike f) hs ≡ true → all (alike g) hs ≡ true
    go d [] e = refl
    go d (h ∷ hs) e = let q = and_both (alike f h) (all (alike f) hs) e in rw (alike_both f g h d q.0, go d hs q.1)

-- a front and a rest of packets that are alike
alike_take : (k : ℕ) (fs : List Fields) → are_alike fs ≡ true → are_alike (take k fs) ≡ true
alike_take k [] e = ap are_alike (take-nil k)
alike_take k (f ∷ fs) e = are_alike_lem f (take k (f ∷ fs)) (all_take (alike f) k (f ∷ fs) (alike_all f fs e))

alike_drop : (k : ℕ) (fs : List Fields) → are_alike fs ≡ true → are_alike (drop k fs) ≡ true
alike_drop k [] e = ap are_alike (drop-nil k)
alike_drop k (f ∷ fs) e = are_alike_lem f (drop k (f ∷ fs)) (all_drop (alike f) k (f ∷ fs) (alike_all f fs e))

-- a run that is answered
run : ℕ → ℕ → List ℤ → List ℤ → Run
run n last ds out = record { number = 0; count = n; last = last; lent = ds ++ drop n out }

-- ---- both parts pass every test
module _ (s : List ℕ) (told : ℕ) (h : Passes s told) (k : ℕ) (l : k ≤ length s / 10) where
  n : ℕ
  n = length s / 10

  first : List ℕ
  first = take (10 * k) s

  rest : List ℕ
  rest = drop (10 * k) s

  ts : List ℕ
  ts = totals told (packets s)

  -- the first part's last total
  mid : ℕ
  mid = last_of told (take k ts)

  first_count : length first / 10 ≡ k
  unfolding first
  first_count = omega (arith, length-take-le (10 * k) s (omega arith))

  rest_count : length rest / 10 ≡ n - k
  unfolding rest n
  rest_count = omega (arith, length-drop (10 * k) s, h.whole)

  first_whole : length first % 10 ≡ 0
  unfolding first
  first_whole = omega (arith, length-take-le (10 * k) s (omega arith))

  rest_whole : length rest % 10 ≡ 0
  unfolding rest
  rest_whole = omega (arith, length-drop (10 * k) s, h.whole)

  first_packets : packets first ≡ take k (packets s)
  unfolding first
  first_packets = ap (λ (m : ℕ). packets_in m first) first_count ∙ packets_take k (length s / 10) s l (omega arith)

  rest_packets : packets rest ≡ drop k (packets s)
  unfolding rest n
  rest_packets = ap (λ (m : ℕ). packets_in m rest) rest_count ∙ packets_drop k (length s / 10) s l

  first_totals : totals told (packets first) ≡ take k ts
  unfolding ts
  first_totals =
      ap (totals told) first_packets ∙ ap (unrolled told) (map_take (λ (f : Fields). f.extra) k (packets s)) ∙ unrolled_take k told (extras (packets s))

  rest_totals : totals mid (packets rest) ≡ drop k ts
  unfolding ts mid
  rest_totals =
      ap (totals mid) rest_packets ∙ ap (unrolled mid) (map_drop (λ (f : Fields). f.extra) k (packets s)) ∙ unrolled_drop k told (extras (packets s))

  first_dates : dates_in first told ≡ take k (dates_in s told)
  unfolding ts
  first_dates = ap₂ dates_of first_packets first_totals ∙ dates_take k (packets s) (totals told (packets s))

  rest_dates : dates_in rest mid ≡ drop k (dates_in s told)
  unfolding ts
  rest_dates = ap₂ dates_of rest_packets rest_totals ∙ dates_drop k (packets s) (totals told (packets s))

  first_passes : Passes first told
  unfolding ts
  first_passes =
      record {
        whole = first_whole;
        limits = ap (all is_in_limits) first_packets ∙ all_take is_in_limits k (packets s) h.limits;
        same = ap are_alike first_packets ∙ alike_take k (packets s) h.same;
        below = ap (all (λ (t : ℕ). leb t most)) first_totals ∙ all_take (λ (t : ℕ). leb t most) k (totals told (packets s)) h.below;
        spans = ap (all is_in_span) first_dates ∙ all_take is_in_span k (dates_in s told) h.spans;
      }

  rest_passes : Passes rest mid
  unfolding ts
  rest_passes =
      record {
        whole = rest_whole;
        limits = ap (all is_in_limits) rest_packets ∙ all_drop is_in_limits k (packets s) h.limits;
        same = ap are_alike rest_packets ∙ alike_drop k (packets s) h.same;
        below = ap (all (λ (t : ℕ). leb t most)) rest_totals ∙ all_drop (λ (t : ℕ). leb t most) k (totals told (packets s)) h.below;
        spans = ap (all is_in_span) rest_dates ∙ all_drop is_in_span k (dates_in s told) h.spans;
      }

  module _ (front : List ℤ) (r : k ≤ length front) where
    first_is : siral first told front ≡ record { number = 0; count = k; last = mid; lent = take k (map pos (dates_in s told)) ++ drop k front }
    unfolding run mid
    first_is =
        let ds = ap (map pos) first_dates ∙ map_take pos k (dates_in s told) in
        answered first told front first_passes (omega (arith, first_count))
        ∙ (λ i. run (first_count i) (last_of told (first_totals i)) (ds i) front)

  module _ (back : List ℤ) (r : length s / 10 - k ≤ length back) where
    rest_is : siral rest mid back ≡
        record { number = 0; count = n - k; last = last_of told (totals told (packets s)); lent = drop k (map pos (dates_in s told)) ++ drop (n - k) back }
    unfolding run mid ts n
    rest_is =
        let ds = ap (map pos) rest_dates ∙ map_drop pos k (dates_in s told) in
        let t = ap (last_of mid) rest_totals ∙ last_drop k told (totals told (packets s)) in
        answered rest mid back rest_passes (omega (arith, rest_count))
        ∙ (λ i. run (rest_count i) (t i) (ds i) back)

-- ---- "a run cut after any packet gives the same dates, wherever the whole run is answered": each part is lent room for its dates
pub cut : (s : List ℕ) (told : ℕ) (out : List ℤ) → (siral s told out).number ≡ 0 → (k : ℕ) → k ≤ length s / 10 →
    (front back : List ℤ) → k ≤ length front → length s / 10 - k ≤ length back → let first = siral (take (10 * k) s) told front in
    Cut (siral s told out) first (siral (drop (10 * k) s) first.last back) k front back
unfolding first rest mid n
cut s told out e k l front back p q =
    let h = passes s told out e in
    let whole = answered s told out h.0 h.1 in
    let ds = dates_are s told out h.0 h.1 in
    let f = first_is s told h.0 k l front p in
    record {
      first_is = f ∙ rw (f, ds);
      second_is = rw (f, ds, whole) (rest_is s told h.0 k l back q);
    }
