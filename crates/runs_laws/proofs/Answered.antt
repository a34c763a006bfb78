-- A run is answered exactly where every test holds, and then with the meaning's dates. Assumes nothing.
use mathlib.Core.Path.{◌≡◌, refl, ap, ◌∙◌}
use mathlib.Core.Bool.{Bool, true, false, cond}
use mathlib.Core.List.{List, ◌++◌, map}
use Prim.Native.Nat.{ℕ, ◌/◌, ◌%◌, ◌≤◌}
use native.Mathlib.Omega.{arith}
use lib.Dec.{leb, eqb}
use lib.IntN.{ℤ, pos}
use lib.ListN.{length, drop}
use lib.Seq.{take_at}
use borrow.Author.Tests.{eqb-true, leb-true, eq-eqb, le-leb}
use Rattle.scales.specs.Meaning.{Outcome, refused, answer}
use Rattle.scales.specs.Place.{and_both}
use Rattle.runs.specs.Meaning.{packets, all, extras, totals, last_of, is_in_limits, are_alike, most, is_one_second, dates_in, is_in_span, ran, siral}
use Rattle.runs.specs.Ways.{length_packets}
use Rattle.runs_laws.specs.Meaning.{dates}
use Rattle.runs_laws.proofs.Parts.{length_map, length_dates, length_unrolled}

module _ (s : List ℕ) (told : ℕ) where
  pub record Passes : Type 0 where
    pub whole : length s % 10 ≡ 0
    pub limits : all is_in_limits (packets s) ≡ true
    pub same : are_alike (packets s) ≡ true
    pub below : all (λ (t : ℕ). leb t most) (totals told (packets s)) ≡ true
    pub spans : all is_in_span (dates_in s told) ≡ true

  pub long : length (map pos (dates_in s told)) ≡ length s / 10
  long =
      length_map pos (dates_in s told)
      ∙ length_dates (packets s) (totals told (packets s)) (length_unrolled told (extras (packets s)) ∙ length_map _ (packets s))
      ∙ length_packets (length s / 10) s

  module _ (out : List ℤ) where
    pub passes : (siral s told out).number ≡ 0 → Passes × (length s / 10 ≤ length out)
    unfolding siral
    passes k =
        let q = go (eqb (length s % 10) 0) (all is_in_limits (packets s)) (is_one_second told (packets s)) (all is_in_span (dates_in s told)) (leb (length (packets s)) (length out)) k in
        let o = and_both (are_alike (packets s)) (all (λ (t : ℕ). leb t most) (totals told (packets s))) q.2 in (
          record { whole = eqb-true (length s % 10) 0 q.0; limits = q.1; same = o.0; below = o.1; spans = q.3 },
          omega (arith, leb-true (length (packets s)) (length out) q.4, length_packets (length s / 10) s),
        )
      where
        number_in : Outcome (List ℤ) → ℕ
        number_in o = (ran (last_of told (totals told (packets s))) out o).number

        tested : Bool → Bool → Bool → Bool → Bool → Outcome (List ℤ)
        tested w l o p r = cond w (cond l (cond o (cond p (cond r (answer (map pos (dates_in s told))) (refused 13)) (refused 7)) (refused 16)) (refused 3)) (refused 1)

        go : (w l o p r : Bool) → number_in (tested w l o p r) ≡ 0 → (w ≡ true) × (l ≡ true) × (o ≡ true) × (p ≡ true) × (r ≡ true)
        go true true true true true k = (refl, refl, refl, refl, refl)
        go true true true true false k = absurd (omega arith)
        go true true true false r k = absurd (omega arith)
        go true true false p r k = absurd (omega arith)
        go true false o p r k = absurd (omega arith)
        go false l o p r k = absurd (omega arith)

    pub answered : Passes → length s / 10 ≤ length out →
        siral s told out ≡ record { number = 0; count = length s / 10; last = last_of told (totals told (packets s)); lent = map pos (dates_in s told) ++ drop (length s / 10) out }
    unfolding siral
    answered h r =
        rw (eq-eqb (length s % 10) 0 h.whole, h.limits, h.same, h.below, h.spans, le-leb (length (packets s)) (length out) (omega (arith, length_packets (length s / 10) s)), long)

    -- the dates that it hands back
    pub dates_are : Passes → length s / 10 ≤ length out → dates (siral s told out) ≡ map pos (dates_in s told)
    dates_are h r =
        ap dates (answered h r) ∙ take_at (map pos (dates_in s told)) (drop (length s / 10) out) (length s / 10) long
