-- The pass that writes: what is written before packet i, and that it is again after. Assumes nothing.
use Rattle.std.specs.Prelude.{◌≡◌, refl, ℕ, ◌+◌, ◌-◌, ◌*◌, ◌/◌, ◌≤◌, ◌<◌, ℤ, pos, length, take}
use Rattle.std.proofs.Math.Path.{sym, ap, ap₂, subst}
use Rattle.std.proofs.Common.{◌∙◌, length-append, length-drop, drop-drop, get_or-drop, take_all, length-take-le}
use mathlib.Core.List.{List, ◌∷◌, ◌++◌}
use native.Mathlib.Omega.{arith}
use Rattle.std.proofs.Math.ListN.{drop, get_or, set}
use Rattle.axis.specs.Meaning.{held_micros_at}
use Rattle.octets.specs.Meaning.{part}
use Rattle.octets.specs.Place.{onto_next}
use Rattle.runs.specs.Meaning.{ahead}
use Rattle.runs.specs.Passes.{last_from, dates_from, Filling}
use Rattle.runs.specs.Turns.{none_passed, last_on, dates_on, last_from_lem, length_dates}

pub record Filled (s : List ℕ) (n from told : ℕ) (out now : List ℤ) (total i : ℕ) : Type 0 where
  pub below : i ≤ n
  pub is : now ≡ take i (dates_from n from told s) ++ drop i out
  pub rest : drop i (dates_from n from told s) ≡ dates_from (n - i) from total (drop (10 * i) s)
  pub ends : last_from (n - i) total (drop (10 * i) s) ≤ 484848

module _ (s : List ℕ) (n from told : ℕ) (out : List ℤ) (g : Filling s n from told (length out)) where
  pub filled_none : Filled s n from told out out told 0
  filled_none =
      record {
        below = omega arith;
        is = refl;
        rest = sym (none_passed (λ (k : ℕ). dates_from k from told s) n);
        ends = subst (λ (t : ℕ). t ≤ 484848) (sym (none_passed (λ (k : ℕ). last_from k told s) n)) g.ends;
      }

  module _ (written : List ℤ) (total i : ℕ) (f : Filled s n from told out written total i) where
    pub filled_length : length written ≡ length out
    filled_length =
        ap length f.is ∙ length-append (take i (dates_from n from told s)) (drop i out)
        ∙ omega (arith, length-take-le i (dates_from n from told s) (omega (arith, length_dates n from told s, f.below)), length-drop i out, f.below, g.room)

    -- a total is not above the last
    pub total_most : total ≤ 484848
    total_most = omega (arith, last_from_lem (n - i) total (drop (10 * i) s), f.ends)

    module _ (h : i < n) where
      t : ℕ
      t = ahead total (part s (10 * i + 8) 2)

      ends_on : last_from (n - (i + 1)) t (drop (10 * (i + 1)) s) ≤ 484848
      unfolding t
      ends_on = subst (λ (x : ℕ). x ≤ 484848) (last_on s n i h total) f.ends

      pub next_most : ahead total (part s (10 * i + 8) 2) ≤ 484848
      unfolding t
      next_most = omega (arith, last_from_lem (n - (i + 1)) t (drop (10 * (i + 1)) s), ends_on)

      pub filled_on : Filled s n from told out (set written i (held_micros_at (from + ahead total (part s (10 * i + 8) 2) * 33 / 16))) (ahead total (part s (10 * i + 8) 2)) (i + 1)
      unfolding t
      filled_on =
          let ds = dates_from n from told s in
          let v = held_micros_at (from + t * 33 / 16) in
          let e : drop i ds ≡ v ∷ dates_from (n - (i + 1)) from t (drop (10 * (i + 1)) s) = f.rest ∙ dates_on s n i h from total in
          let z : i + 0 ≡ i = omega arith in
          let a : get_or ds i (pos 0) ≡ v =
          ap (λ (k : ℕ). get_or ds k (pos 0)) (sym z) ∙ sym (get_or-drop i ds 0 (pos 0)) ∙ ap (λ (l : List ℤ). get_or l 0 (pos 0)) e in
          record {
            below = omega arith;
            is =
                ap₂ (λ (l : List ℤ) (x : ℤ). set l i x) f.is (sym a)
                ∙ onto_next out ds (pos 0) i (omega (arith, length_dates n from told s)) (omega (arith, length_dates n from told s, g.room));
            rest = sym (drop-drop 1 i ds) ∙ ap (drop 1) e;
            ends = ends_on;
          }

    pub filled_all : n ≤ i → written ≡ dates_from n from told s ++ drop n out
    filled_all h =
        let e : i ≡ n = omega (arith, f.below) in
        f.is ∙ ap (λ (k : ℕ). take k (dates_from n from told s) ++ drop k out) e
        ∙ ap (λ (l : List ℤ). l ++ drop n out) (take_all n (dates_from n from told s) (omega (arith, length_dates n from told s)))
