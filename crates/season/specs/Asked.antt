-- The question by what the code sees: one law for each way out. Assumes nothing.
use Rattle.std.specs.Prelude.{◌≡◌, Bool, cond, List, ℕ, zero, suc, ◌+◌, ◌*◌, ◌≤◌, ◌<◌, leb, ltb, ℤ, pos, length, Option, Some, None, Ok, Err}
use Rattle.std.proofs.Math.Path.{refl, ap₂}
use Rattle.std.proofs.Common.{sym, ap, subst, ◌∙◌, add-one, arith, lt-ltb}
use Rattle.std.proofs.Math.Bool.{true, false, ◌&&◌}
use Rattle.std.proofs.lemmas.Bool.{false≢true}
use Rattle.std.proofs.Math.IntN.{sub_ℕ}
use Rattle.std.specs.Int.Signed.{le_z}
use Rattle.axis.specs.Meaning.{signed_of, since, day_micros}
use Rattle.axis.specs.Diff.{sub_eq, sub_le_same}
use Rattle.axis.specs.Signed.{turned_back, signed_turned}
use Rattle.octets.specs.Meaning.{part}
use Rattle.octets.specs.Field.{Bytes}
use Rattle.octets.specs.Parts.{part_lt}
use Rattle.scales.specs.Meaning.{in_span, refused, answer, outcome, valued, number_of}
use Rattle.scales.specs.declared.Refusal.{Refusal}
use Rattle.scales.specs.declared.Refusal.TheVariants as R
use Rattle.scales.specs.Place.{and_both, placed}
use Rattle.scales.specs.declared.Scale.TheVariants as S
use Rattle.clock.specs.Meaning.{Cover, within}
use Rattle.clock.specs.Stage.{spot, place_in, held, since_place, found, none}
use Rattle.season.specs.Meaning.{all, count_of, is_sized, entry_at, cover_in, entry_kept, contents_kept, covered_in, covering_in, asking, covering}
use Rattle.season.specs.Places.{count_in, entry_of, covers_at, seen_in, scanned, asked, answered}
use Rattle.season.specs.Kept.{Fit, fit_sized}
use Rattle.season.specs.declared.Entry.{Entry}

abbrev none_seen : Cover
none_seen = record { from = pos 0; to = pos 0 }

-- ---- what the count tells
fit_by : (t : Bool) (s : List ℕ) (n : ℕ) → is_sized s ≡ t → cond t (Some (count_of s)) None ≡ Some n → Fit s n
fit_by false s n e q = absurd (let z : ◌≡◌ {A = ℕ} 0 1 = cc in omega arith)
fit_by true s n e q = let c : count_of s ≡ n = cc in subst (Fit s) c (fit_sized s e)

pub fit_at : (s : List ℕ) (n : ℕ) → count_in s ≡ Some n → Fit s n
fit_at s n q = fit_by (is_sized s) s n refl q

pub no_fit : (t : Bool) (n : ℕ) → cond t (Some n) None ≡ None → t ≡ false
no_fit true n q = absurd (let z : ◌≡◌ {A = ℕ} 0 1 = cc in omega arith)
no_fit false n q = refl

-- ---- a receipt of the span, on the axis of signed numbers
module _ (d : ℤ) (u : ℕ) where
  pub spot_in : (p : ℕ) → place_in S.Tai d u ≡ Some p → (in_span S.Tai d u ≡ true) × (since d u ≡ sub_ℕ (p + 9219916036854775808) 9223372036854775808)
  spot_in p q =
      let f = found (in_span S.Tai d u && ltb u day_micros) (spot d u) p q in
      let i = (and_both (in_span S.Tai d u) (ltb u day_micros) f.0).0 in (
        i,
        since_place d u (held S.Tai d u i) ∙ sub_eq (spot d u) 3456000000000000 (p + 9219916036854775808) 9223372036854775808 (omega (arith, f.1)),
      )

  pub spot_lt : (p : ℕ) → place_in S.Tai d u ≡ Some p → p < 6611760000000000
  spot_lt p q =
      let f = found (in_span S.Tai d u && ltb u day_micros) (spot d u) p q in
      let i = (and_both (in_span S.Tai d u) (ltb u day_micros) f.0).0 in
      omega (arith, f.1, (held S.Tai d u i).to, (placed S.Tai d u i).under)

  pub spot_out : place_in S.Tai d u ≡ None → in_span S.Tai d u ≡ false
  spot_out q = go (in_span S.Tai d u) refl
    where
      go : (t : Bool) → in_span S.Tai d u ≡ t → in_span S.Tai d u ≡ false
      go false e = e
      go true e =
          absurd (let z : true ≡ false = sym (rw (e, lt-ltb u day_micros (placed S.Tai d u e).under)) ∙ none (in_span S.Tai d u && ltb u day_micros) (spot d u) q in false≢true (sym z))

-- ---- what is seen with one entry more
pub seen_next : (s : List ℕ) (w k : ℕ) → cond (covers_at (entry_of s k) w) (Some (entry_of s k)) (seen_in s w k) ≡ seen_in s w (k + 1)
seen_next s w k = rw (add-one k) refl

-- ---- what is seen is what covers
module _ (s : List ℕ) (b : Bytes s) (w : ℕ) (z : ℤ) (e : z ≡ sub_ℕ w 9223372036854775808) where
  within_is : (k : ℕ) → 22 + 20 * k ≤ length s → within (cover_in s k) z ≡ (leb (entry_of s k).from w && leb w (entry_of s k).to)
  unfolding within
  within_is k h =
      let f = signed_turned (part s (entry_at k) 8) (part_lt s (entry_at k) 8 (omega arith) b) in
      let t = signed_turned (part s (entry_at k + 8) 8) (part_lt s (entry_at k + 8) 8 (omega arith) b) in
      ap₂ ◌&&◌
      (ap₂ le_z f e ∙ sub_le_same 9223372036854775808 (entry_of s k).from w)
      (ap₂ le_z e t ∙ sub_le_same 9223372036854775808 w (entry_of s k).to)

  agrees : (k : ℕ) → 2 + 20 * k ≤ length s → asked (seen_in s w k) ≡ cond (covered_in s z k) (answer (covering_in s z k)) (refused 15)
  agrees zero h = refl
  agrees (suc k) h = go (leb (entry_of s k).from w && leb w (entry_of s k).to) refl (agrees k (omega arith))
    where
      go : (t : Bool) → (leb (entry_of s k).from w && leb w (entry_of s k).to) ≡ t →
          asked (seen_in s w k) ≡ cond (covered_in s z k) (answer (covering_in s z k)) (refused 15) →
          asked (seen_in s w (suc k)) ≡ cond (covered_in s z (suc k)) (answer (covering_in s z (suc k))) (refused 15)
      go true q a =
          rw (q, within_is k (omega arith) ∙ q)
          (ap₂ (λ (x y : ℕ). answer (record { from = signed_of x; to = signed_of y }))
          (turned_back (part s (entry_at k) 8) (part_lt s (entry_at k) 8 (omega arith) b))
          (turned_back (part s (entry_at k + 8) 8) (part_lt s (entry_at k + 8) 8 (omega arith) b)))
      go false q a = rw (q, within_is k (omega arith) ∙ q) a

-- ---- the ways out
module _ (s : List ℕ) (d : ℤ) (u : ℕ) where
  pub ask_unsized : count_in s ≡ None → valued none_seen (refused 14) ≡ covering s d u
  unfolding covering contents_kept
  ask_unsized q = rw (no_fit (is_sized s) (count_of s) q)

  module _ (n : ℕ) (f : Fit s n) where
    kept_is : (t : Bool) → all (entry_kept s) n ≡ t → contents_kept s ≡ t
    unfolding contents_kept
    kept_is t e = rw (f.sized, ← f.count) e

    pub ask_at : Bytes s → (p : ℕ) → place_in S.Tai d u ≡ Some p → answered (scanned s n (p + 9219916036854775808)) ≡ covering s d u
    unfolding covering
    ask_at b p q = go (all (entry_kept s) n) refl
      where
        go : (t : Bool) → all (entry_kept s) n ≡ t → answered (scanned s n (p + 9219916036854775808)) ≡ valued none_seen (outcome (asking s d u))
        go false e = rw (e, kept_is false e)
        go true e =
            let i = spot_in d u p q in
            rw (e, kept_is true e, i.0, ← f.count)
            (ap (valued none_seen) (agrees s b (p + 9219916036854775808) (since d u) i.1 n (omega (arith, f.length_is))))

    scan_kept : (t : Bool) (x y : Option Entry) → cond t (Ok x) (Err R.SeasonBroken) ≡ Ok y → t ≡ true
    scan_kept true x y e = refl
    scan_kept false x y e = absurd (let z : ◌≡◌ {A = ℕ} 0 1 = cc in omega arith)

    scan_broken : (t : Bool) (x : Option Entry) → cond t (Ok x) (Err R.SeasonBroken) ≡ Err R.SeasonBroken → t ≡ false
    scan_broken true x e = absurd (let z : ◌≡◌ {A = ℕ} 0 1 = cc in omega arith)
    scan_broken false x e = refl

    pub ask_outside : place_in S.Tai d u ≡ None → (x : Option Entry) → scanned s n 0 ≡ Ok x → valued none_seen (refused 7) ≡ covering s d u
    unfolding covering
    ask_outside q x e = rw (kept_is true (scan_kept (all (entry_kept s) n) (seen_in s 0 n) x e), spot_out d u q)

    pub ask_broken : (g : Refusal) → scanned s n 0 ≡ Err g → valued none_seen (refused (number_of g)) ≡ covering s d u
    unfolding covering
    ask_broken g e = go (all (entry_kept s) n) refl e
      where
        go : (t : Bool) → all (entry_kept s) n ≡ t → cond t (Ok (seen_in s 0 n)) (Err R.SeasonBroken) ≡ Err g →
            valued none_seen (refused (number_of g)) ≡ valued none_seen (outcome (asking s d u))
        go true h q = absurd (let z : ◌≡◌ {A = ℕ} 0 1 = cc in omega arith)
        go false h q = let r : R.SeasonBroken ≡ g = cc in rw (← r, kept_is false h)
