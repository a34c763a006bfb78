-- Which files keep the rules of the contents, by the places that the code compares: an entry that may follow the one before it is one that
-- is kept. Assumes nothing.
use Rattle.std.specs.Prelude.{◌≡◌, refl, Bool, true, false, ◌&&◌, List, ℕ, zero, suc, ◌+◌, ◌*◌, ◌≤◌, ◌<◌, leb, ltb, eqb, length, Some, None}
use Rattle.std.proofs.Common.{sym, ap, ap₂, ◌∙◌, arith, le-leb, eq-eqb, ne_eqb, leb-true, eqb-true}
use Rattle.std.proofs.Math.Bool.{and-true, and-false, and_comm}
use Rattle.std.specs.Int.Signed.{le_z, lt_z}
use Rattle.std.proofs.lemmas.Bool.{lt-leb}
use Rattle.axis.specs.Signed.{signed_le, signed_lt}
use Rattle.octets.specs.Meaning.{part}
use Rattle.octets.specs.Field.{Bytes}
use Rattle.octets.specs.Parts.{part_lt}
use Rattle.scales.specs.Place.{and_both}
use Rattle.season.specs.Meaning.{count_of, is_sized, entry_at, cover_in, position_in, body_at, entry_kept}
use Rattle.season.specs.Covers.{EndsAt}
use Rattle.season.specs.Places.{count_in, entry_of, may_follow}
use Rattle.season.specs.declared.Entry.{Entry}

-- ---- the ways out of the test of the length
pub too_short : (s : List ℕ) → length s < 2 → None ≡ count_in s
too_short s h = rw (ne_eqb (length s) (2 + 48 * count_of s) (λ e. omega arith))

module _ (s : List ℕ) (n : ℕ) (e : n ≡ count_of s) where
  pub too_many : 512 < n → None ≡ count_in s
  too_many h = rw (lt-leb (count_of s) 512 (omega arith), and-false (eqb (length s) (2 + 48 * count_of s)))

  pub other_length : (length s ≡ 2 + 48 * n → ⊥) → None ≡ count_in s
  other_length d = rw (ne_eqb (length s) (2 + 48 * count_of s) (λ l. d (l ∙ ap (λ (m : ℕ). 2 + 48 * m) (sym e))))

  pub has_length : n ≤ 512 → length s ≡ 2 + 48 * n → Some n ≡ count_in s
  has_length h l = rw (← e, eq-eqb (length s) (2 + 48 * n) l, le-leb n 512 h)

-- what the count tells
pub record Fit (s : List ℕ) (n : ℕ) : Type 0 where
  pub count : n ≡ count_of s
  pub most : n ≤ 512
  pub length_is : length s ≡ 2 + 48 * n
  pub sized : is_sized s ≡ true

pub fit_sized : (s : List ℕ) → is_sized s ≡ true → Fit s (count_of s)
fit_sized s e =
    let b = and_both (eqb (length s) (2 + 48 * count_of s)) (leb (count_of s) 512) e in
    record { count = refl; most = leb-true (count_of s) 512 b.1; length_is = eqb-true (length s) (2 + 48 * count_of s) b.0; sized = e }

-- ---- the ways out of the test of an entry
module _ (e : Entry) (n k before : ℕ) where
  pub not_there : (e.position ≡ body_at n k → ⊥) → false ≡ may_follow e n k before
  not_there d = rw (ne_eqb e.position (body_at n k) d)

  module _ (p : e.position ≡ body_at n k) where
    pub ends_early : e.to < e.from → false ≡ may_follow e n k before
    ends_early h = rw (eq-eqb e.position (body_at n k) p, lt-leb e.from e.to h)

    module _ (h : e.from ≤ e.to) where
      pub is_first_lem : k ≡ 0 → true ≡ may_follow e n k before
      is_first_lem z = rw (eq-eqb e.position (body_at n k) p, le-leb e.from e.to h, eq-eqb k 0 z)

      pub is_later_lem : (k ≡ 0 → ⊥) → ltb before e.from ≡ may_follow e n k before
      is_later_lem z = rw (eq-eqb e.position (body_at n k) p, le-leb e.from e.to h, ne_eqb k 0 z)

-- ---- an entry after the one before it
module _ (s : List ℕ) (b : Bytes s) where
  ends_le : (k : ℕ) → 22 + 20 * k ≤ length s → le_z (cover_in s k).from (cover_in s k).to ≡ leb (entry_of s k).from (entry_of s k).to
  ends_le k h = signed_le (part s (entry_at k) 8) (part s (entry_at k + 8) 8) (part_lt s (entry_at k) 8 (omega arith) b) (part_lt s (entry_at k + 8) 8 (omega arith) b)

  next_lt : (k : ℕ) → 22 + 20 * suc k ≤ length s → lt_z (cover_in s k).to (cover_in s (suc k)).from ≡ ltb (entry_of s k).to (entry_of s (suc k)).from
  next_lt k h =
      signed_lt (part s (entry_at k + 8) 8) (part s (entry_at (suc k)) 8) (part_lt s (entry_at k + 8) 8 (omega arith) b)
      (part_lt s (entry_at (suc k)) 8 (omega arith) b)

  pub kept_by : (k before : ℕ) → 22 + 20 * k ≤ length s → EndsAt (λ j. (entry_of s j).to) k before → entry_kept s k ≡ may_follow (entry_of s k) (count_of s) k before
  kept_by zero before h e =
      ap (λ (t : Bool). eqb (position_in s 0) (body_at (count_of s) 0) && t) (ends_le 0 h ∙ sym (and-true (leb (entry_of s 0).from (entry_of s 0).to)))
  kept_by (suc k) before h e =
      ap (λ (t : Bool). eqb (position_in s (suc k)) (body_at (count_of s) (suc k)) && t)
      (ap₂ ◌&&◌ (next_lt k h) (ends_le (suc k) h)
      ∙ and_comm (ltb (entry_of s k).to (entry_of s (suc k)).from) (leb (entry_of s (suc k)).from (entry_of s (suc k)).to)
      ∙ rw (e, ne_eqb (suc k) 0 (λ z. omega arith)))

-- ---- the same of entry k of n as the code reads it, before which all are kept
pub kept_at : (s : List ℕ) (n : ℕ) → Bytes s → Fit s n → (k before : ℕ) → k < n → EndsAt (λ j. (entry_of s j).to) k before → (e : Entry) → e ≡ entry_of s k → entry_kept s k ≡ may_follow e n k before
kept_at s n b f k before h i e q =
    kept_by s b k before (omega (arith, f.length_is)) i ∙ ap₂ (λ (x : Entry) (m : ℕ). may_follow x m k before) (sym q) (sym f.count)
