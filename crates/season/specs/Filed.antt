-- The ways out of the writer: 14, 13, and the file on the front of the lent slice. Assumes nothing.
use Rattle.std.specs.Prelude.{◌≡◌, refl, true, false, List, [], ◌++◌, ℕ, ◌+◌, ◌*◌, ◌/◌, ◌%◌, ◌≤◌, ◌<◌, ℤ, length, take, drop, Ok, Err}
use Rattle.std.proofs.Common.{sym, ap, ap₂, ◌∙◌, append_assoc, arith, length-append}
use borrow.Author.Tests.{le-leb, lt-leb, eq-eqb, ne_eqb}
use Rattle.octets.specs.Meaning.{field}
use Rattle.octets.specs.Field.{length_field}
use Rattle.scales.specs.Meaning.{wrote}
use Rattle.scales.specs.declared.Refusal.TheVariants as R
use Rattle.season.specs.Meaning.{all, each, entry_at, is_written, is_writable, entry_bytes, body_bytes, file_of, write}
use Rattle.season.specs.Each.{length_each}
use Rattle.season.specs.Filling.{Filled, lent_part, with_part, fill_none, fill_part, fill_field, part_length}
use Rattle.season.specs.Writing.{entry_length, body_length}

-- where the file of n ends
abbrev pub end_of : ℕ → ℕ
end_of n = 2 + 48 * n

-- ---- how long the count and the contents are, and the file
pub front_length : (n : ℕ) (ws : List ℤ) → length (field 2 n ++ each (entry_bytes n ws) n) ≡ entry_at n
front_length n ws =
    length-append (field 2 n) (each (entry_bytes n ws) n) ∙ ap₂ ◌+◌ (length_field 2 n) (length_each (entry_bytes n ws) 20 (entry_length n ws) n)

pub file_length : (ws : List ℤ) → length (file_of ws) ≡ end_of (length ws / 7)
file_length ws =
    let n = length ws / 7 in
    length-append (field 2 n ++ each (entry_bytes n ws) n) (each (body_bytes ws) n)
    ∙ ap₂ ◌+◌ (front_length n ws) (length_each (body_bytes ws) 28 (body_length ws) n) ∙ omega arith

module _ (ws : List ℤ) (out : List ℕ) where
  -- ---- 14
  pub uneven : (length ws % 7 ≡ 0 → ⊥) → wrote (Err R.SeasonBroken) out ≡ write ws out
  unfolding write is_writable
  uneven h = rw (ne_eqb (length ws % 7) 0 h)

  module _ (e : length ws % 7 ≡ 0) where
    pub too_many : 512 < length ws / 7 → wrote (Err R.SeasonBroken) out ≡ write ws out
    unfolding write is_writable
    too_many h = rw (eq-eqb (length ws % 7) 0 e, lt-leb (length ws / 7) 512 h)

    module _ (f : length ws / 7 ≤ 512) where
      pub not_rising : all (is_written ws) (length ws / 7) ≡ false → wrote (Err R.SeasonBroken) out ≡ write ws out
      unfolding write is_writable
      not_rising a = rw (eq-eqb (length ws % 7) 0 e, le-leb (length ws / 7) 512 f, a)

      module _ (a : all (is_written ws) (length ws / 7) ≡ true) where
        writable : is_writable ws ≡ true
        unfolding is_writable
        writable = rw (eq-eqb (length ws % 7) 0 e, le-leb (length ws / 7) 512 f, a)

        -- ---- 13
        pub no_room_lem : length out < end_of (length ws / 7) → wrote (Err R.OutputShorter) out ≡ write ws out
        unfolding write
        no_room_lem h = rw (writable, lt-leb (length (file_of ws)) (length out) (omega (arith, file_length ws)))

        -- ---- the file
        pub filed : end_of (length ws / 7) ≤ length out → {s : List ℕ}
            → s ≡ file_of ws ++ drop (end_of (length ws / 7)) out
            → wrote (Ok (end_of (length ws / 7))) s ≡ write ws out
        unfolding write
        filed h q =
            rw (writable, le-leb (length (file_of ws)) (length out) (omega (arith, file_length ws)), file_length ws, q)

-- ---- the count of n, laid first, and the contents and the bodies behind it, as one part or as two
module _ (n : ℕ) (out p : List ℕ) (h : end_of n ≤ length out) (e : p ≡ field (length (take 2 out)) n) where
  count_laid : Filled 2 (field 2 n) out (p ++ drop 2 out)
  count_laid = fill_field 0 2 2 n [] out out p (fill_none out) (omega arith) refl e

  pub rest_length : length (lent_part 2 (end_of n) (p ++ drop 2 out)) ≡ 48 * n
  rest_length = part_length 2 (end_of n) (field 2 n) out (p ++ drop 2 out) count_laid h ∙ omega arith

  pub all_laid : (q : List ℕ) (ws : List ℤ) → q ≡ each (entry_bytes n ws) n ++ each (body_bytes ws) n
      → with_part 2 (end_of n) q (p ++ drop 2 out)
      ≡ field 2 n ++ each (entry_bytes n ws) n ++ each (body_bytes ws) n ++ drop (end_of n) out
  all_laid q ws f =
      let a = each (entry_bytes n ws) n in
      let b = each (body_bytes ws) n in
      let l : length q ≡ 48 * n =
      ap length f ∙ length-append a b
      ∙ ap₂ ◌+◌ (length_each (entry_bytes n ws) 20 (entry_length n ws) n) (length_each (body_bytes ws) 28 (body_length ws) n) ∙ omega arith in
      (fill_part 2 (end_of n) (field 2 n) out (p ++ drop 2 out) count_laid q (omega arith)).is
      ∙ ap (λ (x : List ℕ). x ++ drop (end_of n) out) (ap (λ (x : List ℕ). field 2 n ++ x) f ∙ sym (append_assoc (field 2 n) a b))

  pub contents_length : length (lent_part 2 (entry_at n) (p ++ drop 2 out)) ≡ 20 * n
  contents_length = part_length 2 (entry_at n) (field 2 n) out (p ++ drop 2 out) count_laid (omega arith) ∙ omega arith

  module _ (q : List ℕ) (ws : List ℤ) (f : q ≡ each (entry_bytes n ws) n) where
    contents_laid : Filled (entry_at n) (field 2 n ++ q) out (with_part 2 (entry_at n) q (p ++ drop 2 out))
    contents_laid =
        fill_part 2 (entry_at n) (field 2 n) out (p ++ drop 2 out) count_laid q (omega (arith, ap length f, length_each (entry_bytes n ws) 20 (entry_length n ws) n))

    pub bodies_length : length (lent_part (entry_at n) (end_of n) (with_part 2 (entry_at n) q (p ++ drop 2 out))) ≡ 28 * n
    bodies_length =
        part_length (entry_at n) (end_of n) (field 2 n ++ q) out (with_part 2 (entry_at n) q (p ++ drop 2 out)) contents_laid h ∙ omega arith

    pub parts_laid : (r : List ℕ) → r ≡ each (body_bytes ws) n
        → with_part (entry_at n) (end_of n) r (with_part 2 (entry_at n) q (p ++ drop 2 out))
        ≡ field 2 n ++ each (entry_bytes n ws) n ++ each (body_bytes ws) n ++ drop (end_of n) out
    parts_laid r g =
        (fill_part (entry_at n) (end_of n) (field 2 n ++ q) out (with_part 2 (entry_at n) q (p ++ drop 2 out)) contents_laid r
        (omega (arith, ap length g, length_each (body_bytes ws) 28 (body_length ws) n))).is
        ∙ ap₂ (λ (x y : List ℕ). field 2 n ++ x ++ y ++ drop (end_of n) out) f g
