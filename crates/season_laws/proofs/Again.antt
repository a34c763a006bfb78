-- Demand 2: an accepted file read and written again is the same bytes. Assumes nothing.
use mathlib.Core.Path.{◌≡◌, refl, sym, ap, ap₂, ◌∙◌}
use mathlib.Core.Bool.{Bool, true, false}
use mathlib.Core.List.{List, ◌++◌}
use Prim.Native.Nat.{ℕ, ◌+◌, ◌*◌, ◌%◌, ◌≤◌, ◌<◌}
use native.Mathlib.Omega.{arith}
use lib.Dec.{leb}
use lib.IntN.{ℤ}
use lib.ListN.{length, take, drop}
use lib.Seq.{take-add, take_all, drop-drop}
use borrow.Author.Tests.{le-leb, eq-eqb, leb-true}
use Rattle.axis.specs.Meaning.{signed_of, bits_of, since}
use Rattle.axis.specs.Signed.{bits_signed}
use Rattle.axis.specs.Axis.{since_day}
use Rattle.octets.specs.Meaning.{field, part, has_room}
use Rattle.octets.specs.Field.{Bytes}
use Rattle.octets.specs.Parts.{part_lt, field_part}
use Rattle.scales.specs.Meaning.{given, gives, outcome, answer, written}
use Rattle.clock.specs.Meaning.{Cover}
use Rattle.sbt.specs.Meaning.{accepted}
use Rattle.sbt.specs.declared.Correlation.{Correlation}
use Rattle.season.specs.Meaning.{each, count_of, entry_at, cover_in, body_at, correlation_in, cover_of, rises, is_season, entry_words, entered, read, correlation_at, words_kept, is_written, is_writable, entry_bytes, body_bytes, file_of, write}
use Rattle.season_laws.specs.Meaning.{WrittenAgain}
use Rattle.season_laws.proofs.Contents.{rises_same, Kept, kept}
use Rattle.season_laws.proofs.Question.{Season, season}
use Rattle.season.specs.Each.{all_at, all_made, each_of}
use Rattle.season_laws.proofs.File.{many}
use Rattle.season_laws.proofs.Bodies.{words_from, words_many, words_whole, correlation_is, words_kept_lem}
use Rattle.season_laws.proofs.Written.{cover_at}
use Rattle.season_laws.proofs.Trips.{bodies_read}

-- the seven words of each correlation of a file
abbrev pub bodies_of : List ℕ → List ℤ
bodies_of s = words_from (correlation_in s) (count_of s)

-- ---- of an accepted file of bytes
module _ (s : List ℕ) (e : is_season s ≡ true) (b : Bytes s) where
  here : Season s
  here = season s e

  size : Kept s
  size = kept s (season s e).contents

  module _ (k : ℕ) (h : k < count_of s) where
    words_are : words_kept (bodies_of s) k ≡ true
    words_are = words_kept_lem (correlation_in s) (count_of s) k h (part_lt s (body_at (count_of s) k) 4 (omega (arith, size.size)) b)

    body_is : correlation_at (bodies_of s) k ≡ correlation_in s k
    body_is = correlation_is (correlation_in s) (count_of s) k h refl

    same_cover_lem : cover_at (bodies_of s) k ≡ cover_in s k
    same_cover_lem = ap cover_of body_is ∙ sym (here.covers k h)

  rises_is : (k : ℕ) → k < count_of s → rises (cover_at (bodies_of s)) k ≡ true
  rises_is k h = rises_same (cover_at (bodies_of s)) (cover_in s) (count_of s) same_cover_lem k h ∙ all_at (rises (cover_in s)) (count_of s) k size.covers h

  may_write : (k : ℕ) → k < many (bodies_of s) → is_written (bodies_of s) k ≡ true
  may_write k h =
      let n = words_many (correlation_in s) (count_of s) in
      let i : k < count_of s = omega arith in
      rw (words_are k i, ap accepted (body_is k i) ∙ here.accepts k i, rises_is k i)

  pub bodies_writable : is_writable (bodies_of s) ≡ true
  unfolding is_writable
  bodies_writable =
      let ws = bodies_of s in
      let n = words_many (correlation_in s) (count_of s) in
      rw (
        eq-eqb (length ws % 7) 0 (words_whole (correlation_in s) (count_of s)),
        le-leb (many ws) 512 (omega (arith, size.few)),
        all_made (is_written ws) (many ws) may_write,
      )

  -- ---- the bytes of its fields
  joined : (a x y : ℕ) → take x (drop a s) ++ take y (drop (a + x) s) ≡ take (x + y) (drop a s)
  joined a x y = ap (λ (t : List ℕ). take x (drop a s) ++ take y t) (sym (drop-drop x a s)) ∙ sym (take-add x y (drop a s))

  signed_field : (a : ℕ) → a + 8 ≤ length s → field 8 (bits_of (signed_of (part s a 8))) ≡ take 8 (drop a s)
  signed_field a h = ap (field 8) (bits_signed (part s a 8) (part_lt s a 8 h b)) ∙ field_part s a 8 h b

  module _ (k : ℕ) (h : k < count_of s) where
    entry_bytes_lem : entry_bytes (count_of s) (bodies_of s) k ≡ take 20 (drop (2 + 20 * k) s)
    entry_bytes_lem =
        let a = entry_at k in
        let l = size.size in
        ap₂ (λ (v : Cover) (p : ℕ). field 8 (bits_of v.from) ++ field 8 (bits_of v.to) ++ field 4 p) (same_cover_lem k h) (sym (size.positions k h))
        ∙ ap₂ ◌++◌ (ap₂ ◌++◌ (signed_field a (omega arith)) (signed_field (a + 8) (omega arith)) ∙ joined a 8 8) (field_part s (a + 16) 4 (omega arith) b)
        ∙ joined a 16 4

    body_bytes_lem : body_bytes (bodies_of s) k ≡ take 28 (drop (2 + 20 * count_of s + 28 * k) s)
    body_bytes_lem =
        let a = body_at (count_of s) k in
        let l = size.size in
        ap (λ (c : Correlation). field 4 c.tick.0 ++ field 8 (bits_of (since c.day c.micro)) ++ field 8 c.period ++ field 4 c.back ++ field 4 c.ahead) (body_is k h)
        ∙ ap₂ ◌++◌
        (ap₂ ◌++◌
        (ap₂ ◌++◌
        (ap₂ ◌++◌
        (field_part s a 4 (omega arith) b)
        (ap (λ (z : ℤ). field 8 (bits_of z)) (since_day (signed_of (part s (a + 4) 8))) ∙ signed_field (a + 4) (omega arith))
        ∙ joined a 4 8)
        (field_part s (a + 12) 8 (omega arith) b)
        ∙ joined a 12 8)
        (field_part s (a + 20) 4 (omega arith) b)
        ∙ joined a 20 4)
        (field_part s (a + 24) 4 (omega arith) b)
        ∙ joined a 24 4

  pub bodies_file : file_of (bodies_of s) ≡ s
  bodies_file =
      let n = count_of s in
      let ws = bodies_of s in
      ap (λ (m : ℕ). field 2 m ++ each (entry_bytes m ws) m ++ each (body_bytes ws) m) (words_many (correlation_in s) (count_of s))
      ∙ ap₂ ◌++◌
      (ap₂ ◌++◌ (field_part s 0 2 (omega (arith, size.size)) b) (each_of (entry_bytes n ws) s 2 20 n entry_bytes_lem) ∙ sym (take-add 2 (20 * n) s))
      (each_of (body_bytes ws) s (2 + 20 * n) 28 n body_bytes_lem)
      ∙ sym (take-add (2 + 20 * n) (28 * n) s)
      ∙ take_all (2 + 20 * n + 28 * n) s (omega (arith, size.size))

  pub written_again : (out : List ℕ) → length s ≤ length out → write (bodies_of s) out ≡ written out (answer s)
  unfolding write
  written_again out h =
      ap (λ (f : List ℕ). written out (outcome (given (is_writable (bodies_of s)) 14 (given (has_room f out) 13 (gives f))))) bodies_file
      ∙ rw (bodies_writable, le-leb (length s) (length out) h)

-- ---- "Read then written is the same bytes"
-- an answer of the reader has passed both tests
answered : (n : ℕ) (out words : List ℤ) (b r : Bool) → (entered n out (outcome (given b 14 (given r 13 (gives words))))).number ≡ 0 → (b ≡ true) × (r ≡ true)
answered n out words true true z = (refl, refl)
answered n out words true false z = absurd (omega arith)
answered n out words false r z = absurd (omega arith)

pub read_written : (s : List ℕ) (words : List ℤ) → WrittenAgain s words
unfolding read
read_written s words b z out h =
    let n = count_of s in
    let a = answered n words (each (entry_words s) n) (is_season s) (leb (9 * n) (length words)) z in
    ap (λ (ws : List ℤ). write ws out) (bodies_read s words a.0 (leb-true (9 * n) (length words) a.1)) ∙ written_again s a.0 b out h
