-- Demand 2, of the functions themselves: what is written reads back as the words that were handed in, with their covers. Assumes nothing.
use mathlib.Core.Path.{◌≡◌, refl, sym, ap, ap₂, ◌∙◌}
use mathlib.Core.Bool.{Bool, true, false}
use mathlib.Core.List.{List, [], ◌∷◌, ◌++◌}
use Prim.Native.Nat.{ℕ, ◌+◌, ◌*◌, ◌/◌, ◌≤◌, ◌<◌}
use native.Mathlib.Omega.{arith}
use lib.IntN.{ℤ, pos, nat_abs}
use lib.ListN.{length, take, drop}
use lib.Seq.{take_all, take-append_seam}
use lib.Signed.{le_z, lt_z}
use borrow.Author.Tests.{le-leb}
use Rattle.octets.specs.Meaning.{has_room}
use Rattle.scales.specs.Meaning.{given, gives, outcome, written}
use Rattle.scales.specs.Place.{and_both}
use Rattle.clock.specs.Meaning.{Cover}
use Rattle.season.specs.Meaning.{each, count_of, correlation_in, is_season, words_of, entry_words, Entered, read, word_in, field_in, correlation_at, is_writable, file_of, write}
use Rattle.season_laws.specs.Meaning.{entries_of, ReadBack, bodies_in, SameWords}
use Rattle.season.specs.Taking.{Kept, under}
use Rattle.season.specs.Each.{length_each, in_each, each_of, each_same, take_next}
use Rattle.season_laws.proofs.File.{many}
use Rattle.season_laws.proofs.Bodies.{words_from}
use Rattle.season_laws.proofs.Written.{unsigned, may, written_read}

-- ---- what an accepted file reads as, where there is room
pub read_is : (s : List ℕ) (out : List ℤ) → is_season s ≡ true → 9 * count_of s ≤ length out →
    read s out ≡ record { number = 0; count = count_of s; lent = each (entry_words s) (count_of s) ++ drop (9 * count_of s) out }
unfolding read
read_is s out e h = rw (e, le-leb (9 * count_of s) (length out) h, length_each (entry_words s) 9 (λ k. refl) (count_of s))

-- ---- the seven words of a correlation are those that were handed in
no_scale : (z : ℤ) → field_in 1 z ≡ true → pos 0 ≡ z
no_scale z e =
    let n : nat_abs z ≡ 0 = omega (arith, under 1 z e) in
    ap pos (sym n) ∙ unsigned z (and_both (le_z (pos 0) z) (lt_z z (pos 1)) e).0

seven : (ws : List ℤ) (a : ℕ) → a + 7 ≤ length ws →
    take 7 (drop a ws)
    ≡ word_in ws a ∷ word_in ws (a + 1) ∷ word_in ws (a + 2) ∷ word_in ws (a + 3) ∷ word_in ws (a + 4) ∷ word_in ws (a + 5) ∷ word_in ws (a + 6) ∷ []
seven ws a h =
    let o = pos 0 in
    take_next ws a (a + 1) 6 o (omega arith) (omega arith)
    ∙ ap (λ (l : List ℤ). word_in ws a ∷ l)
    (take_next ws (a + 1) (a + 2) 5 o (omega arith) (omega arith)
    ∙ ap (λ (l : List ℤ). word_in ws (a + 1) ∷ l)
    (take_next ws (a + 2) (a + 3) 4 o (omega arith) (omega arith)
    ∙ ap (λ (l : List ℤ). word_in ws (a + 2) ∷ l)
    (take_next ws (a + 3) (a + 4) 3 o (omega arith) (omega arith)
    ∙ ap (λ (l : List ℤ). word_in ws (a + 3) ∷ l)
    (take_next ws (a + 4) (a + 5) 2 o (omega arith) (omega arith)
    ∙ ap (λ (l : List ℤ). word_in ws (a + 4) ∷ l)
    (take_next ws (a + 5) (a + 6) 1 o (omega arith) (omega arith)
    ∙ ap (λ (l : List ℤ). word_in ws (a + 5) ∷ l)
    (take_next ws (a + 6) (a + 7) 0 o (omega arith) (omega arith)))))))

words_back : (ws : List ℤ) (k : ℕ) → k < many ws → Kept ws k → words_of (correlation_at ws k) ≡ take 7 (drop (7 * k) ws)
words_back ws k h w =
    let a = 7 * k in
    rw (
      unsigned (word_in ws a) (and_both (le_z (pos 0) (word_in ws a)) (lt_z (word_in ws a) (pos 4294967296)) w.tick).0,
      unsigned (word_in ws (a + 3)) w.micro,
      unsigned (word_in ws (a + 4)) w.period,
      unsigned (word_in ws (a + 5)) w.back,
      unsigned (word_in ws (a + 6)) w.ahead,
    )
    (ap (λ (z : ℤ). word_in ws a ∷ z ∷ word_in ws (a + 2) ∷ word_in ws (a + 3) ∷ word_in ws (a + 4) ∷ word_in ws (a + 5) ∷ word_in ws (a + 6) ∷ [])
    (no_scale (word_in ws (a + 1)) w.code)
    ∙ sym (seven ws a (omega arith)))

-- ---- written, then read
module _ (ws : List ℤ) (e : is_writable ws ≡ true) where
  pub words_are : (k : ℕ) → k < many ws → words_of (correlation_in (file_of ws) k) ≡ take 7 (drop (7 * k) ws)
  words_are k h = ap words_of ((written_read ws e).correlations k h) ∙ words_back ws k h ((may ws e).each_one.words_kept_lem k h)

  entries_are : each (entry_words (file_of ws)) (count_of (file_of ws)) ≡ entries_of ws
  entries_are =
      let t = written_read ws e in
      ap (each (entry_words (file_of ws))) t.count
      ∙ each_same (entry_words (file_of ws)) _ (many ws)
      (λ k h. ap₂ (λ (v : Cover) (l : List ℤ). v.from ∷ v.to ∷ l) (t.covers k h) (words_are k h))

  pub file_read : (words : List ℤ) → 9 * (length ws / 7) ≤ length words →
      read (file_of ws) words ≡ record { number = 0; count = length ws / 7; lent = entries_of ws ++ drop (9 * (length ws / 7)) words }
  file_read words h =
      let t = written_read ws e in
      let n = t.count in
      read_is (file_of ws) words t.season (omega arith)
      ∙ ap₂ {C = Entered} (λ (m : ℕ) (l : List ℤ). record { number = 0; count = m; lent = l ++ drop (9 * m) words }) n entries_are

-- an answer of the writer is the file on the front of the slice
answered : (out f : List ℕ) (b r : Bool) → let w = written out (outcome (given b 14 (given r 13 (gives f)))) in
    w.number ≡ 0 → (b ≡ true) × (take w.length w.lent ≡ f)
answered out f true true z = (refl, take-append_seam f (drop (length f) out))
answered out f true false z = absurd (omega arith)
answered out f false r z = absurd (omega arith)

pub read_back : (ws : List ℤ) (out : List ℕ) → ReadBack ws out
unfolding write
read_back ws out z words h =
    let a = answered out (file_of ws) (is_writable ws) (has_room (file_of ws) out) z in
    ap (λ (s : List ℕ). read s words) a.1 ∙ file_read ws a.0 words h

-- ---- read: the words of the entries without first and last
pub bodies_read : (s : List ℕ) (words : List ℤ) → is_season s ≡ true → 9 * count_of s ≤ length words → bodies_in (read s words) ≡ words_from (correlation_in s) (count_of s)
bodies_read s words e h =
    let n = count_of s in
    let rest = drop (9 * n) words in
    ap bodies_in (read_is s words e h)
    ∙ each_same _ _ n (λ k i. in_each (entry_words s) 9 (λ j. refl) n k 2 7 rest i (omega arith))

pub same_words : (ws : List ℤ) (out : List ℕ) → SameWords ws out
unfolding write
same_words ws out z words h =
    let s = file_of ws in
    let a = answered out s (is_writable ws) (has_room s out) z in
    let t = written_read ws a.0 in
    let n = t.count in
    let whole = (may ws a.0).whole in
    ap (λ (r : List ℕ). bodies_in (read r words)) a.1
    ∙ bodies_read s words t.season (omega arith)
    ∙ ap (words_from (correlation_in s)) n
    ∙ each_of (λ k. words_of (correlation_in s k)) ws 0 7 (many ws) (λ k i. words_are ws a.0 k i ∙ at_zero_lem k)
    ∙ take_all (7 * many ws) ws (omega arith)
  where
    at_zero_lem : (k : ℕ) → take 7 (drop (7 * k) ws) ≡ take 7 (drop (0 + 7 * k) ws)
    at_zero_lem k = let e : 7 * k ≡ 0 + 7 * k = omega arith in ap (λ (x : ℕ). take 7 (drop x ws)) e
