-- The words of correlations, one after another, stand for those correlations. Assumes nothing.
use mathlib.Core.Path.{◌≡◌, refl, sym, ap, ◌∙◌}
use mathlib.Core.Bool.{true}
use mathlib.Core.List.{List}
use Prim.Native.Nat.{ℕ, ◌+◌, ◌*◌, ◌%◌, ◌<◌}
use native.Mathlib.Omega.{arith}
use lib.IntN.{ℤ, pos, nat_abs}
use lib.ListN.{length, get_or}
use lib.Signed.{le_z}
use borrow.Author.Tests.{le-leb, lt-ltb}
use Rattle.scales.specs.declared.Scale.TheVariants as S
use Rattle.sbt.specs.declared.Correlation.{Correlation}
use Rattle.season.specs.Meaning.{each, words_of, word_in, correlation_at, words_kept}
use Rattle.season.specs.Each.{length_each, at_each}
use Rattle.season_laws.proofs.File.{many}

-- seven words each
abbrev pub words_from : (ℕ → Correlation) → ℕ → List ℤ
words_from c n = each (λ k. words_of (c k)) n

module _ (c : ℕ → Correlation) (n : ℕ) where
  words_length : length (words_from c n) ≡ 7 * n
  words_length = length_each (λ k. words_of (c k)) 7 (λ k. refl) n

  pub words_many : many (words_from c n) ≡ n
  words_many = omega (arith, words_length)

  pub words_whole : length (words_from c n) % 7 ≡ 0
  words_whole = omega (arith, words_length)

  module _ (k : ℕ) (h : k < n) where
    word_is : (i a : ℕ) → i < 7 → a ≡ 7 * k + i → word_in (words_from c n) a ≡ get_or (words_of (c k)) i (pos 0)
    word_is i a l e = at_each (λ j. words_of (c j)) 7 (λ j. refl) n k i a (pos 0) h l e

    pub correlation_is : (c k).scale ≡ S.Tai → correlation_at (words_from c n) k ≡ c k
    correlation_is t =
        let tick = word_is 0 (7 * k) (omega arith) (omega arith) in
        let day = word_is 2 (7 * k + 2) (omega arith) (omega arith) in
        let micro = word_is 3 (7 * k + 3) (omega arith) (omega arith) in
        let period = word_is 4 (7 * k + 4) (omega arith) (omega arith) in
        let back = word_is 5 (7 * k + 5) (omega arith) (omega arith) in
        let ahead = word_is 6 (7 * k + 6) (omega arith) (omega arith) in
        λ i. record {
          tick = record { 0 = nat_abs (tick i) };
          scale = sym t i;
          day = day i;
          micro = nat_abs (micro i);
          period = nat_abs (period i);
          back = nat_abs (back i);
          ahead = nat_abs (ahead i);
        }

    not_negative : (i x : ℕ) → word_in (words_from c n) (7 * k + i) ≡ pos x → le_z (pos 0) (word_in (words_from c n) (7 * k + i)) ≡ true
    not_negative i x e = ap (le_z (pos 0)) e ∙ le-leb 0 x (omega arith)

    pub words_kept_lem : (c k).tick.0 < 4294967296 → words_kept (words_from c n) k ≡ true
    words_kept_lem small =
        rw (
          word_is 0 (7 * k) (omega arith) (omega arith),
          word_is 1 (7 * k + 1) (omega arith) (omega arith),
          lt-ltb (c k).tick.0 4294967296 small,
          le-leb 0 (c k).tick.0 (omega arith),
          not_negative 3 (c k).micro (word_is 3 (7 * k + 3) (omega arith) (omega arith)),
          not_negative 4 (c k).period (word_is 4 (7 * k + 4) (omega arith) (omega arith)),
          not_negative 5 (c k).back (word_is 5 (7 * k + 5) (omega arith) (omega arith)),
          not_negative 6 (c k).ahead (word_is 6 (7 * k + 6) (omega arith) (omega arith)),
        )
