-- The ways out of the reader: one law for each. Assumes nothing.
use Rattle.std.specs.Prelude.{◌≡◌, Bool, true, false, ◌&&◌, List, ℕ, ◌*◌, ◌≤◌, ◌<◌, ℤ, length, None, Ok, Err}
use Rattle.std.proofs.Common.{refl, sym, ap, ◌∙◌, arith, le-leb}
use Rattle.std.proofs.lemmas.Bool.{lt-leb}
use Rattle.scales.specs.declared.Refusal.TheVariants as R
use Rattle.season.specs.Meaning.{count_of, is_sized, is_season, entry_words, read}
use Rattle.season.specs.Places.{count_in}
use Rattle.season.specs.Kept.{Fit}
use Rattle.season.specs.Each.{length_each}
use Rattle.season.specs.Asked.{no_fit}
use Rattle.season.specs.Bodies.{all_stand, filled, entered_by, season_is}

module _ (s : List ℕ) (out : List ℤ) where
  pub read_unsized : count_in s ≡ None → entered_by (Err R.SeasonBroken) out ≡ read s out
  unfolding read
  read_unsized q = rw (season_is s ∙ ap (λ (t : Bool). t && all_stand s (count_of s)) (no_fit (is_sized s) (count_of s) q))

  module _ (n : ℕ) (f : Fit s n) where
    season_by : (t : Bool) → all_stand s n ≡ t → is_season s ≡ t
    season_by t e = season_is s ∙ ap (λ (x : Bool). x && all_stand s (count_of s)) f.sized ∙ ap (all_stand s) (sym f.count) ∙ e

    pub read_broken : all_stand s n ≡ false → entered_by (Err R.SeasonBroken) out ≡ read s out
    unfolding read
    read_broken e = rw (season_by false e)

    module _ (e : all_stand s n ≡ true) where
      pub read_short : length out < 9 * n → entered_by (Err R.OutputShorter) out ≡ read s out
      unfolding read
      read_short h = rw (season_by true e, lt-leb (9 * count_of s) (length out) (omega (arith, f.count)))

      pub read_all : 9 * n ≤ length out → entered_by (Ok n) (filled s n out) ≡ read s out
      unfolding read
      read_all h =
          rw (f.count, season_by true e, le-leb (9 * count_of s) (length out) (omega (arith, f.count)))
          (rw (length_each (entry_words s) 9 (λ k. refl) (count_of s)))
