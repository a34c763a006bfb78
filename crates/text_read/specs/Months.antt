-- The month that three letters name, by the letters as one number. Assumes nothing.
use Rattle.std.specs.Prelude.{◌≡◌, Bool, ◌&&◌, ℕ, ◌<◌}
use Rattle.std.proofs.Math.Path.{refl, ap}
use Rattle.std.proofs.Common.{sym, ap₂, ◌∙◌, arith, eqb-true}
use Rattle.std.proofs.Math.Bool.{true, false}
use Rattle.std.proofs.Math.Dec.{eqb}
use Rattle.text_fields.specs.Meaning.{letter}
use Rattle.text_fields.specs.Names.{number_of, name_of, letter_small}
use Rattle.text_read.specs.Meaning.{is_named, month_named}

module _ (a b c : ℕ) where
  -- letters with the number of a month's name are its letters
  pub month_named_lem : (a < 256) × (b < 256) × (c < 256) → (m : ℕ) → month_named (letter m 0) (letter m 1) (letter m 2) ≡ m → number_of a b c ≡ name_of m → m ≡ month_named a b c
  month_named_lem w m e q =
      let r = same (letter m 0) (letter m 1) (letter m 2) (letter_small m 0) (letter_small m 1) (letter_small m 2) q in
      sym (ap (λ (n : ℕ). month_named n b c) r.0 ∙ ap₂ (λ (n l : ℕ). month_named (letter m 0) n l) r.1 r.2 ∙ e)
    where
      same : (x y z : ℕ) → x < 256 → y < 256 → z < 256 → number_of a b c ≡ number_of x y z → (a ≡ x) × (b ≡ y) × (c ≡ z)
      same x y z f g h q = (omega (arith, w.0, w.1, w.2, f, g, h, q), omega (arith, w.0, w.1, w.2, f, g, h, q), omega (arith, w.0, w.1, w.2, f, g, h, q))

  pub not_named : (m : ℕ) → (number_of a b c ≡ name_of m → ⊥) → is_named m a b c ≡ false
  unfolding is_named
  not_named m w = go (eqb a (letter m 0)) refl (eqb b (letter m 1)) refl (eqb c (letter m 2)) refl
    where
      go : (x : Bool) → eqb a (letter m 0) ≡ x → (y : Bool) → eqb b (letter m 1) ≡ y → (z : Bool) → eqb c (letter m 2) ≡ z → (x && (y && z)) ≡ false
      go false p y q z r = refl
      go true p false q z r = refl
      go true p true q false r = refl
      go true p true q true r =
          absurd
          (w (ap₂ (λ (n l : ℕ). number_of n l c) (eqb-true a (letter m 0) p) (eqb-true b (letter m 1) q) ∙ ap (number_of (letter m 0) (letter m 1)) (eqb-true c (letter m 2) r)))
