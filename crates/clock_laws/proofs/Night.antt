-- The night of the letter, in general: no receipt outside the cover is dated, and no wrap of a counter is ever mistaken; instants are TAI
-- under a UTC correlation. Assumes nothing.
use mathlib.Core.Path.{◌≡◌, sym, ap, ◌∙◌}
use mathlib.Core.Bool.{Bool, true, false, not}
use mathlib.Core.List.{List}
use Prim.Native.Nat.{ℕ, ◌*◌, ◌%◌}
use lib.IntN.{ℤ}
use lib.Signed.{lt_z, le_z}
use Rattle.axis.specs.Diff.{le_not}
use Rattle.axis.specs.Meaning.{Moment}
use Rattle.scales.specs.Meaning.{in_span, refused, answer, outcome}
use Rattle.scales.specs.Place.{and_false}
use Rattle.clock.specs.Meaning.{Clock, instant, list_serves, elapsed, time, in_window, cover, within, covers, both_known, dating, count_at}
use Rattle.clock.specs.Places.{Based}
use Rattle.clock_laws.proofs.Answers.{dates, exact, window_elapsed}

module _ (accepted : Bool) (c : Clock) (d : ℤ) (u : ℕ) (ds : List ℤ) (os : List ℕ) (e : ℤ)
    (l : list_serves c.scale ds os e ≡ true) (a : accepted ≡ true) (r : in_span c.scale d u ≡ true) where
  -- ---- a count outside the window: refused 8 at once, though the reference or the receipt be expired or its second lacking
  pub outside_window : (t : ℕ) → in_window c (elapsed c t) ≡ false → outcome (dating accepted c t d u ds os e) ≡ refused 8
  outside_window t f = rw (l, a, r, f)

  -- ---- a receipt outside the cover, it and the reference known: refused 8, whatever the count
  module _ (k : both_known c d u ds e ≡ true) where
    abbrev z : ℤ
    z = instant c.scale ds os d u

    outside : covers c z ≡ false → (t : ℕ) → outcome (dating accepted c t d u ds os e) ≡ refused 8
    outside f t = rw (l, a, r, k, f, and_false (in_window c (elapsed c t)))

    pub received_before : lt_z (instant c.scale ds os d u) (cover c).from ≡ true → (t : ℕ) → outcome (dating accepted c t d u ds os e) ≡ refused 8
    unfolding within
    received_before f = outside (rw (le_not (cover c).from z ∙ ap not f))

    pub received_after : lt_z (cover c).to (instant c.scale ds os d u) ≡ true → (t : ℕ) → outcome (dating accepted c t d u ds os e) ≡ refused 8
    unfolding within
    received_after f = outside (rw (le_not z (cover c).to ∙ ap not f) (and_false (le_z (cover c).from z)))

-- ---- an answer is time(k), for every count k of the window with count = reference + k modulo 2 * half
pub no_wrap : (accepted : Bool) (c : Clock) (r : ℕ) (based : accepted ≡ true → Based c r) (t : ℕ) (d : ℤ) (u : ℕ)
    (ds : List ℤ) (os : List ℕ) (e : ℤ) (m : Moment) → outcome (dating accepted c t d u ds os e) ≡ answer m →
    (k : ℤ) → count_at c k ≡ t % (2 * c.half) → in_window c k ≡ true → instant c.scale ds os m.day m.micro ≡ time c k
no_wrap accepted c r based t d u ds os e m g k f w =
    exact accepted c r based t d u ds os e m g
    ∙ ap (time c) (sym (window_elapsed c (based (dates accepted c t d u ds os e m g).accepts).runs t k w f))
