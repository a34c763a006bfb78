-- The lists that examples are computed under. That a list is accepted is cited, and not computed again. Assumes nothing.
use mathlib.Core.Path.{◌≡◌, refl}
use mathlib.Core.Bool.{false}
use mathlib.Core.List.{List, []}
use Prim.Native.Nat.{ℕ}
use lib.IntN.{ℤ, pos}
use Rattle.leap.specs.Meaning.{accepted, published_days, published_offsets, published_last}
use Rattle.leap_laws.proofs.Computed.{earlier_days, earlier_offsets, even_days, even_offsets, even_last}

-- ---- what takes a list, at one
abbrev pub with_published : {A : Type 0} → (List ℤ → List ℕ → ℤ → A) → A
with_published f = f published_days published_offsets published_last

-- the published steps to the day e, and without their last
abbrev pub published_to : {A : Type 0} → ℤ → (List ℤ → List ℕ → ℤ → A) → A
published_to e f = f published_days published_offsets e

abbrev pub earlier_to : {A : Type 0} → ℤ → (List ℤ → List ℕ → ℤ → A) → A
earlier_to e f = f earlier_days earlier_offsets e

-- every day of 86,400 s
abbrev pub with_even : {A : Type 0} → (List ℤ → List ℕ → ℤ → A) → A
with_even f = f even_days even_offsets even_last

-- no steps at all, which is no list
abbrev pub with_none : {A : Type 0} → (List ℤ → List ℕ → ℤ → A) → A
with_none f = f [] [] (pos 0)

pub none : accepted [] [] (pos 0) ≡ false
unfolding accepted
none = refl
