-- The numbers that a change may refuse with stand in the order of the refusal slip, whatever is handed in; which they are, and when
-- each is due, stands in the crate `promises`. Assumes nothing.
use mathlib.Core.Path.{◌≡◌, refl}
use mathlib.Core.Bool.{Bool, true}
use mathlib.Core.List.{List, ◌∷◌}
use Prim.Native.Nat.{ℕ}
use lib.IntN.{ℤ}
use Rattle.axis.specs.Meaning.{Moment}
use Rattle.scales.specs.Meaning.{numbers, order, stands_in}
use Rattle.scales.specs.declared.Scale.{Scale}
use Rattle.scales.specs.declared.Scale.TheVariants as S
use Rattle.handed.specs.declared.Handed.{Handed}
use Rattle.handed.specs.Meaning.{scale_of, is_in_span, moment_in}
use Rattle.changes.specs.Meaning.{moving, changing}

-- a change stays in the order from 7 on
moves : (s to : Scale) (ds : List ℤ) (os : List ℕ) (e : ℤ) (spans : Bool) (m : Moment)
    → stands_in (4 ∷ 5 ∷ numbers (moving s to ds os e spans m)) order ≡ true
moves S.Tai S.Tai ds os e spans m = refl
moves S.Tai S.Utc ds os e spans m = refl
moves S.Tai S.Gps ds os e spans m = refl
moves S.Utc S.Tai ds os e spans m = refl
moves S.Utc S.Utc ds os e spans m = refl
moves S.Utc S.Gps ds os e spans m = refl
moves S.Gps S.Tai ds os e spans m = refl
moves S.Gps S.Utc ds os e spans m = refl
moves S.Gps S.Gps ds os e spans m = refl

pub any : (h : Handed) (to : Scale) (ds : List ℤ) (os : List ℕ) (e : ℤ) → stands_in (numbers (changing h to ds os e)) order ≡ true
any h to ds os e = moves (scale_of h) to ds os e (is_in_span h) (moment_in h)
