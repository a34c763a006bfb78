-- The order of 12, 9 and 8 on the way back in effect, and the law of the clock at a start that is no whole number. Assumes nothing.
use mathlib.Core.Path.{◌≡◌, refl}
use mathlib.Core.Bool.{Bool, true, false}
use mathlib.Core.List.{List}
use Prim.Native.Nat.{ℕ}
use lib.Dec.{lit<, lit≤}
use lib.IntN.{ℤ, pos, negsuc, ◌+ℤ◌}
use lib.Signed.{le_z}
use Rattle.scales.specs.Meaning.{Judged, given, gives, outcome}
use Rattle.handed.specs.declared.Handed.{Handed}
use Rattle.handed.specs.Meaning.{is_finite, is_in_span, day_of, micro_of}
use Rattle.clock.specs.Meaning.{Clock, list_serves, is_current, has_second, clock, covers, last_count, count_at, instant_of, has_image, turning}
use Rattle.clock.specs.Clock.{last_of, last_of_clock, last_early, last_close}

-- ---- what is judged in effect: 12 as soon as the reference's 9 is, and 8 last of all, since it is judged only of what has an image and is
-- known
abbrev pub image_first : Bool → Clock → Handed → List ℤ → List ℕ → ℤ → Judged ℕ
image_first accepted c h ds os e =
    given (is_finite h) 4
    (given (list_serves c.scale ds os e) 5
    (given accepted 6
    (given (is_in_span h) 7
    (given (is_current c.scale e c.day) 9
    (given (has_image c.scale h) 12
    (given (is_current c.scale e (day_of h)) 9
    (given (has_second c.scale ds (day_of h) (micro_of h)) 10
    (given (covers c (instant_of c.scale ds os h)) 8
    (gives (count_at c (last_count c (instant_of c.scale ds os h))))))))))))

pub image_first_lem : (accepted : Bool) (c : Clock) (h : Handed) (ds : List ℤ) (os : List ℕ) (e : ℤ) →
    outcome (turning accepted c h ds os e) ≡ outcome (image_first accepted c h ds os e)
image_first_lem accepted c h ds os e =
    go (is_current c.scale e c.day) refl (has_image c.scale h) refl (is_current c.scale e (day_of h)) refl
    (has_second c.scale ds (day_of h) (micro_of h)) refl
  where
    go : (r : Bool) → is_current c.scale e c.day ≡ r → (i : Bool) → has_image c.scale h ≡ i →
        (k : Bool) → is_current c.scale e (day_of h) ≡ k → (n : Bool) → has_second c.scale ds (day_of h) (micro_of h) ≡ n →
        outcome (turning accepted c h ds os e) ≡ outcome (image_first accepted c h ds os e)
    go false f true g k y n z = rw (f, g)
    go false f false g k y n z = rw (f, g)
    go true f false g k y n z = rw (f, g)
    go true f true g false y n z = rw (f, g, y)
    go true f true g true y false z = rw (f, g, y, z)
    go true f true g true y true z = rw (f, g, y, z)

-- ---- the law of the clock where the start is a fraction before day 0 and the gain no whole number: a count comes back, and the
-- last count of a time is never late, nor early by 16
pub fraction : last_of (negsuc 6) 999000001 65536000 (clock (negsuc 6) 999000001 65536000 (negsuc 4)) ≡ negsuc 4
fraction = last_of_clock (negsuc 6) 999000001 65536000 (lit< tt) (lit≤ tt) (negsuc 4)

pub fraction_last :
    (le_z (clock (negsuc 6) 999000001 65536000 (last_of (negsuc 6) 999000001 65536000 (negsuc 99))) (negsuc 99) ≡ true)
    × (le_z (negsuc 99) (clock (negsuc 6) 999000001 65536000 (last_of (negsuc 6) 999000001 65536000 (negsuc 99)) +ℤ pos 15) ≡ true)
fraction_last = (
  last_early (negsuc 6) 999000001 65536000 (lit< tt) (lit≤ tt) (negsuc 99),
  last_close (negsuc 6) 999000001 65536000 (lit< tt) (lit≤ tt) 15 (lit≤ tt) (negsuc 99),
)
