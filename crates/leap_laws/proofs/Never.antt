-- A TAI count that is not expired has its UTC in the span, or before it; from the first step on in the span, and so every GPS time: GPS to
-- UTC is never refused 11. Assumes nothing.
use mathlib.Core.Path.{◌≡◌, sym, ap, ◌∙◌}
use mathlib.Core.Bool.{true, false, false≢true}
use mathlib.Core.List.{List}
use Prim.Native.Nat.{ℕ, ◌+◌, ◌*◌, ◌<◌, ◌≤◌}
use native.Mathlib.Omega.{arith}
use lib.IntN.{ℤ, ◌+ℤ◌}
use lib.Signed.{lt_z}
use borrow.Author.Tests.{leb-false, lt-ltb}
use Rattle.axis.specs.Meaning.{place_of_day, micros_at, Moment, day_micros, since}
use Rattle.axis.specs.Axis.{since_at, micros_add, day_place, day_lt}
use Rattle.axis.specs.Diff.{Way, way, below, above}
use Rattle.scales.specs.Meaning.{first, in_span}
use Rattle.scales.specs.declared.Scale.TheVariants as S
use Rattle.scales.specs.Place.{span_in}
use Rattle.leap.specs.Meaning.{seconds, accepted, is_expired_tai, utc_of}
use Rattle.leap.specs.Steps.{Steps, steps}
use Rattle.leap.specs.Back.{forth, none_before}
use Rattle.leap.specs.Whole.{tai_at, before_known}
use Rattle.via_tai.specs.Ways.{expires}

module _ (ds : List ℤ) (os : List ℕ) (e : ℤ) (w : accepted ds os e ≡ true) where
  list : Steps ds os e
  list = steps ds os e w

  tai_known : (c : ℕ) → 29773 * day_micros + 10 * 1000000 ≤ c → is_expired_tai ds os e (micros_at c) ≡ false
      → let m = utc_of ds os (micros_at c) in in_span S.Utc m.day m.micro ≡ true
  tai_known c h p =
      let r = forth list.grown c h in
      let l = leb-false (tai_at ds os (place_of_day e + 1) 0) c (sym (expires ds os e w c) ∙ p) in
      let k = before_known ds os e w c r l in
      ap (λ (x : Moment). in_span S.Utc x.day x.micro) r.is
      ∙ span_in S.Utc r.place r.micro r.real.from (omega (arith, k, list.to)) r.real.under

  -- a count that is not expired is outside the span before it alone
  pub tai_early : (c : ℕ) → 10000000 ≤ c → is_expired_tai ds os e (micros_at c) ≡ false
      → let m = utc_of ds os (micros_at c) in in_span S.Utc m.day m.micro ≡ false → lt_z m.day (first S.Utc) ≡ true
  tai_early c f p h = go (way c (29773 * day_micros + 10 * 1000000))
    where
      go : Way c (29773 * day_micros + 10 * 1000000) → lt_z (utc_of ds os (micros_at c)).day (first S.Utc) ≡ true
      go (below x) =
          let b = none_before list.grown c f x in
          ap (λ (y : Moment). lt_z y.day (first S.Utc)) b.is ∙ day_lt b.place 29773 ∙ lt-ltb b.place 29773 b.early
      go (above x) = absurd (false≢true (sym h ∙ tai_known c x p))

  pub gps_known : (d : ℤ) (u : ℕ) → 32700 ≤ place_of_day d → place_of_day d < 100000 → is_expired_tai ds os e (since d u +ℤ seconds 19) ≡ false
      → let m = utc_of ds os (since d u +ℤ seconds 19) in in_span S.Utc m.day m.micro ≡ true
  gps_known d u h k p =
      let c = place_of_day d * day_micros + u + 19000000 in
      let q : since d u +ℤ seconds 19 ≡ micros_at c =
      ap (λ (x : ℤ). since x u +ℤ seconds 19) (sym (day_place d (omega arith) k)) ∙ ap (λ (z : ℤ). z +ℤ seconds 19) (since_at (place_of_day d) u) ∙ micros_add (place_of_day d * day_micros + u) 19000000 in
      ap (λ (z : ℤ). in_span S.Utc (utc_of ds os z).day (utc_of ds os z).micro) q
      ∙ tai_known c (omega arith) (ap (is_expired_tai ds os e) (sym q) ∙ p)
