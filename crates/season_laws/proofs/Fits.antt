-- What an accepted TAI correlation holds fits the fields of the file. Assumes nothing.
use mathlib.Core.Path.{◌≡◌, sym, subst}
use mathlib.Core.Bool.{true}
use Prim.Native.Nat.{ℕ, ◌<◌}
use native.Mathlib.Omega.{arith}
use lib.Dec.{lit≤}
use lib.IntN.{ℤ}
use lib.Signed.{mag}
use Rattle.axis.specs.Meaning.{micros_at, since}
use Rattle.axis.specs.Diff.{sub_mag}
use Rattle.scales.specs.declared.Scale.TheVariants as S
use Rattle.clock.specs.Meaning.{Cover}
use Rattle.clock.specs.Stage.{spot, since_place}
use Rattle.sbt.specs.Meaning.{accepted}
use Rattle.sbt.specs.Accepted.{sound}
use Rattle.sbt.specs.declared.Correlation.{Correlation}
use Rattle.season.specs.Meaning.{cover_of}
use Rattle.season.specs.Covers.{ends_of, cover_tai, spot_few, from_few, to_few}

-- a signed number of 64 bits
abbrev pub Small : ℤ → Type 0
Small z = mag z < 9223372036854775808

place_small : (p : ℕ) → p < 8640000000000000 → Small (micros_at p)
place_small p h = sub_mag p 3456000000000000 9223372036854775808 (omega arith) (lit≤ tt)

module _ (c : Correlation) (e : accepted c ≡ true) where
  pub cover_small : c.scale ≡ S.Tai → Small (cover_of c).from × Small (cover_of c).to
  cover_small t =
      let p = cover_tai c e t in (
        subst (λ (v : Cover). Small v.from) (sym p) (place_small (ends_of c).from (from_few c e)),
        subst (λ (v : Cover). Small v.to) (sym p) (place_small (ends_of c).to (to_few c e)),
      )

  pub reference_small : Small (since c.day c.micro)
  reference_small =
      subst Small (sym (since_place c.day c.micro (sound c e).day)) (place_small (spot c.day c.micro) (omega (arith, spot_few c e)))
