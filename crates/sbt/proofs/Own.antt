-- A scale that `==` finds to be another than UTC. Assumes nothing.
use Rattle.std.proofs.Common.{◌≡◌, refl, sym, false}
use Rattle.std.proofs.lemmas.Bool.{false≢true}
use denote.Enum.Bare.{sameb}
use Rattle.scales.specs.contracts.Scale.{the_type}
use Rattle.scales.specs.declared.Scale.{Scale}
use Rattle.scales.specs.declared.Scale.TheVariants as S
use Rattle.via_tai.specs.Meaning.{is_utc}

pub not_utc : (s : Scale) → sameb the_type s S.Utc ≡ false → is_utc s ≡ false
not_utc S.Tai e = refl
not_utc S.Utc e = absurd (false≢true (sym e))
not_utc S.Gps e = refl
