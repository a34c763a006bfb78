-- A UTC count is known by its day and its microsecond. Assumes nothing.
use Rattle.std.specs.Prelude.{◌≡◌}
use Rattle.scales.specs.Place.{count_inj}
use Rattle.scales.specs.declared.Scale.TheVariants as S
use Rattle.scales.specs.declared.Utc.{Utc}
use Rattle.leap.specs.Meaning.{utc_moment}

pub same_utc_moment : (a b : Utc) → utc_moment a ≡ utc_moment b → a ≡ b
same_utc_moment a b e = let q : a.0 ≡ b.0 = count_inj S.Utc a.0 b.0 e in λ i. record { 0 = q i }
