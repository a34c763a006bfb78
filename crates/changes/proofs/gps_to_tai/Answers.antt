use Rattle.std.proofs.Common.{rules, ◌≡◌, ◌∙◌, Err}
use Rattle.scales.specs.Meaning.{slip_tai}
use Rattle.scales.specs.declared.Scale.TheVariants as S
use Rattle.via_tai.specs.Meaning.{to_tai}
use Rattle.via_tai.specs.Ways.{way_on, way_out}
use Rattle.changes.specs.Meaning.{gps_to_tai}
use Rattle.changes.proofs.gps_to_tai.Goals as goal

pub returns-in_err-from_gps : goal.returns-in_err-from_gps
unfolding gps_to_tai
returns-in_err-from_gps c =
    let f : slip_tai c.from_residual.result ≡ slip_tai (Err c.in_err-from_gps.field-0.0) = search rules in
    f ∙ way_out c.from_gps.ensures S.Tai to_tai c.in_err-from_gps.was

pub returns : goal.returns
unfolding gps_to_tai
returns c = way_on c.from_gps.ensures S.Tai to_tai c.in_ok-from_gps.was c.to_tai.ensures
