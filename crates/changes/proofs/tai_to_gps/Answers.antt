use Rattle.std.proofs.Common.{rules, ◌≡◌, ◌∙◌, Err}
use Rattle.scales.specs.Meaning.{slip_gps}
use Rattle.scales.specs.declared.Scale.TheVariants as S
use Rattle.via_tai.specs.Meaning.{to_gps}
use Rattle.via_tai.specs.Ways.{way_on, way_out}
use Rattle.changes.specs.Meaning.{tai_to_gps}
use Rattle.changes.proofs.tai_to_gps.Goals as goal

pub returns-in_err-from_tai : goal.returns-in_err-from_tai
unfolding tai_to_gps
returns-in_err-from_tai c =
    let f : slip_gps c.from_residual.result ≡ slip_gps (Err c.in_err-from_tai.field-0.0) = search rules in
    f ∙ way_out c.from_tai.ensures S.Gps to_gps c.in_err-from_tai.was

pub returns : goal.returns
unfolding tai_to_gps
returns c = way_on c.from_tai.ensures S.Gps to_gps c.in_ok-from_tai.was c.to_gps.ensures
