use Rattle.std.proofs.Common.{rules, ◌≡◌, ◌∙◌, Ok, Err}
use Rattle.scales.specs.Meaning.{slip_utc}
use Rattle.scales.specs.declared.Scale.TheVariants as S
use Rattle.leap.specs.Meaning.{accepted_or}
use Rattle.via_tai.specs.Ways.{far_on}
use Rattle.changes.specs.Meaning.{gps_to_utc}
use Rattle.changes.specs.Ways.{changed_on, changed_out, changed_lacks, changed_held}
use Rattle.changes.proofs.gps_to_utc.Goals as goal

pub returns-in_err-list : goal.returns-in_err-list
unfolding gps_to_utc
returns-in_err-list c =
    let h : accepted_or c.args.list.now ≡ Err c.in_err-list.field-0.0 = search rules in
    let f : slip_utc c.from_residual.result ≡ slip_utc (Err c.in_err-list.field-0.0) = search rules in
    f ∙ changed_lacks S.Gps S.Utc c.args.t.0 _ h

pub returns-in_err-from_gps : goal.returns-in_err-from_gps
unfolding gps_to_utc
returns-in_err-from_gps c =
    let h : accepted_or c.args.list.now ≡ Ok c.in_ok-list.list = search rules in
    let f : slip_utc c.from_residual-in_err-from_gps.result ≡ slip_utc (Err c.in_err-from_gps.field-0.0) = search rules in
    f ∙ changed_out S.Gps S.Utc c.args.t.0 _ _ h c.from_gps.ensures c.in_err-from_gps.was

pub to_utc-requires : goal.to_utc-requires
to_utc-requires c =
    let h : accepted_or c.args.list.now ≡ Ok c.in_ok-list.list = search rules in
    far_on (changed_held S.Gps S.Utc c.args.t.0 _ _ h c.from_gps.ensures c.in_ok-from_gps.was)

pub returns : goal.returns
unfolding gps_to_utc
returns c =
    let h : accepted_or c.args.list.now ≡ Ok c.in_ok-list.list = search rules in
    changed_on S.Gps S.Utc c.args.t.0 _ _ h c.from_gps.ensures c.in_ok-from_gps.was c.to_utc.ensures
