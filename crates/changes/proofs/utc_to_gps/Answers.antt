use Rattle.std.proofs.Common.{rules, ◌≡◌, ◌∙◌, Ok, Err}
use Rattle.scales.specs.Meaning.{slip_gps}
use Rattle.scales.specs.declared.Scale.TheVariants as S
use Rattle.leap.specs.Meaning.{accepted_or}
use Rattle.changes.specs.Meaning.{utc_to_gps}
use Rattle.changes.specs.Ways.{changed_on, changed_out, changed_lacks, changed_held}
use Rattle.changes.proofs.utc_to_gps.Goals as goal

pub returns-in_err-list : goal.returns-in_err-list
unfolding utc_to_gps
returns-in_err-list c =
    let h : accepted_or c.args.list.now ≡ Err c.in_err-list.field-0.0 = search rules in
    let f : slip_gps c.from_residual.result ≡ slip_gps (Err c.in_err-list.field-0.0) = search rules in
    f ∙ changed_lacks S.Utc S.Gps c.args.t.0 _ h

pub returns-in_err-from_utc : goal.returns-in_err-from_utc
unfolding utc_to_gps
returns-in_err-from_utc c =
    let h : accepted_or c.args.list.now ≡ Ok c.in_ok-list.list = search rules in
    let f : slip_gps c.from_residual-in_err-from_utc.result ≡ slip_gps (Err c.in_err-from_utc.field-0.0) = search rules in
    f ∙ changed_out S.Utc S.Gps c.args.t.0 _ _ h c.from_utc.ensures c.in_err-from_utc.was

pub to_gps-requires : goal.to_gps-requires
to_gps-requires c =
    let h : accepted_or c.args.list.now ≡ Ok c.in_ok-list.list = search rules in
    changed_held S.Utc S.Gps c.args.t.0 _ _ h c.from_utc.ensures c.in_ok-from_utc.was

pub returns : goal.returns
unfolding utc_to_gps
returns c =
    let h : accepted_or c.args.list.now ≡ Ok c.in_ok-list.list = search rules in
    changed_on S.Utc S.Gps c.args.t.0 _ _ h c.from_utc.ensures c.in_ok-from_utc.was c.to_gps.ensures
