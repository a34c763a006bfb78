use Rattle.std.proofs.Common.{rules, ◌≡◌, ◌∙◌, Ok, Err}
use Rattle.scales.specs.Meaning.{slip_utc}
use Rattle.scales.specs.declared.Scale.TheVariants as S
use Rattle.leap.specs.Meaning.{accepted_or}
use Rattle.via_tai.specs.Ways.{far_on}
use Rattle.changes.specs.Meaning.{tai_to_utc}
use Rattle.changes.specs.Ways.{changed_on, changed_out, changed_lacks, changed_held}
use Rattle.changes.proofs.tai_to_utc.Goals as goal

pub returns-in_err-list : goal.returns-in_err-list
unfolding tai_to_utc
returns-in_err-list c =
    let h : accepted_or c.args.list.now ≡ Err c.in_err-list.field-0.0 = search rules in
    let f : slip_utc c.from_residual.result ≡ slip_utc (Err c.in_err-list.field-0.0) = search rules in
    f ∙ changed_lacks S.Tai S.Utc c.args.t.0 _ h

pub returns-in_err-from_tai : goal.returns-in_err-from_tai
unfolding tai_to_utc
returns-in_err-from_tai c =
    let h : accepted_or c.args.list.now ≡ Ok c.in_ok-list.list = search rules in
    let f : slip_utc c.from_residual-in_err-from_tai.result ≡ slip_utc (Err c.in_err-from_tai.field-0.0) = search rules in
    f ∙ changed_out S.Tai S.Utc c.args.t.0 _ _ h c.from_tai.ensures c.in_err-from_tai.was

pub to_utc-requires : goal.to_utc-requires
to_utc-requires c =
    let h : accepted_or c.args.list.now ≡ Ok c.in_ok-list.list = search rules in
    far_on (changed_held S.Tai S.Utc c.args.t.0 _ _ h c.from_tai.ensures c.in_ok-from_tai.was)

pub returns : goal.returns
unfolding tai_to_utc
returns c =
    let h : accepted_or c.args.list.now ≡ Ok c.in_ok-list.list = search rules in
    changed_on S.Tai S.Utc c.args.t.0 _ _ h c.from_tai.ensures c.in_ok-from_tai.was c.to_utc.ensures
