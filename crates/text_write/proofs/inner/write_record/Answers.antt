use Rattle.std.proofs.Common.{◌≡◌, rules, true, false, ap, ◌∙◌, Ok, Err}
use Rattle.scales.specs.Meaning.{record_moment}
use Rattle.calendar.specs.Meaning.{date_slip, date_of_day}
use Rattle.text_fields.specs.declared.Stamp.{Stamp}
use Rattle.text_write.specs.Meaning.{full_text, has_image}
use Rattle.text_write.specs.Stage.{putting}
use Rattle.text_write.specs.Writes.{image_lacks, image_put, has_date, micro_under, date_fits}
use Rattle.text_write.proofs.inner.write_record.Goals as goal

pub returns-then-not-has_image : goal.returns-then-not-has_image
returns-then-not-has_image c =
    let r = c.args.r in
    let h : has_image c.args.form r.scale r.micro ≡ false = search rules in
    image_lacks c.args.form r.scale (record_moment r) c.args.out.now h

pub returns-in_err-date : goal.returns-in_err-date
returns-in_err-date c =
    let r = c.args.r in
    let f = c.in_err-date.field-0.0 in
    let q : date_slip (Err f) ≡ date_of_day r.day = search rules in
    absurd (has_date c.args.form r.scale (record_moment r) c.args.out.now c.requires f q)

pub put_text-requires : goal.put_text-requires
put_text-requires c =
    let r = c.args.r in
    let q : date_slip (Ok c.in_ok-date.date) ≡ date_of_day r.day = search rules in
    rw c.stamp_of.ensures (date_fits r.day c.in_ok-date.date q r.micro (micro_under r.scale r.day r.micro c.requires))

pub returns : goal.returns
returns c =
    let r = c.args.r in
    let h : has_image c.args.form r.scale r.micro ≡ true = search rules in
    let q : date_slip (Ok c.in_ok-date.date) ≡ date_of_day r.day = search rules in
    c.put_text.ensures
    ∙ ap (λ (t : Stamp). putting (full_text c.args.form r.scale t) c.args.out.now) c.stamp_of.ensures
    ∙ image_put c.args.form r.scale (record_moment r) c.args.out.now h c.in_ok-date.date q
