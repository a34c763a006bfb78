use Rattle.std.proofs.Common.{◌≡◌, rules, true, false, arith, Ok, Err}
use Rattle.scales.specs.Meaning.{record_of}
use Rattle.scales.specs.declared.Refusal.TheVariants as R
use Rattle.calendar.specs.Meaning.{day_slip, day_of_date}
use Rattle.text_read.specs.Meaning.{has_marks, stamp_in, in_limits, stamp_micro}
use Rattle.text_read.specs.Digits.{has_digits, stamp_micro_lem}
use Rattle.text_read.specs.Parse.{limited, body_marks, body_digits, body_limits, body_date, body_outside, body_at}
use Rattle.text_read.proofs.inner.parse_body.Goals as goal
use Rattle.text_read.proofs.inner.parse_body.Goals.{then-not-has_marks-via-then-not-has_marks, then-not-has_marks-via-else-not-has_marks+then-not-has_digits}

pub returns-then-not-has_marks : goal.returns-then-not-has_marks
returns-then-not-has_marks c =
    let s = c.args.s.now in
    elim c.then-not-has_marks.branch [
      | then-not-has_marks-via-then-not-has_marks w ↦ body_marks c.args.z s (search rules)
      | then-not-has_marks-via-else-not-has_marks+then-not-has_digits w ↦ body_digits c.args.z s (search rules)
    ]

pub in_limits-requires : goal.in_limits-requires
in_limits-requires c =
    let s = c.args.s.now in
    let h : has_digits s ≡ true = search rules in
    rw c.stamp_in-t.ensures (stamp_micro_lem s h)

pub returns-then-not-in_limits : goal.returns-then-not-in_limits
returns-then-not-in_limits c =
    let s = c.args.s.now in
    let e = c.stamp_in-t.ensures in
    let l : in_limits c.args.z (stamp_in s) ≡ false = search rules in
    body_limits c.args.z s l

pub micro_of-requires : goal.micro_of-requires
micro_of-requires c =
    let s = c.args.s.now in
    let l : in_limits c.args.z (stamp_in s) ≡ true = search rules in
    let k = limited c.args.z (stamp_in s) l in
    rw c.stamp_in-t.ensures (omega arith, omega arith, omega arith, k.micro)

pub returns-in-Ok : goal.returns-in-Ok
returns-in-Ok c =
    let s = c.args.s.now in
    let m : has_marks s ≡ true = search rules in
    let l : in_limits c.args.z (stamp_in s) ≡ true = search rules in
    let q : day_slip (Ok c.in-Ok.day) ≡ day_of_date (stamp_in s).date = search rules in
    let n : c.new.result ≡ record_of c.args.z c.in-Ok.day (stamp_micro (stamp_in s)) = search rules in
    rw n (body_at c.args.z s m l c.in-Ok.day q)

pub returns-in-Err-FieldOver : goal.returns-in-Err-FieldOver
returns-in-Err-FieldOver c =
    let s = c.args.s.now in
    let e = c.in-Err-FieldOver.field-0-is in
    let q : day_slip (Err R.FieldOver) ≡ day_of_date (stamp_in s).date = search rules in
    body_date c.args.z s q

pub returns-in-Err : goal.returns-in-Err
returns-in-Err c =
    let s = c.args.s.now in
    let m : has_marks s ≡ true = search rules in
    let l : in_limits c.args.z (stamp_in s) ≡ true = search rules in
    let q : day_slip (Err c.in-Err.field-0) ≡ day_of_date (stamp_in s).date = search rules in
    let w : c.in-Err.field-0 ≡ R.FieldOver → ⊥ = search rules in
    rw c.outside.ensures (body_outside c.args.z s m l c.in-Err.field-0 q w)
