use Rattle.std.proofs.Common.{rules, ◌≡◌, ◌∙◌, Err}
use Rattle.scales.specs.Meaning.{slip, slip_timed, spanned}
use Rattle.changes.specs.Asked.{in_utc, judge_outside, judge_taken, judge_place, judge_expired, judge_lacking, judge_stands}
use Rattle.changes.proofs.inner.judge.Goals as goal

pub returns-in_err-to_time : goal.returns-in_err-to_time
returns-in_err-to_time c =
    let r = c.args.r in
    let f = c.in_err-to_time.field-0.0 in
    let e : slip_timed (Err f) ≡ spanned r.scale r.day r.micro = search rules in
    let s : slip c.from_residual.result ≡ slip (Err f) = search rules in
    s ∙ judge_outside _ _ _ r c.requires f.refusal f.scale e

pub returns-then-not-is_utc : goal.returns-then-not-is_utc
returns-then-not-is_utc c = let k = judge_taken _ _ _ c.args.r c.requires c.in_ok-to_time.field-0 in search rules

pub has_micro-requires : goal.has_micro-requires
has_micro-requires c =
    let k = in_utc _ _ _ c.args.r c.requires c.in_ok-to_time.field-0 c.place_of_day-day.result (search rules) (search rules) (search rules) in
    judge_place _ _ _ c.args.r c.requires _ k

pub returns-then-place_of_day-day : goal.returns-then-place_of_day-day
returns-then-place_of_day-day c =
    let k = in_utc _ _ _ c.args.r c.requires c.in_ok-to_time.field-0 c.place_of_day-day.result (search rules) (search rules) (search rules) in
    let j = judge_expired _ _ _ c.args.r c.requires _ k in
    search rules

pub returns-then-not-has_micro : goal.returns-then-not-has_micro
returns-then-not-has_micro c =
    let k = in_utc _ _ _ c.args.r c.requires c.in_ok-to_time.field-0 c.place_of_day-day.result (search rules) (search rules) (search rules) in
    let j = judge_lacking _ _ _ c.args.r c.requires _ k in
    search rules

pub returns : goal.returns
returns c =
    let k = in_utc _ _ _ c.args.r c.requires c.in_ok-to_time.field-0 c.place_of_day-day.result (search rules) (search rules) (search rules) in
    let j = judge_stands _ _ _ c.args.r c.requires _ k in
    search rules
