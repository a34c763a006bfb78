use Rattle.std.proofs.Common.{rules, arith, ◌≡◌, true, ◌≤◌, ◌/◌, ◌%◌}
use Rattle.axis.specs.Meaning.{place_of_day, day_at}
use Rattle.leap.specs.Meaning.{has_micro, offset_on}
use Rattle.leap.specs.Steps.{usable}
use Rattle.leap.specs.Whole.{offset_small}
use Rattle.via_tai.specs.Ways.{left_utc}
use Rattle.via_tai.proofs.inner.from_utc.Goals as goal

pub offset_on-offset-requires : goal.offset_on-offset-requires
offset_on-offset-requires c = let u = usable _ _ _ c.list-list.ensures.accepted in search rules

pub overflow_mul-result-2 : goal.overflow_mul-result-2
overflow_mul-result-2 c = let k = offset_small _ _ _ c.list-list.ensures.accepted (c.args.t.0 / 86401000000) in search rules

pub overflow_add-result-2 : goal.overflow_add-result-2
overflow_add-result-2 c = let k = offset_small _ _ _ c.list-list.ensures.accepted (c.args.t.0 / 86401000000) in search rules

pub returns : goal.returns
returns c =
    let l = c.args.list.now in
    let n = c.args.t.0 in
    let k : n / 86401000000 ≤ place_of_day l.last = search rules in
    let m : has_micro l.days (day_at (n / 86401000000)) (n % 86401000000) ≡ true = search rules in
    let o : c.offset_on-offset.result ≡ offset_on l.days l.offsets (day_at (n / 86401000000)) = search rules in
    left_utc l.days l.offsets l.last c.list-list.ensures.accepted n c.if-day-lt-FIRST.false c.if-day-gt-LAST.false k m _ (omega (arith, o))
