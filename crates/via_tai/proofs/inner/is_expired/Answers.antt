use Rattle.std.proofs.Common.{rules}
use Rattle.leap.specs.Steps.{steps, usable}
use Rattle.leap.specs.Whole.{offset_small}
use Rattle.via_tai.specs.Ways.{expires}
use Rattle.via_tai.proofs.inner.is_expired.Goals as goal

pub offset_on-offset-requires : goal.offset_on-offset-requires
offset_on-offset-requires c =
    let u = usable _ _ _ c.list-list.ensures.accepted in
    let s = (steps _ _ _ c.list-list.ensures.accepted).to in
    search rules

pub overflow_mul-result-2 : goal.overflow_mul-result-2
overflow_mul-result-2 c = let k = offset_small _ _ _ c.list-list.ensures.accepted in search rules

pub overflow_add-result : goal.overflow_add-result
overflow_add-result c =
    let k = offset_small _ _ _ c.list-list.ensures.accepted in
    let s = (steps _ _ _ c.list-list.ensures.accepted).to in
    search rules

pub returns : goal.returns
returns c = let k = expires _ _ _ c.list-list.ensures.accepted c.args.c.0 in search rules
