use Rattle.std.proofs.Common.{◌≡◌, ◌<◌, rules, arith, subst, ◌/◌, Some, to_z, of_z, w64}
use Rattle.axis.specs.Meaning.{day_at}
use Rattle.leap.specs.Meaning.{offset_on}
use Rattle.leap.specs.Steps.{steps, usable}
use Rattle.leap.specs.Whole.{offset_small}
use Rattle.goce.specs.Places.{Few}
use Rattle.goce.proofs.base_at.Goals as goal

pub offset_on-offset-requires : goal.offset_on-offset-requires
offset_on-offset-requires c =
    let l = c.args.list.now in
    let q : c.args.reference ≡ Some c.in_ok-p.p = search rules in
    let few : c.in_ok-p.p < 433308303360000 = subst Few q c.requires in
    let u = usable l.days l.offsets l.last c.list-list.ensures.accepted in
    search rules

pub is_current-current-requires : goal.is_current-current-requires
is_current-current-requires c =
    let l = c.args.list.now in
    let s = steps l.days l.offsets l.last c.list-list.ensures.accepted in
    let z : to_z w64 (of_z w64 c.last.result) ≡ l.last = search rules in
    rw z (omega (arith, s.from), omega (arith, s.to))

pub overflow_mul-result : goal.overflow_mul-result
overflow_mul-result c =
    let l = c.args.list.now in
    let o : c.offset_on-offset.result ≡ offset_on l.days l.offsets (day_at (c.in_ok-p.p / 5662310400)) = search rules in
    omega (arith, o, offset_small l.days l.offsets l.last c.list-list.ensures.accepted (c.in_ok-p.p / 5662310400))

pub overflow_add-result : goal.overflow_add-result
overflow_add-result c =
    let l = c.args.list.now in
    let q : c.args.reference ≡ Some c.in_ok-p.p = search rules in
    let few : c.in_ok-p.p < 433308303360000 = subst Few q c.requires in
    let o : c.offset_on-offset.result ≡ offset_on l.days l.offsets (day_at (c.in_ok-p.p / 5662310400)) = search rules in
    omega (arith, o, few, offset_small l.days l.offsets l.last c.list-list.ensures.accepted (c.in_ok-p.p / 5662310400))
