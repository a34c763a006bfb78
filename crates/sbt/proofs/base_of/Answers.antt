use Rattle.std.proofs.Common.{◌≡◌, rules, arith, ◌/◌, Some, to_z, of_z, w64}
use Rattle.axis.specs.Meaning.{day_at}
use Rattle.scales.specs.declared.Scale.TheVariants as S
use Rattle.leap.specs.Meaning.{offset_on}
use Rattle.leap.specs.Steps.{steps, usable}
use Rattle.leap.specs.Whole.{offset_small}
use Rattle.clock.specs.Meaning.{is_current}
use Rattle.sbt.specs.Places.{place_of}
use Rattle.sbt.specs.Found.{place_few, base_is}
use Rattle.sbt.proofs.base_of.Goals as goal

pub offset_on-offset-requires : goal.offset_on-offset-requires
offset_on-offset-requires c =
    let a = c.args in
    let l = a.list.now in
    let q : place_of a.c ≡ Some c.in_ok-p.p = search rules in
    let few = place_few a.c l.days l.offsets l.last c.requires c.in_ok-p.p q in
    let u = usable l.days l.offsets l.last c.list-list.ensures.accepted in
    search rules

pub is_current-current-requires : goal.is_current-current-requires
is_current-current-requires c =
    let l = c.args.list.now in
    let s = steps l.days l.offsets l.last c.list-list.ensures.accepted in
    let z : to_z w64 (of_z w64 c.last.result) ≡ l.last = search rules in
    rw z (omega (arith, s.from), omega (arith, s.to))

pub overflow_mul-result : goal.overflow_mul-result
overflow_mul-result c =
    let l = c.args.list.now in
    let o : c.offset_on-offset.result ≡ offset_on l.days l.offsets (day_at (c.in_ok-p.p / 86400000000)) = search rules in
    omega (arith, o, offset_small l.days l.offsets l.last c.list-list.ensures.accepted (c.in_ok-p.p / 86400000000))

pub overflow_add-result : goal.overflow_add-result
overflow_add-result c =
    let a = c.args in
    let l = a.list.now in
    let q : place_of a.c ≡ Some c.in_ok-p.p = search rules in
    let o : c.offset_on-offset.result ≡ offset_on l.days l.offsets (day_at (c.in_ok-p.p / 86400000000)) = search rules in
    omega (
      arith,
      o,
      offset_small l.days l.offsets l.last c.list-list.ensures.accepted (c.in_ok-p.p / 86400000000),
      place_few a.c l.days l.offsets l.last c.requires c.in_ok-p.p q,
    )

pub returns : goal.returns
returns c =
    let a = c.args in
    let l = a.list.now in
    let q : place_of a.c ≡ Some c.in_ok-p.p = search rules in
    let o : c.offset_on-offset.result ≡ offset_on l.days l.offsets (day_at (c.in_ok-p.p / 86400000000)) = search rules in
    let n : c.is_current-current.result ≡ is_current S.Utc l.last (day_at (c.in_ok-p.p / 86400000000)) = search rules in
    base_is a.c l.days l.offsets l.last c.requires c.in_ok-p.p q c.offset_on-offset.result o c.is_current-current.result n
