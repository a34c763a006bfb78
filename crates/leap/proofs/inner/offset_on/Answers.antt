use Rattle.std.proofs.Common.{◌≡◌, arith, rules, ◌∙◌, ◌≤◌, ◌<◌, ◌-◌, pos, get_or}
use Rattle.axis.specs.Meaning.{place_of_day, day_at}
use Rattle.leap.specs.Meaning.{on_or_before}
use Rattle.leap.specs.Walk.{nothing}
use Rattle.leap.specs.Search.{offset_here, offset_on_lem}
use Rattle.leap.proofs.inner.offset_on.Goals as goal

pub returns-then-step_day-place : goal.returns-then-step_day-place
returns-then-step_day-place c =
    let a = c.args in
    let l = a.list.now in
    let i = c.loop-i.i in
    let f : place_of_day (get_or l.days (i - 1) (pos 0)) ≤ a.place = search rules in
    let k = offset_here l.days l.offsets c.requires.0 i c.loop-i-test.true c.loop-i.invariant.0 a.place c.requires.1 f ∙ c.loop-i.invariant.1 in
    search rules

pub loop-i-preserved : goal.loop-i-preserved
loop-i-preserved c =
    let a = c.args in
    let l = a.list.now in
    let i = c.loop-i.i in
    let f : a.place < place_of_day (get_or l.days (i - 1) (pos 0)) = search rules in (
      omega (arith, c.loop-i.invariant.0),
      offset_on_lem l.days l.offsets c.requires.0 i c.loop-i-test.true c.loop-i.invariant.0 a.place c.requires.1 f ∙ c.loop-i.invariant.1,
    )

pub returns : goal.returns
returns c =
    let a = c.args in
    let l = a.list.now in
    nothing (on_or_before (day_at a.place)) 0 l.days l.offsets c.loop-i.i (omega (arith, c.loop-i-test.false)) ∙ c.loop-i.invariant.1
