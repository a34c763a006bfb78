use Rattle.std.proofs.Common.{◌≡◌, arith, rules, ◌∙◌, ◌-◌, pos, get_or}
use Rattle.axis.specs.Meaning.{place_of_day, day_at}
use Rattle.leap.specs.Walk.{step_nothing}
use Rattle.leap.specs.Search.{step_here, step_on}
use Rattle.leap.proofs.inner.is_step.Goals as goal

pub returns-then-step_day-place : goal.returns-then-step_day-place
returns-then-step_day-place c =
    let a = c.args in
    let l = a.list.now in
    let i = c.loop-i.i in
    let f : place_of_day (get_or l.days (i - 1) (pos 0)) ≡ a.place = search rules in
    step_here l.days i c.loop-i-test.true c.loop-i.invariant.0 a.place c.requires.0 c.requires.1 f ∙ c.loop-i.invariant.1

pub loop-i-preserved : goal.loop-i-preserved
loop-i-preserved c =
    let a = c.args in
    let l = a.list.now in
    let i = c.loop-i.i in
    let f : (place_of_day (get_or l.days (i - 1) (pos 0)) ≡ a.place → ⊥) = search rules in
    (omega (arith, c.loop-i.invariant.0), step_on l.days i c.loop-i-test.true c.loop-i.invariant.0 a.place c.requires.0 c.requires.1 f ∙ c.loop-i.invariant.1)

pub returns : goal.returns
returns c =
    let a = c.args in
    step_nothing a.list.now.days (day_at a.place) c.loop-i.i (omega (arith, c.loop-i-test.false)) ∙ c.loop-i.invariant.1
