use Rattle.std.proofs.Common.{◌≡◌, arith, rules, sym, ap, ◌∙◌, ◌≤◌, ◌<◌, ◌-◌, ◌+◌, ◌*◌, ℕ, pos, get_or}
use Rattle.axis.specs.Meaning.{place_of_day, micros_at}
use Rattle.leap.specs.Meaning.{begun, plain}
use Rattle.leap.specs.Places.{plain_at_lem, sixty_at}
use Rattle.leap.specs.Walk.{nothing}
use Rattle.leap.specs.Search.{utc_plain, utc_sixty, utc_on}
use Rattle.leap.proofs.inner.utc_at.Goals as goal

pub returns-then-start-c : goal.returns-then-start-c
returns-then-start-c c =
    let l = c.args.list.now in
    let n = c.args.t.0 in
    let i = c.loop-i.i in
    let f : place_of_day (get_or l.days (i - 1) (pos 0)) * 86400000000 + get_or l.offsets (i - 1) 0 * 1000000 ≤ n = search rules in
    let k = utc_plain l.days l.offsets c.requires.usable i c.loop-i-test.true c.loop-i.invariant.0 n f ∙ c.loop-i.invariant.1 in
    search rules

pub returns-then-start-c-2 : goal.returns-then-start-c-2
returns-then-start-c-2 c =
    let l = c.args.list.now in
    let n = c.args.t.0 in
    let i = c.loop-i.i in
    let s = place_of_day (get_or l.days (i - 1) (pos 0)) in
    let p = get_or l.offsets (i - 1) 0 in
    let low = c.requires.usable.small (i - 1) (omega (arith, c.loop-i-test.true, c.loop-i.invariant.0)) in
    let f : n < s * 86400000000 + p * 1000000 = search rules in
    let g : s * 86400000000 + p * 1000000 ≤ n + 1000000 = search rules in
    let e : c.step_day-s.result ≡ s = search rules in
    let k = ap (λ (x : ℕ). sixty_at x p n) e
    ∙ utc_sixty l.days l.offsets c.requires.usable i c.loop-i-test.true c.loop-i.invariant.0 n f (omega (arith, g, low.0)) ∙ c.loop-i.invariant.1 in
    search rules

pub loop-i-preserved : goal.loop-i-preserved
loop-i-preserved c =
    let l = c.args.list.now in
    let n = c.args.t.0 in
    let i = c.loop-i.i in
    let s = place_of_day (get_or l.days (i - 1) (pos 0)) in
    let p = get_or l.offsets (i - 1) 0 in
    let low = c.requires.usable.small (i - 1) (omega (arith, c.loop-i-test.true, c.loop-i.invariant.0)) in
    let g : n + 1000000 < s * 86400000000 + p * 1000000 = search rules in (
      omega (arith, c.loop-i.invariant.0),
      utc_on l.days l.offsets c.requires.usable i c.loop-i-test.true c.loop-i.invariant.0 n (omega (arith, g, low.0)) ∙ c.loop-i.invariant.1,
    )

pub returns : goal.returns
returns c =
    let l = c.args.list.now in
    let n = c.args.t.0 in
    c.plain_at-2.ensures ∙ sym (plain_at_lem 10 n (omega (arith, c.requires.in_axis.0)))
    ∙ nothing (begun (micros_at n)) (plain 10 (micros_at n)) l.days l.offsets c.loop-i.i (omega (arith, c.loop-i-test.false)) ∙ c.loop-i.invariant.1
