use Rattle.std.proofs.Common.{◌≡◌, true, false, rules, arith, sym, ap, not, ◌∙◌, ◌<◌, ◌≤◌, ◌-◌, ◌+◌, ℕ, ℤ, pos, negsuc, length, get_or, to_z, of_z, w64}
use Rattle.std.specs.Int.Signed.{le_z, lt_z}
use Rattle.std.proofs.Common.{lit<}
use borrow.Author.Tests.{not-false, leb-false}
use Rattle.axis.specs.Meaning.{place_of_day}
use Rattle.axis.specs.Axis.{day_to}
use Rattle.axis.specs.Diff.{le_not}
use Rattle.axis.specs.Order.{place_le, place_lt}
use Rattle.calendar.specs.Meaning.{is_first}
use Rattle.leap.specs.Follow.{after, after_last, after_passed, after_late, after_other_offset, after_not_later, after_early, after_other_day}
use Rattle.leap.proofs.steps_follow.Goals as goal

pub returns-then-end-days : goal.returns-then-end-days
returns-then-end-days c =
    let a = c.args in
    let ds = a.days.now in
    let f : lt_z a.end (get_or ds (length ds - 1) (pos 0)) ≡ true = search rules in
    after_late ds a.offsets.now a.end c.requires (length ds - 1) (omega (arith, c.requires.some)) f

pub loop-i-init : goal.loop-i-init
loop-i-init c =
    let a = c.args in
    let ds = a.days.now in
    let d = get_or ds (length ds - 1) (pos 0) in
    let f : lt_z a.end d ≡ false = search rules in
    let z : to_z w64 (of_z w64 a.end) ≡ a.end = search rules in
    rw z (
      omega (arith, c.requires.some),
      omega arith,
      place_le d a.end (le_not d a.end ∙ ap not f),
      after_last ds a.offsets.now a.end c.requires (length ds - 1) (omega arith),
    )

pub returns-then-offsets-i : goal.returns-then-offsets-i
returns-then-offsets-i c =
    let a = c.args in
    let i = c.loop-i.i in
    after_other_offset a.days.now a.offsets.now a.end c.requires (i - 1 - 1) (i - 1) (omega (arith, c.loop-i-test.true)) (omega (arith, c.loop-i.invariant.1))
    (λ q. c.if-offsets-i.true (omega (arith, q)))

pub returns-then-d-days : goal.returns-then-d-days
returns-then-d-days c =
    let a = c.args in
    let i = c.loop-i.i in
    let f : le_z (get_or a.days.now (i - 1) (pos 0)) (get_or a.days.now (i - 1 - 1) (pos 0)) ≡ true = search rules in
    after_not_later a.days.now a.offsets.now a.end c.requires (i - 1 - 1) (i - 1) (omega (arith, c.loop-i-test.true)) (omega (arith, c.loop-i.invariant.1)) f

pub returns-then-d-le-FIRST_DAY : goal.returns-then-d-le-FIRST_DAY
returns-then-d-le-FIRST_DAY c =
    let a = c.args in
    let i = c.loop-i.i in
    let f : le_z (get_or a.days.now (i - 1) (pos 0)) (negsuc 10226) ≡ true = search rules in
    after_early a.days.now a.offsets.now a.end c.requires (i - 1 - 1) (i - 1) (omega (arith, c.loop-i-test.true)) (omega (arith, c.loop-i.invariant.1)) f

pub returns-then-not-is_first : goal.returns-then-not-is_first
returns-then-not-is_first c =
    let a = c.args in
    let i = c.loop-i.i in
    let f : is_first (get_or a.days.now (i - 1) (pos 0)) ≡ false = search rules in
    after_other_day a.days.now a.offsets.now a.end c.requires (i - 1 - 1) (i - 1) (omega (arith, c.loop-i-test.true)) (omega (arith, c.loop-i.invariant.1)) f

pub loop-i-preserved : goal.loop-i-preserved
loop-i-preserved c =
    let a = c.args in
    let ds = a.days.now in
    let i = c.loop-i.i in
    let d = get_or ds (i - 1) (pos 0) in
    let s = get_or ds (i - 1 - 1) (pos 0) in
    let y : le_z d s ≡ false = search rules in
    let f : is_first d ≡ true = search rules in
    let z : to_z w64 (of_z w64 a.end) ≡ a.end = search rules in
    let to : place_of_day d ≤ place_of_day a.end = rw z at c.loop-i.invariant.2 in
    let g : after ds a.offsets.now a.end (i - 1) ≡ true = rw z at c.loop-i.invariant.3 in
    let l : lt_z s d ≡ true = not-false (lt_z s d) (sym (le_not d s) ∙ y) in
    rw z (
      omega (arith, c.loop-i-test.true),
      omega (arith, c.loop-i.invariant.1),
      omega (arith, to, place_lt s d l),
      after_passed ds a.offsets.now a.end c.requires (i - 1 - 1) (i - 1) (omega (arith, c.loop-i-test.true)) (omega (arith, c.loop-i.invariant.1)) (omega (arith, c.if-offsets-i.false)) y f to
          ∙ g,
    )
