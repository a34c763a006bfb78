use Rattle.std.proofs.Common.{◌≡◌, arith, rules, sym, ap, ◌∙◌, ◌+◌, ◌<◌, ◌≤◌, ℕ, ℤ, pos, length, get_or, drop, ◌+ℤ◌}
use Rattle.axis.specs.Meaning.{place_of_day, day_at}
use Rattle.axis.specs.Axis.{day_next, day_place, place_day}
use Rattle.leap.specs.Follow.{rest}
use Rattle.leap.specs.Accept.{accept_empty, accept_long, accept_uneven, accept_early, accept_late, accept_other_day, accept_other_offset, accept_rest}
use Rattle.leap.proofs.List.is_accepted.Goals as goal

pub returns-then-n-lt1 : goal.returns-then-n-lt1
returns-then-n-lt1 c =
    let l = c.args.self.now in
    let f : length l.days < 1 = search rules in
    accept_empty l.days l.offsets l.last f

pub returns-then-n-gt64 : goal.returns-then-n-gt64
returns-then-n-gt64 c =
    let l = c.args.self.now in
    let f : 64 < length l.days = search rules in
    accept_long l.days l.offsets l.last f

pub returns-then-self-n : goal.returns-then-self-n
returns-then-self-n c =
    let l = c.args.self.now in
    let f : (length l.offsets ≡ length l.days → ⊥) = search rules in
    accept_uneven l.days l.offsets l.last f

pub returns-then-e-lt-FIRST : goal.returns-then-e-lt-FIRST
returns-then-e-lt-FIRST c =
    let l = c.args.self.now in
    let e : c.place_of_day-e.result ≡ place_of_day l.last = search rules in
    accept_early l.days l.offsets l.last (omega (arith, e, c.if-e-lt-FIRST.true))

pub returns-then-e-gt-LAST : goal.returns-then-e-gt-LAST
returns-then-e-gt-LAST c =
    let l = c.args.self.now in
    let e : c.place_of_day-e.result ≡ place_of_day l.last = search rules in
    accept_late l.days l.offsets l.last (omega (arith, e, c.if-e-gt-LAST.true))

pub returns-then-first-ne-FIRST : goal.returns-then-first-ne-FIRST
returns-then-first-ne-FIRST c =
    let l = c.args.self.now in
    let f : (place_of_day (get_or l.days 0 (pos 0)) ≡ 29773 → ⊥) = search rules in
    accept_other_day l.days l.offsets l.last f

pub returns-then-offset-ne10 : goal.returns-then-offset-ne10
returns-then-offset-ne10 c =
    let l = c.args.self.now in
    let f : (get_or l.offsets 0 0 ≡ 10 → ⊥) = search rules in
    accept_other_offset l.days l.offsets l.last f

pub returns : goal.returns
returns c =
    let l = c.args.self.now in
    let e : c.place_of_day-e.result ≡ place_of_day l.last = search rules in
    let from = c.if-e-lt-FIRST.false in
    let to = c.if-e-gt-LAST.false in
    let n : c.day_at.result ≡ l.last +ℤ pos 1 =
    c.day_at.ensures ∙ ap (λ (x : ℕ). day_at (x + 1)) e ∙ sym (day_next (place_of_day l.last))
    ∙ ap (λ (d : ℤ). d +ℤ pos 1) (day_place l.last (omega (arith, e, from)) (omega (arith, e, to))) in
    let some : 1 ≤ length l.days = search rules in
    let few : length l.days ≤ 64 = search rules in
    let even : length l.offsets ≡ length l.days = search rules in
    let f : place_of_day (get_or l.days 0 (pos 0)) ≡ 29773 = search rules in
    let ten : get_or l.offsets 0 0 ≡ 10 = search rules in
    let k = accept_rest l.days l.offsets l.last some few even (omega (arith, e, from)) (omega (arith, e, to)) f ten in
    let r : c.steps_follow.result ≡ rest (l.last +ℤ pos 1) (get_or l.days 0 (pos 0)) 10 (drop 1 l.days) (drop 1 l.offsets) = search rules in
    r ∙ k
