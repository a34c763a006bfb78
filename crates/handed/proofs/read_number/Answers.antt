use Rattle.std.proofs.Common.{◌≡◌, rules, arith, sym, subst, ◌∙◌, true, ℕ, ◌*◌, ◌^◌, ◌≤◌}
use lib.Pow.{pow_pos}
use Rattle.axis.specs.Meaning.{day_micros}
use Rattle.handed.specs.Signs.{within}
use Rattle.handed.specs.Parts.{inside}
use Rattle.handed.proofs.Value.{after_is, before_is, one_less, micros_before}
use Rattle.handed.proofs.read_number.Goals as goal

pub overflow_sub-result : goal.overflow_sub-result
overflow_sub-result c =
    let a = c.args in
    let i : inside a.first true a.q (2 ^ a.sh) ≡ true = one_less a.first a.q a.sh c.requires.4 c.requires.2 ∙ sym c.below.ensures ∙ c.if-below.true in
    let n = micros_before a.first a.q a.sh c.requires.4 c.requires.2 c.scaled.result c.scaled.ensures.0 in
    let w = within a.first true a.q (2 ^ a.sh) c.requires.1 (pow_pos a.sh) i in
    let l : c.scaled.result ≤ 36525 * day_micros = subst (λ (n : ℕ). n ≤ 36525 * day_micros) (sym n) w.2 in
    omega arith

pub returns-then-below : goal.returns-then-below
returns-then-below c =
    let a = c.args in
    let i : inside a.first true a.q (2 ^ a.sh) ≡ true = one_less a.first a.q a.sh c.requires.4 c.requires.2 ∙ sym c.below.ensures ∙ c.if-below.true in
    let b = before_is a.first a.q a.sh c.requires.4 c.requires.2 c.scaled.result i c.scaled.ensures.0 in
    search rules

pub returns-then-below-2 : goal.returns-then-below-2
returns-then-below-2 c =
    let a = c.args in
    let b = after_is a.first a.q a.sh c.requires.4 c.scaled-then-below-2.result (sym c.below-2.ensures ∙ c.if-below-2.true) c.scaled-then-below-2.ensures.0 in
    search rules
