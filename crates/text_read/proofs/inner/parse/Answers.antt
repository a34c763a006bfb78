use Rattle.std.proofs.Common.{◌≡◌, ◌-◌, ℕ, List, rules, true, false, length, take, drop, subst}
use Rattle.octets.specs.Place.{rest_lent}
use Rattle.scales.specs.declared.Scale.{Scale}
use Rattle.text_read.specs.Meaning.{has_prefix, prefix_scale, is_prefixed, is_plain}
use Rattle.text_read.specs.Stage.{ParsesBody}
use Rattle.text_read.specs.Parse.{text_plain, text_prefix, text_prefixed}
use Rattle.text_read.proofs.inner.parse.Goals as goal

pub returns-then-not-has_prefix : goal.returns-then-not-has_prefix
returns-then-not-has_prefix c =
    let s = c.args.text.now in
    let a : is_prefixed s ≡ true = search rules in
    let h : has_prefix (prefix_scale s) s ≡ false = search rules in
    text_prefix s a h

pub returns-else-not-has_prefix : goal.returns-else-not-has_prefix
returns-else-not-has_prefix c =
    let s = c.args.text.now in
    let a : is_prefixed s ≡ true = search rules in
    let h : has_prefix (prefix_scale s) s ≡ true = search rules in
    let r = c.parse_body.result in
    let b : ParsesBody (prefix_scale s) (drop 4 s) r =
    subst (λ (y : List ℕ). ParsesBody (prefix_scale s) y r) (rest_lent 4 s)
    (subst (λ (z : Scale). ParsesBody z (take (length s - 4) (drop 4 s)) r) c.prefix_scale-z.ensures c.parse_body.ensures)
    in
    text_prefixed s a h r b

pub returns-in-20 : goal.returns-in-20
returns-in-20 c =
    let s = c.args.text.now in
    let a : is_prefixed s ≡ false = search rules in
    let b : is_plain s ≡ true = search rules in
    text_plain s a b c.parse_body-in-20.result c.parse_body-in-20.ensures
