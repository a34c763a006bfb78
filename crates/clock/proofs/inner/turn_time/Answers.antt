use Rattle.std.proofs.Common.{◌≡◌, rules, true, false, ap, ◌∙◌, eq-eqb}
use Rattle.scales.specs.Meaning.{same_scale, code_of, time_scale, time_count}
use Rattle.via_tai.specs.Meaning.{is_utc}
use Rattle.clock.specs.Places.{within_at}
use Rattle.clock.specs.Turning.{own_8, own_in}
use Rattle.clock.proofs.inner.turn_time.Goals as goal

pub returns-then-not-covers : goal.returns-then-not-covers
returns-then-not-covers c =
    let a = c.args in
    let q : time_scale a.t ≡ a.due = search rules in
    let g : same_scale (time_scale a.t) a.due ≡ true = eq-eqb _ _ (ap code_of q) in
    let k : within_at a.v (time_count a.t) ≡ false = search rules in
    own_8 a.due a.v (time_scale a.t) (time_count a.t) c.requires.spanned g (ap is_utc q ∙ c.requires.due_is_own) k

pub returns : goal.returns
returns c =
    let a = c.args in
    let q : time_scale a.t ≡ a.due = search rules in
    let g : same_scale (time_scale a.t) a.due ≡ true = eq-eqb _ _ (ap code_of q) in
    let k : within_at a.v (time_count a.t) ≡ true = search rules in
    let x = own_in a.due a.v (time_scale a.t) (time_count a.t) c.requires.spanned g (ap is_utc q ∙ c.requires.due_is_own) k in
    search rules
