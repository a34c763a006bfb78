use Rattle.std.proofs.Common.{◌≡◌, rules, subst, ap, ◌∙◌, ℕ, Ok, Err}
use Rattle.scales.specs.Meaning.{tick_slip, answer, valued}
use Rattle.sbt.specs.Found.{Lasts}
use Rattle.sbt.proofs.tick_of.Goals as goal

pub returns-in_err-k : goal.returns-in_err-k
returns-in_err-k c =
    let f = c.in_err-k.field-0.0 in
    let a = c.args in
    let l = a.list.now in
    let g : c.last_of.result ≡ Err f = search rules in
    let w = subst (Lasts a.c a.h l.days l.offsets l.last) g c.last_of.ensures in
    let x : tick_slip c.from_residual.result ≡ tick_slip (Err f) = search rules in
    x ∙ w.1

pub tick_from-requires : goal.tick_from-requires
tick_from-requires c =
    let a = c.args in
    let l = a.list.now in
    let g : c.last_of.result ≡ Ok c.in_ok-k.k = search rules in
    let w = subst (Lasts a.c a.h l.days l.offsets l.last) g c.last_of.ensures in
    w.0

pub returns : goal.returns
returns c =
    let a = c.args in
    let l = a.list.now in
    let g : c.last_of.result ≡ Ok c.in_ok-k.k = search rules in
    let w = subst (Lasts a.c a.h l.days l.offsets l.last) g c.last_of.ensures in
    ap (λ (n : ℕ). valued 0 (answer n)) c.tick_from.ensures ∙ w.1
