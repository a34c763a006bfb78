use Rattle.std.proofs.Common.{◌≡◌, rules, arith, sym, ap, ◌∙◌, ℕ, Ok, Err}
use Rattle.scales.specs.Meaning.{refused, valued}
use Rattle.scales.specs.declared.Scale.TheVariants as S
use Rattle.via_tai.specs.Meaning.{is_utc}
use Rattle.clock.specs.Stage.{landed}
use Rattle.sbt.specs.Found.{serves_it, own_none, own_stands, own_lands, reached, lasts, lacks, tick_unaccepted}
use Rattle.sbt.proofs.Own.{not_utc}
use Rattle.sbt.proofs.last_of.Goals as goal

pub last_by_list-requires : goal.last_by_list-requires
last_by_list-requires c =
    let u : c.args.c.scale ≡ S.Utc = search rules in
    ap is_utc u

pub returns-in_default : goal.returns-in_default
returns-in_default c =
    let a = c.args in
    let l = a.list.now in
    let i = not_utc a.c.scale (sym c.eq.ensures ∙ c.if-eq.false) in
    let n = own_none a.c l.days l.offsets l.last i (sym c.reference_of.ensures ∙ c.in_default.is) in
    let s = serves_it a.c l.days l.offsets l.last i in
    (omega arith, ap (λ (n : ℕ). valued 0 (refused n)) c.unaccepted.ensures ∙ tick_unaccepted a.c l.days l.offsets l.last s n a.h)

pub ends_of-v-requires : goal.ends_of-v-requires
ends_of-v-requires c =
    let a = c.args in
    let l = a.list.now in
    let i = not_utc a.c.scale (sym c.eq.ensures ∙ c.if-eq.false) in
    let r = c.in-Some.r in
    let z = own_stands a.c l.days l.offsets l.last i r (sym c.reference_of.ensures ∙ c.in-Some.is) in
    z.windowed

pub turn-requires : goal.turn-requires
turn-requires c = not_utc c.args.c.scale (sym c.eq.ensures ∙ c.if-eq.false)

pub last_at-requires : goal.last_at-requires
last_at-requires c =
    let a = c.args in
    let l = a.list.now in
    let i = not_utc a.c.scale (sym c.eq.ensures ∙ c.if-eq.false) in
    let r = c.in-Some.r in
    let z = own_stands a.c l.days l.offsets l.last i r (sym c.reference_of.ensures ∙ c.in-Some.is) in
    let f : c.turn.result ≡ Ok c.in_ok-w.w = search rules in
    let t = own_lands a.c l.days l.offsets l.last i r z a.h c.ends_of-v.result c.ends_of-v.ensures (Ok c.in_ok-w.w) (ap landed (sym f) ∙ c.turn.ensures) in
    reached a.c l.days l.offsets l.last r z a.h c.in_ok-w.w t

pub returns-in_err-w : goal.returns-in_err-w
returns-in_err-w c =
    let a = c.args in
    let l = a.list.now in
    let i = not_utc a.c.scale (sym c.eq.ensures ∙ c.if-eq.false) in
    let r = c.in-Some.r in
    let z = own_stands a.c l.days l.offsets l.last i r (sym c.reference_of.ensures ∙ c.in-Some.is) in
    let g = c.in_err-w.field-0.0 in
    let f : c.turn.result ≡ Err g = search rules in
    let t = own_lands a.c l.days l.offsets l.last i r z a.h c.ends_of-v.result c.ends_of-v.ensures (Err g) (ap landed (sym f) ∙ c.turn.ensures) in
    let x : c.from_residual.result ≡ Err g = search rules in
    rw x (lacks a.c l.days l.offsets l.last r z a.h g t)

pub returns : goal.returns
returns c =
    let a = c.args in
    let l = a.list.now in
    let i = not_utc a.c.scale (sym c.eq.ensures ∙ c.if-eq.false) in
    let r = c.in-Some.r in
    let z = own_stands a.c l.days l.offsets l.last i r (sym c.reference_of.ensures ∙ c.in-Some.is) in
    let f : c.turn.result ≡ Ok c.in_ok-w.w = search rules in
    let t = own_lands a.c l.days l.offsets l.last i r z a.h c.ends_of-v.result c.ends_of-v.ensures (Ok c.in_ok-w.w) (ap landed (sym f) ∙ c.turn.ensures) in
    rw c.last_at.ensures (lasts a.c l.days l.offsets l.last r z a.h c.in_ok-w.w t)
