use Rattle.std.proofs.Common.{◌≡◌, rules, arith, sym, ap, ◌∙◌, ℕ, Ok, Err, None}
use Rattle.scales.specs.Meaning.{refused, valued}
use Rattle.clock.specs.Same.{listed, unlisted}
use Rattle.clock.specs.Stage.{landed}
use Rattle.sbt.specs.Places.{base_of}
use Rattle.sbt.specs.Found.{serves_utc, utc_none, utc_stands, utc_lands, reached, lasts, lacks, tick_listless, tick_unaccepted}
use Rattle.sbt.proofs.last_by_list.Goals as goal

pub returns-in_default : goal.returns-in_default
returns-in_default c =
    let a = c.args in
    let l = a.list.now in
    let k = unlisted l c.in_default.field-0 (sym c.accepted.ensures ∙ c.in_default.is) in
    (omega arith, ap (λ (n : ℕ). valued 0 (refused n)) c.unaccepted.ensures ∙ tick_listless a.c l.days l.offsets l.last c.requires k.0 a.h)

pub returns-in_default-base_of : goal.returns-in_default-base_of
returns-in_default-base_of c =
    let a = c.args in
    let m = c.in-Ok.list in
    let k = listed a.list.now m (sym c.accepted.ensures ∙ c.in-Ok.is) in
    let q : base_of a.c m.days m.offsets m.last ≡ None = search rules in
    let n = utc_none a.c m.days m.offsets m.last c.requires k.1 q in
    let s = serves_utc a.c m.days m.offsets m.last c.requires k.1 in
    rw k.0 (omega arith, ap (λ (n : ℕ). valued 0 (refused n)) c.unaccepted-in_default-base_of.ensures ∙ tick_unaccepted a.c m.days m.offsets m.last s n a.h)

pub ends_of-v-requires : goal.ends_of-v-requires
ends_of-v-requires c =
    let a = c.args in
    let m = c.in-Ok.list in
    let k = listed a.list.now m (sym c.accepted.ensures ∙ c.in-Ok.is) in
    let b = c.in-Some.base in
    let q = sym c.base_of.ensures ∙ c.in-Some.is in
    (utc_stands a.c m.days m.offsets m.last c.requires k.1 b.at b.current q).windowed

pub last_at-requires : goal.last_at-requires
last_at-requires c =
    let a = c.args in
    let m = c.in-Ok.list in
    let k = listed a.list.now m (sym c.accepted.ensures ∙ c.in-Ok.is) in
    let b = c.in-Some.base in
    let q = sym c.base_of.ensures ∙ c.in-Some.is in
    let z = utc_stands a.c m.days m.offsets m.last c.requires k.1 b.at b.current q in
    let f : c.turn_by_list.result ≡ Ok c.in_ok-w.w = search rules in
    let t = utc_lands a.c m.days m.offsets m.last c.requires k.1 b.at b.current q a.h c.ends_of-v.result c.ends_of-v.ensures (Ok c.in_ok-w.w) (ap landed (sym f) ∙ c.turn_by_list.ensures) in
    reached a.c m.days m.offsets m.last b.at z a.h c.in_ok-w.w t

pub returns-in_err-w : goal.returns-in_err-w
returns-in_err-w c =
    let a = c.args in
    let m = c.in-Ok.list in
    let k = listed a.list.now m (sym c.accepted.ensures ∙ c.in-Ok.is) in
    let b = c.in-Some.base in
    let q = sym c.base_of.ensures ∙ c.in-Some.is in
    let z = utc_stands a.c m.days m.offsets m.last c.requires k.1 b.at b.current q in
    let g = c.in_err-w.field-0.0 in
    let f : c.turn_by_list.result ≡ Err g = search rules in
    let t = utc_lands a.c m.days m.offsets m.last c.requires k.1 b.at b.current q a.h c.ends_of-v.result c.ends_of-v.ensures (Err g) (ap landed (sym f) ∙ c.turn_by_list.ensures) in
    let x : c.from_residual.result ≡ Err g = search rules in
    rw (x, k.0) (lacks a.c m.days m.offsets m.last b.at z a.h g t)

pub returns : goal.returns
returns c =
    let a = c.args in
    let m = c.in-Ok.list in
    let k = listed a.list.now m (sym c.accepted.ensures ∙ c.in-Ok.is) in
    let b = c.in-Some.base in
    let q = sym c.base_of.ensures ∙ c.in-Some.is in
    let z = utc_stands a.c m.days m.offsets m.last c.requires k.1 b.at b.current q in
    let f : c.turn_by_list.result ≡ Ok c.in_ok-w.w = search rules in
    let t = utc_lands a.c m.days m.offsets m.last c.requires k.1 b.at b.current q a.h c.ends_of-v.result c.ends_of-v.ensures (Ok c.in_ok-w.w) (ap landed (sym f) ∙ c.turn_by_list.ensures) in
    rw (c.last_at.ensures, k.0) (lasts a.c m.days m.offsets m.last b.at z a.h c.in_ok-w.w t)
