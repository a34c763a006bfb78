use Rattle.std.proofs.Common.{◌≡◌, rules, sym, ap, ◌∙◌, Ok, Err, Some}
use Rattle.std.specs.Option.{ok_or}
use Rattle.scales.specs.Meaning.{slip, slip_utc, refused_of}
use Rattle.scales.specs.declared.Record.{Record}
use Rattle.scales.specs.declared.Refused.{Refused}
use Rattle.scales.specs.declared.Scale.{Scale}
use Rattle.scales.specs.declared.Scale.TheVariants as S
use Rattle.via_tai.specs.Meaning.{is_utc}
use Rattle.clock.specs.Same.{lacking}
use Rattle.sbt.specs.Places.{place_of}
use Rattle.sbt.specs.Found.{serves_it, own_none, own_stands, date_6, own_dates}
use Rattle.sbt.proofs.Own.{not_utc}
use Rattle.sbt.proofs.unmarked.Goals as goal

pub date_by_list-requires : goal.date_by_list-requires
date_by_list-requires c =
    let u : c.args.c.scale ≡ S.Utc = search rules in
    ap is_utc u

pub returns-in_err-t : goal.returns-in_err-t
returns-in_err-t c =
    let s = c.args.c.scale in
    let f = c.in_err-t.field-0.0 in
    let u : s ≡ S.Utc = search rules in
    let g : c.date_by_list.result ≡ Err f.refusal = search rules in
    let x : slip c.from_residual.result ≡ slip (Err (refused_of s f.refusal)) = search rules in
    x ∙ ap (λ (z : Scale). slip (Err (refused_of z f.refusal))) u ∙ ap slip_utc (sym g) ∙ c.date_by_list.ensures

pub returns-then-eq : goal.returns-then-eq
returns-then-eq c =
    let g : c.date_by_list.result ≡ Ok c.in_ok-t.t = search rules in
    ap (λ (r : Record). slip (Ok r)) c.to_record.ensures ∙ ap slip_utc (sym g) ∙ c.date_by_list.ensures

pub returns-in_err-r : goal.returns-in_err-r
returns-in_err-r c =
    let a = c.args in
    let l = a.list.now in
    let i = not_utc a.c.scale (sym c.eq.ensures ∙ c.if-eq.false) in
    let f = c.in_err-r.field-0.0 in
    let y : ok_or c.reference_of.result c.of.result ≡ Err f = search rules in
    let o = lacking c.reference_of.result c.of.result f y in
    let x : slip c.from_residual-in_err-r.result ≡ slip (Err f) = search rules in
    x ∙ ap (λ (z : Refused). slip (Err z)) (sym o.1 ∙ c.of.ensures)
    ∙ date_6 a.c l.days l.offsets l.last (serves_it a.c l.days l.offsets l.last i)
    (own_none a.c l.days l.offsets l.last i (sym c.reference_of.ensures ∙ o.0)) a.tick.0 a.receipt.day a.receipt.micro

pub reckon-requires : goal.reckon-requires
reckon-requires c =
    let a = c.args in
    let l = a.list.now in
    let i = not_utc a.c.scale (sym c.eq.ensures ∙ c.if-eq.false) in
    let q : place_of a.c ≡ Some c.in_ok-r.r = search rules in
    (own_stands a.c l.days l.offsets l.last i c.in_ok-r.r q).windowed

pub returns : goal.returns
returns c =
    let a = c.args in
    let l = a.list.now in
    let i = not_utc a.c.scale (sym c.eq.ensures ∙ c.if-eq.false) in
    let q : place_of a.c ≡ Some c.in_ok-r.r = search rules in
    c.date.ensures
    ∙ own_dates a.c l.days l.offsets l.last c.in_ok-r.r (own_stands a.c l.days l.offsets l.last i c.in_ok-r.r q) a.tick.0 a.receipt.day a.receipt.micro c.reckon.result c.reckon.ensures i
