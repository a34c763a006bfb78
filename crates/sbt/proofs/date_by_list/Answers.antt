use Rattle.std.proofs.Common.{◌≡◌, rules, sym, ap, ◌∙◌, Ok, Err, Some}
use Rattle.std.specs.Option.{ok_or}
use Rattle.scales.specs.Meaning.{slip_utc}
use Rattle.scales.specs.declared.Refusal.{Refusal}
use Rattle.scales.specs.declared.Refusal.TheVariants as R
use Rattle.leap.specs.Meaning.{accepted_or}
use Rattle.clock.specs.Same.{listed, unlisted, lacking}
use Rattle.sbt.specs.Places.{base_of}
use Rattle.sbt.specs.Found.{date_5, utc_date_6, utc_stands, utc_dates, far}
use Rattle.sbt.proofs.date_by_list.Goals as goal

pub returns-in_err-list : goal.returns-in_err-list
returns-in_err-list c =
    let a = c.args in
    let l = a.list.now in
    let f = c.in_err-list.field-0.0 in
    let h : accepted_or l ≡ Err f = search rules in
    let k = unlisted l f h in
    let x : slip_utc c.from_residual.result ≡ slip_utc (Err f) = search rules in
    x ∙ ap (λ (y : Refusal). slip_utc (Err y)) (sym k.1)
    ∙ date_5 a.c l.days l.offsets l.last c.requires k.0 a.tick.0 a.receipt.day a.receipt.micro

pub returns-in_err-base : goal.returns-in_err-base
returns-in_err-base c =
    let a = c.args in
    let m = c.in_ok-list.list in
    let h : accepted_or a.list.now ≡ Ok m = search rules in
    let k = listed a.list.now m h in
    let f = c.in_err-base.field-0.0 in
    let y : ok_or c.base_of.result R.CorrelationNotAccepted ≡ Err f = search rules in
    let o = lacking c.base_of.result R.CorrelationNotAccepted f y in
    let x : slip_utc c.from_residual-in_err-base.result ≡ slip_utc (Err f) = search rules in
    rw k.0
    (x ∙ ap (λ (y : Refusal). slip_utc (Err y)) (sym o.1)
    ∙ utc_date_6 a.c m.days m.offsets m.last c.requires k.1 (sym c.base_of.ensures ∙ o.0) a.tick.0 a.receipt.day a.receipt.micro)

pub reckon-k-requires : goal.reckon-k-requires
reckon-k-requires c =
    let a = c.args in
    let m = c.in_ok-list.list in
    let h : accepted_or a.list.now ≡ Ok m = search rules in
    let k = listed a.list.now m h in
    let b = c.in_ok-base.base in
    let q : base_of a.c m.days m.offsets m.last ≡ Some b = search rules in
    (utc_stands a.c m.days m.offsets m.last c.requires k.1 b.at b.current q).windowed

pub date_by_list-requires : goal.date_by_list-requires
date_by_list-requires c =
    let a = c.args in
    let m = c.in_ok-list.list in
    let h : accepted_or a.list.now ≡ Ok m = search rules in
    let k = listed a.list.now m h in
    let b = c.in_ok-base.base in
    let q : base_of a.c m.days m.offsets m.last ≡ Some b = search rules in
    far a.c m.days m.offsets m.last b.at (utc_stands a.c m.days m.offsets m.last c.requires k.1 b.at b.current q)
    a.tick.0 a.receipt.day a.receipt.micro c.reckon-k.result c.reckon-k.ensures

pub returns : goal.returns
returns c =
    let a = c.args in
    let m = c.in_ok-list.list in
    let h : accepted_or a.list.now ≡ Ok m = search rules in
    let k = listed a.list.now m h in
    let b = c.in_ok-base.base in
    let q : base_of a.c m.days m.offsets m.last ≡ Some b = search rules in
    rw k.0
    (c.date_by_list.ensures
    ∙ utc_dates a.c m.days m.offsets m.last c.requires k.1 b.at b.current q a.tick.0 a.receipt.day a.receipt.micro c.reckon-k.result c.reckon-k.ensures)
