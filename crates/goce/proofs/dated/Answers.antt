use Rattle.std.proofs.Common.{◌≡◌, rules, sym, ap, ◌∙◌, Ok, Err, Some}
use Rattle.std.specs.Option.{ok_or}
use Rattle.scales.specs.Meaning.{slip_utc}
use Rattle.scales.specs.declared.Refusal.{Refusal}
use Rattle.scales.specs.declared.Refusal.TheVariants as R
use Rattle.leap.specs.Meaning.{accepted_or}
use Rattle.clock.specs.Same.{listed, unlisted, lacking}
use Rattle.goce.specs.Found.{place_few, date_3, date_5, date_6, counter, window_of, dates, far, based}
use Rattle.goce.proofs.dated.Goals as goal

pub returns-then-obt-ge-COUNTS : goal.returns-then-obt-ge-COUNTS
returns-then-obt-ge-COUNTS c =
    let a = c.args in
    let l = a.list.now in
    date_3 a.c l.days l.offsets l.last a.obt a.receipt.day a.receipt.micro c.if-obt-ge-COUNTS.true

pub returns-in_err-list : goal.returns-in_err-list
returns-in_err-list c =
    let a = c.args in
    let l = a.list.now in
    let f = c.in_err-list.field-0.0 in
    let h : accepted_or l ≡ Err f = search rules in
    let k = unlisted l f h in
    let x : slip_utc c.from_residual.result ≡ slip_utc (Err f) = search rules in
    x ∙ ap (λ (y : Refusal). slip_utc (Err y)) (sym k.1)
    ∙ date_5 a.c l.days l.offsets l.last a.obt a.receipt.day a.receipt.micro c.if-obt-ge-COUNTS.false k.0

pub base_at-requires : goal.base_at-requires
base_at-requires c = rw c.reference_of-place.ensures (place_few c.args.c)

pub returns-in_err-base : goal.returns-in_err-base
returns-in_err-base c =
    let a = c.args in
    let m = c.in_ok-list.list in
    let h : accepted_or a.list.now ≡ Ok m = search rules in
    let k = listed a.list.now m h in
    let f = c.in_err-base.field-0.0 in
    let y : ok_or c.base_at.result R.CorrelationNotAccepted ≡ Err f = search rules in
    let o = lacking c.base_at.result R.CorrelationNotAccepted f y in
    let q = based a.c m.days m.offsets m.last c.reference_of-place.result c.reference_of-place.ensures c.base_at.result c.base_at.ensures _ o.0 in
    let x : slip_utc c.from_residual-in_err-base.result ≡ slip_utc (Err f) = search rules in
    rw k.0
    (x ∙ ap (λ (y : Refusal). slip_utc (Err y)) (sym o.1)
    ∙ date_6 a.c m.days m.offsets m.last k.1 q a.obt a.receipt.day a.receipt.micro c.if-obt-ge-COUNTS.false)

pub reckon-k-requires-clause-windowed : goal.reckon-k-requires-clause-windowed
reckon-k-requires-clause-windowed c =
    let a = c.args in
    let m = c.in_ok-list.list in
    let h : accepted_or a.list.now ≡ Ok m = search rules in
    let k = listed a.list.now m h in
    let b = c.in_ok-base.base in
    let f : c.base_at.result ≡ Some b = search rules in
    let q = based a.c m.days m.offsets m.last c.reference_of-place.result c.reference_of-place.ensures c.base_at.result c.base_at.ensures (Some b) f in
    window_of a.c m.days m.offsets m.last k.1 b.at b.current q

pub reckon-k-requires-clause-obt_bound : goal.reckon-k-requires-clause-obt_bound
reckon-k-requires-clause-obt_bound c =
    let a = c.args in
    let m = c.in_ok-list.list in
    let h : accepted_or a.list.now ≡ Ok m = search rules in
    let k = listed a.list.now m h in
    let b = c.in_ok-base.base in
    let f : c.base_at.result ≡ Some b = search rules in
    let q = based a.c m.days m.offsets m.last c.reference_of-place.result c.reference_of-place.ensures c.base_at.result c.base_at.ensures (Some b) f in
    (c.if-obt-ge-COUNTS.false, counter a.c m.days m.offsets m.last k.1 b.at b.current q)

pub date_by_list-requires : goal.date_by_list-requires
date_by_list-requires c =
    let a = c.args in
    let m = c.in_ok-list.list in
    let h : accepted_or a.list.now ≡ Ok m = search rules in
    let k = listed a.list.now m h in
    let b = c.in_ok-base.base in
    let f : c.base_at.result ≡ Some b = search rules in
    let q = based a.c m.days m.offsets m.last c.reference_of-place.result c.reference_of-place.ensures c.base_at.result c.base_at.ensures (Some b) f in
    far a.c m.days m.offsets m.last k.1 b.at b.current q a.obt c.reckon-k.result c.reckon-k.ensures

pub returns : goal.returns
returns c =
    let a = c.args in
    let m = c.in_ok-list.list in
    let h : accepted_or a.list.now ≡ Ok m = search rules in
    let k = listed a.list.now m h in
    let b = c.in_ok-base.base in
    let f : c.base_at.result ≡ Some b = search rules in
    let q = based a.c m.days m.offsets m.last c.reference_of-place.result c.reference_of-place.ensures c.base_at.result c.base_at.ensures (Some b) f in
    rw k.0
    (c.date_by_list.ensures
    ∙ dates a.c m.days m.offsets m.last k.1 b.at b.current q a.obt c.reckon-k.result c.reckon-k.ensures a.receipt.day a.receipt.micro c.if-obt-ge-COUNTS.false)
