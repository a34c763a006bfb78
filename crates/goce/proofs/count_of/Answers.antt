use Rattle.std.proofs.Common.{◌≡◌, rules, arith, sym, ap, ◌∙◌, ℕ, Ok, Err, Some, None}
use Rattle.scales.specs.Meaning.{answer, refused, valued, count_slip, number_of}
use Rattle.clock.specs.Same.{listed, unlisted}
use Rattle.clock.specs.Stage.{landed}
use Rattle.goce.specs.Places.{obt_from}
use Rattle.goce.specs.Found.{place_few, based, counter, window_of, lands, near, few, count_is, count_not, count_listless, count_unaccepted}
use Rattle.goce.proofs.count_of.Goals as goal

pub returns-in_default : goal.returns-in_default
returns-in_default c =
    let a = c.args in
    let l = a.list.now in
    let k = unlisted l c.in_default.field-0 (sym c.accepted.ensures ∙ c.in_default.is) in
    ap (λ (n : ℕ). valued 0 (refused n)) c.unaccepted.ensures ∙ count_listless a.c l.days l.offsets l.last k.0 a.h

pub base_at-requires : goal.base_at-requires
base_at-requires c = rw c.reference_of.ensures (place_few c.args.c)

pub returns-in_default-base_at : goal.returns-in_default-base_at
returns-in_default-base_at c =
    let a = c.args in
    let m = c.in-Ok.list in
    let k = listed a.list.now m (sym c.accepted.ensures ∙ c.in-Ok.is) in
    let f : c.base_at.result ≡ None = search rules in
    let q = based a.c m.days m.offsets m.last c.reference_of.result c.reference_of.ensures c.base_at.result c.base_at.ensures None f in
    rw k.0 (ap (λ (n : ℕ). valued 0 (refused n)) c.unaccepted-in_default-base_at.ensures ∙ count_unaccepted a.c m.days m.offsets m.last k.1 q a.h)

pub ends_of-v-requires : goal.ends_of-v-requires
ends_of-v-requires c =
    let a = c.args in
    let m = c.in-Ok.list in
    let k = listed a.list.now m (sym c.accepted.ensures ∙ c.in-Ok.is) in
    let b = c.in-Some.base in
    let q = based a.c m.days m.offsets m.last c.reference_of.result c.reference_of.ensures c.base_at.result c.base_at.ensures (Some b) c.in-Some.is in
    window_of a.c m.days m.offsets m.last k.1 b.at b.current q

pub returns-in_err-w : goal.returns-in_err-w
returns-in_err-w c =
    let a = c.args in
    let m = c.in-Ok.list in
    let k = listed a.list.now m (sym c.accepted.ensures ∙ c.in-Ok.is) in
    let b = c.in-Some.base in
    let q = based a.c m.days m.offsets m.last c.reference_of.result c.reference_of.ensures c.base_at.result c.base_at.ensures (Some b) c.in-Some.is in
    let g = c.in_err-w.field-0.0 in
    let f : c.turn_by_list.result ≡ Err g = search rules in
    let t = lands a.c m.days m.offsets m.last k.1 b.at b.current q a.h c.ends_of-v.result c.ends_of-v.ensures (Err g) (ap landed (sym f) ∙ c.turn_by_list.ensures) in
    let x : count_slip c.from_residual.result ≡ count_slip (Err g) = search rules in
    rw k.0 (x ∙ count_not a.c m.days m.offsets m.last k.1 b.at b.current q a.h (number_of g) t)

pub last_at-requires : goal.last_at-requires
last_at-requires c =
    let a = c.args in
    let m = c.in-Ok.list in
    let k = listed a.list.now m (sym c.accepted.ensures ∙ c.in-Ok.is) in
    let b = c.in-Some.base in
    let q = based a.c m.days m.offsets m.last c.reference_of.result c.reference_of.ensures c.base_at.result c.base_at.ensures (Some b) c.in-Some.is in
    let f : c.turn_by_list.result ≡ Ok c.in_ok-w.w = search rules in
    let t = lands a.c m.days m.offsets m.last k.1 b.at b.current q a.h c.ends_of-v.result c.ends_of-v.ensures (Ok c.in_ok-w.w) (ap landed (sym f) ∙ c.turn_by_list.ensures) in
    near a.c m.days m.offsets m.last k.1 b.at b.current q a.h c.in_ok-w.w t

pub obt_from-requires : goal.obt_from-requires
obt_from-requires c =
    let a = c.args in
    let m = c.in-Ok.list in
    let k = listed a.list.now m (sym c.accepted.ensures ∙ c.in-Ok.is) in
    let b = c.in-Some.base in
    let q = based a.c m.days m.offsets m.last c.reference_of.result c.reference_of.ensures c.base_at.result c.base_at.ensures (Some b) c.in-Some.is in
    let f : c.turn_by_list.result ≡ Ok c.in_ok-w.w = search rules in
    let t = lands a.c m.days m.offsets m.last k.1 b.at b.current q a.h c.ends_of-v.result c.ends_of-v.ensures (Ok c.in_ok-w.w) (ap landed (sym f) ∙ c.turn_by_list.ensures) in
    (counter a.c m.days m.offsets m.last k.1 b.at b.current q, omega (arith, c.last_at.ensures, few a.c m.days m.offsets m.last k.1 b.at b.current q a.h c.in_ok-w.w t))

pub returns : goal.returns
returns c =
    let a = c.args in
    let m = c.in-Ok.list in
    let k = listed a.list.now m (sym c.accepted.ensures ∙ c.in-Ok.is) in
    let b = c.in-Some.base in
    let q = based a.c m.days m.offsets m.last c.reference_of.result c.reference_of.ensures c.base_at.result c.base_at.ensures (Some b) c.in-Some.is in
    let f : c.turn_by_list.result ≡ Ok c.in_ok-w.w = search rules in
    let t = lands a.c m.days m.offsets m.last k.1 b.at b.current q a.h c.ends_of-v.result c.ends_of-v.ensures (Ok c.in_ok-w.w) (ap landed (sym f) ∙ c.turn_by_list.ensures) in
    rw k.0
    (ap (λ (n : ℕ). valued 0 (answer n)) (c.obt_from.ensures ∙ ap (obt_from a.c.obt0) c.last_at.ensures)
    ∙ count_is a.c m.days m.offsets m.last k.1 b.at b.current q a.h c.in_ok-w.w t)
