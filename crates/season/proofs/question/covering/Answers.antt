use Rattle.std.proofs.Common.{◌≡◌, ◌+◌, Some, None, Ok, Err, sym, ap, ◌∙◌, rules}
use Rattle.octets.specs.Field.{bytes_all}
use Rattle.scales.specs.declared.Scale.TheVariants as S
use Rattle.scales.specs.declared.Refusal.TheVariants as R
use Rattle.clock.specs.Stage.{place_in}
use Rattle.season.specs.Places.{count_in, scanned, answered}
use Rattle.season.specs.Asked.{fit_at, ask_unsized, ask_at, ask_outside, ask_broken}
use Rattle.season.proofs.question.covering.Goals as goal

pub returns-in_err-n : goal.returns-in_err-n
returns-in_err-n c =
    let s = c.args.bytes.now in
    let q : count_in s ≡ None = search rules in
    let r : c.from_residual.result ≡ Err R.SeasonBroken = search rules in
    rw r (ask_unsized s c.args.receipt.day c.args.receipt.micro q)

pub returns-in_err-seen-in-Some : goal.returns-in_err-seen-in-Some
returns-in_err-seen-in-Some c =
    let s = c.args.bytes.now in
    let q : count_in s ≡ Some c.in_ok-n.n = search rules in
    let p : place_in S.Tai c.args.receipt.day c.args.receipt.micro ≡ Some c.in-Some.p = search rules in
    let e : scanned s c.in_ok-n.n (c.in-Some.p + 9219916036854775808) ≡ Err c.in_err-seen-in-Some.field-0.0 = search rules in
    let r : c.from_residual-in_err-seen-in-Some.result ≡ Err c.in_err-seen-in-Some.field-0.0 = search rules in
    rw r
    (ap answered (sym e)
    ∙ ask_at s c.args.receipt.day c.args.receipt.micro c.in_ok-n.n (fit_at s c.in_ok-n.n q) (bytes_all s (λ j. (c.type_inv.bytes j).fits)) c.in-Some.p p)

pub returns-in_err-ok_or-in-Some : goal.returns-in_err-ok_or-in-Some
returns-in_err-ok_or-in-Some c =
    let s = c.args.bytes.now in
    let q : count_in s ≡ Some c.in_ok-n.n = search rules in
    let p : place_in S.Tai c.args.receipt.day c.args.receipt.micro ≡ Some c.in-Some.p = search rules in
    let e : scanned s c.in_ok-n.n (c.in-Some.p + 9219916036854775808) ≡ Ok None = search rules in
    let r : c.from_residual-in_err-ok_or-in-Some.result ≡ Err R.NoEntry = search rules in
    rw r
    (ap answered (sym e)
    ∙ ask_at s c.args.receipt.day c.args.receipt.micro c.in_ok-n.n (fit_at s c.in_ok-n.n q) (bytes_all s (λ j. (c.type_inv.bytes j).fits)) c.in-Some.p p)

pub returns-in_err-look_over-in-None : goal.returns-in_err-look_over-in-None
returns-in_err-look_over-in-None c =
    let s = c.args.bytes.now in
    let q : count_in s ≡ Some c.in_ok-n.n = search rules in
    let e : scanned s c.in_ok-n.n 0 ≡ Err c.in_err-look_over-in-None.field-0.0 = search rules in
    let r : c.from_residual-in_err-look_over-in-None.result ≡ Err c.in_err-look_over-in-None.field-0.0 = search rules in
    rw r (ask_broken s c.args.receipt.day c.args.receipt.micro c.in_ok-n.n (fit_at s c.in_ok-n.n q) c.in_err-look_over-in-None.field-0.0 e)

pub returns-in_ok-ok_or-in-Some : goal.returns-in_ok-ok_or-in-Some
returns-in_ok-ok_or-in-Some c =
    let s = c.args.bytes.now in
    let q : count_in s ≡ Some c.in_ok-n.n = search rules in
    let p : place_in S.Tai c.args.receipt.day c.args.receipt.micro ≡ Some c.in-Some.p = search rules in
    let e : scanned s c.in_ok-n.n (c.in-Some.p + 9219916036854775808) ≡ Ok (Some c.in_ok-ok_or-in-Some.field-0) = search rules in
    rw c.cover_of.ensures
    (ap answered (sym e)
    ∙ ask_at s c.args.receipt.day c.args.receipt.micro c.in_ok-n.n (fit_at s c.in_ok-n.n q) (bytes_all s (λ j. (c.type_inv.bytes j).fits)) c.in-Some.p p)

pub returns-in_ok-look_over-in-None : goal.returns-in_ok-look_over-in-None
returns-in_ok-look_over-in-None c =
    let s = c.args.bytes.now in
    let q : count_in s ≡ Some c.in_ok-n.n = search rules in
    let p : place_in S.Tai c.args.receipt.day c.args.receipt.micro ≡ None = search rules in
    let e : scanned s c.in_ok-n.n 0 ≡ Ok c.in_ok-look_over-in-None.field-0 = search rules in
    ask_outside s c.args.receipt.day c.args.receipt.micro c.in_ok-n.n (fit_at s c.in_ok-n.n q) p c.in_ok-look_over-in-None.field-0 e
