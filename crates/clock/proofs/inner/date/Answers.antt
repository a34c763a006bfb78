use Rattle.std.proofs.Common.{◌≡◌, rules, true, Some, None}
use Rattle.clock.specs.Stage.{place_in}
use Rattle.clock.specs.Places.{within_at}
use Rattle.clock.specs.Dating.{own_7, own_out, own_8, own_17, own_at}
use Rattle.clock.proofs.inner.date.Goals.{then-not-k-via-then-not-k, then-not-k-via-else-not-k+then-not-covers}
use Rattle.clock.proofs.inner.date.Goals as goal

pub returns-in_default : goal.returns-in_default
returns-in_default c =
    let a = c.args in
    let f : place_in a.scale a.receipt.day a.receipt.micro ≡ None = search rules in
    let k = own_7 a.scale a.k.inside a.k.ends a.k.at a.receipt.day a.receipt.micro f in
    search rules

pub returns-then-not-k : goal.returns-then-not-k
returns-then-not-k c =
    let a = c.args in
    let f : place_in a.scale a.receipt.day a.receipt.micro ≡ Some c.in-Some.w = search rules in
    let out = own_out a.scale a.k.inside a.k.ends a.k.at a.receipt.day a.receipt.micro c.in-Some.w f in
    let no = own_8 a.scale a.k.inside a.k.ends a.k.at a.receipt.day a.receipt.micro c.in-Some.w f in
    elim c.then-not-k.branch [ then-not-k-via-then-not-k w ↦ search rules | then-not-k-via-else-not-k+then-not-covers w ↦ search rules ]

pub returns-then-w-k : goal.returns-then-w-k
returns-then-w-k c =
    let a = c.args in
    let f : place_in a.scale a.receipt.day a.receipt.micro ≡ Some c.in-Some.w = search rules in
    let i : a.k.inside ≡ true = search rules in
    let v : within_at a.k.ends c.in-Some.w ≡ true = search rules in
    let k = own_17 a.scale a.k.inside a.k.ends a.k.at a.receipt.day a.receipt.micro c.in-Some.w f i v c.if-w-k.true in
    search rules

pub returns : goal.returns
returns c =
    let a = c.args in
    let f : place_in a.scale a.receipt.day a.receipt.micro ≡ Some c.in-Some.w = search rules in
    let i : a.k.inside ≡ true = search rules in
    let v : within_at a.k.ends c.in-Some.w ≡ true = search rules in
    let k = own_at a.scale a.k.inside a.k.ends a.k.at a.receipt.day a.receipt.micro c.in-Some.w f i v c.if-w-k.false in
    search rules
