use Rattle.std.proofs.Common.{◌≡◌, rules, ap, ◌∙◌, Some, None}
use Rattle.sbt.specs.Places.{place_of}
use Rattle.sbt.specs.Found.{cover_windowed, cover_at_lem, cover_none}
use Rattle.sbt.proofs.inner.cover.Goals as goal

pub ends_of-requires : goal.ends_of-requires
ends_of-requires c =
    let q : place_of c.args.c ≡ Some c.in_ok-r.r = search rules in
    cover_windowed c.args.c c.in_ok-r.r q

pub returns-in_err-r : goal.returns-in_err-r
returns-in_err-r c =
    let q : place_of c.args.c ≡ None = search rules in
    let k = cover_none c.args.c q in
    search rules

pub returns : goal.returns
returns c =
    let q : place_of c.args.c ≡ Some c.in_ok-r.r = search rules in
    ap Some c.ends_of.ensures ∙ cover_at_lem c.args.c c.in_ok-r.r q
