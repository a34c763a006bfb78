use Rattle.std.proofs.Common.{◌≡◌, rules, true, false, Ok, Err}
use Rattle.handed.specs.Told.{told_at}
use Rattle.clock.specs.Places.{cover_of}
use Rattle.clock.specs.Turning.{turn_untaken, turn_stale, turn_at}
use Rattle.clock.proofs.inner.turn_by_list.Goals as goal

pub returns-in_err-t : goal.returns-in_err-t
returns-in_err-t c =
    let a = c.args in
    let l = a.list.now in
    let e = c.in_err-t.field-0.0 in
    let f : c.take.result ≡ Err e = search rules in
    let k = turn_untaken a.current (cover_of a.v) a.h l.days l.offsets l.last c.take.result c.take.ensures e f in
    search rules

pub returns-then-not-current : goal.returns-then-not-current
returns-then-not-current c =
    let a = c.args in
    let l = a.list.now in
    let f : c.take.result ≡ Ok c.in_ok-t.t = search rules in
    let n : a.current ≡ false = search rules in
    let w = told_at a.h c.take.result c.take.ensures c.in_ok-t.t f in
    turn_stale a.current (cover_of a.v) a.h l.days l.offsets l.last w.finite w.inside n

pub returns : goal.returns
returns c =
    let a = c.args in
    let l = a.list.now in
    let f : c.take.result ≡ Ok c.in_ok-t.t = search rules in
    let n : a.current ≡ true = search rules in
    let k = turn_at a.current (cover_of a.v) a.h l.days l.offsets l.last n c.in_ok-t.t (told_at a.h c.take.result c.take.ensures c.in_ok-t.t f) in
    search rules
