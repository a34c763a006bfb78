use Rattle.std.proofs.Common.{rules, ◌≡◌, ◌∙◌, ap, true, false, Ok, Err, not, ◌&&◌}
use Rattle.scales.specs.Meaning.{slip, remark}
use Rattle.handed.specs.Meaning.{scale_of, mark_of}
use Rattle.handed.specs.Told.{told_nothing, told_outside, told_at, told_scale}
use Rattle.handed.specs.declared.Untaken.TheVariants as K
use Rattle.leap.specs.Meaning.{accepted}
use Rattle.changes.specs.Meaning.{change_uses_list}
use Rattle.changes.specs.General.{change_infinite, change_unlisted, change_outside, change_at}
use Rattle.changes.proofs.change.Goals as goal

pub returns-in-Err-NotFinite : goal.returns-in-Err-NotFinite
returns-in-Err-NotFinite c =
    let a = c.args in
    let e : c.take.result ≡ Err (K.NotFinite c.in-Err-NotFinite.field-0-0) = search rules in
    let k = told_nothing a.h c.take.result c.take.ensures c.in-Err-NotFinite.field-0-0 e in
    rw c.of.ensures (change_infinite a.h a.to _ _ _ k.0)

pub returns-then-lacks_list : goal.returns-then-lacks_list
returns-then-lacks_list c =
    let a = c.args in
    let l = a.list.now in
    let e : c.take.result ≡ Err (K.Outside c.in-Err-Outside.s) = search rules in
    let k = told_outside a.h c.take.result c.take.ensures c.in-Err-Outside.s e in
    let w : (change_uses_list (scale_of a.h) a.to && not (accepted l.days l.offsets l.last)) ≡ true = search rules in
    rw c.of-then-lacks_list.ensures (change_unlisted a.h a.to _ _ _ k.0 w)

pub returns-else-lacks_list : goal.returns-else-lacks_list
returns-else-lacks_list c =
    let a = c.args in
    let l = a.list.now in
    let e : c.take.result ≡ Err (K.Outside c.in-Err-Outside.s) = search rules in
    let k = told_outside a.h c.take.result c.take.ensures c.in-Err-Outside.s e in
    let w : (change_uses_list (scale_of a.h) a.to && not (accepted l.days l.offsets l.last)) ≡ false = search rules in
    rw c.of-in-Err-Outside.ensures (change_outside a.h a.to _ _ _ k.0 w k.1)

pub returns-then-lacks_list-2 : goal.returns-then-lacks_list-2
returns-then-lacks_list-2 c =
    let a = c.args in
    let l = a.list.now in
    let k = told_at a.h c.take.result c.take.ensures c.in-Ok.t c.in-Ok.is in
    let s = told_scale a.h c.in-Ok.t k in
    let w : (change_uses_list (scale_of a.h) a.to && not (accepted l.days l.offsets l.last)) ≡ true = search rules in
    rw c.of-then-lacks_list-2.ensures (change_unlisted a.h a.to _ _ _ k.finite w)

pub returns-in_err-change-in-Ok : goal.returns-in_err-change-in-Ok
returns-in_err-change-in-Ok c =
    let a = c.args in
    let l = a.list.now in
    let k = told_at a.h c.take.result c.take.ensures c.in-Ok.t c.in-Ok.is in
    let s = told_scale a.h c.in-Ok.t k in
    let w : (change_uses_list (scale_of a.h) a.to && not (accepted l.days l.offsets l.last)) ≡ false = search rules in
    let r : slip c.from_residual.result ≡ remark (mark_of a.h) (slip c.change.result) = search rules in
    r ∙ ap (remark (mark_of a.h)) c.change.ensures ∙ change_at a.h a.to _ _ _ c.in-Ok.t k w

pub returns-in_ok-change-in-Ok : goal.returns-in_ok-change-in-Ok
returns-in_ok-change-in-Ok c =
    let a = c.args in
    let l = a.list.now in
    let k = told_at a.h c.take.result c.take.ensures c.in-Ok.t c.in-Ok.is in
    let s = told_scale a.h c.in-Ok.t k in
    let w : (change_uses_list (scale_of a.h) a.to && not (accepted l.days l.offsets l.last)) ≡ false = search rules in
    let r : slip (Ok c.with_mark.result) ≡ remark (mark_of a.h) (slip c.change.result) = search rules in
    r ∙ ap (remark (mark_of a.h)) c.change.ensures ∙ change_at a.h a.to _ _ _ c.in-Ok.t k w
