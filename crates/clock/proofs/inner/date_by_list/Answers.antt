use Rattle.std.proofs.Common.{◌≡◌, rules, true, false, ap, ◌∙◌, ℕ, Ok, Err}
use Rattle.scales.specs.Meaning.{slip_utc, spanned, number_of, dated, refused}
use Rattle.scales.specs.Counts.{typed_no}
use Rattle.scales.specs.declared.Scale.TheVariants as S
use Rattle.leap.specs.Meaning.{accepted}
use Rattle.clock.specs.Places.{within_at}
use Rattle.clock.specs.Stage.{unexpired}
use Rattle.clock.specs.Dating.{date_7, date_out, date_stale, date_8, date_17, date_at_lem, date_lacks}
use Rattle.clock.proofs.Ways.{received, receipt_at}
use Rattle.clock.proofs.inner.date_by_list.Goals as goal

pub returns-in_err-t : goal.returns-in_err-t
returns-in_err-t c =
    let a = c.args in
    let r = a.receipt in
    let l = a.list.now in
    let f = c.in_err-t.field-0.0 in
    let s : slip_utc (Err f) ≡ spanned S.Utc r.day r.micro = search rules in
    let n = typed_no S.Utc r.day r.micro f s in
    let k = ap (λ (x : _). dated S.Utc (refused (number_of x))) n.1 ∙ date_7 a.current a.k.inside a.k.ends a.k.at r.day r.micro l.days l.offsets l.last n.0 in
    search rules

pub returns-then-not-k : goal.returns-then-not-k
returns-then-not-k c =
    let a = c.args in
    let r = a.receipt in
    let l = a.list.now in
    let t = c.in_ok-t.t in
    let s : slip_utc (Ok t) ≡ spanned S.Utc r.day r.micro = search rules in
    let i : a.k.inside ≡ false = search rules in
    date_out a.current a.k.inside a.k.ends a.k.at r.day r.micro l.days l.offsets l.last (received r.day r.micro t s) i

pub returns-then-not-current : goal.returns-then-not-current
returns-then-not-current c =
    let a = c.args in
    let r = a.receipt in
    let l = a.list.now in
    let t = c.in_ok-t.t in
    let s : slip_utc (Ok t) ≡ spanned S.Utc r.day r.micro = search rules in
    let i : a.k.inside ≡ true = search rules in
    let n : a.current ≡ false = search rules in
    date_stale a.current a.k.inside a.k.ends a.k.at r.day r.micro l.days l.offsets l.last (received r.day r.micro t s) i n

pub returns-then-not-covers : goal.returns-then-not-covers
returns-then-not-covers c =
    let a = c.args in
    let r = a.receipt in
    let l = a.list.now in
    let t = c.in_ok-t.t in
    let s : slip_utc (Ok t) ≡ spanned S.Utc r.day r.micro = search rules in
    let w = c.in-Ok.w in
    let p = receipt_at r.day r.micro t s l.days l.offsets l.last c.from_utc.result (Ok w) c.from_utc.ensures c.in-Ok.is in
    let i : a.k.inside ≡ true = search rules in
    let n : a.current ≡ true = search rules in
    let v : within_at a.k.ends w.0 ≡ false = search rules in
    date_8 a.current a.k.inside a.k.ends a.k.at r.day r.micro l.days l.offsets l.last (received r.day r.micro t s) i n w.0 p v

pub returns-then-w-k : goal.returns-then-w-k
returns-then-w-k c =
    let a = c.args in
    let r = a.receipt in
    let l = a.list.now in
    let t = c.in_ok-t.t in
    let s : slip_utc (Ok t) ≡ spanned S.Utc r.day r.micro = search rules in
    let w = c.in-Ok.w in
    let p = receipt_at r.day r.micro t s l.days l.offsets l.last c.from_utc.result (Ok w) c.from_utc.ensures c.in-Ok.is in
    let i : a.k.inside ≡ true = search rules in
    let n : a.current ≡ true = search rules in
    let v : within_at a.k.ends w.0 ≡ true = search rules in
    date_17 a.current a.k.inside a.k.ends a.k.at r.day r.micro l.days l.offsets l.last (received r.day r.micro t s) i n w.0 p v c.if-w-k.true

pub unexpired_to_utc-requires-clause-unexpired : goal.unexpired_to_utc-requires-clause-unexpired
unexpired_to_utc-requires-clause-unexpired c =
    let a = c.args in
    let r = a.receipt in
    let l = a.list.now in
    let t = c.in_ok-t.t in
    let s : slip_utc (Ok t) ≡ spanned S.Utc r.day r.micro = search rules in
    let w = c.in-Ok.w in
    let p = receipt_at r.day r.micro t s l.days l.offsets l.last c.from_utc.result (Ok w) c.from_utc.ensures c.in-Ok.is in
    let y : accepted l.days l.offsets l.last ≡ true = search rules in
    unexpired (record { day = r.day; micro = r.micro }) l.days l.offsets l.last y (received r.day r.micro t s) w.0 a.k.at p c.if-w-k.false

pub returns-else-w-k : goal.returns-else-w-k
returns-else-w-k c =
    let a = c.args in
    let r = a.receipt in
    let l = a.list.now in
    let t = c.in_ok-t.t in
    let s : slip_utc (Ok t) ≡ spanned S.Utc r.day r.micro = search rules in
    let w = c.in-Ok.w in
    let p = receipt_at r.day r.micro t s l.days l.offsets l.last c.from_utc.result (Ok w) c.from_utc.ensures c.in-Ok.is in
    let i : a.k.inside ≡ true = search rules in
    let n : a.current ≡ true = search rules in
    let v : within_at a.k.ends w.0 ≡ true = search rules in
    c.unexpired_to_utc.ensures ∙ date_at_lem a.current a.k.inside a.k.ends a.k.at r.day r.micro l.days l.offsets l.last (received r.day r.micro t s) i n w.0 p v c.if-w-k.false

pub returns-in-Err : goal.returns-in-Err
returns-in-Err c =
    let a = c.args in
    let r = a.receipt in
    let l = a.list.now in
    let t = c.in_ok-t.t in
    let s : slip_utc (Ok t) ≡ spanned S.Utc r.day r.micro = search rules in
    let f = c.in-Err.f in
    let p = receipt_at r.day r.micro t s l.days l.offsets l.last c.from_utc.result (Err f) c.from_utc.ensures c.in-Err.is in
    let i : a.k.inside ≡ true = search rules in
    let n : a.current ≡ true = search rules in
    ap (λ (j : ℕ). dated S.Utc (refused j)) c.without_receipt.ensures
    ∙ date_lacks a.current a.k.inside a.k.ends a.k.at r.day r.micro l.days l.offsets l.last (received r.day r.micro t s) i n (number_of f) p
