use Rattle.std.proofs.Common.{◌≡◌, rules, arith, sym, ap, ◌∙◌, ℕ, ◌/◌, length, List, ℤ, Err}
use Rattle.octets.specs.Field.{bytes_all}
use Rattle.runs.specs.Ways.{run_length, run_none, run_refused, run_short, filling, run_all}
use Rattle.runs.proofs.siral.Goals as goal

pub returns-then-bytes-ne0 : goal.returns-then-bytes-ne0
returns-then-bytes-ne0 c = let a = c.args in sym (run_length a.bytes.now a.told a.dates.now c.if-bytes-ne0.true)

pub returns-then-n-eq0 : goal.returns-then-n-eq0
returns-then-n-eq0 c = let a = c.args in sym (run_none a.bytes.now a.told a.dates.now c.if-bytes-ne0.false (omega arith))

pub returns-in_err-second : goal.returns-in_err-second
returns-in_err-second c =
    let a = c.args in
    let b = bytes_all a.bytes.now (λ (j : ℕ). (c.type_inv.bytes j).fits) in
    let e = c.in_err-second.field-0.0 in
    let r : c.from_residual.result ≡ Err e = search rules in
    rw r (sym (run_refused a.bytes.now a.told a.dates.now b c.if-bytes-ne0.false (omega arith) e (sym c.in_err-second.ensures)))

pub returns-then-dates-n : goal.returns-then-dates-n
returns-then-dates-n c =
    let a = c.args in
    let v = c.in_ok-second.second in
    let b = bytes_all a.bytes.now (λ (j : ℕ). (c.type_inv.bytes j).fits) in
    sym (run_short a.bytes.now a.told a.dates.now b c.if-bytes-ne0.false (omega arith) v.from v.last (sym c.in_ok-second.ensures) (omega arith))

pub fill-requires : goal.fill-requires
fill-requires c =
    let a = c.args in
    let v = c.in_ok-second.second in
    let b = bytes_all a.bytes.now (λ (j : ℕ). (c.type_inv.bytes j).fits) in
    filling a.bytes.now a.told a.dates.now b c.if-bytes-ne0.false (omega arith) v.from v.last (sym c.in_ok-second.ensures) (omega arith)

pub returns : goal.returns
returns c =
    let a = c.args in
    let v = c.in_ok-second.second in
    let b = bytes_all a.bytes.now (λ (j : ℕ). (c.type_inv.bytes j).fits) in
    ap (λ (l : List ℤ). record { number = 0; count = length a.bytes.now / 10; last = v.last; lent = l }) c.fill.ensures
    ∙ sym (run_all a.bytes.now a.told a.dates.now b c.if-bytes-ne0.false (omega arith) v.from v.last (sym c.in_ok-second.ensures) (omega arith))
