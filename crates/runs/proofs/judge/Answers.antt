use Rattle.std.proofs.Common.{◌≡◌, rules, arith, sym, ap, ◌∙◌, refl, ℕ, ◌+◌, ◌*◌, ◌/◌, take, Err, lt-ltb, le-ltb}
use Rattle.layout_fields.specs.Siral.{fields_of}
use Rattle.runs.specs.Passes.{place_of}
use Rattle.runs.specs.Turns.{total_most}
use Rattle.runs.specs.Packet.{packet_length, packet_in, packet_over_lem}
use Rattle.runs.proofs.judge.Goals as goal

pub returns-in_err-f : goal.returns-in_err-f
returns-in_err-f c =
    let a = c.args in
    let p = take 10 a.bytes.now in
    let e = c.in_err-f.field-0.0 in
    let r : c.from_residual.result ≡ Err e = search rules in
    let k = packet_over_lem p (packet_length a.bytes.now 0 (omega arith)) e c.in_err-f.ensures in
    rw (r, k.1, ← c.in-Some.ensures, k.0) refl

pub overflow_mul-last : goal.overflow_mul-last
overflow_mul-last c =
    let a = c.args in
    let h = total_most a.n a.bytes.now a.told c.in-Some.last (sym c.in-Some.ensures) in
    omega arith

pub overflow_add-from-2 : goal.overflow_add-from-2
overflow_add-from-2 c =
    let a = c.args in
    let h = total_most a.n a.bytes.now a.told c.in-Some.last (sym c.in-Some.ensures) in
    omega arith

pub returns-then-from-last-ge6611760000000000 : goal.returns-then-from-last-ge6611760000000000
returns-then-from-last-ge6611760000000000 c =
    let a = c.args in
    let p = take 10 a.bytes.now in
    let t = c.in-Some.last in
    let k = packet_in p (packet_length a.bytes.now 0 (omega arith)) c.in_ok-f.f c.in_ok-f.ensures in
    let q : 3456000000000000 + c.micros-from.result ≡ place_of (fields_of p) = ap (λ (x : ℕ). 3456000000000000 + x) c.micros-from.ensures ∙ ap place_of k.1 in
    rw (← c.in-Some.ensures, k.0, le-ltb (place_of (fields_of p) + t * 33 / 16) 6611760000000000 (omega (arith, q))) refl

pub returns : goal.returns
returns c =
    let a = c.args in
    let p = take 10 a.bytes.now in
    let t = c.in-Some.last in
    let k = packet_in p (packet_length a.bytes.now 0 (omega arith)) c.in_ok-f.f c.in_ok-f.ensures in
    let q : 3456000000000000 + c.micros-from.result ≡ place_of (fields_of p) = ap (λ (x : ℕ). 3456000000000000 + x) c.micros-from.ensures ∙ ap place_of k.1 in
    rw (q, ← c.in-Some.ensures, k.0, lt-ltb (place_of (fields_of p) + t * 33 / 16) 6611760000000000 (omega (arith, q))) refl
