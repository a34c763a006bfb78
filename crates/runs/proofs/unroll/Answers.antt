use Rattle.std.proofs.Common.{◌≡◌, arith, sym, ap, ◌∙◌, ℕ, ◌+◌, ◌-◌, ◌*◌, drop}
use Rattle.octets.specs.Meaning.{part}
use Rattle.runs.specs.Meaning.{ahead}
use Rattle.runs.specs.Passes.{unroll_from}
use Rattle.runs.specs.Turns.{told_is, unroll_over, unroll_on}
use Rattle.runs.proofs.unroll.Goals as goal

pub returns-then-total-gt484848 : goal.returns-then-total-gt484848
returns-then-total-gt484848 c =
    let a = c.args in
    let s = a.bytes.now in
    let l = c.loop-i in
    let f : part s (10 * l.i) 8 ≡ part s 0 8 = omega arith in
    let t : c.next-total.result.units ≡ ahead l.total.units (part s (10 * l.i + 8) 2) = c.next-total.ensures ∙ ap (ahead l.total.units) c.extra_of.ensures.is in
    sym (told_is s a.n a.told c.if-told-gt484848.false ∙ sym l.invariant.rest
    ∙ unroll_over s a.n l.i (omega arith) (part s 0 8) l.total.units f (omega (arith, t)))

pub loop-i-preserved : goal.loop-i-preserved
loop-i-preserved c =
    let a = c.args in
    let s = a.bytes.now in
    let l = c.loop-i in
    let f : part s (10 * l.i) 8 ≡ part s 0 8 = omega arith in
    let t : c.next-total.result.units ≡ ahead l.total.units (part s (10 * l.i + 8) 2) = c.next-total.ensures ∙ ap (ahead l.total.units) c.extra_of.ensures.is in
    record {
      most = omega arith;
      rest =
          ap (λ (t : ℕ). unroll_from (a.n - (l.i + 1)) (part s 0 8) t (drop (10 * (l.i + 1)) s)) t
          ∙ sym (unroll_on s a.n l.i (omega arith) (part s 0 8) l.total.units f (omega (arith, t)))
          ∙ l.invariant.rest;
    }
