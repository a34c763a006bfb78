use Rattle.std.proofs.Common.{◌≡◌, arith, ap, ◌∙◌, ℕ, ◌+◌, ◌*◌, ◌/◌, w64}
use mir.Facts.{to_z-of_z}
use Rattle.axis.specs.Meaning.{held_micros_at}
use Rattle.octets.specs.Meaning.{part}
use Rattle.runs.specs.Meaning.{ahead}
use Rattle.runs.specs.Filling.{total_most, next_most, filled_on, filled_all}
use Rattle.runs.proofs.fill.Goals as goal

pub next-total-requires : goal.next-total-requires
next-total-requires c =
    let a = c.args in
    let l = c.loop-i in
    (total_most a.bytes.now a.n a.from a.told a.dates.now c.requires l.dates l.total.units l.i l.invariant, c.extra_of.ensures.small)

pub overflow_mul-total : goal.overflow_mul-total
overflow_mul-total c =
    let a = c.args in
    let l = c.loop-i in
    let t : c.next-total.result.units ≡ ahead l.total.units (part a.bytes.now (10 * l.i + 8) 2) = c.next-total.ensures ∙ ap (ahead l.total.units) c.extra_of.ensures.is in
    omega (arith, t, next_most a.bytes.now a.n a.from a.told a.dates.now c.requires l.dates l.total.units l.i l.invariant (omega arith))

pub overflow_add-from : goal.overflow_add-from
overflow_add-from c =
    let a = c.args in
    let l = c.loop-i in
    let t : c.next-total.result.units ≡ ahead l.total.units (part a.bytes.now (10 * l.i + 8) 2) = c.next-total.ensures ∙ ap (ahead l.total.units) c.extra_of.ensures.is in
    omega (arith, t, next_most a.bytes.now a.n a.from a.told a.dates.now c.requires l.dates l.total.units l.i l.invariant (omega arith))

pub loop-i-preserved : goal.loop-i-preserved
loop-i-preserved c =
    let a = c.args in
    let l = c.loop-i in
    let t : c.next-total.result.units ≡ ahead l.total.units (part a.bytes.now (10 * l.i + 8) 2) = c.next-total.ensures ∙ ap (ahead l.total.units) c.extra_of.ensures.is in
    let z = to_z-of_z {w = w64} {z = c.micros_at.result} (record { sfits = c.micros_at.type_inv }) ∙ c.micros_at.ensures
    ∙ ap (λ (t : ℕ). held_micros_at (a.from + t * 33 / 16)) t in
    rw (z, t) (filled_on a.bytes.now a.n a.from a.told a.dates.now c.requires l.dates l.total.units l.i l.invariant (omega arith))

pub returns : goal.returns
returns c =
    let a = c.args in
    let l = c.loop-i in
    filled_all a.bytes.now a.n a.from a.told a.dates.now c.requires l.dates l.total.units l.i l.invariant (omega arith)
