use Rattle.std.proofs.Common.{◌≡◌, rules, refl, ap, ◌∙◌, ℕ, ◌+◌, ◌*◌, ◌/◌, Ok, Err}
use Rattle.scales.specs.declared.Scale.TheVariants as S
use Rattle.layout_fields.specs.Siral.{reading as fields_reading, empty, read as fields_read}
use Rattle.layout_times.specs.Chain.{scaled_no, scaled_at, read_at}
use Rattle.layout_times.specs.Cryosat.{epoch}
use Rattle.layout_times.specs.Siral.{micros_of, read}
use Rattle.layout_times.proofs.Ways.{siral_micros}
use Rattle.layout_times.proofs.siral.read.Goals as goal

pub returns-in_err-f : goal.returns-in_err-f
unfolding read fields_read
returns-in_err-f c =
    let s = c.args.b.now in
    let e = c.in_err-f.field-0.0 in
    let m : c.map_err.result ≡ Err e = search rules in
    let r : c.from_residual.result ≡ Err e = search rules in
    rw r (scaled_no S.Tai epoch micros_of empty (fields_reading s) c.read.result c.map_err.result c.map_err.ensures.cases (λ f e q. search rules) c.read.ensures e m)

pub returns : goal.returns
unfolding read fields_read
returns c =
    let s = c.args.b.now in
    let f = c.in_ok-f.f in
    let m : c.map_err.result ≡ Ok f = search rules in
    let v = scaled_at S.Tai epoch micros_of empty (fields_reading s) c.read.result c.map_err.result _ c.map_err.ensures.cases c.read.ensures f m in
    c.since.ensures ∙ read_at S.Tai epoch micros_of empty (fields_reading s) refl f v _ (ap (λ (x : ℕ). c.micros-n.result + x * 33 / 16) c.from.ensures ∙ siral_micros c.micros-n.result _ f.extra c.micros-n.ensures)
