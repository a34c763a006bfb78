use Rattle.std.proofs.Common.{◌≡◌, rules, sym, subst, ◌∙◌, Ok, Err}
use lib.Dec.{T}
use Rattle.scales.specs.declared.Record.{Record}
use Rattle.handed.specs.declared.Handed.TheVariants as H
use Rattle.handed.specs.declared.Unread.TheVariants as R
use Rattle.handed.specs.Laid.{Lays, lays_nothing, lays_outside}
use Rattle.handed.proofs.Ways.{At, Found, read_tells, read_lays}
use Rattle.handed.proofs.inner.lay_decimal.Goals as goal

pub returns-in-Ok : goal.returns-in-Ok
returns-in-Ok c =
    let a = c.args in
    let k : At a.day a.scale c.in-Ok.n = read_tells a.day a.scale c.first_of.ensures (sym c.in-Ok.is ∙ c.read_days.ensures) in
    let l = read_lays a.day a.scale (subst T (sym c.well_formed.0.1) tt) c.in-Ok.n k in
    subst (λ (r : Record). Lays (H.Decimal a.day a.scale) (Ok r)) (sym c.record_of.ensures) l

pub returns-in-Err-Outside : goal.returns-in-Err-Outside
returns-in-Err-Outside c =
    let a = c.args in
    let e : c.read_days.result ≡ Err R.Outside = search rules in
    let k : Found a.day a.scale (Err R.Outside) = read_tells a.day a.scale c.first_of.ensures (sym e ∙ c.read_days.ensures) in
    subst (λ (r : Record). Lays (H.Decimal a.day a.scale) (Ok r)) (sym c.outside.ensures) (lays_outside a.day a.scale k.0 k.1)

pub returns-in-Err-NotFinite : goal.returns-in-Err-NotFinite
returns-in-Err-NotFinite c =
    let a = c.args in
    let e : c.read_days.result ≡ Err R.NotFinite = search rules in
    lays_nothing a.day a.scale (read_tells a.day a.scale c.first_of.ensures (sym e ∙ c.read_days.ensures))
