use Rattle.std.proofs.Common.{◌≡◌, rules, arith, sym, subst, ◌∙◌, Ok, Err}
use lib.Dec.{T}
use Rattle.scales.specs.declared.Time.{Time}
use Rattle.handed.specs.declared.Handed.TheVariants as H
use Rattle.handed.specs.declared.Unread.TheVariants as R
use Rattle.handed.specs.Meaning.{Took}
use Rattle.handed.proofs.Ways.{At, Found, read_tells, took_nothing, took_outside, read_took}
use Rattle.handed.proofs.inner.take_day.Goals as goal

pub time_of-requires : goal.time_of-requires
time_of-requires c =
    let a = c.args in
    let k : At a.day a.scale c.in-Ok.n = read_tells a.day a.scale c.first_of.ensures (sym c.in-Ok.is ∙ c.read_days.ensures) in
    omega (arith, k.small)

pub returns-in-Ok : goal.returns-in-Ok
returns-in-Ok c =
    let a = c.args in
    let k : At a.day a.scale c.in-Ok.n = read_tells a.day a.scale c.first_of.ensures (sym c.in-Ok.is ∙ c.read_days.ensures) in
    subst (λ (t : Time). Took (H.Decimal a.day a.scale) (Ok t)) (sym c.time_of.ensures) (read_took a.day a.scale (subst T (sym c.well_formed.1.0.1) tt) c.in-Ok.n k)

pub returns-in-Err-NotFinite : goal.returns-in-Err-NotFinite
returns-in-Err-NotFinite c =
    let a = c.args in
    let e : c.read_days.result ≡ Err R.NotFinite = search rules in
    took_nothing (H.Decimal a.day a.scale) (read_tells a.day a.scale c.first_of.ensures (sym e ∙ c.read_days.ensures))

pub returns-in-Err-Outside : goal.returns-in-Err-Outside
returns-in-Err-Outside c =
    let a = c.args in
    let e : c.read_days.result ≡ Err R.Outside = search rules in
    let k : Found a.day a.scale (Err R.Outside) = read_tells a.day a.scale c.first_of.ensures (sym e ∙ c.read_days.ensures) in
    took_outside (H.Decimal a.day a.scale) k.0 k.1
