use Rattle.std.proofs.Common.{◌≡◌, rules, sym, ap, ap₂, ◌∙◌, Ok, Err}
use Rattle.std.specs.Prelude.{Result}
use lib.Ieee.{Float}
use Rattle.scales.specs.Meaning.{gives, dated, refused, slip, number_of, record_at, time_scale, time_count}
use Rattle.scales.specs.declared.Scale.{Scale}
use Rattle.scales.specs.declared.Refusal.{Refusal}
use Rattle.scales.specs.declared.Record.{Record}
use Rattle.scales.specs.declared.Time.{Time}
use Rattle.handed.specs.declared.Handed.TheVariants as H
use Rattle.handed.specs.declared.Untaken.{Untaken}
use Rattle.handed.specs.Meaning.{nearest_moment, Took, refused_by}
use Rattle.handed.specs.Told.{untaken_lem, untaken_scale, refused_refusal, Told, told_at, told_record}
use Rattle.decimal.specs.Meaning.{read_of}
use Rattle.decimal.proofs.read.Goals as goal

not_read : (x : Float) (s : Scale) (t : Result Time Untaken) → Took (H.Decimal x s) t → (e : Untaken) → t ≡ Err e → slip (Err (refused_by e)) ≡ read_of x s
unfolding read_of
not_read x s t w e q =
    ap₂ (λ (z : Scale) (f : Refusal). dated z (refused (number_of f))) (untaken_scale (H.Decimal x s) t w e q) (refused_refusal e)
    ∙ sym (rw (untaken_lem (H.Decimal x s) t w e q (gives (nearest_moment x))))

at : (x : Float) (s : Scale) (t : Time) (r : Record) → Told (H.Decimal x s) t → r ≡ record_at (time_scale t) (time_count t) → slip (Ok r) ≡ read_of x s
unfolding read_of
at x s t r w e =
    ap (λ (y : Record). slip (Ok y)) (e ∙ told_record (H.Decimal x s) t w) ∙ sym (rw (w.finite, w.inside))

pub returns-in_err-take_decimal : goal.returns-in_err-take_decimal
returns-in_err-take_decimal c =
    let a = c.args in
    let e = c.in_err-take_decimal.field-0.0 in
    let q : c.take_decimal.result ≡ Err e = search rules in
    let r : c.from_residual.result ≡ Err (refused_by e) = search rules in
    rw r (not_read a.day a.scale c.take_decimal.result c.take_decimal.ensures e q)

pub returns : goal.returns
returns c =
    let a = c.args in
    let t = c.in_ok-take_decimal.field-0 in
    let q : c.take_decimal.result ≡ Ok t = search rules in
    at a.day a.scale t c.to_record.result (told_at (H.Decimal a.day a.scale) c.take_decimal.result c.take_decimal.ensures t q) c.to_record.ensures
