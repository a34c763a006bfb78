use Rattle.std.proofs.Common.{◌≡◌, cond, to_z, of_z, w64, rules, refl, sym, ◌∙◌}
use Rattle.scales.specs.Meaning.{scale_at}
use Rattle.c_api.specs.Meaning.{known_scale, correlation_of}
use Rattle.c_api.proofs.Ways.{picked, unpicked}
use Rattle.c_api.proofs.CorrelationFromVrkSbtCorrelation.from.Goals.{in-Some, in-None}
use Rattle.c_api.proofs.CorrelationFromVrkSbtCorrelation.from.Goals as goal

pub returns : goal.returns
unfolding correlation_of
returns c =
    let h = c.args.c in
    let p = c.match-scale_named.scale in
    let e : p ≡ (scale_at h.scale, cond (known_scale h.scale) h.period 0) =
    elim c.match-scale_named.branch [
      | in-Some w ↦ picked h p w.in-Some.scale (sym c.scale_named.ensures ∙ w.in-Some.is) w.scale-is
      | in-None w ↦ unpicked h p (sym c.scale_named.ensures ∙ w.in-None.is) w.scale-is
    ] in
    let d : to_z w64 (of_z w64 h.day) ≡ h.day = search rules in
    rw (e, d) refl
