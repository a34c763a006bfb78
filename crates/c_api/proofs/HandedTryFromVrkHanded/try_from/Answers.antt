use Rattle.std.proofs.Common.{◌≡◌, Option, Ok, ok_or, rules, ap, ◌∙◌}
use Rattle.scales.specs.declared.Refusal.TheVariants as R
use Rattle.handed.specs.declared.Handed.{Handed}
use Rattle.c_api.specs.Meaning.{named_by, record_given}
use Rattle.c_api.proofs.Ways.{given_record}
use Rattle.c_api.proofs.HandedTryFromVrkHanded.try_from.Goals as goal

pub returns-in-0 : goal.returns-in-0
returns-in-0 c =
    let h = c.args.h in
    let s = c.in_ok-scale.scale in
    let n : ok_or (named_by h.scale) R.FieldOver ≡ Ok s = search rules in
    let r : c.hand_record.result ≡ record_given s h.day h.micro h.mark h.source = search rules in
    c.ok_or-in-0.ensures.value
    ∙ ap (λ (o : Option Handed). ok_or o R.FieldOver) r
    ∙ given_record h s n c.in-0.is
