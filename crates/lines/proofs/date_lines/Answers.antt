use Rattle.std.proofs.Common.{◌≡◌, rules, ap, ◌∙◌}
use Rattle.leap.specs.Meaning.{LeapList, published_days, published_offsets, published_last}
use Rattle.leap.specs.Published.{published}
use Rattle.lines.specs.Meaning.{done_under, date_lines}
use Rattle.lines.proofs.date_lines.Goals as goal

pub known-requires : goal.known-requires
known-requires c = rw (c.new-list.ensures, c.published_days-days.ensures, c.published_offsets-offsets.ensures) published

pub returns : goal.returns
unfolding date_lines
returns c =
    let k : c.known.result ≡ record { days = published_days; offsets = published_offsets; last = published_last } = search rules in
    c.date_under.ensures ∙ ap (λ (l : LeapList). done_under l.days l.offsets l.last c.args.input.now c.args.out.now) k
