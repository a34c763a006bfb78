use Rattle.std.proofs.Common.{rules}
use Rattle.leap.specs.Steps.{usable}
use Rattle.via_tai.specs.Ways.{unexpired_few, utc_early, utc_in_lem}
use Rattle.via_tai.proofs.inner.unexpired_to_utc.Goals as goal

pub returns-then-c : goal.returns-then-c
returns-then-c c = utc_early _ _ _ _ c.list-list.ensures.accepted c.requires.unexpired c.requires.from_first c.if-c.true

pub utc_at-requires-clause-usable : goal.utc_at-requires-clause-usable
utc_at-requires-clause-usable c = let u = usable _ _ _ c.list-list.ensures.accepted in search rules

pub utc_at-requires-clause-in_axis : goal.utc_at-requires-clause-in_axis
utc_at-requires-clause-in_axis c = let k = unexpired_few _ _ _ _ c.list-list.ensures.accepted c.requires.unexpired in search rules

pub returns : goal.returns
returns c = let k = utc_in_lem _ _ _ _ c.list-list.ensures.accepted c.requires.unexpired in search rules
