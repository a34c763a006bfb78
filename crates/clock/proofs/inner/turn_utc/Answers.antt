use Rattle.std.proofs.Common.{◌≡◌, rules, true, false, refl, sym, ap, ◌∙◌, Ok}
use Rattle.axis.specs.Meaning.{micros_at}
use Rattle.scales.specs.Meaning.{answer, outcome, moment_at}
use Rattle.scales.specs.declared.Scale.TheVariants as S
use Rattle.via_tai.specs.Ways.{counted}
use Rattle.clock.specs.Places.{within_at}
use Rattle.clock.specs.Stage.{placing, left_placing}
use Rattle.clock.specs.Turning.{turn_8, turn_in}
use Rattle.clock.proofs.inner.turn_utc.Goals as goal

pub returns-then-not-covers : goal.returns-then-not-covers
returns-then-not-covers c =
    let a = c.args in
    let l = a.list.now in
    let w = c.in_ok-w.w in
    let f : c.from_utc.result ≡ Ok w = search rules in
    let p : answer (micros_at w.0) ≡ outcome (placing (moment_at S.Utc a.t.0) l.days l.offsets l.last) =
    ap counted (sym f) ∙ left_placing (moment_at S.Utc a.t.0) l.days l.offsets l.last c.from_utc.result a.t.0 c.requires refl c.from_utc.ensures in
    let k : within_at a.v w.0 ≡ false = search rules in
    turn_8 a.v a.t.0 l.days l.offsets l.last c.requires w.0 p k

pub returns : goal.returns
returns c =
    let a = c.args in
    let l = a.list.now in
    let w = c.in_ok-w.w in
    let f : c.from_utc.result ≡ Ok w = search rules in
    let p : answer (micros_at w.0) ≡ outcome (placing (moment_at S.Utc a.t.0) l.days l.offsets l.last) =
    ap counted (sym f) ∙ left_placing (moment_at S.Utc a.t.0) l.days l.offsets l.last c.from_utc.result a.t.0 c.requires refl c.from_utc.ensures in
    let k : within_at a.v w.0 ≡ true = search rules in
    turn_in a.v a.t.0 l.days l.offsets l.last c.requires w.0 p k
