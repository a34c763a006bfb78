use Rattle.std.proofs.Common.{◌≡◌, rules, true, ◌∙◌, ◌&&◌, not, Ok, Err}
use Rattle.scales.specs.Meaning.{slip, refused_of}
use Rattle.scales.specs.declared.Scale.TheVariants as S
use Rattle.leap.specs.Meaning.{accepted}
use Rattle.via_tai.specs.Meaning.{is_utc}
use Rattle.text_read.specs.Ways.{read_refused, read_parsed, read_lacks}
use Rattle.text_read.proofs.read.Goals as goal

pub returns-in_err-r : goal.returns-in_err-r
returns-in_err-r c =
    let l = c.args.list.now in
    let f = c.in_err-r.field-0.0 in
    let g : c.parse.result ≡ Err f.refusal = search rules in
    let s : slip c.from_residual.result ≡ slip (Err (refused_of S.Tai f.refusal)) = search rules in
    s ∙ read_refused c.args.text.now l.days l.offsets l.last c.parse.result c.parse.ensures f.refusal g

pub returns-then-lacks_list : goal.returns-then-lacks_list
returns-then-lacks_list c =
    let l = c.args.list.now in
    let t = c.in_ok-r.r in
    let g : c.parse.result ≡ Ok t = search rules in
    let u : (is_utc t.scale && not (accepted l.days l.offsets l.last)) ≡ true = search rules in
    rw c.of.ensures (read_lacks c.args.text.now l.days l.offsets l.last c.parse.result c.parse.ensures t g u)

pub returns : goal.returns
returns c =
    let l = c.args.list.now in
    let t = c.in_ok-r.r in
    let g : c.parse.result ≡ Ok t = search rules in
    c.read_time.ensures ∙ read_parsed c.args.text.now l.days l.offsets l.last c.parse.result c.parse.ensures t g
