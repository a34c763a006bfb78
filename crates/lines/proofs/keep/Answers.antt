use Rattle.std.proofs.Common.{◌≡◌, ◌+◌, ◌-◌, ◌++◌, arith, zero-add, take, drop, ◌∙◌}
use Rattle.lines.specs.Kept.{kept_none, kept_all}
use Rattle.lines.proofs.keep.Goals as goal

pub returns-then-end-from : goal.returns-then-end-from
returns-then-end-from c = kept_none c.args.buf.now c.args.from c.args.to (omega arith)

pub returns : goal.returns
returns c =
    let l = c.args.buf.now in
    let from = c.args.from in
    let n = c.min-n.result in
    let z : from + n - from ≡ n = omega arith in
    let e : c.copy_within.new.self ≡ take n (drop from l) ++ drop n l = c.copy_within.ensures.after ∙ rw (z, zero-add) in
    kept_all l from c.args.to (omega arith) n (omega arith) c.copy_within.new.self e
