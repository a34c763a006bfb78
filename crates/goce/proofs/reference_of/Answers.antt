use Rattle.std.proofs.Common.{◌≡◌, ◌+◌, rules, arith, ap, ◌∙◌, true, false, ℕ, Some}
use Rattle.axis.specs.Meaning.{place_of_counts}
use Rattle.goce.specs.Meaning.{in_limits}
use Rattle.goce.specs.Accepted.{not_limited, utc_few, too_early, too_late, past_span, reference_is}
use Rattle.goce.proofs.reference_of.Goals.{then-offset-lt226486753689600-via-then-offset-lt226486753689600, then-offset-lt226486753689600-via-else-offset-lt226486753689600+then-offset-gt226498078310400}
use Rattle.goce.proofs.reference_of.Goals as goal

pub returns-then-not-in_limits : goal.returns-then-not-in_limits
returns-then-not-in_limits c =
    let k = c.args.c in
    let f : in_limits k ≡ false = search rules in
    not_limited k f

pub returns-then-offset-lt226486753689600 : goal.returns-then-offset-lt226486753689600
returns-then-offset-lt226486753689600 c =
    let k = c.args.c in
    let l : in_limits k ≡ true = search rules in
    let o : c.place_of_counts-offset.result ≡ place_of_counts k.offset = search rules in
    elim c.then-offset-lt226486753689600.branch [
      | then-offset-lt226486753689600-via-then-offset-lt226486753689600 w ↦ too_early k l (omega (arith, o, w.if-offset-lt226486753689600.true))
      | then-offset-lt226486753689600-via-else-offset-lt226486753689600+then-offset-gt226498078310400 w ↦
          too_late k l (omega (arith, o, w.if-offset-lt226486753689600.false)) (omega (arith, o, w.if-offset-gt226498078310400.true))
    ]

pub overflow_add-s : goal.overflow_add-s
overflow_add-s c =
    let k = c.args.c in
    let l : in_limits k ≡ true = search rules in
    let o : c.place_of_counts-offset.result ≡ place_of_counts k.offset = search rules in
    omega (arith, utc_few k l, o, c.if-offset-gt226498078310400.false)

pub returns-then-s-ge-SPAN_END : goal.returns-then-s-ge-SPAN_END
returns-then-s-ge-SPAN_END c =
    let k = c.args.c in
    let l : in_limits k ≡ true = search rules in
    let o : c.place_of_counts-offset.result ≡ place_of_counts k.offset = search rules in
    past_span k l (omega (arith, o, c.if-offset-lt226486753689600.false)) (omega (arith, o, c.if-offset-gt226498078310400.false)) (omega (arith, o, c.if-s-ge-SPAN_END.true))

pub returns : goal.returns
returns c =
    let k = c.args.c in
    let l : in_limits k ≡ true = search rules in
    let o : c.place_of_counts-offset.result ≡ place_of_counts k.offset = search rules in
    ap (λ (x : ℕ). Some (k.utc0 + x)) o
    ∙ reference_is k l (omega (arith, o, c.if-offset-lt226486753689600.false)) (omega (arith, o, c.if-offset-gt226498078310400.false)) (omega (arith, o, c.if-s-ge-SPAN_END.false))
