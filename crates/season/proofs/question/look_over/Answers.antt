use Rattle.std.proofs.Common.{◌≡◌, true, false, Ok, rules, ap, arith}
use Rattle.octets.specs.Field.{bytes_all}
use Rattle.season.specs.Meaning.{entry_kept}
use Rattle.season.specs.Places.{entry_of}
use Rattle.season.specs.Kept.{kept_at}
use Rattle.season.specs.Covers.{ends_next}
use Rattle.season.specs.Each.{all_not, all_next}
use Rattle.season.specs.Asked.{seen_next}
use Rattle.season.specs.declared.Entry.{Entry}
use Rattle.season.proofs.question.look_over.Goals as goal
use Rattle.season.proofs.question.look_over.Goals.{then-covers, else-covers}

pub returns-then-not-follows : goal.returns-then-not-follows
returns-then-not-follows c =
    let s = c.args.bytes.now in
    let l = c.loop-k in
    let e = kept_at s c.args.n (bytes_all s (λ j. (c.type_inv.bytes j).fits)) c.requires l.k l.before (omega arith) l.invariant.ends c.entry_at-e.result c.entry_at-e.ensures in
    let f : entry_kept s l.k ≡ false = search rules in
    rw (all_not (entry_kept s) c.args.n l.k (omega arith) f)

pub loop-k-preserved : goal.loop-k-preserved
loop-k-preserved c =
    let s = c.args.bytes.now in
    let l = c.loop-k in
    let e = kept_at s c.args.n (bytes_all s (λ j. (c.type_inv.bytes j).fits)) c.requires l.k l.before (omega arith) l.invariant.ends c.entry_at-e.result c.entry_at-e.ensures in
    let f : entry_kept s l.k ≡ true = search rules in
    let n = seen_next s c.args.receipt l.k in
    record {
      kept = all_next (entry_kept s) l.k l.invariant.kept f;
      ends = ends_next (λ j. (entry_of s j).to) l.k c.entry_at-e.result.to (ap (λ (x : Entry). x.to) c.entry_at-e.ensures);
      seen = elim c.if-covers.branch [ then-covers w ↦ search rules | else-covers w ↦ search rules ];
    }

pub returns : goal.returns
returns c =
    let z : c.loop-k.k ≡ c.args.n = omega arith in
    rw (← z, c.loop-k.invariant.kept) (ap Ok c.loop-k.invariant.seen)
