use Rattle.std.proofs.Common.{◌≡◌, Bool, true, false, ◌&&◌, rules, sym, ap, ap₂, ◌∙◌, arith}
use Rattle.octets.specs.Field.{bytes_all}
use Rattle.scales.specs.Place.{and_false}
use Rattle.season.specs.Meaning.{entry_kept, body_kept}
use Rattle.season.specs.Places.{entry_of}
use Rattle.season.specs.Kept.{kept_at}
use Rattle.season.specs.Covers.{ends_next}
use Rattle.season.specs.Each.{all_not, all_next}
use Rattle.season.specs.Bodies.{stands_at}
use Rattle.season.specs.declared.Entry.{Entry}
use Rattle.season.proofs.reader.all_stand.Goals as goal
use Rattle.season.proofs.reader.all_stand.Goals.{then-not-follows-via-then-not-follows, then-not-follows-via-else-not-follows+then-not-stands}

pub returns-then-not-follows : goal.returns-then-not-follows
returns-then-not-follows c =
    let s = c.args.bytes.now in
    let l = c.loop-k in
    let b = bytes_all s (λ j. (c.type_inv.bytes j).fits) in
    let e = kept_at s c.args.n b c.requires l.k l.before (omega arith) l.invariant.ends c.entry_at-e.result c.entry_at-e.ensures in
    let a = all_not (λ j. entry_kept s j && body_kept s j) c.args.n l.k (omega arith) in
    elim c.then-not-follows.branch [
      | then-not-follows-via-then-not-follows w ↦
          let f : entry_kept s l.k ≡ false = search rules in
          sym (a (ap (λ (t : Bool). t && body_kept s l.k) f))
      | then-not-follows-via-else-not-follows+then-not-stands w ↦
          let d = stands_at s c.args.n l.k b c.requires (omega arith) c.entry_at-e.result w.body.result c.entry_at-e.ensures w.body.ensures in
          let f : body_kept s l.k ≡ false = search rules in
          sym (a (ap (λ (t : Bool). entry_kept s l.k && t) f ∙ and_false (entry_kept s l.k)))
    ]

pub loop-k-preserved : goal.loop-k-preserved
loop-k-preserved c =
    let s = c.args.bytes.now in
    let l = c.loop-k in
    let b = bytes_all s (λ j. (c.type_inv.bytes j).fits) in
    let e = kept_at s c.args.n b c.requires l.k l.before (omega arith) l.invariant.ends c.entry_at-e.result c.entry_at-e.ensures in
    let d = stands_at s c.args.n l.k b c.requires (omega arith) c.entry_at-e.result c.body.result c.entry_at-e.ensures c.body.ensures in
    let f : entry_kept s l.k ≡ true = search rules in
    let g : body_kept s l.k ≡ true = search rules in
    record {
      stand = all_next (λ j. entry_kept s j && body_kept s j) l.k l.invariant.stand (ap₂ ◌&&◌ f g);
      ends = ends_next (λ j. (entry_of s j).to) l.k c.entry_at-e.result.to (ap (λ (x : Entry). x.to) c.entry_at-e.ensures);
    }

pub returns : goal.returns
returns c =
    let z : c.loop-k.k ≡ c.args.n = omega arith in
    rw (← z) (sym c.loop-k.invariant.stand)
