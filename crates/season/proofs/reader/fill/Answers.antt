use Rattle.std.proofs.Common.{refl, ◌∙◌, arith}
use Rattle.octets.specs.Field.{bytes_all}
use Rattle.season.specs.Meaning.{entry_words}
use Rattle.season.specs.Filling.{turn_length, fill_turn}
use Rattle.season.specs.Bodies.{accepted_at, words_at}
use Rattle.season.proofs.reader.fill.Goals as goal

pub put-requires : goal.put-requires
put-requires c =
    let s = c.args.bytes.now in
    let r = c.requires in
    let l = c.loop-k in (
      accepted_at s c.args.n l.k (bytes_all s (λ j. (c.type_inv.bytes j).fits)) r.fit (omega arith) c.entry_at-e.result c.body-c.result c.entry_at-e.ensures c.body-c.ensures r.stand,
      turn_length 9 (entry_words s) l.k c.args.words.now l.words l.invariant (omega (arith, r.room)),
    )

pub loop-k-preserved : goal.loop-k-preserved
loop-k-preserved c =
    let s = c.args.bytes.now in
    let r = c.requires in
    let l = c.loop-k in
    let w = words_at s c.args.n l.k (bytes_all s (λ j. (c.type_inv.bytes j).fits)) r.fit (omega arith) c.entry_at-e.result c.body-c.result c.entry_at-e.ensures c.body-c.ensures r.stand in
    fill_turn 9 (entry_words s) l.k c.args.words.now l.words l.invariant c.put.new.words (c.put.ensures ∙ w) refl
