use Rattle.std.proofs.Common.{◌/◌, length, sym, ◌∙◌, arith}
use Rattle.season.specs.Filed.{uneven, too_many, not_rising, no_room_lem, filed, rest_length, all_laid}
use Rattle.season.proofs.writer.write.Goals as goal
use Rattle.season.proofs.writer.write.Goals.{then-words-ne0-via-then-words-ne0, then-words-ne0-via-else-words-ne0+then-n-gt512, then-words-ne0-via-else-words-ne0+else-n-gt512+then-not-all_rise}

pub returns-then-words-ne0 : goal.returns-then-words-ne0
returns-then-words-ne0 c =
    let ws = c.args.words.now in
    let out = c.args.out.now in
    elim c.then-words-ne0.branch [
      | then-words-ne0-via-then-words-ne0 w ↦ uneven ws out w.if-words-ne0.true
      | then-words-ne0-via-else-words-ne0+then-n-gt512 w ↦ too_many ws out w.if-words-ne0.false w.if-n-gt512.true
      | then-words-ne0-via-else-words-ne0+else-n-gt512+then-not-all_rise w ↦
          not_rising ws out w.if-words-ne0.false w.if-n-gt512.false (sym w.all_rise.ensures ∙ w.if-not-all_rise.true)
    ]

pub returns-then-out-end : goal.returns-then-out-end
returns-then-out-end c =
    no_room_lem c.args.words.now c.args.out.now c.if-words-ne0.false c.if-n-gt512.false
    (sym c.all_rise.ensures ∙ c.if-not-all_rise.false) c.if-out-end.true

pub put_all-requires : goal.put_all-requires
put_all-requires c =
    let ws = c.args.words.now in (
      sym c.all_rise.ensures ∙ c.if-not-all_rise.false,
      omega arith,
      c.if-n-gt512.false,
      rest_length (length ws / 7) c.args.out.now c.lay.new.out c.if-out-end.false c.lay.ensures,
    )

pub returns : goal.returns
returns c =
    let ws = c.args.words.now in
    filed ws c.args.out.now c.if-words-ne0.false c.if-n-gt512.false
    (sym c.all_rise.ensures ∙ c.if-not-all_rise.false) c.if-out-end.false
    (all_laid (length ws / 7) c.args.out.now c.lay.new.out c.if-out-end.false c.lay.ensures c.put_all.new.out ws c.put_all.ensures)
