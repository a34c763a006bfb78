use Rattle.std.proofs.Common.{ap, ◌∙◌, rules, arith}
use Rattle.std.proofs.lemmas.Int.{to_z-of_z, to_z_pos}
use Rattle.std.specs.Int.{w64}
use Rattle.axis.specs.Meaning.{signed_of}
use Rattle.sbt.specs.Accepted.{sound}
use Rattle.season.proofs.Nine.{stored}
use Rattle.season.proofs.reader.put.Goals as goal

pub overflow_cast-words : goal.overflow_cast-words
overflow_cast-words c = let s = (sound c.args.c c.requires.0).under in search rules

pub overflow_cast-words-2 : goal.overflow_cast-words-2
overflow_cast-words-2 c = let s = (sound c.args.c c.requires.0).slow in search rules

pub overflow_cast-words-3 : goal.overflow_cast-words-3
overflow_cast-words-3 c = let s = (sound c.args.c c.requires.0).back_to in search rules

pub overflow_cast-words-4 : goal.overflow_cast-words-4
overflow_cast-words-4 c = let s = (sound c.args.c c.requires.0).ahead_to in search rules

pub returns : goal.returns
returns c =
    let s = sound c.args.c c.requires.0 in
    rw (
      to_z-of_z w64 c.signed_of.result (search rules) ∙ c.signed_of.ensures ∙ ap signed_of c.turn.ensures,
      to_z-of_z w64 c.signed_of-2.result (search rules) ∙ c.signed_of-2.ensures ∙ ap signed_of c.turn-2.ensures,
      to_z-of_z w64 c.from.result (search rules) ∙ c.from.ensures,
      to_z-of_z w64 c.args.c.day (search rules),
      to_z_pos w64 c.args.c.micro (omega (arith, s.under)),
      to_z_pos w64 c.args.c.period (omega (arith, s.slow)),
      to_z_pos w64 c.args.c.back (omega (arith, s.back_to)),
      to_z_pos w64 c.args.c.ahead (omega (arith, s.ahead_to)),
    )
    (stored c.args.words.now c.requires.1 _ _ _ _ _ _ _ _ _)
