use Rattle.std.proofs.Common.{◌≡◌, ◌+◌, ◌*◌, ◌<◌, sym, ◌∙◌, rules, arith}
use Rattle.std.specs.Int.Signed.{mag}
use Rattle.season.specs.Meaning.{word_in}
use Rattle.season.specs.Taking.{bits_in, bits_read, cover_taken}
use Rattle.season.proofs.writer.cover_at.Goals as goal

pub returns : goal.returns
returns c =
    let ws = c.args.words.now in
    let at = 7 * c.args.k in
    let m : mag (word_in ws at) < 9223372036854775808 = search rules in
    let n : mag (word_in ws (at + 1)) < 9223372036854775808 = search rules in
    let t : c.bits_of.result ≡ bits_in ws at = bits_read (word_in ws at) c.bits_of.result m c.bits_of.ensures in
    let i : c.bits_of-else-bits_of-gt4294967295.result ≡ bits_in ws (at + 1) =
    bits_read (word_in ws (at + 1)) c.bits_of-else-bits_of-gt4294967295.result n c.bits_of-else-bits_of-gt4294967295.ensures in
    c.cover.ensures
    ∙ cover_taken ws c.args.k c.correlation_at.result c.correlation_at.ensures m n
    (omega (arith, t, c.if-bits_of-gt4294967295.false)) (sym i ∙ c.if-bits_of-ne0.false)
