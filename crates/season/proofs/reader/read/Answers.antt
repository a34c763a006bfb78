use Rattle.std.proofs.Common.{◌≡◌, false, true, Some, None, Ok, Err, ap, ◌∙◌, rules}
use Rattle.std.proofs.Common.{List, ℤ}
use Rattle.scales.specs.declared.Refusal.TheVariants as R
use Rattle.season.specs.Places.{count_in}
use Rattle.season.specs.Asked.{fit_at}
use Rattle.season.specs.Bodies.{all_stand, entered_by}
use Rattle.season.specs.Read.{read_unsized, read_broken, read_short, read_all}
use Rattle.season.proofs.reader.read.Goals as goal

pub returns-in_err-n : goal.returns-in_err-n
returns-in_err-n c =
    let q : count_in c.args.bytes.now ≡ None = search rules in
    let r : c.from_residual.result ≡ Err R.SeasonBroken = search rules in
    rw r (read_unsized c.args.bytes.now c.args.words.now q)

pub returns-then-not-all_stand : goal.returns-then-not-all_stand
returns-then-not-all_stand c =
    let s = c.args.bytes.now in
    let q : count_in s ≡ Some c.in_ok-n.n = search rules in
    let a : all_stand s c.in_ok-n.n ≡ false = search rules in
    read_broken s c.args.words.now c.in_ok-n.n (fit_at s c.in_ok-n.n q) a

pub returns-then-words-n : goal.returns-then-words-n
returns-then-words-n c =
    let s = c.args.bytes.now in
    let q : count_in s ≡ Some c.in_ok-n.n = search rules in
    let a : all_stand s c.in_ok-n.n ≡ true = search rules in
    read_short s c.args.words.now c.in_ok-n.n (fit_at s c.in_ok-n.n q) a c.if-words-n.true

pub returns : goal.returns
returns c =
    let s = c.args.bytes.now in
    let n = c.in_ok-n.n in
    let q : count_in s ≡ Some n = search rules in
    let a : all_stand s n ≡ true = search rules in
    ap (λ (l : List ℤ). entered_by (Ok n) l) c.fill.ensures ∙ read_all s c.args.words.now n (fit_at s n q) a c.if-words-n.false
