use Rattle.std.proofs.Common.{rules, ◌≡◌, ◌+◌, ◌*◌, ◌<◌, length, get_or, take, arith}
use Rattle.std.proofs.lemmas.List.{take_more}
use Rattle.octets.specs.Meaning.{number}
use Rattle.octets.specs.Field.{number_snoc}
use Rattle.octets.proofs.number_of.Goals as goal

pub loop-b-init : goal.loop-b-init
unfolding number
loop-b-init c = search rules

pub loop-b-preserved : goal.loop-b-preserved
loop-b-preserved c =
    let s = c.args.s.now in
    let i = c.loop-b.b-index in
    let h : i < length s = omega arith in
    let e : number (take (i + 1) s) ≡ number (take i s) * 256 + get_or s i 0 = rw (take_more s i 0 h) (number_snoc (take i s) (get_or s i 0)) in
    omega (arith, c.type_inv.s i)
