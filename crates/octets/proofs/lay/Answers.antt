use Rattle.std.proofs.Common.{◌≡◌, ◌-◌, length, arith, drop_of_length-le}
use Rattle.octets.specs.Meaning.{field}
use Rattle.octets.specs.Field.{lay_turn}
use Rattle.octets.proofs.lay.Goals as goal

pub loop-i-init : goal.loop-i-init
unfolding field
loop-i-init c =
    let o = c.args.out.now in
    let z : length o - length o ≡ 0 = omega arith in
    record { laid = rw z (drop_of_length-le o (omega arith)); rest = rw z (omega arith) }

pub loop-i-preserved : goal.loop-i-preserved
loop-i-preserved c =
    let l = c.loop-i in
    let t = lay_turn l.out l.i c.args.v l.x (omega arith) (omega arith) l.invariant.laid l.invariant.rest in
    record { laid = t.0; rest = t.1 }
