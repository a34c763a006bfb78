use Rattle.std.proofs.Common.{◌≡◌, Some, rules, arith}
use Rattle.sbt.specs.Places.{covered_by}
use Rattle.season.specs.Covers.{few}
use Rattle.season.proofs.reader.stands.Goals as goal

pub overflow_add-v : goal.overflow_add-v
overflow_add-v c =
    let e : covered_by c.args.c ≡ Some c.in-Some.v = search rules in
    let f = few c.args.c c.in-Some.v e in
    record { fits = omega (arith, f.0) }

pub overflow_add-result : goal.overflow_add-result
overflow_add-result c =
    let e : covered_by c.args.c ≡ Some c.in-Some.v = search rules in
    let f = few c.args.c c.in-Some.v e in
    record { fits = omega (arith, f.1) }
