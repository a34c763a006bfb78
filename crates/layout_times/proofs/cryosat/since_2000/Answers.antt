use Rattle.std.proofs.Common.{◌≡◌, rules, Err}
use Rattle.layout_times.proofs.Ways.{cryosat_no}
use Rattle.layout_times.proofs.cryosat.since_2000.Goals as goal

pub returns-in_err-due : goal.returns-in_err-due
returns-in_err-due c =
    let e = c.in_err-due.field-0.0 in
    let r : c.from_residual.result ≡ Err e = search rules in
    rw r (cryosat_no c.args.h e c.in_err-due.ensures)
