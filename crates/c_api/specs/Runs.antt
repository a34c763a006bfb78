-- What the function on SIRAL's runs of the C interface hands out. Assumes nothing.
use Rattle.std.specs.Prelude.{List, ℤ}
use Rattle.runs.specs.Meaning.{Run}
use Rattle.c_api.specs.declared.run.VrkRun.{VrkRun}

-- the second argument is the lent slice as the function leaves it
abbrev pub run_of : VrkRun → List ℤ → Run
run_of r out = record { number = r.refusal; count = r.count; last = r.last; lent = out }
