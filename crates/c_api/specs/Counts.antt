-- What the functions on GOCE's counts of the C interface mean. Assumes nothing.
use Rattle.std.specs.Prelude.{List, ℕ, ℤ}
use Rattle.scales.specs.Meaning.{given, outcome, valued}
use Rattle.goce.specs.Meaning.{date_of, turning}
use Rattle.goce.specs.declared.Correlation.{Correlation}
use Rattle.c_api.specs.Meaning.{known, handed_of, time_out, count_out}
use Rattle.c_api.specs.declared.VrkCount.{VrkCount}
use Rattle.c_api.specs.declared.VrkHanded.{VrkHanded}
use Rattle.c_api.specs.declared.VrkTime.{VrkTime}
use Rattle.c_api.specs.declared.counts.VrkGoceCorrelation.{VrkGoceCorrelation}

abbrev pub goce_of : VrkGoceCorrelation → Correlation
goce_of c =
    record { obt0 = c.obt0; utc0 = c.utc0; offset = c.offset; gradient = c.gradient; back = c.back; ahead = c.ahead }

unfoldable pub goce_date : ℕ → VrkGoceCorrelation → ℤ → ℕ → List ℤ → List ℕ → ℤ → VrkTime
goce_date t c d u ds os e = time_out (date_of (goce_of c) t d u ds os e)

unfoldable pub goce_count : VrkHanded → VrkGoceCorrelation → List ℤ → List ℕ → ℤ → VrkCount
goce_count h c ds os e = count_out (valued 0 (outcome (given (known h) 3 (turning (goce_of c) (handed_of h) ds os e))))
