-- What the functions on the season's file of the C interface hand out. Assumes nothing.
use Rattle.std.specs.Prelude.{List, ℤ}
use Rattle.scales.specs.Meaning.{Valued}
use Rattle.clock.specs.Meaning.{Cover}
use Rattle.season.specs.Meaning.{Entered}
use Rattle.c_api.specs.declared.VrkCount.{VrkCount}
use Rattle.c_api.specs.declared.seasons.VrkCover.{VrkCover}

abbrev pub cover_out : Valued Cover → VrkCover
cover_out v = record { refusal = v.number; first = v.value.from; last = v.value.to }

-- the second argument is the lent slice as the reader leaves it
abbrev pub entered_of : VrkCount → List ℤ → Entered
entered_of r out = record { number = r.refusal; count = r.count; lent = out }
