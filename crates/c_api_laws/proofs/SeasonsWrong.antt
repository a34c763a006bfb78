-- Wrong covers of the season's question for C, each shut out by a file at which its answer is not the meaning's. Assumes nothing.
use mathlib.Core.Path.{ap}
use native.Mathlib.Omega.{arith}
use lib.IntN.{pos, nat_abs}
use Rattle.evidence.specs.ShutOut.{ShutOut, shut, differ}
use Rattle.scales.specs.Meaning.{Valued}
use Rattle.clock.specs.Meaning.{Cover}
use Rattle.season.specs.Meaning.{covering}
use Rattle.season_laws.proofs.Cases.{two, marked_is}
use Rattle.season_laws.proofs.Wrong.{touching, touching_taken, covers_unsigned}
use Rattle.c_api.specs.Seasons.{cover_out}
use Rattle.c_api.specs.declared.seasons.VrkCover.{VrkCover}

-- last before first
abbrev last_first : Valued Cover → VrkCover
last_first v = record { refusal = v.number; first = v.value.to; last = v.value.from }

pub last_first_lem : ShutOut (cover_out (covering two (pos 0) 0)) (record { refusal = 0; first = marked_is.from; last = marked_is.to })
    (last_first (covering two (pos 0) 0)) (record { refusal = 0; first = marked_is.to; last = marked_is.from })
last_first_lem = shut (ap cover_out covers_unsigned.0) (ap last_first covers_unsigned.0) (differ (λ (c : VrkCover). nat_abs c.last) (λ e. omega arith))

-- the number of a refusal not handed out
abbrev unnumbered : Valued Cover → VrkCover
unnumbered v = record { refusal = 0; first = v.value.from; last = v.value.to }

pub cover_unnumbered : ShutOut (cover_out (covering touching (pos 0) 3)) (record { refusal = 14; first = pos 0; last = pos 0 })
    (unnumbered (covering touching (pos 0) 3)) (record { refusal = 0; first = pos 0; last = pos 0 })
cover_unnumbered = shut (ap cover_out touching_taken.0) (ap unnumbered touching_taken.0) (differ (λ (c : VrkCover). c.refusal) (λ e. omega arith))
