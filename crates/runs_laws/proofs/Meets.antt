-- Each theorem at an input that meets its hypotheses. Assumes nothing.
use mathlib.Core.Path.{◌≡◌, refl}
use mathlib.Core.Bool.{true}
use mathlib.Core.List.{[], ◌∷◌, map}
use lib.Dec.{lit<, lit≤}
use lib.IntN.{pos}
use lib.ListN.{take, drop}
use Rattle.octets.specs.Meaning.{number}
use Rattle.octets.specs.Field.{Bytes, none, more}
use Rattle.layout_times.specs.Siral as Siral
use Rattle.runs.specs.Meaning.{packets, unrolled, dates_of, siral}
use Rattle.runs_laws.specs.Meaning as M
use Rattle.runs_laws.specs.Meaning.{dates, refused_as, one_of, never_back, Cut, Least, Near}
use Rattle.runs_laws.proofs.Cut.{cut}
use Rattle.runs_laws.proofs.Right.{ahead_least, right, true_dates}
use Rattle.runs_laws.proofs.Back.{never_back_lem}
use Rattle.runs_laws.proofs.One.{run_of_one}
use Rattle.runs_laws.proofs.Cases.{packet, rolls, sevens, answered_as}

-- the run of three is answered
answered : (siral rolls 0 sevens).number ≡ 0
unfolding siral number
answered = refl

-- ---- one packet with extra counter 16: 33 microseconds
one_bytes : Bytes (packet 0 16)
one_bytes =
    more (lit< tt) (more (lit< tt) (more (lit< tt) (more (lit< tt) (more (lit< tt) (more (lit< tt) (more (lit< tt) (more (lit< tt) (more (lit< tt) (more (lit< tt) none)))))))))

pub run_of_one_met :
    (siral (packet 0 16) 0 sevens ≡ one_of (Siral.read (packet 0 16)) 16 sevens)
    × (siral (packet 0 16) 0 sevens ≡ answered_as 1 16 (pos 86400000033 ∷ pos 7 ∷ pos 7 ∷ pos 7 ∷ []))
    × (siral (packet 0 16) 0 [] ≡ refused_as 13 [])
unfolding Siral.read siral number
run_of_one_met = (run_of_one (packet 0 16) one_bytes refl sevens, refl, run_of_one (packet 0 16) one_bytes refl [])

pub never_back_met : never_back (pos 86400135165 ∷ pos 86400135198 ∷ pos 86400135198 ∷ []) ≡ true
unfolding siral number
never_back_met = never_back_lem rolls 0 sevens answered

-- ---- cut after the first packet, and after none and all
pub cut_met :
    Cut (siral rolls 0 sevens) (siral (take 10 rolls) 0 sevens) (siral (drop 10 rolls) 65535 sevens) 1 sevens sevens
    × Cut (siral rolls 0 sevens) (siral [] 0 []) (siral rolls 0 sevens) 0 [] sevens
    × Cut (siral rolls 0 sevens) (siral rolls 0 sevens) (siral [] 65551 []) 3 sevens []
unfolding siral number
cut_met = (
  cut rolls 0 sevens answered 1 (lit≤ tt) sevens sevens (lit≤ tt) (lit≤ tt),
  cut rolls 0 sevens answered 0 (lit≤ tt) [] sevens (lit≤ tt) (lit≤ tt),
  cut rolls 0 sevens answered 3 (lit≤ tt) sevens [] (lit≤ tt) (lit≤ tt),
)

-- ---- after 65535 the least number that leads to 15
pub ahead_least_met : Least 65535 15 65551
ahead_least_met = ahead_least 65535 15 (lit< tt)

-- ---- the true counts 65535, 65551 and 65551
near : Near 0 (65535 ∷ 65551 ∷ 65551 ∷ [])
near = M.more (lit≤ tt) (lit< tt) (M.more (lit≤ tt) (lit< tt) (M.more (lit≤ tt) (lit< tt) M.none))

pub right_met : unrolled 0 (65535 ∷ 15 ∷ 15 ∷ []) ≡ 65535 ∷ 65551 ∷ 65551 ∷ []
right_met = right 0 (65535 ∷ 65551 ∷ 65551 ∷ []) near

pub true_dates_met : dates (siral rolls 0 sevens) ≡ map pos (dates_of (packets rolls) (65535 ∷ 65551 ∷ 65551 ∷ []))
unfolding number
true_dates_met = true_dates rolls 0 sevens answered (65535 ∷ 65551 ∷ 65551 ∷ []) refl near
