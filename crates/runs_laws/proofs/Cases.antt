-- Runs by their bytes, and what is handed back of them, computed. Assumes nothing.
use mathlib.Core.Path.{◌≡◌, refl}
use mathlib.Core.List.{List, [], ◌∷◌, ◌++◌}
use Prim.Native.Nat.{ℕ}
use lib.IntN.{ℤ, pos}
use Rattle.evidence.specs.ShutOut.{differ}
use Rattle.octets.specs.Meaning.{number}
use Rattle.runs.specs.Meaning.{Run, siral}
use Rattle.runs_laws.specs.Meaning.{refused_as}

-- a packet of the first microsecond of day 1, and one of the last microsecond of a day, by the bytes of the day and of the extra counter
abbrev pub packet : ℕ → ℕ → List ℕ
packet high low = 0 ∷ 1 ∷ 0 ∷ 0 ∷ 0 ∷ 0 ∷ 0 ∷ 0 ∷ high ∷ low ∷ []

abbrev pub midnight : ℕ → ℕ → ℕ → List ℕ
midnight high low extra = high ∷ low ∷ 5 ∷ 38 ∷ 91 ∷ 255 ∷ 3 ∷ 231 ∷ 0 ∷ extra ∷ []

-- a packet whose millisecond is over its limit
abbrev pub over : List ℕ
over = 0 ∷ 1 ∷ 5 ∷ 38 ∷ 92 ∷ 0 ∷ 0 ∷ 0 ∷ 0 ∷ 0 ∷ []

-- extra counters 65535, 15 and 15: one roll, and two neighbours that are equal
abbrev pub rolls : List ℕ
rolls = packet 255 255 ++ (packet 0 15 ++ packet 0 15)

abbrev pub sevens : List ℤ
sevens = pos 7 ∷ pos 7 ∷ pos 7 ∷ pos 7 ∷ []

abbrev pub answered_as : ℕ → ℕ → List ℤ → Run
answered_as n last out = record { number = 0; count = n; last = last; lent = out }

pub by_number : {x y : Run} → (x.number ≡ y.number → ⊥) → x ≡ y → ⊥
by_number d e = differ (λ (r : Run). r.number) d e

pub by_last : {x y : Run} → (x.last ≡ y.last → ⊥) → x ≡ y → ⊥
by_last d e = differ (λ (r : Run). r.last) d e

-- ---- "The 16-bit extra counter rolls over after 65,536 x 2.0625 = 135,168 microseconds"
pub rolled : siral rolls 0 sevens ≡ answered_as 3 65551 (pos 86400135165 ∷ pos 86400135198 ∷ pos 86400135198 ∷ pos 7 ∷ [])
unfolding siral number
rolled = refl

-- the same packets told of a roll before them
pub told_on : siral rolls 65536 sevens ≡ answered_as 3 131087 (pos 86400270333 ∷ pos 86400270366 ∷ pos 86400270366 ∷ pos 7 ∷ [])
unfolding siral number
told_on = refl

-- ---- 484,848 units are 999,999 microseconds, and are answered; one more is not, and no told count above it
pub most_answered :
    (siral (packet 101 240) 484848 sevens ≡ answered_as 1 484848 (pos 86400999999 ∷ pos 7 ∷ pos 7 ∷ pos 7 ∷ []))
    × (siral (packet 101 241) 484848 sevens ≡ refused_as 16 sevens)
    × (siral (packet 101 241) 484849 sevens ≡ refused_as 16 sevens)
    × (siral (packet 255 255) 18446744073709551615 sevens ≡ refused_as 16 sevens)
unfolding siral number
most_answered = (refl, refl, refl, refl)

-- ---- "An empty run is answered with no dates", whatever is told
pub empty_answered : siral [] 18446744073709551615 sevens ≡ answered_as 0 18446744073709551615 sevens
unfolding siral
empty_answered = refl

-- ---- the carry passes midnight, and leaves the span
pub carried :
    (siral (midnight 0 0 0 ++ midnight 0 0 1) 0 sevens ≡ answered_as 2 1 (pos 86399999999 ∷ pos 86400000001 ∷ pos 7 ∷ pos 7 ∷ []))
    × (siral (midnight 142 172 0) 0 sevens ≡ answered_as 1 0 (pos 3155759999999999 ∷ pos 7 ∷ pos 7 ∷ pos 7 ∷ []))
    × (siral (midnight 142 172 0 ++ midnight 142 172 1) 0 sevens ≡ refused_as 7 sevens)
unfolding siral number
carried = (refl, refl, refl)

-- ---- the order: 1, 3 of all packets, 16, 7, 13
pub in_order :
    (siral (0 ∷ over) 0 [] ≡ refused_as 1 [])
    × (siral (packet 0 0 ++ over) 0 [] ≡ refused_as 3 [])
    × (siral (midnight 142 172 1 ++ packet 0 0) 0 [] ≡ refused_as 16 [])
    × (siral (midnight 142 172 1) 0 [] ≡ refused_as 7 [])
    × (siral (packet 0 0) 0 [] ≡ refused_as 13 [])
unfolding siral number
in_order = (refl, refl, refl, refl, refl)
