-- What is handed back, a time or a writing, by its numbers, and wrong desks over either, for every function that answers so.
-- Assumes nothing.
use mathlib.Core.Path.{◌≡◌}
use mathlib.Core.Bool.{true, false}
use mathlib.Core.List.{List, ◌∷◌, ◌++◌}
use Prim.Native.Nat.{ℕ, ◌+◌, ◌-◌}
use lib.IntN.{ℤ, pos}
use lib.ListN.{length, take, drop, get_or, replicate}
use Rattle.evidence.specs.ShutOut.{differ}
use Rattle.scales.specs.Meaning.{refused, answer, Slip, dated_as, dated, Wrote}
use Rattle.scales.specs.declared.Scale.{Scale}
use Rattle.scales.specs.declared.Mark.{Mark}
use Rattle.scales.specs.declared.Mark.TheVariants as M

-- ---- times
abbrev pub answered : Scale → ℤ → ℕ → Slip
answered s d u = dated s (answer (record { day = d; micro = u }))

-- the number and the empty record
abbrev pub empty : ℕ → Scale → Slip
empty n s = dated s (refused n)

pub by_number : {x y : Slip} → (x.number ≡ y.number → ⊥) → x ≡ y → ⊥
by_number d e = differ (λ (t : Slip). t.number) d e

-- the same with a mark
abbrev pub marked_as : Mark → Scale → ℤ → ℕ → Slip
marked_as m s d u = dated_as m s (answer (record { day = d; micro = u }))

-- a number for each mark, to tell two apart
abbrev pub mark_number : Mark → ℕ
mark_number M.Plain = 0
mark_number (M.Proteus false) = 1
mark_number (M.Proteus true) = 2
mark_number (M.Correlated n) = 3 + n

pub by_mark : {x y : Slip} → (mark_number x.mark ≡ mark_number y.mark → ⊥) → x ≡ y → ⊥
by_mark d e = differ (λ (t : Slip). mark_number t.mark) d e

pub by_micro : {x y : Slip} → (x.micro ≡ y.micro → ⊥) → x ≡ y → ⊥
by_micro d e = differ (λ (t : Slip). t.micro) d e

-- the desk that marks every slip, a refusal's too
abbrev pub always_marked : Mark → Slip → Slip
always_marked m x = record { number = x.number; scale = x.scale; day = x.day; micro = x.micro; mark = m }

-- the desk that refuses all
abbrev pub refuses_all : Scale → Slip
refuses_all s = empty 7 s

-- the desk that answers day 0 for everything
abbrev pub day_zero : Scale → Slip
day_zero s = answered s (pos 0) 0

-- ---- writings
abbrev pub got : ℕ → List ℕ → Wrote ℕ
got n out = record { number = 0; length = n; lent = out }

-- a refusal, which keeps every byte
abbrev pub keeps : ℕ → List ℕ → Wrote ℕ
keeps n out = record { number = n; length = 0; lent = out }

abbrev pub bytes_at : ℕ → Wrote ℕ → ℕ
bytes_at k w = get_or w.lent k 0

-- what is lent, so that a byte that was written shows
abbrev pub sevens : ℕ → List ℕ
sevens n = replicate n 7

-- the desk that writes nothing, and answers as if it had
abbrev pub writes_nothing : List ℕ → Wrote ℕ → Wrote ℕ
writes_nothing out w = record { number = w.number; length = w.length; lent = out }

-- a made-up length: one that was not written
abbrev pub made_up : Wrote ℕ → Wrote ℕ
made_up w = record { number = w.number; length = w.length + 2; lent = w.lent }

-- what stands after the image is cleared
abbrev pub clearing : List ℕ → Wrote ℕ → Wrote ℕ
clearing out w =
    record { number = w.number; length = w.length; lent = take w.length w.lent ++ replicate (length out - w.length) 0 }

-- a byte is written whatever the answer
abbrev pub scribbling : Wrote ℕ → Wrote ℕ
scribbling w = record { number = w.number; length = w.length; lent = 0 ∷ drop 1 w.lent }
