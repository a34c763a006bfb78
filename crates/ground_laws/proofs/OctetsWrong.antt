-- Wrong programs, each shut out by an input at which its answer is not the meaning's. Assumes nothing.
use mathlib.Core.Path.{refl}
use mathlib.Core.Bool.{Bool, true, false, cond}
use mathlib.Core.List.{List, [], ◌∷◌, ◌++◌}
use Prim.Native.Nat.{ℕ, zero, suc, ◌+◌, ◌-◌, ◌*◌, ◌/◌, ◌%◌}
use native.Mathlib.Omega.{arith}
use lib.ListN.{length, take, drop, replicate}
use Rattle.evidence.specs.ShutOut.{ShutOut, differ, differ_at}
use Rattle.octets.specs.Meaning.{number, word, field, has_room, onto}

-- ---- number_of
-- least significant byte first
unfoldable pub little_end : List ℕ → ℕ
little_end [] = 0
little_end (b ∷ bs) = b + 256 * little_end bs

pub number_little_end : ShutOut (word (1 ∷ 2 ∷ [])) 258 (little_end (1 ∷ 2 ∷ [])) 513
unfolding number little_end
number_little_end = (refl, refl, λ e. omega arith)

-- without the first byte
abbrev from_second : List ℕ → ℕ
from_second s = word (drop 1 s)

pub number_from_second : ShutOut (word (1 ∷ 2 ∷ [])) 258 (from_second (1 ∷ 2 ∷ [])) 2
unfolding number
number_from_second = (refl, refl, λ e. omega arith)

-- ---- lay
-- least significant byte first
unfoldable pub little_field : ℕ → ℕ → List ℕ
little_field zero v = []
little_field (suc n) v = v % 256 ∷ little_field n (v / 256)

pub lay_little_end : ShutOut (field 2 258) (1 ∷ 2 ∷ []) (little_field 2 258) (2 ∷ 1 ∷ [])
unfolding field little_field
lay_little_end = (refl, refl, differ_at 0 (λ e. omega arith))

-- one place late: the first byte of the slice stays, and the last of the field is lost
abbrev late_field : List ℕ → ℕ → List ℕ
late_field out v = take (length out) (take 1 out ++ field (length out) v)

pub lay_late : ShutOut (field 2 258) (1 ∷ 2 ∷ []) (late_field (7 ∷ 8 ∷ []) 258) (7 ∷ 1 ∷ [])
unfolding field
lay_late = (refl, refl, differ_at 0 (λ e. omega arith))

-- ---- put
-- what stands after the image is cleared
abbrev clearing : List ℕ → List ℕ → List ℕ
clearing image out = cond (has_room image out) (image ++ replicate (length out - length image) 0) out

pub put_clearing : ShutOut (onto {A = ℕ} (1 ∷ 2 ∷ []) (7 ∷ 8 ∷ 9 ∷ [])) (1 ∷ 2 ∷ 9 ∷ []) (clearing (1 ∷ 2 ∷ []) (7 ∷ 8 ∷ 9 ∷ [])) (1 ∷ 2 ∷ 0 ∷ [])
unfolding onto
put_clearing = (refl, refl, differ_at 2 (λ e. omega arith))

-- as much as fits where there is no room
abbrev as_fits : List ℕ → List ℕ → List ℕ
as_fits image out = take (length out) image ++ drop (length image) out

pub put_as_fits : ShutOut (onto {A = ℕ} (1 ∷ 2 ∷ 3 ∷ []) (7 ∷ 8 ∷ [])) (7 ∷ 8 ∷ []) (as_fits (1 ∷ 2 ∷ 3 ∷ []) (7 ∷ 8 ∷ [])) (1 ∷ 2 ∷ [])
unfolding onto
put_as_fits = (refl, refl, differ_at 0 (λ e. omega arith))

-- an image told as written whatever the room
abbrev always_told : List ℕ → List ℕ → Bool
always_told image out = true

pub put_always_told : ShutOut (has_room {A = ℕ} (1 ∷ 2 ∷ []) (7 ∷ [])) false (always_told (1 ∷ 2 ∷ []) (7 ∷ [])) true
put_always_told = (refl, refl, differ (λ b. cond b 1 0) (λ e. omega arith))
