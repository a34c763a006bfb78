-- Times that right and wrong covers for C hand out, what tells them apart, and covers that are wrong in any function. Assumes nothing.
use mathlib.Core.Bool.{cond}
use Prim.Native.Nat.{ℕ}
use lib.IntN.{ℤ, pos}
use Rattle.c_api.specs.Marks.{known_mark}
use Rattle.c_api.specs.declared.VrkHanded.{VrkHanded}
use Rattle.c_api.specs.declared.VrkTime.{VrkTime}
use Rattle.c_api_laws.proofs.Marks.{marked_with}

-- an answer, by scale, day and microsecond, mark and source
abbrev pub answered : ℕ → ℤ → ℕ → ℕ → ℕ → VrkTime
answered s d u m x = record { refusal = 0; scale = s; day = d; micro = u; mark = m; source = x }

abbrev pub plain : ℕ → ℤ → ℕ → VrkTime
plain s d u = answered s d u 0 0

-- a refusal, by its number and scale: the empty record
abbrev pub empty_out : ℕ → ℕ → VrkTime
empty_out n c = record { refusal = n; scale = c; day = pos 0; micro = 0; mark = 0; source = 0 }

abbrev pub refusal_in : VrkTime → ℕ
refusal_in t = t.refusal

abbrev pub scale_in : VrkTime → ℕ
scale_in t = t.scale

abbrev pub micro_in : VrkTime → ℕ
micro_in t = t.micro

abbrev pub mark_in : VrkTime → ℕ
mark_in t = t.mark

abbrev pub source_in : VrkTime → ℕ
source_in t = t.source

-- ---- wrong in any function
-- every time with the mark of code m and source x, a refusal's too
abbrev pub remarked : ℕ → ℕ → VrkTime → VrkTime
remarked m x t = record { refusal = t.refusal; scale = t.scale; day = t.day; micro = t.micro; mark = m; source = x }

-- the source lost
abbrev pub source_lost : VrkTime → VrkTime
source_lost t = remarked t.mark 0 t

-- a mark that stands for nothing taken for plain
abbrev pub unknown_is_plain : VrkHanded → VrkHanded
unknown_is_plain h = marked_with (cond (known_mark h.mark h.source) h.mark 0) h.source h
