-- A correlation with another window. Assumes nothing.
use Prim.Native.Nat.{ℕ}
use Rattle.goce.specs.declared.Correlation.{Correlation}

-- the same correlation with another window
abbrev pub widened : Correlation → ℕ → ℕ → Correlation
widened c b a =
    record { obt0 = c.obt0; utc0 = c.utc0; offset = c.offset; gradient = c.gradient; back = b; ahead = a }
