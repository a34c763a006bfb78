-- A correlation with another window. Assumes nothing.
use Prim.Native.Nat.{ℕ}
use Rattle.sbt.specs.declared.Correlation.{Correlation}

-- the same correlation with another window
abbrev pub widened : Correlation → ℕ → ℕ → Correlation
widened c b a =
    record { tick = c.tick; scale = c.scale; day = c.day; micro = c.micro; period = c.period; back = b; ahead = a }
