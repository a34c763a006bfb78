-- A clock with another window. Assumes nothing.
use Prim.Native.Nat.{ℕ}
use Rattle.clock.specs.Meaning.{Clock}

-- the same clock with another window
abbrev pub widened : Clock → ℕ → ℕ → Clock
widened c b a =
    record {
      scale = c.scale;
      half = c.half;
      reference = c.reference;
      day = c.day;
      start = c.start;
      gain = c.gain;
      per = c.per;
      back = b;
      ahead = a;
    }
