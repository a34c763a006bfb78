-- The one axis of the product: a day, or a microsecond or a count since day 0, as a natural number. Days -40000 to 60000 stand at
-- places 0 to 100000, and every span lies well within; what lies outside stands at the nearer end. And days of 86,400 s: a day
-- and a microsecond as microseconds since day 0, and back. Assumes nothing.
use Rattle.std.specs.Prelude.{Bool, cond, ◌&&◌, ℕ, suc, ◌+◌, ◌-◌, ◌/◌, ◌%◌, min, ltb, ℤ, pos, negsuc, ◌+ℤ◌, ◌*ℤ◌}
use Rattle.std.proofs.Math.IntN.{sub_ℕ}
use Rattle.std.specs.Int.Signed.{le_z}

-- a day from one day to another, both included
abbrev pub is_between : ℤ → ℤ → ℤ → Bool
is_between f d l = le_z f d && le_z d l

-- the place of z on an axis that begins at -b and ends at t - b: z + b, held between 0 and t
abbrev pub place : ℕ → ℕ → ℤ → ℕ
place b t (pos n) = min (n + b) t
place b t (negsuc n) = min (b - suc n) t

-- days from 1 January 2000
abbrev pub place_of_day : ℤ → ℕ
place_of_day d = place 40000 100000 d

abbrev pub day_at : ℕ → ℤ
day_at m = sub_ℕ m 40000

-- microseconds since day 0, every day having 86,400 s
abbrev pub place_of_micros : ℤ → ℕ
place_of_micros n = place 3456000000000000 8640000000000000 n

abbrev pub micros_at : ℕ → ℤ
micros_at m = sub_ℕ m 3456000000000000

-- the same, held to the axis: all that 64 bits can say of a place has an answer
abbrev pub held_micros_at : ℕ → ℤ
held_micros_at m = micros_at (min m 8640000000000000)

-- counts of 1/65536 s since day 0: 5,662,310,400 a day
abbrev pub place_of_counts : ℤ → ℕ
place_of_counts n = place 226492416000000 566231040000000 n

abbrev pub counts_at : ℕ → ℤ
counts_at m = sub_ℕ m 226492416000000

-- a signed number of 64 bits and the number that its bits stand for (two's complement)
abbrev pub signed_of : ℕ → ℤ
signed_of n = cond (ltb n 9223372036854775808) (pos n) (sub_ℕ n 18446744073709551616)

abbrev pub bits_of : ℤ → ℕ
bits_of (pos n) = n
bits_of (negsuc n) = 18446744073709551616 - suc n

-- the quotient rounded down (towards the past) by a natural m > 0, and what is left over
abbrev pub floor_z : ℤ → ℕ → ℤ
floor_z (pos a) m = pos (a / m)
floor_z (negsuc a) m = negsuc (a / m)

abbrev pub mod_z : ℤ → ℕ → ℕ
mod_z (pos a) m = a % m
mod_z (negsuc a) m = m - suc (a % m)

-- ---- days of 86,400 s
abbrev pub day_micros : ℕ
day_micros = 86400000000

-- a day and a microsecond of that day
pub record Moment : Type 0 where
  pub day : ℤ
  pub micro : ℕ

-- the microseconds since day 0 of microsecond u of day d, and back
abbrev pub since : ℤ → ℕ → ℤ
since d u = d *ℤ pos day_micros +ℤ pos u

abbrev pub moment_of : ℤ → Moment
moment_of c = record { day = floor_z c day_micros; micro = mod_z c day_micros }
