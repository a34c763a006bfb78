-- The laws of the three axes in use, days, microseconds and counts, and how they meet: a day and a microsecond of day by the
-- place of their microseconds since day 0. Assumes nothing.
use Rattle.std.specs.Prelude.{◌≡◌, ℕ, suc, ◌+◌, ◌-◌, ◌*◌, ◌/◌, ◌%◌, ◌≤◌, ◌<◌, leb, ltb, ℤ, pos, negsuc, ◌+ℤ◌, ◌-ℤ◌, ◌*ℤ◌}
use Rattle.std.proofs.Common.{sym, ap, ap₂, ◌∙◌, arith, lit<, lt-ltb, le-ltb}
use Rattle.std.proofs.Math.IntN.{sub_ℕ}
use Rattle.std.specs.Int.Signed.{le_z, lt_z}
use Rattle.axis.specs.Meaning.{place_of_day, day_at, place_of_micros, micros_at, place_of_counts, counts_at, floor_z, mod_z, day_micros, Moment, since, moment_of}
use Rattle.axis.specs.Diff.{up, down, parts, is_pos, is_negsuc, sub_eq, sub_add, sub_mul, sub_lt, sub_floor, sub_mod, sub_le_same, sub_inj_same, Way, way, below, above}
use Rattle.axis.specs.Shift as F

-- ---- days
pub place_day : (m : ℕ) → m ≤ 100000 → place_of_day (day_at m) ≡ m
place_day m h = F.place_of 40000 100000 m h

pub day_place : (d : ℤ) → 0 < place_of_day d → place_of_day d < 100000 → day_at (place_of_day d) ≡ d
day_place d h k = F.number_at 40000 100000 d h k

pub day_from : (f : ℕ) (d : ℤ) → 0 < f → f ≤ 100000 → le_z (day_at f) d ≡ leb f (place_of_day d)
day_from f d h k = F.from_le 40000 100000 f d h k

pub day_to : (l : ℕ) (d : ℤ) → l < 100000 → le_z d (day_at l) ≡ leb (place_of_day d) l
day_to l d h = F.to_le 40000 100000 l d h

pub day_le : (a b : ℕ) → le_z (day_at a) (day_at b) ≡ leb a b
day_le a b = sub_le_same 40000 a b

pub day_inj : (a b : ℕ) → day_at a ≡ day_at b → a ≡ b
day_inj a b e = sub_inj_same 40000 a b e

pub day_lt : (a b : ℕ) → lt_z (day_at a) (day_at b) ≡ ltb a b
day_lt a b = sub_lt a 40000 b 40000 ∙ go (way a b)
  where
    go : Way a b → ltb (a + 40000) (b + 40000) ≡ ltb a b
    go (below h) = rw (lt-ltb a b h) (lt-ltb (a + 40000) (b + 40000) (omega arith))
    go (above h) = rw (le-ltb a b h) (le-ltb (a + 40000) (b + 40000) (omega arith))

pub day_next : (a : ℕ) → day_at a +ℤ pos 1 ≡ day_at (a + 1)
day_next a = sym (F.number_add 40000 a 1)

pub day_before : (a : ℕ) → 0 < a → day_at a -ℤ pos 1 ≡ day_at (a - 1)
day_before a h = F.number_minus 40000 a 1 h

-- ---- microseconds since day 0
pub place_micros : (m : ℕ) → m ≤ 8640000000000000 → place_of_micros (micros_at m) ≡ m
place_micros m h = F.place_of 3456000000000000 8640000000000000 m h

pub micros_place : (n : ℤ) → 0 < place_of_micros n → place_of_micros n < 8640000000000000 → micros_at (place_of_micros n) ≡ n
micros_place n h k = F.number_at 3456000000000000 8640000000000000 n h k

-- the day and the microsecond of day of a count, read off its place
pub micros_day : (m : ℕ) → floor_z (micros_at m) 86400000000 ≡ day_at (m / 86400000000)
micros_day m = sub_floor m 40000 86400000000 (lit< tt)

pub micros_left : (m : ℕ) → mod_z (micros_at m) 86400000000 ≡ m % 86400000000
micros_left m = sub_mod m 40000 86400000000 (lit< tt)

pub micros_le : (a b : ℕ) → le_z (micros_at a) (micros_at b) ≡ leb a b
micros_le a b = sub_le_same 3456000000000000 a b

pub micros_add : (c k : ℕ) → micros_at c +ℤ pos k ≡ micros_at (c + k)
micros_add c k = sym (F.number_add 3456000000000000 c k)

pub micros_minus : (c k : ℕ) → k ≤ c → micros_at c -ℤ pos k ≡ micros_at (c - k)
micros_minus c k h = F.number_minus 3456000000000000 c k h

-- a day and a microsecond there and back
pub since_at : (p u : ℕ) → since (day_at p) u ≡ micros_at (p * day_micros + u)
since_at p u =
    ap (λ (z : ℤ). z +ℤ pos u) (sub_mul p 40000 day_micros) ∙ ap (λ (z : ℤ). sub_ℕ (p * day_micros) (40000 * day_micros) +ℤ z) (is_pos u)
    ∙ sub_add (p * day_micros) (40000 * day_micros) u 0

pub moment_at_lem : (c : ℕ) → moment_of (micros_at c) ≡ record { day = day_at (c / day_micros); micro = c % day_micros }
moment_at_lem c = ap₂ {C = Moment} (λ (d : ℤ) (u : ℕ). record { day = d; micro = u }) (micros_day c) (micros_left c)

-- a day and a microsecond of day, and their microseconds since day 0, undo each other
since_parts : (d : ℤ) (u : ℕ) → since d u ≡ sub_ℕ (up d * day_micros + u) (down d * day_micros)
since_parts d u =
    ap₂ ◌+ℤ◌ (ap (λ (z : ℤ). z *ℤ pos day_micros) (parts d) ∙ sub_mul (up d) (down d) day_micros) (is_pos u)
    ∙ sub_add (up d * day_micros) (down d * day_micros) u 0
    ∙ ap (sub_ℕ (up d * day_micros + u)) (omega arith)

module _ (d : ℤ) (u : ℕ) (h : u < day_micros) where
  pub day_since : floor_z (since d u) day_micros ≡ d
  day_since =
      ap (λ (z : ℤ). floor_z z day_micros) (since_parts d u) ∙ sub_floor (up d * day_micros + u) (down d) day_micros (lit< tt)
      ∙ ap (λ (n : ℕ). sub_ℕ n (down d)) q ∙ sym (parts d)
    where
      q : (up d * day_micros + u) / day_micros ≡ up d
      q = omega arith

  pub micro_since : mod_z (since d u) day_micros ≡ u
  micro_since =
      ap (λ (z : ℤ). mod_z z day_micros) (since_parts d u) ∙ sub_mod (up d * day_micros + u) (down d) day_micros (lit< tt) ∙ q
    where
      q : (up d * day_micros + u) % day_micros ≡ u
      q = omega arith

pub since_day : (z : ℤ) → since (floor_z z day_micros) (mod_z z day_micros) ≡ z
since_day (pos a) = ap pos (omega arith)
since_day (negsuc a) =
    since_parts (negsuc (a / day_micros)) (day_micros - suc (a % day_micros))
    ∙ sub_eq (0 * day_micros + (day_micros - suc (a % day_micros))) (suc (a / day_micros) * day_micros) 0 (suc a) (omega arith)
    ∙ sym (is_negsuc a)

-- ---- counts of 1/65536 s since day 0
pub counts_place : (n : ℤ) → 0 < place_of_counts n → place_of_counts n < 566231040000000 → counts_at (place_of_counts n) ≡ n
counts_place n h k = F.number_at 226492416000000 566231040000000 n h k

pub counts_from_lem : (f : ℕ) (n : ℤ) → 0 < f → f ≤ 566231040000000 → le_z (counts_at f) n ≡ leb f (place_of_counts n)
counts_from_lem f n h k = F.from_le 226492416000000 566231040000000 f n h k

pub counts_to : (l : ℕ) (n : ℤ) → l < 566231040000000 → le_z n (counts_at l) ≡ leb (place_of_counts n) l
counts_to l n h = F.to_le 226492416000000 566231040000000 l n h
