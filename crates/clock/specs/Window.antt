-- The law of the clock at a correlated counter: times rise with the counts, the times of the window lie in its cover, and the division
-- gives the last count of a time. Assumes nothing.
use Rattle.std.specs.Prelude.{◌≡◌, true, ℕ, suc, ◌+◌, ◌*◌, ◌≤◌, ◌<◌, ℤ, pos, neg_ℤ, ◌+ℤ◌}
use Rattle.std.proofs.Common.{sym, ap, ap₂, ◌∙◌, arith}
use Rattle.std.specs.Int.Signed.{le_z}
use Rattle.axis.specs.Diff.{neg_pos, is_pos, sub_eq, sub_add}
use Rattle.scales.specs.Place.{and_both}
use Rattle.clock.specs.Meaning.{Clock, time, in_window, within, covers, last_count}
use Rattle.clock.specs.Signs.{le_trans}
use Rattle.clock.specs.Clock as C

-- what acceptance tells of a clock: it gains at least a microsecond with each count, and its window is no wider than the counter
pub record Runs (c : Clock) : Type 0 where
  pub whole : 0 < c.per
  pub fast : c.per ≤ c.gain
  pub back_to : c.back ≤ c.half
  pub ahead_to : c.ahead < c.half

-- the count that the division gives
abbrev pub divided : Clock → ℤ → ℤ
divided c z = C.last_of c.start c.gain c.per z

module _ (c : Clock) (a : Runs c) where
  pub not_later : (k z : ℤ) → le_z (time c k) z ≡ le_z k (divided c z)
  not_later = C.not_later c.start c.gain c.per a.whole a.fast

  pub rises : (j k : ℤ) → le_z j k ≡ true → le_z (time c j) (time c k) ≡ true
  rises = C.rises c.start c.gain c.per a.whole a.fast

  pub divided_time : (k : ℤ) → divided c (time c k) ≡ k
  divided_time = C.last_of_clock c.start c.gain c.per a.whole a.fast

  pub divided_early : (z : ℤ) → le_z (time c (divided c z)) z ≡ true
  divided_early = C.last_early c.start c.gain c.per a.whole a.fast

  -- where the clock gains at most s + 1 microseconds
  pub divided_close : (s : ℕ) → c.gain ≤ suc s * c.per → (z : ℤ) → le_z z (time c (divided c z) +ℤ pos s) ≡ true
  divided_close = C.last_close c.start c.gain c.per a.whole a.fast

  pub covers_time_lem : (k : ℤ) → in_window c k ≡ true → covers c (time c k) ≡ true
  unfolding in_window within
  covers_time_lem k e =
      let w = and_both (le_z (neg_ℤ (pos c.back)) k) (le_z k (pos c.ahead)) e in
      rw (rises (neg_ℤ (pos c.back)) k w.0, rises k (pos c.ahead) w.1)

  -- ---- a time in the cover
  module _ (z : ℤ) (e : covers c z ≡ true) where
    from : le_z (time c (neg_ℤ (pos c.back))) z ≡ true
    unfolding within
    from = (and_both (le_z (time c (neg_ℤ (pos c.back))) z) (le_z z (time c (pos c.ahead))) e).0

    to : le_z z (time c (pos c.ahead)) ≡ true
    unfolding within
    to = (and_both (le_z (time c (neg_ℤ (pos c.back))) z) (le_z z (time c (pos c.ahead))) e).1

    length : neg_ℤ (pos c.back) +ℤ pos (c.back + c.ahead) ≡ pos c.ahead
    length =
        ap₂ ◌+ℤ◌ (neg_pos c.back) (is_pos (c.back + c.ahead))
        ∙ sub_add 0 c.back (c.back + c.ahead) 0
        ∙ sub_eq (0 + (c.back + c.ahead)) (c.back + 0) c.ahead 0 (omega arith)
        ∙ sym (is_pos c.ahead)

    pub last_is : last_count c z ≡ divided c z
    last_is =
        C.latest_last c.start c.gain c.per a.whole a.fast z (neg_ℤ (pos c.back)) (c.back + c.ahead) from
        (ap (λ (k : ℤ). le_z z (time c k)) length ∙ to)

    pub divided_to : le_z (divided c z) (pos c.ahead) ≡ true
    divided_to =
        ap (le_z (divided c z)) (sym (divided_time (pos c.ahead)))
        ∙ sym (not_later (divided c z) (time c (pos c.ahead)))
        ∙ le_trans (time c (divided c z)) z (time c (pos c.ahead)) (divided_early z) to

    pub divided_window : in_window c (divided c z) ≡ true
    unfolding in_window
    divided_window = rw (sym (not_later (neg_ℤ (pos c.back)) z) ∙ from, divided_to)
