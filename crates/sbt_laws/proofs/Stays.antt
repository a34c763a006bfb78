-- What stays of document 01's rule for SBT, but for a date later than its receipt, which is 17: every outcome of a TAI or GPS correlation,
-- under any list; every answer of a UTC correlation where the days of reference, receipt (or time handed in) and result are not expired and
-- have one offset. Assumes nothing.
use mathlib.Core.Path.{◌≡◌, ap, ◌∙◌}
use mathlib.Core.Bool.{true, false, cond, ◌&&◌}
use mathlib.Core.List.{List}
use Prim.Native.Nat.{ℕ, ◌*◌}
use lib.Dec.{lit<}
use lib.IntN.{ℤ, pos, ◌+ℤ◌, ◌*ℤ◌}
use lib.Signed.{lt_z, le_z}
use Rattle.axis.specs.Meaning.{Moment, since}
use Rattle.scales.specs.Meaning.{Judged, refused, answer, outcome}
use Rattle.handed.specs.declared.Handed.{Handed}
use Rattle.handed.specs.Meaning.{day_of}
use Rattle.leap.specs.Meaning as Leap
use Rattle.via_tai.specs.Meaning.{is_utc}
use Rattle.clock.specs.Meaning as C
use Rattle.clock_laws.proofs.Wider.{restarted}
use Rattle.clock_laws.proofs.Stays as G
use Rattle.sbt.specs.Meaning.{accepted, clock_of, dating, turning}
use Rattle.sbt.specs.declared.Correlation.{Correlation}

-- ---- document 01's rule: the clock counts the microseconds since day 0 of its own scale
abbrev pub base_clock : Correlation → C.Clock
base_clock c =
    record {
      scale = c.scale;
      half = 2147483648;
      reference = c.tick.0;
      day = c.day;
      start = since c.day c.micro *ℤ pos 1000000;
      gain = c.period;
      per = 1000000;
      back = c.back;
      ahead = c.ahead;
    }

abbrev pub base_dating : Correlation → ℕ → ℤ → ℕ → Judged Moment
base_dating c t d u = G.base_dating (accepted c) (base_clock c) t d u

-- the date of a tick, in microseconds since day 0
abbrev pub base_time : Correlation → ℕ → ℤ
base_time c t = C.time (base_clock c) (C.elapsed (base_clock c) t)

abbrev pub base_turning : Correlation → Handed → Judged ℕ
base_turning c h = G.base_turning (accepted c) (base_clock c) h

-- ---- TAI and GPS: the outcome is the base's, but for 17, under any list whatever
module _ (c : Correlation) (p : is_utc c.scale ≡ false) (ds : List ℤ) (os : List ℕ) (e : ℤ) where
  same_start : (clock_of c ds os).start ≡ (base_clock c).start
  same_start = rw p

  pub date_base : (t : ℕ) (d : ℤ) (u : ℕ) → outcome (dating c t d u ds os e)
      ≡ cond (G.base_passes8 (accepted c) (base_clock c) t d u && lt_z (since d u) (base_time c t)) (refused 17) (outcome (base_dating c t d u))
  date_base t d u =
      ap (λ (r : ℤ). outcome (C.dating (accepted c) (restarted (base_clock c) r) t d u ds os e)) same_start
      ∙ G.date_base (accepted c) (base_clock c) p ds os e t d u

  pub tick_base : (h : Handed) → outcome (turning c h ds os e) ≡ outcome (base_turning c h)
  tick_base h =
      ap (λ (r : ℤ). outcome (C.turning (accepted c) (restarted (base_clock c) r) h ds os e)) same_start
      ∙ G.count_base (accepted c) (base_clock c) p ds os e h

-- ---- UTC: under an accepted list, where the reference's day is not expired
module _ (c : Correlation) (p : is_utc c.scale ≡ true) (ds : List ℤ) (os : List ℕ) (e : ℤ) (w : Leap.accepted ds os e ≡ true)
    (reference : Leap.is_expired_day e c.day ≡ false) where
  start_ahead : (clock_of c ds os).start ≡ (base_clock c).start +ℤ pos (Leap.offset_on ds os c.day * 1000000 * 1000000)
  start_ahead = rw p (G.product_ahead (since c.day c.micro) (Leap.offset_on ds os c.day * 1000000) 1000000)

  pub date_stays : (t : ℕ) (d : ℤ) (u : ℕ) (m : Moment) → outcome (base_dating c t d u) ≡ answer m →
      G.Like ds os e c.day d → G.Like ds os e c.day m.day →
      outcome (dating c t d u ds os e) ≡ cond (le_z (base_time c t) (since d u)) (answer m) (refused 17)
  date_stays = G.date_stays (base_clock c) p (lit< tt) ds os e w (clock_of c ds os).start start_ahead reference (accepted c)

  pub tick_stays : (h : Handed) (n : ℕ) → outcome (base_turning c h) ≡ answer n → G.Like ds os e c.day (day_of h) → outcome (turning c h ds os e) ≡ answer n
  tick_stays = G.count_stays (base_clock c) p (lit< tt) ds os e w (clock_of c ds os).start start_ahead reference (accepted c)
