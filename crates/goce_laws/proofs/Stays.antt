-- What stays of document 01's rule for GOCE, but for a date later than its receipt, which is 17: every answer where the days of reference,
-- receipt (or time handed in) and result are not expired and have one offset. Assumes nothing.
use mathlib.Core.Path.{◌≡◌, refl, ap, ◌∙◌}
use mathlib.Core.Bool.{true, false, cond}
use mathlib.Core.List.{List}
use Prim.Native.Nat.{ℕ, ◌*◌, ◌^◌}
use native.Mathlib.Omega.{arith}
use lib.Dec.{ltb, lit<}
use lib.IntN.{ℤ, pos, ◌+ℤ◌, ◌*ℤ◌}
use lib.Signed.{le_z}
use Rattle.axis.specs.Meaning.{Moment, since}
use Rattle.scales.specs.Meaning.{Judged, given, refused, answer, outcome}
use Rattle.scales.specs.Order.{passed}
use Rattle.scales.specs.declared.Scale.TheVariants as S
use Rattle.handed.specs.declared.Handed.{Handed}
use Rattle.handed.specs.Meaning.{day_of}
use Rattle.leap.specs.Meaning as Leap
use Rattle.clock.specs.Meaning as C
use Rattle.clock_laws.proofs.Stays as G
use Rattle.goce.specs.Meaning.{reference, accepted, day_on, clock_of, dating, turning}
use Rattle.goce.specs.declared.Correlation.{Correlation}

-- ---- document 01's rule: the clock counts the microseconds since day 0 of UTC, every day having 86,400 s
abbrev pub base_clock : Correlation → C.Clock
base_clock c =
    record {
      scale = S.Utc;
      half = 140737488355328;
      reference = c.obt0;
      day = day_on c;
      start = reference c *ℤ pos 1000000000;
      gain = c.gradient;
      per = 65536000;
      back = c.back;
      ahead = c.ahead;
    }

abbrev pub base_dating : Correlation → ℕ → ℤ → ℕ → Judged Moment
base_dating c t d u =
    given (ltb t (2 ^ 48)) 3
    (G.base_dating (accepted c) (base_clock c) t d u)

-- the date of a count, in microseconds since day 0
abbrev pub base_time : Correlation → ℕ → ℤ
base_time c t = C.time (base_clock c) (C.elapsed (base_clock c) t)

abbrev pub base_turning : Correlation → Handed → Judged ℕ
base_turning c h = G.base_turning (accepted c) (base_clock c) h

-- ---- under an accepted list, where the reference's day is not expired
module _ (c : Correlation) (ds : List ℤ) (os : List ℕ) (e : ℤ) (w : Leap.accepted ds os e ≡ true) (current : Leap.is_expired_day e (day_on c) ≡ false) where
  start_ahead : (clock_of c ds os).start ≡ (base_clock c).start +ℤ pos (Leap.offset_on ds os (day_on c) * 1000000 * 65536000)
  start_ahead =
      let o = Leap.offset_on ds os (day_on c) in
      let q : o * 65536 * 1000000000 ≡ o * 1000000 * 65536000 = omega arith in
      G.product_ahead (reference c) (o * 65536) 1000000000 ∙ ap (λ (n : ℕ). reference c *ℤ pos 1000000000 +ℤ pos n) q

  pub date_stays : (t : ℕ) (d : ℤ) (u : ℕ) (m : Moment) → outcome (base_dating c t d u) ≡ answer m →
      G.Like ds os e (day_on c) d → G.Like ds os e (day_on c) m.day →
      outcome (dating c t d u ds os e) ≡ cond (le_z (base_time c t) (since d u)) (answer m) (refused 17)
  date_stays t d u m h a b =
      let v = passed (ltb t (2 ^ 48)) 3 (G.base_dating (accepted c) (base_clock c) t d u) m h in
      rw v.0 (G.date_stays (base_clock c) refl (lit< tt) ds os e w (clock_of c ds os).start start_ahead current (accepted c) t d u m v.1 a b)

  pub count_stays : (h : Handed) (n : ℕ) → outcome (base_turning c h) ≡ answer n → G.Like ds os e (day_on c) (day_of h) → outcome (turning c h ds os e) ≡ answer n
  count_stays = G.count_stays (base_clock c) refl (lit< tt) ds os e w (clock_of c ds os).start start_ahead current (accepted c)
