-- The night of the letter for GOCE: no receipt outside the cover is dated, and no wrap of the counter is ever mistaken, in TAI. Assumes
-- nothing.
use mathlib.Core.Path.{◌≡◌}
use mathlib.Core.Bool.{true, false}
use mathlib.Core.List.{List}
use Prim.Native.Nat.{ℕ, ◌*◌, ◌%◌, ◌<◌}
use lib.IntN.{ℤ}
use lib.Signed.{lt_z}
use borrow.Author.Tests.{lt-ltb}
use Rattle.axis.specs.Meaning.{Moment}
use Rattle.scales.specs.Meaning.{in_span, refused, answer, outcome}
use Rattle.scales.specs.declared.Scale.TheVariants as S
use Rattle.leap.specs.Meaning.{tai_of}
use Rattle.leap.specs.Meaning as Leap
use Rattle.clock.specs.Meaning.{elapsed, time, in_window, cover, both_known, count_at}
use Rattle.clock_laws.proofs.Night as G
use Rattle.goce.specs.Meaning.{accepted, clock_of, dating}
use Rattle.goce.specs.Accepted.{based}
use Rattle.goce.specs.Places.{shifted}
use Rattle.goce.specs.declared.Correlation.{Correlation}
use Rattle.goce_laws.proofs.Answers.{clocked}

module _ (c : Correlation) (d : ℤ) (u : ℕ) (ds : List ℤ) (os : List ℕ) (e : ℤ)
    (l : Leap.accepted ds os e ≡ true) (a : accepted c ≡ true) (r : in_span S.Utc d u ≡ true) where
  -- ---- a count outside the window: refused 8 at once, though the reference or the receipt be expired or its second lacking
  pub outside_window : (t : ℕ) → t < 281474976710656 → in_window (clock_of c ds os) (elapsed (clock_of c ds os) t) ≡ false →
      outcome (dating c t d u ds os e) ≡ refused 8
  outside_window t f w = rw (lt-ltb t 281474976710656 f) (G.outside_window (accepted c) (clock_of c ds os) d u ds os e l a r t w)

  -- ---- a receipt outside the cover, it and the reference known: refused 8, whatever the count
  module _ (k : both_known (clock_of c ds os) d u ds e ≡ true) where
    pub received_before : lt_z (tai_of ds os d u) (cover (clock_of c ds os)).from ≡ true → (t : ℕ) → t < 281474976710656 →
        outcome (dating c t d u ds os e) ≡ refused 8
    received_before w t f = rw (lt-ltb t 281474976710656 f) (G.received_before (accepted c) (clock_of c ds os) d u ds os e l a r k w t)

    pub received_after : lt_z (cover (clock_of c ds os)).to (tai_of ds os d u) ≡ true → (t : ℕ) → t < 281474976710656 →
        outcome (dating c t d u ds os e) ≡ refused 8
    received_after w t f = rw (lt-ltb t 281474976710656 f) (G.received_after (accepted c) (clock_of c ds os) d u ds os e l a r k w t)

-- ---- an answer is time(k), for every count k of the window with OBT = OBT0 + k modulo 2^48
pub no_wrap : (c : Correlation) (t : ℕ) (d : ℤ) (u : ℕ) (ds : List ℤ) (os : List ℕ) (e : ℤ) (m : Moment) →
    outcome (dating c t d u ds os e) ≡ answer m → (k : ℤ) → count_at (clock_of c ds os) k ≡ t % 281474976710656 →
    in_window (clock_of c ds os) k ≡ true → tai_of ds os m.day m.micro ≡ time (clock_of c ds os) k
no_wrap c t d u ds os e m h =
    G.no_wrap (accepted c) (clock_of c ds os) (shifted c ds os * 1000000000) (λ a. based c a ds os) t d u ds os e m (clocked c t d u ds os e m h)
