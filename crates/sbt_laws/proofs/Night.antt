-- The night of the letter, in general: no receipt outside the cover is dated, and no wrap of the counter is ever mistaken; instants are
-- TAI under a UTC correlation. Assumes nothing.
use mathlib.Core.Path.{◌≡◌}
use mathlib.Core.Bool.{true, false}
use mathlib.Core.List.{List}
use Prim.Native.Nat.{ℕ, ◌*◌, ◌%◌}
use lib.IntN.{ℤ}
use lib.Signed.{lt_z}
use Rattle.axis.specs.Meaning.{Moment}
use Rattle.scales.specs.Meaning.{in_span, refused, answer, outcome}
use Rattle.clock.specs.Meaning.{instant, list_serves, elapsed, time, in_window, cover, both_known, count_at}
use Rattle.clock_laws.proofs.Night as G
use Rattle.sbt.specs.Meaning.{accepted, clock_of, dating}
use Rattle.sbt.specs.Accepted.{based}
use Rattle.sbt.specs.Places.{shifted}
use Rattle.sbt.specs.declared.Correlation.{Correlation}

module _ (c : Correlation) (d : ℤ) (u : ℕ) (ds : List ℤ) (os : List ℕ) (e : ℤ)
    (l : list_serves c.scale ds os e ≡ true) (a : accepted c ≡ true) (r : in_span c.scale d u ≡ true) where
  -- ---- a tick outside the window: refused 8 at once, though the reference or the receipt be expired or its second lacking
  pub outside_window : (t : ℕ) → in_window (clock_of c ds os) (elapsed (clock_of c ds os) t) ≡ false → outcome (dating c t d u ds os e) ≡ refused 8
  outside_window = G.outside_window (accepted c) (clock_of c ds os) d u ds os e l a r

  -- ---- a receipt outside the cover, it and the reference known: refused 8, whatever the tick
  module _ (k : both_known (clock_of c ds os) d u ds e ≡ true) where
    pub received_before : lt_z (instant c.scale ds os d u) (cover (clock_of c ds os)).from ≡ true → (t : ℕ) → outcome (dating c t d u ds os e) ≡ refused 8
    received_before = G.received_before (accepted c) (clock_of c ds os) d u ds os e l a r k

    pub received_after : lt_z (cover (clock_of c ds os)).to (instant c.scale ds os d u) ≡ true → (t : ℕ) → outcome (dating c t d u ds os e) ≡ refused 8
    received_after = G.received_after (accepted c) (clock_of c ds os) d u ds os e l a r k

-- ---- an answer is time(k), for every count k of the window with tick = reference tick + k modulo 2^32
pub no_wrap : (c : Correlation) (t : ℕ) (d : ℤ) (u : ℕ) (ds : List ℤ) (os : List ℕ) (e : ℤ) (m : Moment) →
    outcome (dating c t d u ds os e) ≡ answer m → (k : ℤ) → count_at (clock_of c ds os) k ≡ t % 4294967296 →
    in_window (clock_of c ds os) k ≡ true → instant c.scale ds os m.day m.micro ≡ time (clock_of c ds os) k
no_wrap c t d u ds os = G.no_wrap (accepted c) (clock_of c ds os) (shifted c ds os * 1000000) (λ a. based c a ds os) t d u ds os
