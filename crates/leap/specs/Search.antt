-- The ways out of a search from the end: step i - 1 is the one that is looked for, or the search goes on. Assumes nothing.
use Rattle.std.specs.Prelude.{◌≡◌, true, List, ℕ, ◌+◌, ◌-◌, ◌*◌, ◌<◌, ◌≤◌, leb, ℤ, pos, length, get_or, take}
use Rattle.std.proofs.Common.{sym, ap, ◌∙◌, arith, le-leb, eq-eqb, ne_eqb}
use Rattle.std.specs.Int.Signed.{le_z}
use Rattle.std.proofs.lemmas.Bool.{lt-leb}
use Rattle.axis.specs.Meaning.{place_of_day, day_at, micros_at, Moment, day_micros}
use Rattle.axis.specs.Axis.{day_to, micros_le}
use Rattle.leap.specs.Meaning.{through, on_or_before, is_step, tai_of_start, plain, sixty, begun}
use Rattle.leap.specs.Places.{same_at, start_at, plain_at, plain_at_lem, sixty_at, sixty_at_lem}
use Rattle.leap.specs.Walk.{or_true, or_false, said, step_said}
use Rattle.leap.specs.Steps.{Usable}

module _ (ds : List ℤ) (os : List ℕ) (w : Usable ds os) (i : ℕ) (h : 0 < i) (k : i ≤ length ds) where
  abbrev s : ℕ
  s = place_of_day (get_or ds (i - 1) (pos 0))

  abbrev p : ℕ
  p = get_or os (i - 1) 0

  -- ---- the offset on the day at a place
  module _ (a : ℕ) (l : a < 100000) where
    abbrev offset_in : ℕ → ℕ
    offset_in n = through (on_or_before (day_at a)) 0 (take n ds) (take n os)

    pub offset_here : s ≤ a → p ≡ offset_in i
    offset_here m =
        sym (said (on_or_before (day_at a)) 0 ds os w.even i h k ∙ rw (day_to a (get_or ds (i - 1) (pos 0)) l, le-leb s a m))

    pub offset_on_lem : a < s → offset_in (i - 1) ≡ offset_in i
    offset_on_lem m =
        sym (said (on_or_before (day_at a)) 0 ds os w.even i h k ∙ rw (day_to a (get_or ds (i - 1) (pos 0)) l, lt-leb s a m))

  -- ---- the UTC time at a TAI count
  module _ (c : ℕ) where
    abbrev utc_in : ℕ → Moment
    utc_in n = through (begun (micros_at c)) (plain 10 (micros_at c)) (take n ds) (take n os)

    day : day_at s ≡ get_or ds (i - 1) (pos 0)
    day = w.day (i - 1) (omega arith)

    starts : (q : ℕ) → le_z (tai_of_start (get_or ds (i - 1) (pos 0)) q) (micros_at c) ≡ leb (s * day_micros + q * 1000000) c
    starts q =
        ap (λ (z : ℤ). le_z (tai_of_start z q) (micros_at c)) (sym day) ∙ ap (λ (z : ℤ). le_z z (micros_at c)) (start_at s q)
        ∙ micros_le (s * day_micros + q * 1000000) c

    pub utc_plain : s * day_micros + p * 1000000 ≤ c → plain_at p c ≡ utc_in i
    utc_plain m =
        sym (said (begun (micros_at c)) (plain 10 (micros_at c)) ds os w.even i h k
        ∙ rw (starts p, le-leb (s * day_micros + p * 1000000) c m) (plain_at_lem p c (omega arith)))

    pub utc_sixty : c < s * day_micros + p * 1000000 → s * day_micros + (p - 1) * 1000000 ≤ c → sixty_at s p c ≡ utc_in i
    utc_sixty m n =
        let b = w.within (i - 1) (omega arith) in
        sym (said (begun (micros_at c)) (plain 10 (micros_at c)) ds os w.even i h k
        ∙ rw (starts p, lt-leb (s * day_micros + p * 1000000) c m, starts (p - 1), le-leb (s * day_micros + (p - 1) * 1000000) c n)
        (ap (λ (z : ℤ). sixty z p (micros_at c)) (sym day) ∙ sixty_at_lem s p c (omega (arith, b.0)) (omega arith)))

    pub utc_on : c < s * day_micros + (p - 1) * 1000000 → utc_in (i - 1) ≡ utc_in i
    utc_on m =
        sym (said (begun (micros_at c)) (plain 10 (micros_at c)) ds os w.even i h k
        ∙ rw (starts p, lt-leb (s * day_micros + p * 1000000) c (omega arith), starts (p - 1), lt-leb (s * day_micros + (p - 1) * 1000000) c m))

-- ---- is the day at a place a step
module _ (ds : List ℤ) (i : ℕ) (h : 0 < i) (k : i ≤ length ds) (a : ℕ) (l : 0 < a) (m : a < 100000) where
  abbrev last : ℤ
  last = get_or ds (i - 1) (pos 0)

  pub step_here : place_of_day last ≡ a → true ≡ is_step (take i ds) (day_at a)
  step_here e =
      sym (step_said ds (day_at a) i h k ∙ rw (same_at last a l m, eq-eqb (place_of_day last) a e, or_true (is_step (take (i - 1) ds) (day_at a))))

  pub step_on : (place_of_day last ≡ a → ⊥) → is_step (take (i - 1) ds) (day_at a) ≡ is_step (take i ds) (day_at a)
  step_on e =
      sym (step_said ds (day_at a) i h k ∙ rw (same_at last a l m, ne_eqb (place_of_day last) a e, or_false (is_step (take (i - 1) ds) (day_at a))))
