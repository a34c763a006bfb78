-- What a stamp's text writes, its fields read back. Assumes nothing.
use Rattle.std.specs.Prelude.{◌≡◌, refl, Bool, true, ◌&&◌, ℕ, zero, suc, ◌+◌, ◌-◌, ◌*◌, ◌/◌, ◌%◌, ◌<◌, ◌≤◌, eqb, take}
use Rattle.std.proofs.Math.Path.{sym}
use Rattle.std.proofs.Common.{◌∙◌, ⊎_elim, not-suc-le-zero, eq-or-lt_of_le, arith, le-leb, lt-ltb, eqb-true}
use Rattle.scales.specs.Place.{and_both}
use Rattle.text_read.specs.Meaning.{digit_of, two_of, four_of, six_of, is_named, seek, month_named, micro_in, stamp_in}
use Rattle.text_fields.specs.declared.Stamp.{Stamp}
use Rattle.text_fields.specs.Meaning.{names, letter}
use Rattle.text_write.specs.Meaning.{tens, units, text_of}
use Rattle.text_write.specs.Columns.{Fits}

digit_back : (d : ℕ) → d < 10 → digit_of (48 + d) ≡ d
unfolding digit_of
digit_back d h = rw (le-leb 48 (48 + d) (omega arith), le-leb (48 + d) 57 (omega arith)) (omega arith)

-- two digits write the last two of a number
two_last : (v : ℕ) → two_of (tens v) (units v) ≡ v % 100
unfolding two_of
two_last v =
    rw (digit_back (v / 10 % 10) (omega arith), digit_back (v % 10) (omega arith), lt-ltb (v / 10 % 10) 10 (omega arith), lt-ltb (v % 10) 10 (omega arith))
    (omega arith)

two_back : (v : ℕ) → v < 100 → two_of (tens v) (units v) ≡ v
two_back v h = two_last v ∙ omega arith

four_last : (v w : ℕ) → four_of (tens v) (units v) (tens w) (units w) ≡ v % 100 * 100 + w % 100
unfolding four_of
four_last v w = rw (two_last v, two_last w, lt-ltb (v % 100) 100 (omega arith), lt-ltb (w % 100) 100 (omega arith))

four_back : (v : ℕ) → v < 10000 → four_of (tens (v / 100)) (units (v / 100)) (tens v) (units v) ≡ v
four_back v h = four_last (v / 100) v ∙ omega arith

six_back : (v : ℕ) → v < 1000000 → six_of (tens (v / 10000)) (units (v / 10000)) (tens (v / 100)) (units (v / 100)) (tens v) (units v) ≡ v
unfolding six_of
six_back v h =
    rw (
      four_last (v / 10000) (v / 100),
      two_last v,
      lt-ltb (v / 10000 % 100 * 100 + v / 100 % 100) 10000 (omega arith),
      lt-ltb (v % 100) 100 (omega arith),
    )
    (omega arith)

-- a test at each number below n, and the law that carries it to each
abbrev every : (ℕ → Bool) → ℕ → Bool
every f zero = true
every f (suc n) = f n && every f n

at_each : (f : ℕ → Bool) (n : ℕ) → every f n ≡ true → (k : ℕ) → k < n → f k ≡ true
at_each f zero e k h = absurd (not-suc-le-zero h)
at_each f (suc n) e k h =
    let p = and_both (f n) (every f n) e in
    ⊎_elim (λ (q : k ≡ n). rw q p.0) (λ (q : k < n). at_each f n p.1 k q) (eq-or-lt_of_le (omega arith))

named : ℕ → Bool
named k = eqb (month_named (letter (k + 1) 0) (letter (k + 1) 1) (letter (k + 1) 2)) (k + 1)

months : every named 12 ≡ true
unfolding named month_named seek is_named letter names
months = refl

month_back : (m : ℕ) → 1 ≤ m → m ≤ 12 → month_named (letter m 0) (letter m 1) (letter m 2) ≡ m
unfolding named
month_back m h k =
    let e : m - 1 + 1 ≡ m = omega arith in
    let t : named (m - 1) ≡ true = at_each named 12 months (m - 1) (omega arith) in
    rw e at (eqb-true (month_named (letter (m - 1 + 1) 0) (letter (m - 1 + 1) 1) (letter (m - 1 + 1) 2)) (m - 1 + 1) t)

module _ (t : Stamp) (s : Fits t) where
  pub stamp_long : stamp_in (text_of t) ≡ t
  unfolding stamp_in micro_in text_of
  stamp_long =
      rw (
        four_back t.date.year s.years,
        month_back t.date.month s.named.0 s.named.1,
        two_back t.date.day s.days,
        two_back t.hour s.hours,
        two_back t.minute s.minutes,
        two_back t.second s.seconds,
        six_back t.micro s.micros,
      )

  pub stamp_short : t.micro ≡ 0 → stamp_in (take 20 (text_of t)) ≡ t
  unfolding stamp_in micro_in text_of
  stamp_short z =
      rw (
        four_back t.date.year s.years,
        month_back t.date.month s.named.0 s.named.1,
        two_back t.date.day s.days,
        two_back t.hour s.hours,
        two_back t.minute s.minutes,
        two_back t.second s.seconds,
        sym z,
      )
