-- The digits of a text, tested once: where they all are digits a field is a plain number, and where one is none the text has no body.
-- Assumes nothing.
use Rattle.std.specs.Prelude.{◌≡◌, Bool, ◌&&◌, ◌||◌, List, ℕ, ◌+◌, ◌-◌, ◌*◌, ◌<◌, ◌≤◌, length, get_or}
use Rattle.std.proofs.Math.Path.{refl, sym}
use Rattle.std.proofs.Math.Bool.{true, false, cond}
use Rattle.std.proofs.Common.{arith}
use Rattle.std.proofs.Math.Dec.{eqb, leb, ltb}
use borrow.Author.Tests.{leb-true, lt-ltb, le-ltb, ltb-true}
use Rattle.axis.specs.Diff.{Way, way, below, above}
use Rattle.scales.specs.Place.{and_both}
use Rattle.text_read.specs.Meaning.{digit_of, two_of, four_of, six_of, micro_in, stamp_in}

unfoldable pub is_digit : ℕ → Bool
is_digit b = leb 48 b && leb b 57

unfoldable pub are_two : ℕ → ℕ → Bool
are_two a b = is_digit a && is_digit b

unfoldable pub are_four : ℕ → ℕ → ℕ → ℕ → Bool
are_four a b c d = are_two a b && are_two c d

unfoldable pub are_six : ℕ → ℕ → ℕ → ℕ → ℕ → ℕ → Bool
are_six a b c d e f = are_four a b c d && are_two e f

-- .uuuuuu, where the text is long enough for it
unfoldable pub has_micros : List ℕ → Bool
has_micros s =
    ltb (length s) 27
    || (eqb (get_or s 20 0) 46 && are_six (get_or s 21 0) (get_or s 22 0) (get_or s 23 0) (get_or s 24 0) (get_or s 25 0) (get_or s 26 0))

-- dd, yyyy, hh mm ss, .uuuuuu
unfoldable pub has_digits : List ℕ → Bool
has_digits s =
    are_two (get_or s 0 0) (get_or s 1 0)
    && (are_four (get_or s 7 0) (get_or s 8 0) (get_or s 9 0) (get_or s 10 0)
    && (are_six (get_or s 12 0) (get_or s 13 0) (get_or s 15 0) (get_or s 16 0) (get_or s 18 0) (get_or s 19 0) && has_micros s))

-- ---- two numbers that digits write, joined; over n where one of them is over its limit
module _ (x y l k n : ℕ) where
  abbrev joined : ℕ
  joined = cond (ltb x l && ltb y k) (x * k + y) n

  join_is : x < l → y < k → x * k + y ≡ joined
  join_is h g = sym (rw (lt-ltb x l h, lt-ltb y k g))

  join_in : joined < n → (x < l) × (y < k)
  join_in h = go (ltb x l) refl (ltb y k) refl h
    where
      go : (a : Bool) → ltb x l ≡ a → (b : Bool) → ltb y k ≡ b → cond (a && b) (x * k + y) n < n → (x < l) × (y < k)
      go true p true q h = (ltb-true x l p, ltb-true y k q)
      go true p false q h = absurd (omega arith)
      go false p b q h = absurd (omega arith)

-- ---- a digit
module _ (b : ℕ) where
  module _ (e : is_digit b ≡ true) where
    pub digit_from : 48 ≤ b
    unfolding is_digit
    digit_from = leb-true 48 b (and_both (leb 48 b) (leb b 57) e).0

    pub digit_is : b - 48 ≡ digit_of b
    unfolding is_digit digit_of
    digit_is = sym (rw e)

    pub digit_below : digit_of b < 10
    unfolding is_digit
    digit_below = omega (arith, digit_is, leb-true b 57 (and_both (leb 48 b) (leb b 57) e).1)

  digit_in : digit_of b < 10 → is_digit b ≡ true
  unfolding is_digit digit_of
  digit_in h = go (leb 48 b && leb b 57) refl h
    where
      go : (x : Bool) → (leb 48 b && leb b 57) ≡ x → cond x (b - 48) 10 < 10 → (leb 48 b && leb b 57) ≡ true
      go true p h = p
      go false p h = absurd (omega arith)

-- ---- two, four and six digits
module _ (a b : ℕ) where
  module _ (e : are_two a b ≡ true) where
    pub two_parts : (is_digit a ≡ true) × (is_digit b ≡ true)
    unfolding are_two
    two_parts = and_both (is_digit a) (is_digit b) e

    pub two_is : digit_of a * 10 + digit_of b ≡ two_of a b
    unfolding two_of
    two_is = join_is (digit_of a) (digit_of b) 10 10 100 (digit_below a two_parts.0) (digit_below b two_parts.1)

    two_below : two_of a b < 100
    two_below = omega (arith, two_is, digit_below a two_parts.0, digit_below b two_parts.1)

  two_in : two_of a b < 100 → are_two a b ≡ true
  unfolding are_two two_of
  two_in h = let k = join_in (digit_of a) (digit_of b) 10 10 100 h in rw (digit_in a k.0, digit_in b k.1)

module _ (a b c d : ℕ) where
  module _ (e : are_four a b c d ≡ true) where
    pub four_parts : (are_two a b ≡ true) × (are_two c d ≡ true)
    unfolding are_four
    four_parts = and_both (are_two a b) (are_two c d) e

    pub four_is : two_of a b * 100 + two_of c d ≡ four_of a b c d
    unfolding four_of
    four_is = join_is (two_of a b) (two_of c d) 100 100 10000 (two_below a b four_parts.0) (two_below c d four_parts.1)

    four_below : four_of a b c d < 10000
    four_below = omega (arith, four_is, two_below a b four_parts.0, two_below c d four_parts.1)

  four_in : four_of a b c d < 10000 → are_four a b c d ≡ true
  unfolding are_four four_of
  four_in h = let k = join_in (two_of a b) (two_of c d) 100 100 10000 h in rw (two_in a b k.0, two_in c d k.1)

module _ (a b c d e f : ℕ) where
  module _ (k : are_six a b c d e f ≡ true) where
    pub six_parts : (are_four a b c d ≡ true) × (are_two e f ≡ true)
    unfolding are_six
    six_parts = and_both (are_four a b c d) (are_two e f) k

    pub six_is : four_of a b c d * 100 + two_of e f ≡ six_of a b c d e f
    unfolding six_of
    six_is = join_is (four_of a b c d) (two_of e f) 10000 100 1000000 (four_below a b c d six_parts.0) (two_below e f six_parts.1)

    six_below : six_of a b c d e f < 1000000
    six_below = omega (arith, six_is, four_below a b c d six_parts.0, two_below e f six_parts.1)

  six_in : six_of a b c d e f < 1000000 → are_six a b c d e f ≡ true
  unfolding are_six six_of
  six_in h = let k = join_in (four_of a b c d) (two_of e f) 10000 100 1000000 h in rw (four_in a b c d k.0, two_in e f k.1)

-- ---- the microseconds
module _ (s : List ℕ) where
  abbrev at : ℕ → ℕ
  at i = get_or s i 0

  abbrev six : ℕ
  six = six_of (at 21) (at 22) (at 23) (at 24) (at 25) (at 26)

  abbrev are_micros : Bool
  are_micros = are_six (at 21) (at 22) (at 23) (at 24) (at 25) (at 26)

  pub micros : 27 ≤ length s → has_micros s ≡ true → (eqb (at 20) 46 ≡ true) × (are_micros ≡ true)
  unfolding has_micros
  micros h e = and_both (eqb (at 20) 46) are_micros (rw (le-ltb (length s) 27 h) at e)

  pub micro_none : length s < 27 → 0 ≡ micro_in s
  unfolding micro_in
  micro_none h = sym (rw (lt-ltb (length s) 27 h))

  pub micro_six : 27 ≤ length s → has_micros s ≡ true → six ≡ micro_in s
  unfolding micro_in
  micro_six h e = sym (rw (le-ltb (length s) 27 h, (micros h e).0))

  micro_below : has_micros s ≡ true → micro_in s < 1000000
  micro_below e = go (way (length s) 27)
    where
      go : Way (length s) 27 → micro_in s < 1000000
      go (below h) = omega (arith, micro_none h)
      go (above h) = omega (arith, micro_six h e, six_below (at 21) (at 22) (at 23) (at 24) (at 25) (at 26) (micros h e).1)

  micro_in_lem : micro_in s < 1000000 → has_micros s ≡ true
  unfolding micro_in has_micros
  micro_in_lem h = go (ltb (length s) 27) refl (eqb (at 20) 46) refl h
    where
      go : (x : Bool) → ltb (length s) 27 ≡ x → (y : Bool) → eqb (at 20) 46 ≡ y → cond x 0 (cond y six 1000000) < 1000000
          → (ltb (length s) 27 || (eqb (at 20) 46 && are_micros)) ≡ true
      go true p y q h = rw p
      go false p false q h = absurd (omega arith)
      go false p true q h = rw (p, q, six_in (at 21) (at 22) (at 23) (at 24) (at 25) (at 26) h)

  -- ---- all of them
  pub record Digits : Type 0 where
    pub day : are_two (get_or s 0 0) (get_or s 1 0) ≡ true
    pub year : are_four (get_or s 7 0) (get_or s 8 0) (get_or s 9 0) (get_or s 10 0) ≡ true
    pub hour : are_two (get_or s 12 0) (get_or s 13 0) ≡ true
    pub minute : are_two (get_or s 15 0) (get_or s 16 0) ≡ true
    pub second : are_two (get_or s 18 0) (get_or s 19 0) ≡ true
    pub micro : has_micros s ≡ true

  pub digits : has_digits s ≡ true → Digits
  unfolding has_digits
  digits e =
      let y = are_four (at 7) (at 8) (at 9) (at 10) in
      let t = are_six (at 12) (at 13) (at 15) (at 16) (at 18) (at 19) in
      let p = and_both (are_two (at 0) (at 1)) (y && (t && has_micros s)) e in
      let q = and_both y (t && has_micros s) p.1 in
      let r = and_both t (has_micros s) q.1 in
      let v = six_parts (at 12) (at 13) (at 15) (at 16) (at 18) (at 19) r.0 in
      let w = four_parts (at 12) (at 13) (at 15) (at 16) v.0 in
      record { day = p.0; year = q.0; hour = w.0; minute = w.1; second = v.1; micro = r.1 }

  -- fields that their places can hold are written in digits
  pub digits_in : let t = stamp_in s in
      t.date.day < 100 → t.date.year < 10000 → t.hour < 100 → t.minute < 100 → t.second < 100 → t.micro < 1000000 → has_digits s ≡ true
  unfolding has_digits are_six are_four stamp_in
  digits_in d y h m n u =
      rw (
        two_in (at 0) (at 1) d,
        four_in (at 7) (at 8) (at 9) (at 10) y,
        two_in (at 12) (at 13) h,
        two_in (at 15) (at 16) m,
        two_in (at 18) (at 19) n,
        micro_in_lem u,
      )

  pub stamp_micro_lem : has_digits s ≡ true → (stamp_in s).micro < 1000000
  unfolding stamp_in
  stamp_micro_lem e = micro_below (digits e).micro
