-- The writer takes correlations off their numbers' bits, and their covers on the places of the axis: what its functions answer of one, and
-- what is taken is the meaning's. Assumes nothing.
use Rattle.std.specs.Prelude.{◌≡◌, refl, Bool, true, false, cond, ◌&&◌, ◌||◌, List, ℕ, ◌+◌, ◌*◌, ◌%◌, ◌≤◌, ◌<◌, min, ltb, eqb, ℤ, pos, negsuc, nat_abs, Option, Some, None}
use Rattle.std.proofs.Common.{sym, ap, ◌∙◌, mod-eq_of_lt, arith, of_z, to_z, to_z-of_z, le-leb, lt-ltb, le-ltb, ltb-true, eq-eqb, ne_eqb}
use Rattle.std.proofs.lemmas.Bool.{false≢true}
use Rattle.std.specs.Int.Signed.{mag, le_z, lt_z}
use Rattle.std.specs.Int.{w64}
use borrow.Author.Rules.{sfits_of}
use Rattle.axis.specs.Meaning.{bits_of, place_of_day, held_micros_at}
use Rattle.axis.specs.Shift.{place_top}
use Rattle.axis.specs.Diff.{sub_mag}
use Rattle.scales.specs.Place.{and_both}
use Rattle.scales.specs.declared.Scale.TheVariants as S
use Rattle.clock.specs.declared.inner.Ends.{Ends}
use Rattle.sbt.specs.Meaning.{accepted}
use Rattle.sbt.specs.Places.{covered_by}
use Rattle.sbt.specs.Accepted.{sound}
use Rattle.sbt.specs.declared.Correlation.{Correlation}
use Rattle.season.specs.Meaning.{word_in, field_in, correlation_at, words_kept}
use Rattle.season.specs.Covers.{ends_of, covered_at, covered_none}

-- ---- what the private functions answer
abbrev pub bits_in : List ℤ → ℕ → ℕ
bits_in ws i = bits_of (word_in ws i)

abbrev pub taken_at : List ℤ → ℕ → Correlation
taken_at ws k =
    record {
      tick = record { 0 = bits_in ws (7 * k) % 4294967296 };
      scale = S.Tai;
      day = word_in ws (7 * k + 2);
      micro = bits_in ws (7 * k + 3);
      period = bits_in ws (7 * k + 4);
      back = bits_in ws (7 * k + 5);
      ahead = bits_in ws (7 * k + 6);
    }

-- and each was a number of 64 bits
pub record Taken (ws : List ℤ) (k : ℕ) (c : Correlation) : Type 0 where
  pub is : c ≡ taken_at ws k
  pub micro : mag (word_in ws (7 * k + 3)) < 9223372036854775808
  pub period : mag (word_in ws (7 * k + 4)) < 9223372036854775808
  pub back : mag (word_in ws (7 * k + 5)) < 9223372036854775808
  pub ahead : mag (word_in ws (7 * k + 6)) < 9223372036854775808

abbrev pub is_accepted : List ℤ → ℕ → Bool
is_accepted ws k = words_kept ws k && accepted (correlation_at ws k)

abbrev pub cover_at : List ℤ → ℕ → Option Ends
cover_at ws k = cond (is_accepted ws k) (Some (ends_of (correlation_at ws k))) None

-- one that begins after the place where the cover before it ends
abbrev pub may_come : List ℤ → ℕ → ℕ → Bool
may_come ws k before = is_accepted ws k && (eqb k 0 || ltb before (ends_of (correlation_at ws k)).from)

abbrev pub next_at : List ℤ → ℕ → ℕ → Option Ends
next_at ws k before = cond (may_come ws k before) (Some (ends_of (correlation_at ws k))) None

-- ---- a number of 64 bits as the code reads it
pub word_read : (z : ℤ) → mag z < 9223372036854775808 → to_z w64 (of_z w64 z) ≡ z
word_read z h = to_z-of_z {w = w64} (sfits_of h)

pub bits_read : (z : ℤ) (n : ℕ) → mag z < 9223372036854775808 → n ≡ bits_of (to_z w64 (of_z w64 z)) → n ≡ bits_of z
bits_read z n h e = e ∙ ap bits_of (word_read z h)

pub place_read_lem : (z : ℤ) (n : ℕ) → mag z < 9223372036854775808 → n ≡ place_of_day (to_z w64 (of_z w64 z)) → (n ≡ place_of_day z) × (n ≤ 100000)
place_read_lem z n h e =
    let p = e ∙ ap place_of_day (word_read z h) in (p, rw p (place_top 40000 100000 z))

pub micros_read : (m n : ℕ) (z : ℤ) → z ≡ held_micros_at m → n ≡ bits_of (to_z w64 (of_z w64 z)) → n ≡ bits_of (held_micros_at m)
micros_read m n z e f =
    bits_read (held_micros_at m) n (sub_mag (min m 8640000000000000) 3456000000000000 9223372036854775808 (omega arith) (omega arith))
    (f ∙ ap (λ (y : ℤ). bits_of (to_z w64 (of_z w64 y))) e)

-- ---- a number that is not negative is its bits
bits_plain : (z : ℤ) → le_z (pos 0) z ≡ true → bits_of z ≡ nat_abs z
bits_plain (pos n) e = refl
bits_plain (negsuc n) e = absurd (false≢true e)

bits_small : (z : ℤ) → mag z < 9223372036854775808 → bits_of z < 9223372036854775808 → le_z (pos 0) z ≡ true
bits_small (pos n) h l = le-leb 0 n (omega arith)
bits_small (negsuc n) h l = absurd (omega arith)

-- a field's number, and its bits
pub under : (m : ℕ) (z : ℤ) → field_in m z ≡ true → nat_abs z < m
under m (pos n) e = ltb-true n m (and_both (le_z (pos 0) (pos n)) (ltb n m) e).1
under m (negsuc n) e = absurd (false≢true e)

field_bits : (m : ℕ) (z : ℤ) → field_in m z ≡ true → bits_of z < m
field_bits m z e = rw (bits_plain z (and_both (le_z (pos 0) z) (lt_z z (pos m)) e).0) (under m z e)

bits_field : (m : ℕ) (z : ℤ) → mag z < 9223372036854775808 → m ≤ 9223372036854775808 → bits_of z < m → field_in m z ≡ true
bits_field m (pos n) h k l = rw (le-leb 0 n (omega arith), lt-ltb n m l)
bits_field m (negsuc n) h k l = absurd (omega arith)

-- ---- numbers that are kept
pub record Kept (ws : List ℤ) (k : ℕ) : Type 0 where
  pub tick : field_in 4294967296 (word_in ws (7 * k)) ≡ true
  pub code : field_in 1 (word_in ws (7 * k + 1)) ≡ true
  pub micro : le_z (pos 0) (word_in ws (7 * k + 3)) ≡ true
  pub period : le_z (pos 0) (word_in ws (7 * k + 4)) ≡ true
  pub back : le_z (pos 0) (word_in ws (7 * k + 5)) ≡ true
  pub ahead : le_z (pos 0) (word_in ws (7 * k + 6)) ≡ true

module _ (ws : List ℤ) (k : ℕ) where
  pub kept : words_kept ws k ≡ true → Kept ws k
  kept e =
      let a = and_both (field_in 4294967296 (word_in ws (7 * k))) _ e in
      let b = and_both (field_in 1 (word_in ws (7 * k + 1))) _ a.1 in
      let c = and_both (le_z (pos 0) (word_in ws (7 * k + 3))) _ b.1 in
      let d = and_both (le_z (pos 0) (word_in ws (7 * k + 4))) _ c.1 in
      let f = and_both (le_z (pos 0) (word_in ws (7 * k + 5))) (le_z (pos 0) (word_in ws (7 * k + 6))) d.1 in
      record { tick = a.0; code = b.0; micro = c.0; period = d.0; back = f.0; ahead = f.1 }

  pub keeps : Kept ws k → words_kept ws k ≡ true
  keeps h = rw (h.tick, h.code, h.micro, h.period, h.back, h.ahead)

  pub taken_is : Kept ws k → taken_at ws k ≡ correlation_at ws k
  taken_is h =
      let p = and_both (le_z (pos 0) (word_in ws (7 * k))) (lt_z (word_in ws (7 * k)) (pos 4294967296)) h.tick in
      rw (
        mod-eq_of_lt (field_bits 4294967296 (word_in ws (7 * k)) h.tick),
        bits_plain (word_in ws (7 * k)) p.0,
        bits_plain (word_in ws (7 * k + 3)) h.micro,
        bits_plain (word_in ws (7 * k + 4)) h.period,
        bits_plain (word_in ws (7 * k + 5)) h.back,
        bits_plain (word_in ws (7 * k + 6)) h.ahead,
      )

  -- ---- the ways out of a cover: a tick too wide, another scale, and the cover of what was taken
  pub not_tick : 4294967295 < bits_in ws (7 * k) → None ≡ cover_at ws k
  not_tick l = go (is_accepted ws k) refl
    where
      go : (t : Bool) → is_accepted ws k ≡ t → None ≡ cond t (Some (ends_of (correlation_at ws k))) None
      go true e =
          absurd (omega (arith, field_bits 4294967296 (word_in ws (7 * k)) (kept (and_both (words_kept ws k) (accepted (correlation_at ws k)) e).0).tick))
      go false e = refl

  pub not_tai : (bits_in ws (7 * k + 1) ≡ 0 → ⊥) → None ≡ cover_at ws k
  not_tai l = go (is_accepted ws k) refl
    where
      go : (t : Bool) → is_accepted ws k ≡ t → None ≡ cond t (Some (ends_of (correlation_at ws k))) None
      go true e =
          let z = field_bits 1 (word_in ws (7 * k + 1)) (kept (and_both (words_kept ws k) (accepted (correlation_at ws k)) e).0).code in
          absurd (l (omega arith))
      go false e = refl

  module _ (c : Correlation) (h : Taken ws k c) (m : mag (word_in ws (7 * k)) < 9223372036854775808) (n : mag (word_in ws (7 * k + 1)) < 9223372036854775808)
      (l : bits_in ws (7 * k) ≤ 4294967295) (i : bits_in ws (7 * k + 1) ≡ 0) where
    -- what is accepted has small numbers, so none is negative
    all_kept : accepted (taken_at ws k) ≡ true → Kept ws k
    all_kept e =
        let s = sound (taken_at ws k) e in
        record {
          tick = bits_field 4294967296 (word_in ws (7 * k)) m (omega arith) (omega arith);
          code = bits_field 1 (word_in ws (7 * k + 1)) n (omega arith) (omega arith);
          micro = bits_small (word_in ws (7 * k + 3)) h.micro (omega (arith, s.under));
          period = bits_small (word_in ws (7 * k + 4)) h.period (omega (arith, s.slow));
          back = bits_small (word_in ws (7 * k + 5)) h.back (omega (arith, s.back_to));
          ahead = bits_small (word_in ws (7 * k + 6)) h.ahead (omega (arith, s.ahead_to));
        }

    taken_cover : covered_by (taken_at ws k) ≡ cover_at ws k
    taken_cover = go (accepted (taken_at ws k)) refl
      where
        not_kept : accepted (taken_at ws k) ≡ false → (t : Bool) → is_accepted ws k ≡ t → is_accepted ws k ≡ false
        not_kept e true f =
            let b = and_both (words_kept ws k) (accepted (correlation_at ws k)) f in
            absurd (false≢true (sym e ∙ ap accepted (taken_is (kept b.0)) ∙ b.1))
        not_kept e false f = f

        go : (t : Bool) → accepted (taken_at ws k) ≡ t → covered_by (taken_at ws k) ≡ cover_at ws k
        go true e = let q = all_kept e in ap covered_by (taken_is q) ∙ rw (keeps q)
        go false e = rw (e, not_kept e (is_accepted ws k) refl)

    pub cover_taken : covered_by c ≡ cover_at ws k
    cover_taken = ap covered_by h.is ∙ taken_cover

-- ---- the cover after the one before it
module _ (ws : List ℤ) (k before : ℕ) where
  pub next_none : cover_at ws k ≡ None → None ≡ next_at ws k before
  next_none e = rw (covered_none (is_accepted ws k) (ends_of (correlation_at ws k)) e)

  pub may_next : (v : Ends) → next_at ws k before ≡ Some v → (may_come ws k before ≡ true) × (ends_of (correlation_at ws k) ≡ v)
  may_next v e = covered_at (may_come ws k before) (ends_of (correlation_at ws k)) v e

  pub may_not : next_at ws k before ≡ None → may_come ws k before ≡ false
  may_not e = covered_none (may_come ws k before) (ends_of (correlation_at ws k)) e

  module _ (v : Ends) (e : cover_at ws k ≡ Some v) where
    pub next_first : k ≡ 0 → Some v ≡ next_at ws k before
    next_first z =
        let f = covered_at (is_accepted ws k) (ends_of (correlation_at ws k)) v e in rw (f.0, eq-eqb k 0 z) (ap Some (sym f.1))

    module _ (z : k ≡ 0 → ⊥) where
      pub next_early : v.from ≤ before → None ≡ next_at ws k before
      next_early h =
          let f = covered_at (is_accepted ws k) (ends_of (correlation_at ws k)) v e in
          let l : ltb before (ends_of (correlation_at ws k)).from ≡ false = ap (λ (x : Ends). ltb before x.from) f.1 ∙ le-ltb before v.from h in
          rw (f.0, ne_eqb k 0 z, l)

      pub next_later : before < v.from → Some v ≡ next_at ws k before
      next_later h =
          let f = covered_at (is_accepted ws k) (ends_of (correlation_at ws k)) v e in
          let l : ltb before (ends_of (correlation_at ws k)).from ≡ true = ap (λ (x : Ends). ltb before x.from) f.1 ∙ lt-ltb before v.from h in
          rw (f.0, ne_eqb k 0 z, l) (ap Some (sym f.1))
