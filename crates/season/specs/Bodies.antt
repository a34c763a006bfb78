-- What the reader's private functions answer, and that it is the meaning. Assumes nothing.
use Rattle.std.specs.Prelude.{◌≡◌, Bool, true, false, ◌&&◌, List, ◌∷◌, ◌++◌, ℕ, ◌+◌, ◌*◌, ◌/◌, ◌%◌, ◌≤◌, ◌<◌, leb, eqb, ℤ, pos, negsuc, length, drop, Option, Some, None, Result, Ok, Err}
use Rattle.std.proofs.Math.Path.{refl, ap, ap₂}
use Rattle.std.proofs.Common.{sym, ◌∙◌, arith, le-leb, eq-eqb, ne_eqb}
use Rattle.std.proofs.Math.Bool.{and_assoc}
use Rattle.std.proofs.Math.IntN.{sub_ℕ}
use Rattle.std.proofs.lemmas.Bool.{lt-leb}
use Rattle.axis.specs.Meaning.{signed_of, day_at, micros_at, place_of_day, place_of_micros, floor_z, mod_z, day_micros}
use Rattle.axis.specs.Signed.{turned, turned_back, signed_turned}
use Rattle.axis.specs.Axis.{place_day, micros_place, micros_day, micros_left}
use Rattle.axis.specs.Diff.{Way, way, below, above, sub_eq, sub_le_same}
use Rattle.axis.specs.Shift.{place_top}
use Rattle.octets.specs.Meaning.{part}
use Rattle.octets.specs.Field.{Bytes}
use Rattle.octets.specs.Parts.{part_lt}
use Rattle.scales.specs.Meaning.{number_of}
use Rattle.scales.specs.Place.{and_both}
use Rattle.scales.specs.declared.Refusal.{Refusal}
use Rattle.scales.specs.declared.Scale.TheVariants as S
use Rattle.sbt.specs.Meaning.{accepted}
use Rattle.sbt.specs.Places.{covered_by}
use Rattle.sbt.specs.Accepted.{sound}
use Rattle.sbt.specs.declared.Correlation.{Correlation}
use Rattle.clock.specs.declared.inner.Ends.{Ends}
use Rattle.season.specs.Meaning.{all, each, count_of, entry_at, cover_in, position_in, body_at, correlation_from, correlation_in, cover_of, same_z, same_cover, is_sized, entry_kept, contents_kept, body_kept, is_season, words_of, entry_words, Entered}
use Rattle.season.specs.Places.{entry_of}
use Rattle.season.specs.Kept.{Fit}
use Rattle.season.specs.Each.{all_at, all_both}
use Rattle.season.specs.Covers.{ends_of, cover_tai}
use Rattle.season.specs.declared.Entry.{Entry}

-- a body by the place of its reference, and the body at a place of the file; a reference beyond the axis stands at its end
abbrev pub body_from : ℕ → ℕ → ℕ → ℕ → ℕ → Correlation
body_from tick p period back ahead =
    record {
      tick = record { 0 = tick };
      scale = S.Tai;
      day = day_at (p / 86400000000);
      micro = p % 86400000000;
      period = period;
      back = back;
      ahead = ahead;
    }

abbrev pub body_of : List ℕ → ℕ → Correlation
body_of s at =
    body_from (part s at 4) (place_of_micros (signed_of (part s (at + 4) 8))) (part s (at + 12) 8) (part s (at + 20) 4) (part s (at + 24) 4)

-- the entry's cover is the correlation's: a place of the axis of microseconds stands 2^63 - 3456000000000000 further on
abbrev pub same_as : Entry → Option Ends → Bool
same_as e (Some v) = eqb e.from (v.from + 9219916036854775808) && eqb e.to (v.to + 9219916036854775808)
same_as e None = false

abbrev pub stands_by : Entry → Correlation → Bool
stands_by e c = same_as e (covered_by c)

abbrev pub all_stand : List ℕ → ℕ → Bool
all_stand s n = all (λ k. entry_kept s k && body_kept s k) n

-- the nine numbers of an entry
abbrev pub words_by : Entry → Correlation → List ℤ
words_by e c = signed_of (turned e.from) ∷ signed_of (turned e.to) ∷ words_of c

-- a file that is kept, and room for its numbers
pub record Filling (s : List ℕ) (n l : ℕ) : Type 0 where
  pub fit : Fit s n
  pub stand : all_stand s n ≡ true
  pub room : 9 * n ≤ l

-- the numbers of the first n entries, then the rest as it was
abbrev pub filled : List ℕ → ℕ → List ℤ → List ℤ
filled s n out = each (entry_words s) n ++ drop (9 * n) out

-- ---- what is handed back
abbrev pub entered_by : Result ℕ Refusal → List ℤ → Entered
entered_by (Ok n) out = record { number = 0; count = n; lent = out }
entered_by (Err f) out = record { number = number_of f; count = 0; lent = out }

-- ---- what the code compares is what the meaning does
both_le : (a b : ℕ) → (leb a b && leb b a) ≡ eqb a b
both_le a b = go (way a b) (way b a)
  where
    go : Way a b → Way b a → (leb a b && leb b a) ≡ eqb a b
    go (below h) k = rw (le-leb a b (omega arith), lt-leb b a h) (sym (ne_eqb a b (λ e. omega arith)))
    go (above h) (below k) = rw (lt-leb a b k) (sym (ne_eqb a b (λ e. omega arith)))
    go (above h) (above k) = rw (le-leb a b k, le-leb b a h) (sym (eq-eqb a b (omega arith)))

-- the number of 64 bits x is the microsecond at the place p
same_place : (x p : ℕ) → x < 18446744073709551616 → same_z (signed_of x) (micros_at p) ≡ eqb (turned x) (p + 9219916036854775808)
same_place x p h =
    let q : micros_at p ≡ sub_ℕ (p + 9219916036854775808) 9223372036854775808 =
    sub_eq p 3456000000000000 (p + 9219916036854775808) 9223372036854775808 (omega arith) in
    rw (signed_turned x h, q, sub_le_same 9223372036854775808 (turned x) (p + 9219916036854775808), sub_le_same 9223372036854775808 (p + 9219916036854775808) (turned x))
    (both_le (turned x) (p + 9219916036854775808))

module _ (x y p : ℕ) (h : x < 18446744073709551616) (k : y < 18446744073709551616) (c : Correlation) (i : c.scale ≡ S.Tai) where
  stands_is : stands_by (record { from = turned x; to = turned y; position = p }) c ≡
      (accepted c && same_cover (record { from = signed_of x; to = signed_of y }) (cover_of c))
  stands_is = go (accepted c) refl
    where
      go : (b : Bool) → accepted c ≡ b → stands_by (record { from = turned x; to = turned y; position = p }) c ≡
          (accepted c && same_cover (record { from = signed_of x; to = signed_of y }) (cover_of c))
      go true a =
          let v = ends_of c in
          rw a
          (sym (ap (same_cover (record { from = signed_of x; to = signed_of y })) (cover_tai c a i)
          ∙ ap₂ ◌&&◌ (same_place x v.from h) (same_place y v.to k)))
      go false a = rw a

-- ---- a reference on the axis and beyond it
day_of_lem : (z : ℤ) → place_of_day (floor_z z 86400000000) ≡ place_of_micros z / 86400000000
day_of_lem (pos n) = omega arith
day_of_lem (negsuc n) = omega arith

module _ (t : ℕ) (z : ℤ) (period back ahead : ℕ) where
  body : Correlation
  body = body_from t (place_of_micros z) period back ahead

  meant : Correlation
  meant = correlation_from t z period back ahead

  on_axis : 29773 ≤ place_of_micros z / 86400000000 → place_of_micros z / 86400000000 ≤ 76524 → body ≡ meant
  unfolding body meant
  on_axis h k =
      let e = micros_place z (omega arith) (omega arith) in
      ap₂ {C = Correlation}
      (λ (d : ℤ) (u : ℕ). record { tick = record { 0 = t }; scale = S.Tai; day = d; micro = u; period = period; back = back; ahead = ahead })
      (sym (micros_day (place_of_micros z)) ∙ ap (λ (x : ℤ). floor_z x day_micros) e)
      (sym (micros_left (place_of_micros z)) ∙ ap (λ (x : ℤ). mod_z x day_micros) e)

  by_body : accepted body ≡ true → body ≡ meant
  unfolding body
  by_body a =
      let s = sound body a in
      let e = place_day (place_of_micros z / 86400000000) (omega (arith, place_top 3456000000000000 8640000000000000 z)) in
      on_axis (omega (arith, s.day.from, e)) (omega (arith, s.day.to, e))

  by_meant : accepted meant ≡ true → body ≡ meant
  unfolding meant
  by_meant a =
      let s = sound meant a in
      on_axis (omega (arith, s.day.from, day_of_lem z)) (omega (arith, s.day.to, day_of_lem z))

  same_stands : (e : Entry) → stands_by e body ≡ stands_by e meant
  same_stands e = go (accepted body) refl (accepted meant) refl
    where
      go : (b : Bool) → accepted body ≡ b → (m : Bool) → accepted meant ≡ m → stands_by e body ≡ stands_by e meant
      go true a m f = ap (stands_by e) (by_body a)
      go false a true f = ap (stands_by e) (by_meant f)
      go false a false f = rw (a, f)

-- ---- entry k of a file of bytes that holds it
module _ (s : List ℕ) (k : ℕ) (b : Bytes s) (l : entry_at k + 20 ≤ length s) where
  pub keeps_body : stands_by (entry_of s k) (body_of s (body_at (count_of s) k)) ≡ body_kept s k
  unfolding body meant
  keeps_body =
      let at = body_at (count_of s) k in
      same_stands (part s at 4) (signed_of (part s (at + 4) 8)) (part s (at + 12) 8) (part s (at + 20) 4) (part s (at + 24) 4) (entry_of s k)
      ∙ stands_is (part s (entry_at k) 8) (part s (entry_at k + 8) 8) (position_in s k)
      (part_lt s (entry_at k) 8 (omega arith) b) (part_lt s (entry_at k + 8) 8 (omega arith) b) (correlation_in s k) refl

  module _ (e : body_kept s k ≡ true) where
    same_body : body_of s (body_at (count_of s) k) ≡ correlation_in s k
    unfolding body meant
    same_body =
        let at = body_at (count_of s) k in
        by_meant (part s at 4) (signed_of (part s (at + 4) 8)) (part s (at + 12) 8) (part s (at + 20) 4) (part s (at + 24) 4)
        (and_both (accepted (correlation_in s k)) _ e).0

    pub body_accepted : accepted (body_of s (body_at (count_of s) k)) ≡ true
    body_accepted = ap accepted same_body ∙ (and_both (accepted (correlation_in s k)) _ e).0

    pub words_are : words_by (entry_of s k) (body_of s (body_at (count_of s) k)) ≡ entry_words s k
    words_are =
        ap₂ (λ (x y : ℕ). signed_of x ∷ signed_of y ∷ words_of (body_of s (body_at (count_of s) k)))
        (turned_back (part s (entry_at k) 8) (part_lt s (entry_at k) 8 (omega arith) b))
        (turned_back (part s (entry_at k + 8) 8) (part_lt s (entry_at k + 8) 8 (omega arith) b))
        ∙ ap (λ (c : Correlation). (cover_in s k).from ∷ (cover_in s k).to ∷ words_of c) same_body

-- ---- entry k of n and its body as the code reads them, in a file that has the length for n
module _ (s : List ℕ) (n k : ℕ) (b : Bytes s) (f : Fit s n) (h : k < n) (e : Entry) (c : Correlation) (p : e ≡ entry_of s k) (q : c ≡ body_of s (body_at n k)) where
  body_read : c ≡ body_of s (body_at (count_of s) k)
  body_read = q ∙ ap (λ (m : ℕ). body_of s (body_at m k)) f.count

  pub stands_at : stands_by e c ≡ body_kept s k
  stands_at = ap₂ stands_by p body_read ∙ keeps_body s k b (omega (arith, f.length_is))

  module _ (a : all_stand s n ≡ true) where
    kept_body : body_kept s k ≡ true
    kept_body = (and_both (entry_kept s k) (body_kept s k) (all_at (λ j. entry_kept s j && body_kept s j) n k a h)).1

    pub accepted_at : accepted c ≡ true
    accepted_at = ap accepted body_read ∙ body_accepted s k b (omega (arith, f.length_is)) kept_body

    pub words_at : words_by e c ≡ entry_words s k
    words_at = ap₂ words_by p body_read ∙ words_are s k b (omega (arith, f.length_is)) kept_body

-- ---- all of them
pub season_is : (s : List ℕ) → is_season s ≡ (is_sized s && all_stand s (count_of s))
unfolding is_season contents_kept
season_is s =
    and_assoc (is_sized s) (all (entry_kept s) (count_of s)) (all (body_kept s) (count_of s))
    ∙ ap (λ (x : Bool). is_sized s && x) (sym (all_both (entry_kept s) (body_kept s) (count_of s)))
