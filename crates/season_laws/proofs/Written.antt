-- Demand 2: what is written reads back as the same correlations. Assumes nothing.
use mathlib.Core.Path.{◌≡◌, refl, sym, ap, ap₂, ◌∙◌}
use mathlib.Core.Bool.{true, ◌&&◌, false≢true}
use mathlib.Core.List.{List}
use Prim.Native.Nat.{ℕ, ◌+◌, ◌*◌, ◌%◌, ◌≤◌, ◌<◌}
use native.Mathlib.Omega.{arith}
use lib.Dec.{leb, eqb}
use lib.IntN.{ℤ, pos, negsuc, nat_abs}
use lib.ListN.{length}
use lib.Signed.{le_z}
use borrow.Author.Tests.{leb-true, eqb-true, le-leb, eq-eqb}
use Rattle.axis.specs.Meaning.{signed_of, bits_of, floor_z, mod_z, day_micros, since}
use Rattle.axis.specs.Signed.{bits_lt, signed_bits}
use Rattle.axis.specs.Axis.{day_since, micro_since}
use Rattle.octets.specs.Meaning.{part}
use Rattle.scales.specs.Place.{and_both}
use Rattle.clock.specs.Meaning.{Cover}
use Rattle.clock.specs.Signs.{le_refl}
use Rattle.sbt.specs.Meaning.{accepted}
use Rattle.sbt.specs.Accepted.{sound}
use Rattle.sbt.specs.declared.Correlation.{Correlation}
use Rattle.season.specs.Meaning.{all, count_of, entry_at, cover_in, position_in, body_at, correlation_in, cover_of, same_cover, rises, entry_kept, contents_kept, body_kept, is_season, word_in, correlation_at, words_kept, is_written, is_writable, file_of}
use Rattle.season_laws.specs.Meaning.{WrittenRead}
use Rattle.season.specs.Each.{all_at, all_made}
use Rattle.season.specs.Taking.{Kept, kept, under}
use Rattle.season_laws.proofs.Contents.{rises_same}
use Rattle.season_laws.proofs.Fits.{cover_small, reference_small}
use Rattle.season_laws.proofs.File.{many, entry_from, entry_to, entry_position, body_tick, body_reference, body_period, body_back, body_ahead, file_length, file_count, in_entry, in_body}

-- ---- words that fit
pub unsigned : (z : ℤ) → le_z (pos 0) z ≡ true → pos (nat_abs z) ≡ z
unsigned (pos n) e = refl
unsigned (negsuc n) e = absurd (false≢true e)

-- ---- what may be written
abbrev pub cover_at : List ℤ → ℕ → Cover
cover_at ws k = cover_of (correlation_at ws k)

-- each correlation
pub record Writable (ws : List ℤ) : Type 0 where
  pub words_kept_lem : (k : ℕ) → k < many ws → Kept ws k
  pub accepts : (k : ℕ) → k < many ws → accepted (correlation_at ws k) ≡ true
  pub covers : (k : ℕ) → k < many ws → rises (cover_at ws) k ≡ true

pub writable : (ws : List ℤ) → all (is_written ws) (many ws) ≡ true → Writable ws
writable ws e =
    record {
      words_kept_lem = λ k h. kept ws k (one k (all_at (is_written ws) (many ws) k e h)).0;
      accepts = λ k h. (one k (all_at (is_written ws) (many ws) k e h)).1;
      covers = λ k h. (one k (all_at (is_written ws) (many ws) k e h)).2;
    }
  where
    one : (k : ℕ) → is_written ws k ≡ true → (words_kept ws k ≡ true) × (accepted (correlation_at ws k) ≡ true) × (rises (cover_at ws) k ≡ true)
    one k q =
        let x = and_both (words_kept ws k) (accepted (correlation_at ws k) && rises (cover_at ws) k) q in
        let y = and_both (accepted (correlation_at ws k)) (rises (cover_at ws) k) x.1 in
        (x.0, y.0, y.1)

pub record May (ws : List ℤ) : Type 0 where
  pub whole : length ws % 7 ≡ 0
  pub most : many ws ≤ 512
  pub few : many ws < 65536
  pub each_one : Writable ws

pub may : (ws : List ℤ) → is_writable ws ≡ true → May ws
unfolding is_writable
may ws e =
    let a = and_both (eqb (length ws % 7) 0) (leb (many ws) 512 && all (is_written ws) (many ws)) e in
    let b = and_both (leb (many ws) 512) (all (is_written ws) (many ws)) a.1 in
    let m = leb-true (many ws) 512 b.0 in
    record { whole = eqb-true (length ws % 7) 0 a.0; most = m; few = omega arith; each_one = writable ws b.1 }

-- ---- what stands in the file, also of more than 512
module _ (ws : List ℤ) (few : many ws < 65536) (q : Writable ws) where
  pub count_is : count_of (file_of ws) ≡ many ws
  count_is = file_count ws few

  module _ (k : ℕ) (h : k < many ws) where
    cover_is : cover_in (file_of ws) k ≡ cover_at ws k
    cover_is =
        let v = cover_at ws k in
        let b = cover_small (correlation_at ws k) (q.accepts k h) refl in
        let p = body_at (many ws) k in
        let x : part (file_of ws) (entry_at k) 8 ≡ bits_of v.from =
        in_entry ws k 0 8 (entry_at k) h (omega arith) (omega arith) ∙ entry_from (bits_of v.from) (bits_of v.to) p (bits_lt v.from b.0) in
        let y : part (file_of ws) (entry_at k + 8) 8 ≡ bits_of v.to =
        in_entry ws k 8 8 (entry_at k + 8) h (omega arith) (omega arith) ∙ entry_to (bits_of v.from) (bits_of v.to) p (bits_lt v.to b.1) in
        λ i. record { from = (ap signed_of x ∙ signed_bits v.from b.0) i; to = (ap signed_of y ∙ signed_bits v.to b.1) i }

    position_is : position_in (file_of ws) k ≡ body_at (many ws) k
    position_is =
        let v = cover_at ws k in
        in_entry ws k 16 4 (entry_at k + 16) h (omega arith) (omega arith)
        ∙ entry_position (bits_of v.from) (bits_of v.to) (body_at (many ws) k) (omega (arith, few))

    correlation_is : correlation_in (file_of ws) k ≡ correlation_at ws k
    correlation_is =
        let c = correlation_at ws k in
        let s = file_of ws in
        let n = count_is in
        let at = body_at (count_of s) k in
        let g = sound c (q.accepts k h) in
        let z = since c.day c.micro in
        let r = reference_small c (q.accepts k h) in
        let t = c.tick.0 in
        let tick : part s at 4 ≡ t =
        in_body ws k 0 4 at h (omega arith) (omega arith) ∙ body_tick t (bits_of z) c.period c.back c.ahead (under 4294967296 (word_in ws (7 * k)) (q.words_kept_lem k h).tick) in
        let reference : signed_of (part s (at + 4) 8) ≡ z =
        ap signed_of (in_body ws k 4 8 (at + 4) h (omega arith) (omega arith) ∙ body_reference t (bits_of z) c.period c.back c.ahead (bits_lt z r)) ∙ signed_bits z r in
        let period : part s (at + 12) 8 ≡ c.period =
        in_body ws k 12 8 (at + 12) h (omega arith) (omega arith) ∙ body_period t (bits_of z) c.period c.back c.ahead (omega (arith, g.slow)) in
        let back : part s (at + 20) 4 ≡ c.back =
        in_body ws k 20 4 (at + 20) h (omega arith) (omega arith) ∙ body_back t (bits_of z) c.period c.back c.ahead (omega (arith, g.back_to)) in
        let ahead : part s (at + 24) 4 ≡ c.ahead =
        in_body ws k 24 4 (at + 24) h (omega arith) (omega arith) ∙ body_ahead t (bits_of z) c.period c.back c.ahead (omega (arith, g.ahead_to)) in
        λ i. record {
          tick = record { 0 = tick i };
          scale = c.scale;
          day = (ap (λ (x : ℤ). floor_z x day_micros) reference ∙ day_since c.day c.micro g.under) i;
          micro = (ap (λ (x : ℤ). mod_z x day_micros) reference ∙ micro_since c.day c.micro g.under) i;
          period = period i;
          back = back i;
          ahead = ahead i;
        }

  rises_is : (k : ℕ) → k < many ws → rises (cover_in (file_of ws)) k ≡ true
  rises_is k h = rises_same (cover_in (file_of ws)) (cover_at ws) (many ws) cover_is k h ∙ q.covers k h

  pub entries_kept : (k : ℕ) → k < count_of (file_of ws) → entry_kept (file_of ws) k ≡ true
  entries_kept k h =
      let n = count_is in
      let i : k < many ws = omega arith in
      rw (eq-eqb (position_in (file_of ws) k) (body_at (count_of (file_of ws)) k) (position_is k i ∙ ap (λ (m : ℕ). body_at m k) (sym n)), rises_is k i)

  pub bodies_kept : (k : ℕ) → k < count_of (file_of ws) → body_kept (file_of ws) k ≡ true
  bodies_kept k h =
      let n = count_is in
      let i : k < many ws = omega arith in
      let v = cover_at ws k in
      ap₂ (λ (c : Correlation) (w : Cover). accepted c && same_cover w (cover_of c)) (correlation_is k i) (cover_is k i)
      ∙ rw (q.accepts k i, le_refl v.from, le_refl v.to)

  season_is : many ws ≤ 512 → is_season (file_of ws) ≡ true
  unfolding is_season contents_kept
  season_is m =
      let s = file_of ws in
      let n = count_is in
      rw (
        eq-eqb (length s) (2 + 48 * count_of s) (omega (arith, file_length ws)),
        le-leb (count_of s) 512 (omega arith),
        all_made (entry_kept s) (count_of s) entries_kept,
        all_made (body_kept s) (count_of s) bodies_kept,
      )

pub written_read : (ws : List ℤ) → is_writable ws ≡ true → WrittenRead ws
written_read ws e =
    let m = may ws e in
    let f = m.few in
    let q = m.each_one in
    record { season = season_is ws f q m.most; count = count_is ws f q; correlations = correlation_is ws f q; covers = cover_is ws f q }
