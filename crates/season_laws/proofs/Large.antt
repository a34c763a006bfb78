-- Wrong programs that take 513 correlations. The file has 24,626 bytes, so that what it gives is found by laws and not by counting it out.
-- Assumes nothing.
use mathlib.Core.Path.{◌≡◌, refl, sym, ap, ◌∙◌}
use mathlib.Core.Bool.{Bool, true, false, ◌&&◌}
use mathlib.Core.List.{List, []}
use Prim.Native.Nat.{ℕ, zero, suc, ◌+◌, ◌*◌, ◌/◌, ◌%◌, ◌≤◌, ◌<◌}
use native.Mathlib.Omega.{arith}
use lib.Dec.{leb, eqb, lit<, lit≤}
use lib.IntN.{ℤ, pos}
use lib.ListN.{length}
use borrow.Author.Tests.{le-leb, lt-leb, lt-ltb, eq-eqb}
use Rattle.evidence.specs.ShutOut.{ShutOut, differ, shut}
use Rattle.scales.specs.Meaning.{refused, Wrote}
use Rattle.scales.specs.declared.Scale.TheVariants as S
use Rattle.clock.specs.Meaning.{clock}
use Rattle.sbt.specs.Meaning.{accepted}
use Rattle.sbt.specs.declared.Correlation.{Correlation}
use Rattle.season.specs.Meaning.{all, count_of, cover_of, rises, entry_kept, contents_kept, body_kept, is_season, Entered, read, is_written, is_writable, file_of, write, covering}
use Rattle.ground_laws.proofs.Desks.{keeps}
use Rattle.season_laws.specs.Meaning.{handed_back}
use Rattle.season.specs.Each.{all_made}
use Rattle.season_laws.proofs.Contents.{rises_same}
use Rattle.season_laws.proofs.File.{many, file_length}
use Rattle.season_laws.proofs.Bodies.{words_from, words_many, words_whole, correlation_is, words_kept_lem}
use Rattle.season_laws.proofs.Written.{cover_at, Writable, writable, count_is, entries_kept, bodies_kept}
use Rattle.season_laws.proofs.Cases.{by_number}
use Rattle.season_laws.proofs.Wrong.{ask_by, read_by, write_by, kept}

-- ---- a correlation for each of the days 0 to n - 1, its cover one microsecond
abbrev daily : ℕ → Correlation
daily k = record { tick = record { 0 = 0 }; scale = S.Tai; day = pos k; micro = 0; period = 3906250000; back = 0; ahead = 0 }

pub days : ℕ → List ℤ
days n = words_from daily n

daily_accepted : (k : ℕ) → k ≤ 36524 → accepted (daily k) ≡ true
unfolding accepted
daily_accepted k h = rw (le-leb k 36524 h)

daily_cover : (k : ℕ) → cover_of (daily k) ≡ record { from = pos (k * 86400000000); to = pos (k * 86400000000) }
unfolding clock
daily_cover k =
    let e : ((k * 86400000000 + 0) * 1000000 + 0) / 1000000 ≡ k * 86400000000 = omega arith in
    λ i. record { from = pos (e i); to = pos (e i) }

daily_rises : (k : ℕ) → rises (λ j. record { from = pos (j * 86400000000); to = pos (j * 86400000000) }) k ≡ true
daily_rises zero = refl
daily_rises (suc k) =
    rw (lt-ltb (k * 86400000000) (suc k * 86400000000) (omega arith), le-leb (suc k * 86400000000) (suc k * 86400000000) (omega arith))

module _ (n : ℕ) (most : n ≤ 36525) where
  days_many : many (days n) ≡ n
  unfolding days
  days_many = words_many daily n

  days_whole : length (days n) % 7 ≡ 0
  unfolding days
  days_whole = words_whole daily n

  days_written : (k : ℕ) → k < many (days n) → is_written (days n) k ≡ true
  unfolding days
  days_written k h =
      let m = words_many daily n in
      let i : k < n = omega arith in
      rw (
        words_kept_lem daily n k i (lit< tt),
        ap accepted (correlation_is daily n k i refl) ∙ daily_accepted k (omega arith),
        rises_same (cover_at (words_from daily n)) _ n (λ j l. ap cover_of (correlation_is daily n j l refl) ∙ daily_cover j) k i ∙ daily_rises k,
      )

  days_writable : Writable (days n)
  days_writable = writable (days n) (all_made (is_written (days n)) (many (days n)) days_written)

-- ---- the limit put one higher
abbrev writable_to : ℕ → List ℤ → Bool
writable_to m ws = eqb (length ws % 7) 0 && (leb (length ws / 7) m && all (is_written ws) (length ws / 7))

abbrev contents_to : ℕ → List ℕ → Bool
contents_to m s = eqb (length s) (2 + 48 * count_of s) && leb (count_of s) m && all (entry_kept s) (count_of s)

abbrev season_to : ℕ → List ℕ → Bool
season_to m s = contents_to m s && all (body_kept s) (count_of s)

-- of any file of 513 that keeps the other rules
module _ (s : List ℕ) (c : count_of s ≡ 513) (l : length s ≡ 2 + 48 * count_of s) (e : all (entry_kept s) (count_of s) ≡ true) (b : all (body_kept s) (count_of s) ≡ true) where
  not_kept : contents_kept s ≡ false
  unfolding contents_kept
  not_kept = rw (eq-eqb (length s) (2 + 48 * count_of s) l, lt-leb (count_of s) 512 (omega arith))

  kept_to : contents_to 513 s ≡ true
  kept_to = rw (eq-eqb (length s) (2 + 48 * count_of s) l, le-leb (count_of s) 513 (omega arith), e)

  asked_wrong : ask_by (contents_to 513) s (pos 36525) 0 ≡ handed_back (refused 7)
  asked_wrong = rw kept_to

  asked_right : covering s (pos 36525) 0 ≡ handed_back (refused 14)
  unfolding covering
  asked_right = rw not_kept

  read_wrong : read_by (season_to 513) s [] ≡ kept 13 []
  read_wrong = rw (kept_to, b, lt-leb (9 * count_of s) 0 (omega arith))

  read_right : read s [] ≡ kept 14 []
  unfolding read is_season
  read_right = rw not_kept

-- ---- 513 taken: by the question, the reader and the writer
abbrev large : List ℕ
large = file_of (days 513)

many_are : many (days 513) ≡ 513
many_are = days_many 513 (lit≤ tt)

few : many (days 513) < 65536
few = omega (arith, many_are)

each_one : Writable (days 513)
each_one = days_writable 513 (lit≤ tt)

large_count : count_of large ≡ 513
large_count = count_is (days 513) few each_one ∙ many_are

large_length : length large ≡ 2 + 48 * count_of large
large_length = file_length (days 513) ∙ ap (λ (m : ℕ). 2 + 48 * m) (sym (count_is (days 513) few each_one))

large_entries : all (entry_kept large) (count_of large) ≡ true
large_entries = all_made (entry_kept large) (count_of large) (entries_kept (days 513) few each_one)

large_bodies : all (body_kept large) (count_of large) ≡ true
large_bodies = all_made (body_kept large) (count_of large) (bodies_kept (days 513) few each_one)

pub question_takes_more : ShutOut (covering large (pos 36525) 0) (handed_back (refused 14)) (ask_by (contents_to 513) large (pos 36525) 0) (handed_back (refused 7))
question_takes_more =
    shut (asked_right large large_count large_length large_entries large_bodies) (asked_wrong large large_count large_length large_entries large_bodies)
    (by_number (λ e. omega arith))

pub reader_takes_more : ShutOut (read large []) (kept 14 []) (read_by (season_to 513) large []) (kept 13 [])
reader_takes_more =
    shut (read_right large large_count large_length large_entries large_bodies) (read_wrong large large_count large_length large_entries large_bodies)
    (differ (λ (x : Entered). x.number) (λ e. omega arith))

pub writer_takes_more : ShutOut (write (days 513) []) (keeps 14 []) (write_by (writable_to 513) (days 513) []) (keeps 13 [])
unfolding write is_writable
writer_takes_more =
    let ws = days 513 in
    let whole = eq-eqb (length ws % 7) 0 (days_whole 513 (lit≤ tt)) in
    shut
    (rw (whole, lt-leb (length ws / 7) 512 (omega (arith, many_are))))
    (rw (
      whole,
      le-leb (length ws / 7) 513 (omega (arith, many_are)),
      all_made (is_written ws) (length ws / 7) (days_written 513 (lit≤ tt)),
      lt-leb (length large) 0 (omega (arith, file_length ws)),
    ))
    (differ (λ (w : Wrote ℕ). w.number) (λ e. omega arith))
