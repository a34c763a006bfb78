-- Wrong programs, each shut out by an input at which its answer is not the meaning's. Assumes nothing.
use mathlib.Core.Path.{refl}
use mathlib.Core.Bool.{Bool, cond, ◌&&◌}
use mathlib.Core.List.{List, [], ◌∷◌, ◌++◌}
use Prim.Native.Nat.{ℕ, zero, suc, ◌+◌, ◌*◌, ◌/◌, ◌%◌}
use native.Mathlib.Omega.{arith}
use lib.Dec.{leb, ltb, eqb}
use lib.IntN.{ℤ, pos, negsuc, nat_abs, ◌-ℤ◌}
use lib.ListN.{length, drop, get_or}
use lib.Signed.{le_z, lt_z}
use Rattle.evidence.specs.ShutOut.{ShutOut, differ}
use Rattle.axis.specs.Meaning.{since}
use Rattle.octets.specs.Meaning.{number, field, part, has_room}
use Rattle.scales.specs.Meaning.{in_span, given, gives, refused, answer, outcome, Valued, Wrote, written}
use Rattle.scales.specs.declared.Scale.TheVariants as S
use Rattle.clock.specs.Meaning.{Cover, clock, within}
use Rattle.sbt.specs.Meaning.{accepted}
use Rattle.season.specs.Meaning.{all, each, count_of, entry_at, cover_in, position_in, body_at, correlation_in, cover_of, rises, is_sized, contents_kept, body_kept, is_season, entry_words, Entered, entered, read, correlation_at, words_kept, file_of, is_writable, write, covered_in, covering_in, asking, covering}
use Rattle.ground_laws.proofs.Desks.{got, keeps, bytes_at, sevens}
use Rattle.season_laws.specs.Meaning.{handed_back}
use Rattle.season_laws.proofs.Cases.{by_number, lent, small_cover, marked_cover, next_cover, marked_body, no_body, none, two, file_one, file_two, cover_from, marked_is, marked_words}

-- ---- the question, with another test of the contents
abbrev pub ask_by : (List ℕ → Bool) → List ℕ → ℤ → ℕ → Valued Cover
ask_by test s d u =
    handed_back
    (outcome
    (given (test s) 14
    (given (in_span S.Tai d u) 7
    (given (covered_in s (since d u) (count_of s)) 15
    (gives (covering_in s (since d u) (count_of s)))))))

-- touching covers taken: the last of one is the first of the next
abbrev touches : (ℕ → Cover) → ℕ → Bool
touches v zero = le_z (v zero).from (v zero).to
touches v (suc k) = le_z (v k).to (v (suc k)).from && le_z (v (suc k)).from (v (suc k)).to

abbrev touching_kept : List ℕ → Bool
touching_kept s = is_sized s && all (λ k. eqb (position_in s k) (body_at (count_of s) k) && touches (cover_in s) k) (count_of s)

abbrev pub touching : List ℕ
touching = file_two (small_cover 1 5) 42 (small_cover 5 9) 70 no_body no_body

pub touching_taken : ShutOut (covering touching (pos 0) 3) (handed_back (refused 14)) (ask_by touching_kept touching (pos 0) 3) (handed_back (answer (cover_from (pos 1) (pos 5))))
unfolding covering contents_kept number within
touching_taken = (refl, refl, by_number (λ e. omega arith))

-- the position of the first body only
abbrev first_position_kept : List ℕ → Bool
first_position_kept s = is_sized s && (eqb (position_in s 0) (body_at (count_of s) 0) && all (rises (cover_in s)) (count_of s))

abbrev misplaced : List ℕ
misplaced = file_two (small_cover 1 5) 42 (small_cover 6 9) 71 no_body no_body

pub first_position_only :
    ShutOut (covering misplaced (pos 0) 3) (handed_back (refused 14)) (ask_by first_position_kept misplaced (pos 0) 3) (handed_back (answer (cover_from (pos 1) (pos 5))))
unfolding covering contents_kept number within
first_position_only = (refl, refl, by_number (λ e. omega arith))

-- covers unsigned: one from before day 0 on seems to end before it begins
abbrev unsigned_in : List ℕ → ℕ → Cover
unsigned_in s k = cover_from (pos (part s (entry_at k) 8)) (pos (part s (entry_at k + 8) 8))

abbrev unsigned_kept : List ℕ → Bool
unsigned_kept s = is_sized s && all (λ k. eqb (position_in s k) (body_at (count_of s) k) && rises (unsigned_in s) k) (count_of s)

pub covers_unsigned : ShutOut (covering two (pos 0) 0) (handed_back (answer marked_is)) (ask_by unsigned_kept two (pos 0) 0) (handed_back (refused 14))
unfolding covering contents_kept number within
covers_unsigned = (refl, refl, by_number (λ e. omega arith))

-- a body read by the question: one that is not accepted gives 14
abbrev bodiless : List ℕ
bodiless = file_one marked_cover 22 no_body

pub body_read : ShutOut (covering bodiless (pos 0) 0) (handed_back (answer marked_is)) (ask_by is_season bodiless (pos 0) 0) (handed_back (refused 14))
unfolding covering is_season contents_kept number within accepted
body_read = (refl, refl, by_number (λ e. omega arith))

-- 7 before 14
abbrev span_first : List ℕ → ℤ → ℕ → Valued Cover
span_first s d u = handed_back (outcome (given (in_span S.Tai d u) 7 (asking s d u)))

pub span_first_lem : ShutOut (covering [] (pos 36525) 0) (handed_back (refused 14)) (span_first [] (pos 36525) 0) (handed_back (refused 7))
unfolding covering contents_kept number
span_first_lem = (refl, refl, by_number (λ e. omega arith))

-- 15 for a damaged file
abbrev damaged_uncovered : List ℕ → ℤ → ℕ → Valued Cover
damaged_uncovered s d u =
    handed_back
    (outcome
    (given (in_span S.Tai d u) 7
    (given (contents_kept s && covered_in s (since d u) (count_of s)) 15
    (gives (covering_in s (since d u) (count_of s))))))

pub damaged_uncovered_lem : ShutOut (covering touching (pos 0) 3) (handed_back (refused 14)) (damaged_uncovered touching (pos 0) 3) (handed_back (refused 15))
unfolding covering contents_kept number
damaged_uncovered_lem = (refl, refl, by_number (λ e. omega arith))

-- the nearest entry for an uncovered receipt
abbrev gap : Cover → ℤ → ℕ
gap v z = cond (within v z) 0 (cond (lt_z z v.from) (nat_abs (v.from -ℤ z)) (nat_abs (z -ℤ v.to)))

abbrev nearest_in : List ℕ → ℤ → ℕ → Cover
nearest_in s z zero = cover_in s 0
nearest_in s z (suc k) = let v = nearest_in s z k in cond (ltb (gap (cover_in s k) z) (gap v z)) (cover_in s k) v

abbrev ask_nearest : List ℕ → ℤ → ℕ → Valued Cover
ask_nearest s d u =
    handed_back
    (outcome
    (given (contents_kept s) 14
    (given (in_span S.Tai d u) 7
    (given (ltb 0 (count_of s)) 15
    (gives (nearest_in s (since d u) (count_of s)))))))

pub nearest_entry : ShutOut (covering two (pos 0) 39063) (handed_back (refused 15)) (ask_nearest two (pos 0) 39063) (handed_back (answer marked_is))
unfolding covering contents_kept number within
nearest_entry = (refl, refl, by_number (λ e. omega arith))

-- ---- the reader
abbrev entries : ℕ → List ℤ → Entered
entries n out = record { number = 0; count = n; lent = out }

abbrev pub kept : ℕ → List ℤ → Entered
kept n out = record { number = n; count = 0; lent = out }

abbrev pub read_by : (List ℕ → Bool) → List ℕ → List ℤ → Entered
read_by test s out =
    entered (count_of s) out
    (outcome
    (given (test s) 14
    (given (leb (9 * count_of s) (length out)) 13
    (gives (each (entry_words s) (count_of s))))))

-- contents not compared with the bodies
abbrev uncompared : List ℕ → Bool
uncompared s = contents_kept s && all (λ k. accepted (correlation_in s k)) (count_of s)

abbrev other_cover : List ℕ
other_cover = file_one (small_cover 1 5) 22 marked_body

pub contents_uncompared :
    ShutOut (read other_cover (lent 9)) (kept 14 (lent 9)) (read_by uncompared other_cover (lent 9)) (entries 1 (pos 1 ∷ pos 5 ∷ marked_words))
unfolding read is_season contents_kept number accepted clock
contents_uncompared = (refl, refl, differ (λ (x : Entered). x.number) (λ e. omega arith))

-- an empty file refused
abbrev some_season : List ℕ → Bool
some_season s = ltb 0 (count_of s) && is_season s

pub empty_refused : ShutOut (read none (lent 1)) (entries 0 (lent 1)) (read_by some_season none (lent 1)) (kept 14 (lent 1))
unfolding read is_season contents_kept number
empty_refused = (refl, refl, differ (λ (x : Entered). x.number) (λ e. omega arith))

-- words written before a later body is refused: the first entry's, where the second body is not accepted
abbrev read_early : List ℕ → List ℤ → Entered
read_early s out = cond (is_season s) (read s out) (kept 14 (cond (body_kept s 0) (entry_words s 0 ++ drop 9 out) out))

abbrev later_refused : List ℕ
later_refused = file_two marked_cover 42 next_cover 70 marked_body no_body

pub words_early :
    ShutOut (read later_refused (lent 18)) (kept 14 (lent 18)) (read_early later_refused (lent 18))
    (kept 14 (negsuc 39062 ∷ pos 39062 ∷ (marked_words ++ lent 9)))
unfolding read is_season contents_kept number accepted clock
words_early = (refl, refl, differ (λ (x : Entered). nat_abs (get_or x.lent 0 (pos 0))) (λ e. omega arith))

-- ---- the writer
abbrev pub write_by : (List ℤ → Bool) → List ℤ → List ℕ → Wrote ℕ
write_by test ws out =
    written out
    (outcome
    (given (test ws) 14
    (given (has_room (file_of ws) out) 13
    (gives (file_of ws)))))

-- touching covers taken: each lasts two ticks, 7,812 microseconds, and the second begins where the first ends
abbrev touching_writable : List ℤ → Bool
touching_writable ws =
    eqb (length ws % 7) 0
    && (leb (length ws / 7) 512 && all (λ k. words_kept ws k && (accepted (correlation_at ws k) && touches (λ j. cover_of (correlation_at ws j)) k)) (length ws / 7))

abbrev touching_words : List ℤ
touching_words =
    pos 7 ∷ pos 0 ∷ pos 0 ∷ pos 0 ∷ pos 3906250000 ∷ pos 0 ∷ pos 2 ∷ pos 9 ∷ pos 0 ∷ pos 0 ∷ pos 7812 ∷ pos 3906250000 ∷ pos 0 ∷ pos 2 ∷ []

pub touching_written : ShutOut (write touching_words []) (keeps 14 []) (write_by touching_writable touching_words []) (keeps 13 [])
unfolding write is_writable field accepted clock
touching_written = (refl, refl, differ (λ (w : Wrote ℕ). w.number) (λ e. omega arith))

-- GPS written as TAI: the scale not looked at
abbrev any_scale : List ℤ → ℕ → Bool
any_scale ws k = accepted (correlation_at ws k) && rises (λ j. cover_of (correlation_at ws j)) k

abbrev any_scale_writable : List ℤ → Bool
any_scale_writable ws = eqb (length ws % 7) 0 && (leb (length ws / 7) 512 && all (any_scale ws) (length ws / 7))

abbrev gps_words : List ℤ
gps_words = pos 4294967295 ∷ pos 2 ∷ pos 0 ∷ pos 0 ∷ pos 3906250000 ∷ pos 10 ∷ pos 10 ∷ []

pub gps_as_tai_lem :
    ShutOut (write gps_words (sevens 50)) (keeps 14 (sevens 50)) (write_by any_scale_writable gps_words (sevens 50)) (got 50 (file_one marked_cover 22 marked_body))
unfolding write is_writable field accepted clock
gps_as_tai_lem = (refl, refl, differ (λ (w : Wrote ℕ). w.number) (λ e. omega arith))

-- none refused
abbrev some_writable : List ℤ → Bool
some_writable ws = ltb 0 (length ws) && is_writable ws

pub none_refused : ShutOut (write [] (sevens 3)) (got 2 (0 ∷ 0 ∷ 7 ∷ [])) (write_by some_writable [] (sevens 3)) (keeps 14 (sevens 3))
unfolding write is_writable field
none_refused = (refl, refl, differ (bytes_at 0) (λ e. omega arith))
