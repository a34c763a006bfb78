-- The season's file: up to 512 TAI correlations of SBT in one, high bytes first. A count, the contents (the covers, and where each body
-- stands), the bodies. What a file must keep, what reading gives, what writing gives, and which cover has a receipt. Assumes nothing.
use Rattle.std.specs.Prelude.{Bool, true, false, cond, ◌&&◌, ◌||◌, List, [], ◌∷◌, ◌++◌, ℕ, zero, suc, ◌+◌, ◌*◌, ◌/◌, ◌%◌, leb, eqb, ℤ, pos, nat_abs, length, drop, get_or}
use Rattle.std.specs.Int.Signed.{le_z, lt_z}
use Rattle.axis.specs.Meaning.{signed_of, bits_of, day_micros, floor_z, mod_z, since}
use Rattle.octets.specs.Meaning.{part, field, has_room}
use Rattle.scales.specs.Meaning.{in_span, Judged, given, gives, Outcome, refused, answer, outcome, Valued, valued, Wrote, written}
use Rattle.scales.specs.declared.Scale.TheVariants as S
use Rattle.clock.specs.Meaning.{Cover, cover, within}
use Rattle.sbt.specs.declared.Correlation.{Correlation}
use Rattle.sbt.specs.Meaning.{accepted, clock_of}

-- ---- of each of the first n, and one after another
abbrev pub all : (ℕ → Bool) → ℕ → Bool
all p zero = true
all p (suc k) = all p k && p k

abbrev pub each : {A : Type 0} → (ℕ → List A) → ℕ → List A
each f zero = []
each f (suc k) = each f k ++ f k

-- ---- "The file, high bytes first, starts with a 16-bit count, then the contents: for each, first covered microsecond since day 0, last
-- covered microsecond (signed, 64 bits each), position of the body from the start of the file (32 bits)"
abbrev pub count_of : List ℕ → ℕ
count_of s = part s 0 2

abbrev pub entry_at : ℕ → ℕ
entry_at k = 2 + 20 * k

abbrev pub cover_in : List ℕ → ℕ → Cover
cover_in s k = record { from = signed_of (part s (entry_at k) 8); to = signed_of (part s (entry_at k + 8) 8) }

abbrev pub position_in : List ℕ → ℕ → ℕ
position_in s k = part s (entry_at k + 16) 4

-- ---- "Then the bodies in the same order without gaps: tick, reference microsecond (signed 64), period (64), back and ahead (32 each)";
-- n is the file's count. The reference's day and microsecond of day are those of days of 86,400 s
abbrev pub body_at : ℕ → ℕ → ℕ
body_at n k = 2 + 20 * n + 28 * k

abbrev pub correlation_from : ℕ → ℤ → ℕ → ℕ → ℕ → Correlation
correlation_from tick z period back ahead =
    record {
      tick = record { 0 = tick };
      scale = S.Tai;
      day = floor_z z day_micros;
      micro = mod_z z day_micros;
      period = period;
      back = back;
      ahead = ahead;
    }

abbrev pub correlation_in : List ℕ → ℕ → Correlation
correlation_in s k =
    let b = body_at (count_of s) k in
    correlation_from (part s b 4) (signed_of (part s (b + 4) 8)) (part s (b + 12) 8) (part s (b + 20) 4) (part s (b + 24) 4)

-- ---- "Covered means time(-b) to time(a)": a TAI correlation looks at no list
abbrev pub cover_of : Correlation → Cover
cover_of c = cover (clock_of c [] [])

abbrev pub same_z : ℤ → ℤ → Bool
same_z x y = le_z x y && le_z y x

abbrev pub same_cover : Cover → Cover → Bool
same_cover v w = same_z v.from w.from && same_z v.to w.to

-- "No cover ends before it begins; covers rise and never overlap"
abbrev pub rises : (ℕ → Cover) → ℕ → Bool
rises v zero = le_z (v zero).from (v zero).to
rises v (suc k) = lt_z (v k).to (v (suc k)).from && le_z (v (suc k)).from (v (suc k)).to

-- ---- 14: what the question checks, "the file's length, the positions and the covers", and what the reader checks besides
abbrev pub is_sized : List ℕ → Bool
is_sized s = eqb (length s) (2 + 48 * count_of s) && leb (count_of s) 512

abbrev pub entry_kept : List ℕ → ℕ → Bool
entry_kept s k = eqb (position_in s k) (body_at (count_of s) k) && rises (cover_in s) k

unfoldable pub contents_kept : List ℕ → Bool
contents_kept s = is_sized s && all (entry_kept s) (count_of s)

abbrev pub body_kept : List ℕ → ℕ → Bool
body_kept s k = accepted (correlation_in s k) && same_cover (cover_in s k) (cover_of (correlation_in s k))

unfoldable pub is_season : List ℕ → Bool
is_season s = contents_kept s && all (body_kept s) (count_of s)

-- ---- reading: nine numbers an entry, first and last covered microsecond, then the correlation, its scale as a code
abbrev pub words_of : Correlation → List ℤ
words_of c =
    pos c.tick.0 ∷ pos 0 ∷ c.day ∷ pos c.micro ∷ pos c.period ∷ pos c.back ∷ pos c.ahead ∷ []

abbrev pub entry_words : List ℕ → ℕ → List ℤ
entry_words s k = (cover_in s k).from ∷ (cover_in s k).to ∷ words_of (correlation_in s k)

abbrev pub reading : List ℕ → List ℤ → Judged (List ℤ)
reading s out =
    given (is_season s) 14
    (given (leb (9 * count_of s) (length out)) 13
    (gives (each (entry_words s) (count_of s))))

-- how many entries, and the whole lent slice: "count .. zero, and lent memory keeps all"
pub record Entered : Type 0 where
  pub number : ℕ
  pub count : ℕ
  pub lent : List ℤ

abbrev pub entered : ℕ → List ℤ → Outcome (List ℤ) → Entered
entered n out (refused f) = record { number = f; count = 0; lent = out }
entered n out (answer words) = record { number = 0; count = n; lent = words ++ drop (length words) out }

unfoldable pub read : List ℕ → List ℤ → Entered
read s out = entered (count_of s) out (outcome (reading s out))

-- ---- writing, from correlations of any scale and content as numbers, seven each in the same order
abbrev pub word_in : List ℤ → ℕ → ℤ
word_in ws i = get_or ws i (pos 0)

-- a number that a field of less than m holds
abbrev pub field_in : ℕ → ℤ → Bool
field_in m z = le_z (pos 0) z && lt_z z (pos m)

abbrev pub correlation_at : List ℤ → ℕ → Correlation
correlation_at ws k =
    record {
      tick = record { 0 = nat_abs (word_in ws (7 * k)) };
      scale = S.Tai;
      day = word_in ws (7 * k + 2);
      micro = nat_abs (word_in ws (7 * k + 3));
      period = nat_abs (word_in ws (7 * k + 4));
      back = nat_abs (word_in ws (7 * k + 5));
      ahead = nat_abs (word_in ws (7 * k + 6));
    }

-- the tick fits its field, the scale's code is TAI's, and no number but the day is negative; a window too wide is not accepted
abbrev pub words_kept : List ℤ → ℕ → Bool
words_kept ws k =
    field_in 4294967296 (word_in ws (7 * k))
    && (field_in 1 (word_in ws (7 * k + 1))
    && (le_z (pos 0) (word_in ws (7 * k + 3))
    && (le_z (pos 0) (word_in ws (7 * k + 4))
    && (le_z (pos 0) (word_in ws (7 * k + 5))
    && le_z (pos 0) (word_in ws (7 * k + 6))))))

-- "up to 512", each "accepted" and of TAI, covers that rise
abbrev pub is_written : List ℤ → ℕ → Bool
is_written ws k = words_kept ws k && (accepted (correlation_at ws k) && rises (λ j. cover_of (correlation_at ws j)) k)

unfoldable pub is_writable : List ℤ → Bool
is_writable ws = eqb (length ws % 7) 0 && (leb (length ws / 7) 512 && all (is_written ws) (length ws / 7))

abbrev pub entry_bytes : ℕ → List ℤ → ℕ → List ℕ
entry_bytes n ws k =
    let v = cover_of (correlation_at ws k) in
    field 8 (bits_of v.from) ++ field 8 (bits_of v.to) ++ field 4 (body_at n k)

abbrev pub body_bytes : List ℤ → ℕ → List ℕ
body_bytes ws k =
    let c = correlation_at ws k in
    field 4 c.tick.0 ++ field 8 (bits_of (since c.day c.micro)) ++ field 8 c.period ++ field 4 c.back ++ field 4 c.ahead

abbrev pub file_of : List ℤ → List ℕ
file_of ws = let n = length ws / 7 in field 2 n ++ each (entry_bytes n ws) n ++ each (body_bytes ws) n

abbrev pub writing : List ℤ → List ℕ → Judged (List ℕ)
writing ws out =
    given (is_writable ws) 14
    (given (has_room (file_of ws) out) 13
    (gives (file_of ws)))

unfoldable pub write : List ℤ → List ℕ → Wrote ℕ
write ws out = written out (outcome (writing ws out))

-- ---- "which correlation covers this receipt?" The first and last covered microsecond of the one entry that does
abbrev pub covered_in : List ℕ → ℤ → ℕ → Bool
covered_in s z zero = false
covered_in s z (suc k) = within (cover_in s k) z || covered_in s z k

abbrev pub covering_in : List ℕ → ℤ → ℕ → Cover
covering_in s z zero = record { from = pos 0; to = pos 0 }
covering_in s z (suc k) = cond (within (cover_in s k) z) (cover_in s k) (covering_in s z k)

-- "15, given exactly if no entry covers the receipt"
abbrev pub asking : List ℕ → ℤ → ℕ → Judged Cover
asking s d u =
    given (contents_kept s) 14
    (given (in_span S.Tai d u) 7
    (given (covered_in s (since d u) (count_of s)) 15
    (gives (covering_in s (since d u) (count_of s)))))

unfoldable pub covering : List ℕ → ℤ → ℕ → Valued Cover
covering s d u = valued (record { from = pos 0; to = pos 0 }) (outcome (asking s d u))
