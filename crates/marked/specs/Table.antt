-- The paper's marked cases: one table, a row a call, with what the meaning gives and what the paper says of it. Assumes nothing.
use Rattle.std.specs.Prelude.{true, List, [], ◌∷◌, ◌++◌, ℕ, ℤ, pos, negsuc, Float}
use Rattle.std.specs.Float.{fin}
use Rattle.scales.specs.Meaning.{code_of, Slip, record_of}
use Rattle.scales.specs.declared.Scale.{Scale}
use Rattle.scales.specs.declared.Scale.TheVariants as S
use Rattle.scales.specs.declared.Record.{Record}
use Rattle.handed.specs.declared.Handed.TheVariants as H
use Rattle.decimal.specs.Meaning.{read_of}
use Rattle.leap.specs.Meaning.{published_days, published_offsets, published_last}
use Rattle.changes.specs.Meaning.{change_of}
use Rattle.layout_times.specs.Cuc as Cuc
use Rattle.layout_times.specs.Proteus as Proteus
use Rattle.layout_times.specs.Siral as Siral
use Rattle.sbt.specs.Meaning.{date_of}
use Rattle.sbt.specs.declared.Correlation.{Correlation}

pub record Row : Type 0 where
  pub case : ℕ
  pub meaning : List ℤ
  pub paper : List ℤ

-- a slip as numbers: the refusal's number or 0, the scale's code, the day and the microsecond
abbrev pub slipped : Slip → List ℤ
slipped s = pos s.number ∷ pos (code_of s.scale) ∷ s.day ∷ pos s.micro ∷ []

abbrev pub answered : Scale → ℤ → ℕ → List ℤ
answered s d u = pos 0 ∷ pos (code_of s) ∷ d ∷ pos u ∷ []

-- "its number, day 0 microsecond 0 of the scale that the answer would have had"
abbrev pub refused_by : ℕ → Scale → List ℤ
refused_by n s = pos n ∷ pos (code_of s) ∷ pos 0 ∷ pos 0 ∷ []

-- a row for each scale, where one is handed in
abbrev pub in_each_scale : (Scale → Row) → List Row
in_each_scale row = row S.Tai ∷ row S.Utc ∷ row S.Gps ∷ []

-- ---- a record changed to a scale, under the 28 steps with last day e
abbrev pub changed_row : ℕ → ℤ → Record → Scale → List ℤ → Row
changed_row n e r to said =
    record { case = n; meaning = slipped (change_of (H.Record r) to published_days published_offsets e); paper = said }

-- two records of one instant, "E = 9131 unless said otherwise": each changes to the other
abbrev pub one_instant : ℕ → Record → Record → List Row
one_instant n r q =
    changed_row n published_last r q.scale (answered q.scale q.day q.micro)
    ∷ changed_row n published_last q r.scale (answered r.scale r.day r.micro)
    ∷ []

-- 1. UTC day -7300, 0 is TAI 19 s, GPS 0, same day
-- 2. UTC day 6209, 86,400,000,000 is TAI day 6210, 36 s
-- 3. UTC day 6210, 0 is TAI day 6210, 37 s. With E = 6209: 9
abbrev pub changed_rows : List Row
changed_rows =
    one_instant 1 (record_of S.Utc (negsuc 7299) 0) (record_of S.Tai (negsuc 7299) 19000000)
    ++ (one_instant 1 (record_of S.Utc (negsuc 7299) 0) (record_of S.Gps (negsuc 7299) 0)
    ++ (one_instant 1 (record_of S.Tai (negsuc 7299) 19000000) (record_of S.Gps (negsuc 7299) 0)
    ++ (one_instant 2 (record_of S.Utc (pos 6209) 86400000000) (record_of S.Tai (pos 6210) 36000000)
    ++ (one_instant 3 (record_of S.Utc (pos 6210) 0) (record_of S.Tai (pos 6210) 37000000)
    ++ (changed_row 3 (pos 6209) (record_of S.Utc (pos 6210) 0) S.Tai (refused_by 9 S.Tai)
    ∷ changed_row 3 (pos 6209) (record_of S.Tai (pos 6210) 37000000) S.Utc (refused_by 9 S.Utc)
    ∷ [])))))

-- ---- bytes, whose layout tells the scale
-- 4. CUC 00 00 00 01 00 01: GPS day -7300, 1,000,015
-- 5. CUC seconds 3,786,479,999 read; 3,786,480,000: 7 ("GPS seconds since 6 January 1980")
abbrev pub cuc_row : ℕ → List ℕ → List ℤ → Row
cuc_row n bytes said = record { case = n; meaning = slipped (Cuc.read bytes); paper = said }

-- 6. Proteus second 604,799 read; 604,800: 3; second byte 02: 2 ("UTC, in weeks of 604,800 s from day -7300")
abbrev pub proteus_row : List ℕ → List ℤ → Row
proteus_row bytes said = record { case = 6; meaning = slipped (Proteus.read bytes); paper = said }

-- 7. SIRAL extra 16 adds 33, extra 1 adds 2 ("Read as TAI, MJD2000")
abbrev pub siral_row : ℕ → ℕ → Row
siral_row extra micros =
    record {
      case = 7;
      meaning = slipped (Siral.read (0 ∷ 1 ∷ 0 ∷ 0 ∷ 0 ∷ 0 ∷ 0 ∷ 0 ∷ 0 ∷ extra ∷ []));
      paper = answered S.Tai (pos 1) micros;
    }

abbrev pub byte_rows : List Row
byte_rows =
    cuc_row 4 (0 ∷ 0 ∷ 0 ∷ 1 ∷ 0 ∷ 1 ∷ []) (answered S.Gps (negsuc 7299) 1000015)
    ∷ cuc_row 5 (225 ∷ 177 ∷ 25 ∷ 127 ∷ 0 ∷ 0 ∷ []) (answered S.Gps (pos 36524) 86399000000)
    ∷ cuc_row 5 (225 ∷ 177 ∷ 25 ∷ 128 ∷ 0 ∷ 0 ∷ []) (refused_by 7 S.Gps)
    ∷ proteus_row (0 ∷ 0 ∷ 0 ∷ 9 ∷ 58 ∷ 127 ∷ 0 ∷ 0 ∷ []) (answered S.Utc (negsuc 7293) 86399000000)
    ∷ proteus_row (0 ∷ 0 ∷ 0 ∷ 9 ∷ 58 ∷ 128 ∷ 0 ∷ 0 ∷ []) (refused_by 3 S.Utc)
    ∷ proteus_row (0 ∷ 2 ∷ 0 ∷ 9 ∷ 58 ∷ 127 ∷ 0 ∷ 0 ∷ []) (refused_by 2 S.Utc)
    ∷ siral_row 16 33
    ∷ siral_row 1 2
    ∷ []

-- ---- a correlation of scale s with P = 3,906,250,000, whose reference is the first second of day 0: its dates are of its scale
abbrev pub correlated : Scale → ℕ → ℕ → Correlation
correlated s tick reach =
    record { tick = record { 0 = tick }; scale = s; day = pos 0; micro = 1000000; period = 3906250000; back = reach; ahead = reach }

-- a tick's date, received at microsecond u of day 0
abbrev pub dated_by : Correlation → ℕ → ℕ → List ℤ
dated_by c t u = slipped (date_of c t (pos 0) u published_days published_offsets published_last)

-- 8. Reference tick FFFFFFFF, in force: tick 0 adds 3,906; FFFFFFFE takes away 3,907
abbrev pub forward : Scale → Row
forward s =
    record { case = 8; meaning = dated_by (correlated s 4294967295 10) 0 1003906; paper = answered s (pos 0) 1003906 }

abbrev pub backward : Scale → Row
backward s =
    record { case = 8; meaning = dated_by (correlated s 4294967295 10) 4294967294 1000000; paper = answered s (pos 0) 996093 }

-- 9. b = a = 0: the reference tick received at the reference time answers; the next tick: 8
abbrev pub at_reference : Scale → Row
at_reference s =
    record { case = 9; meaning = dated_by (correlated s 7 0) 7 1000000; paper = answered s (pos 0) 1000000 }

abbrev pub next_tick : Scale → Row
next_tick s =
    record { case = 9; meaning = dated_by (correlated s 7 0) 8 1000000; paper = refused_by 8 s }

-- 10. Decimal -0.5: day -1, 43,200,000,000 ("a decimal day, an f64 with a scale")
abbrev pub minus_half : Float
minus_half = fin true 1 (negsuc 0)

abbrev pub decimal_case : Scale → Row
decimal_case s = record { case = 10; meaning = slipped (read_of minus_half s); paper = answered s (negsuc 0) 43200000000 }

abbrev pub table : List Row
table =
    changed_rows
    ++ (byte_rows
    ++ (in_each_scale forward
    ++ (in_each_scale backward
    ++ (in_each_scale at_reference
    ++ (in_each_scale next_tick
    ++ in_each_scale decimal_case)))))

-- ---- beside the table, case 8 by its receipt: "Marked case 8 keeps its answers if received at or after the result". At 1,003,906 tick 0 is
-- answered, a microsecond before and at the reference it is 17; FFFFFFFE is answered at the reference
abbrev pub received_rows : Scale → List Row
received_rows s =
    forward s
    ∷ record { case = 8; meaning = dated_by (correlated s 4294967295 10) 0 1003905; paper = refused_by 17 s }
    ∷ record { case = 8; meaning = dated_by (correlated s 4294967295 10) 0 1000000; paper = refused_by 17 s }
    ∷ backward s
    ∷ []

abbrev pub received : List Row
received = received_rows S.Tai ++ (received_rows S.Utc ++ received_rows S.Gps)
