-- Decimal days at the ends of the spans, at ties, at zero and at what is no number, computed from the meanings; and for each theorem an
-- input that meets its hypotheses. Assumes nothing.
use mathlib.Core.Path.{◌≡◌, refl}
use mathlib.Core.Logic.{inl}
use mathlib.Core.Bool.{true, false}
use mathlib.Core.List.{List, [], ◌∷◌}
use Rattle.std.specs.Prelude.{Result, Ok, Err}
use Prim.Native.Nat.{ℕ, ◌*◌, ◌^◌, ◌≤◌}
use lib.Dec.{lit<, lit≤}
use lib.IntN.{ℤ, pos, negsuc}
use lib.Ieee.{Float, fin, binary64, of_bits, fits}
use Rattle.axis.specs.Meaning.{day_micros}
use Rattle.scales.specs.Meaning.{Slip, slip, time_at, record_of, marked_record}
use Rattle.scales.specs.Place.{Placed}
use Rattle.scales.specs.declared.Scale.{Scale}
use Rattle.scales.specs.declared.Scale.TheVariants as S
use Rattle.scales.specs.declared.Refusal.TheVariants as R
use Rattle.scales.specs.declared.Mark.TheVariants as M
use Rattle.double.specs.Meaning.{exact_of, plus_zero}
use Rattle.scales.specs.declared.Refusal.{Refusal}
use Rattle.scales.specs.declared.Time.{Time}
use Rattle.handed.specs.declared.Untaken.{Untaken}
use Rattle.handed.specs.declared.Handed.TheVariants as H
use Rattle.decimal.specs.Meaning.{read_of, WroteDay}
use Rattle.handed.specs.Told.{took_one, told_nothing, told_outside, told_at, handed_placed}
use Rattle.handed.specs.declared.Untaken.TheVariants as K
use Rattle.handed.specs.Meaning.{is_finite, is_in_span, taken_of, Took}
use Rattle.decimal_laws.specs.Meaning.{off, less}
use Rattle.decimal_laws.proofs.Unique.{wrote_one}
use Rattle.decimal_laws.proofs.Nearer.{no_nearer}
use Rattle.decimal_laws.proofs.Trip.{trip, later}

-- ---- readings: the bits of a double, a scale, and what is handed back
pub record Case : Type 0 where
  pub bits : ℕ
  pub scale : Scale
  pub number : ℕ
  pub day : ℤ
  pub micro : ℕ

abbrev at : ℕ → Scale → ℤ → ℕ → Case
at b s d u = record { bits = b; scale = s; number = 0; day = d; micro = u }

abbrev no : ℕ → Scale → ℕ → Case
no b s n = record { bits = b; scale = s; number = n; day = pos 0; micro = 0 }

abbrev cases : List Case
cases =
    -- -0.5, marked case 10
    at 0xbfe0_0000_0000_0000 S.Tai (negsuc 0) 43200000000 ∷ at 0xbfe0_0000_0000_0000 S.Utc (negsuc 0) 43200000000
    -- plus zero and minus zero, and the smallest doubles on either side
    ∷ at 0x0000_0000_0000_0000 S.Tai (pos 0) 0 ∷ at 0x8000_0000_0000_0000 S.Gps (pos 0) 0
    ∷ at 0x0000_0000_0000_0001 S.Tai (pos 0) 0 ∷ at 0x8000_0000_0000_0001 S.Tai (pos 0) 0
    -- the first days, and the doubles before them
    ∷ at 0xc0c3_f980_0000_0000 S.Tai (negsuc 10226) 0 ∷ no 0xc0c3_f980_0000_0001 S.Tai 7
    ∷ at 0xc0bc_8400_0000_0000 S.Gps (negsuc 7299) 0 ∷ no 0xc0bc_8400_0000_0001 S.Gps 7
    ∷ at 0xc0bc_8400_0000_0001 S.Utc (negsuc 7299) 0
    -- 36525, and the double before it
    ∷ no 0x40e1_d5a0_0000_0000 S.Utc 7 ∷ at 0x40e1_d59f_ffff_ffff S.Utc (pos 36524) 86399999999
    -- 2 ^ -14 days are 5,273,437.5 microseconds: to the later on both sides of day 0
    ∷ at 0x3f10_0000_0000_0000 S.Tai (pos 0) 5273438 ∷ at 0xbf10_0000_0000_0000 S.Tai (negsuc 0) 86394726563
    -- the largest doubles, the infinities and not a number
    ∷ no 0x7fef_ffff_ffff_ffff S.Tai 7 ∷ no 0xffef_ffff_ffff_ffff S.Gps 7
    ∷ no 0x7ff0_0000_0000_0000 S.Gps 4 ∷ no 0xfff0_0000_0000_0000 S.Utc 4 ∷ no 0x7ff8_0000_0000_0000 S.Tai 4
    ∷ []

abbrev got : List Case → List Slip
got [] = []
got (c ∷ cs) = read_of (of_bits binary64 c.bits) c.scale ∷ got cs

abbrev stated : List Case → List Slip
stated [] = []
stated (c ∷ cs) = record { number = c.number; scale = c.scale; day = c.day; micro = c.micro; mark = M.Plain } ∷ stated cs

pub readings : got cases ≡ stated cases
unfolding read_of of_bits
readings = refl

-- ---- writings
-- half a day before day 0 is -0.5, and a microsecond is the double of bits 0x3da9739fdcab50dc
abbrev half : Float
half = fin true 1 (negsuc 0)

abbrev one : Float
one = fin false 1791001214243895 (negsuc 86)

pub one_bits : of_bits binary64 0x3da9_739f_dcab_50dc ≡ one
unfolding of_bits
one_bits = refl

pub half_written : WroteDay (H.Record (record_of S.Tai (negsuc 0) 43200000000)) (Ok half)
unfolding fits
half_written = (
  refl,
  record {
    double = tt;
    q = 2 ^ 52;
    k = 1021;
    value = record { ends = refl; sign = refl; size = refl };
    least = lit≤ tt;
    most = lit< tt;
    near = lit≤ tt;
    tie = λ _. refl;
  },
)

pub one_written : WroteDay (H.Record (record_of S.Tai (pos 0) 1)) (Ok one)
unfolding fits
one_written = (
  refl,
  record {
    double = tt;
    q = 7164004856975580;
    k = 985;
    value = record { ends = refl; sign = refl; size = refl };
    least = lit≤ tt;
    most = lit< tt;
    near = lit≤ tt;
    tie = λ _. refl;
  },
)

pub zero_written : WroteDay (H.Record (record_of S.Gps (pos 0) 0)) (Ok plus_zero)
zero_written = (refl, refl)

-- a decimal day is written anew from its microsecond: 2 ^ -40 days are less than half a microsecond
pub decimal_written : WroteDay (H.Decimal (fin false 1 (negsuc 39)) S.Tai) (Ok plus_zero)
decimal_written = (refl, refl)

-- 4 before 7 before 12, and with each the number's plus zero
pub infinite_unwritten : WroteDay (H.Decimal (of_bits binary64 0x7ff0_0000_0000_0000) S.Utc) (Err R.DecimalNotFinite)
unfolding of_bits
infinite_unwritten = (refl, refl)

pub outside_unwritten : WroteDay (H.Record (record_of S.Utc (pos 36525) 86400000000)) (Err R.OutsideSpan)
outside_unwritten = (refl, refl)

pub sixty_unwritten : WroteDay (H.Record (record_of S.Utc (pos 6209) 86400000000)) (Err R.NoImage)
sixty_unwritten = (refl, refl)

-- ---- the theorems at these inputs
pub one_answer : ◌≡◌ {A = Result Float Refusal} (Ok half) (Ok half)
one_answer = wrote_one (H.Record (record_of S.Tai (negsuc 0) 43200000000)) (Ok half) (Ok half) half_written half_written

-- the next double is further from a microsecond
pub none_nearer : off (pos 1) day_micros (exact_of one) * 2 ^ 89 ≤ off (pos 1) day_micros (exact_of (fin false 7164004856975581 (negsuc 88))) * 2 ^ 87
unfolding fits
none_nearer = no_nearer (pos 1) one (fin false 7164004856975581 (negsuc 88)) one_written.1 tt refl

pub half_trip : read_of half S.Tai ≡ slip (Ok (record_of S.Tai (negsuc 0) 43200000000))
half_trip = trip (marked_record (M.Correlated 9) (record_of S.Tai (negsuc 0) 43200000000)) half half_written

pub half_less : less (exact_of half) (exact_of one) ≡ true
half_less = later S.Tai (negsuc 0) (pos 0) 43200000000 1 half one half_written one_written (inl refl)

-- ---- taken apart, and the theorems at these inputs
pub half_taken : Took (H.Decimal half S.Tai) (Ok (time_at S.Tai 3455956800000000))
unfolding taken_of
half_taken = record { is = refl; kept = refl }

pub first_unreached : Took (H.Record (record_of S.Gps (negsuc 7300) 0)) (Err (K.Outside S.Gps))
unfolding taken_of
first_unreached = record { is = refl; kept = lit≤ tt }

pub infinite_taken : Took (H.Decimal (of_bits binary64 0x7ff0_0000_0000_0000) S.Utc) (Err (K.NotFinite S.Utc))
unfolding taken_of of_bits
infinite_taken = record { is = refl; kept = lit≤ tt }

pub one_taking : ◌≡◌ {A = Result Time Untaken} (Ok (time_at S.Tai 3455956800000000)) (Ok (time_at S.Tai 3455956800000000))
one_taking =
    took_one (H.Decimal half S.Tai) (Ok (time_at S.Tai 3455956800000000)) (Ok (time_at S.Tai 3455956800000000)) half_taken half_taken

pub half_placed : Placed S.Tai (negsuc 0) 43200000000
half_placed =
    handed_placed (H.Decimal half S.Tai) (time_at S.Tai 3455956800000000)
    (told_at (H.Decimal half S.Tai) (Ok (time_at S.Tai 3455956800000000)) half_taken (time_at S.Tai 3455956800000000) refl)

pub first_told : is_in_span (H.Record (record_of S.Gps (negsuc 7300) 0)) ≡ false
first_told = (told_outside (H.Record (record_of S.Gps (negsuc 7300) 0)) (Err (K.Outside S.Gps)) first_unreached S.Gps refl).1

pub infinite_told : is_finite (H.Decimal (of_bits binary64 0x7ff0_0000_0000_0000) S.Utc) ≡ false
infinite_told = (told_nothing (H.Decimal (of_bits binary64 0x7ff0_0000_0000_0000) S.Utc) (Err (K.NotFinite S.Utc)) infinite_taken S.Utc refl).0
