-- "SIRAL later in the second": a run of packets of one second, dated together. The extra counter has 16 bits and rolls over within the
-- second; each packet's total counts the rolls too. Assumes nothing.
use Rattle.std.specs.Prelude.{Bool, true, ◌&&◌, List, [], ◌∷◌, ◌++◌, map, ℕ, zero, suc, ◌+◌, ◌-◌, ◌/◌, ◌%◌, leb, eqb, ℤ, pos, length, take, drop}
use Rattle.scales.specs.Meaning.{in_span, Judged, given, gives, Outcome, refused, answer, outcome}
use Rattle.scales.specs.declared.Scale.TheVariants as S
use Rattle.layout_fields.specs.Cryosat.{in_limits}
use Rattle.layout_fields.specs.Siral.{fields_of}
use Rattle.layout_fields.specs.declared.siral.Fields.{Fields}
use Rattle.layout_times.specs.Meaning.{moment_from}
use Rattle.layout_times.specs.Cryosat.{epoch}
use Rattle.layout_times.specs.Siral.{sixteenths}

-- ---- the packets of a run, ten bytes each: packet i is bytes 10i to 10i + 9
abbrev pub packets_in : ℕ → List ℕ → List Fields
packets_in zero s = []
packets_in (suc n) s = fields_of (take 10 s) ∷ packets_in n (drop 10 s)

abbrev pub packets : List ℕ → List Fields
packets s = packets_in (length s / 10) s

abbrev pub all : {A : Type 0} → (A → Bool) → List A → Bool
all p [] = true
all p (x ∷ xs) = p x && all p xs

-- ---- "the first taken as it stands, each next one the least amount not below zero ahead of the one before, modulo 65,536"
abbrev pub ahead : ℕ → ℕ → ℕ
ahead before extra = before + (extra + 65536 - before % 65536) % 65536

-- before the first stands the told count, 0 where nothing is told
abbrev pub unrolled : ℕ → List ℕ → List ℕ
unrolled before [] = []
unrolled before (extra ∷ rest) = ahead before extra ∷ unrolled (ahead before extra) rest

abbrev pub extras : List Fields → List ℕ
extras fs = map (λ (f : Fields). f.extra) fs

abbrev pub totals : ℕ → List Fields → List ℕ
totals told fs = unrolled told (extras fs)

abbrev pub last_of : ℕ → List ℕ → ℕ
last_of told [] = told
last_of told (t ∷ ts) = last_of t ts

-- ---- 3: a millisecond or microsecond over its limit, in any packet
abbrev pub is_in_limits : Fields → Bool
is_in_limits f = in_limits f.millisecond f.microsecond

-- ---- 16: "a total above 484,848 units or three fields that differ within the run"
abbrev pub alike : Fields → Fields → Bool
alike f g = eqb f.day g.day && (eqb f.millisecond g.millisecond && eqb f.microsecond g.microsecond)

abbrev pub are_alike : List Fields → Bool
are_alike [] = true
are_alike (f ∷ fs) = all (alike f) fs

-- 484,848 units are 999,999 microseconds
abbrev pub most : ℕ
most = 484848

abbrev pub is_one_second : ℕ → List Fields → Bool
is_one_second told fs = are_alike fs && all (λ (t : ℕ). leb t most) (totals told fs)

-- ---- the dates: microseconds since day 0, as 01's reading adds them, with the total for the extra counter
abbrev pub date_of : Fields → ℕ → ℕ
date_of f total = sixteenths f.day f.millisecond f.microsecond total / 16

abbrev pub dates_of : List Fields → List ℕ → List ℕ
dates_of [] ts = []
dates_of (f ∷ fs) [] = []
dates_of (f ∷ fs) (t ∷ ts) = date_of f t ∷ dates_of fs ts

abbrev pub dates_in : List ℕ → ℕ → List ℕ
dates_in s told = dates_of (packets s) (totals told (packets s))

-- 7: a date outside the TAI span, carry included
abbrev pub is_in_span : ℕ → Bool
is_in_span n = let m = moment_from epoch n in in_span S.Tai m.day m.micro

-- ---- what is judged, in order
abbrev pub running : List ℕ → ℕ → List ℤ → Judged (List ℤ)
running s told out =
    given (eqb (length s % 10) 0) 1
    (given (all is_in_limits (packets s)) 3
    (given (is_one_second told (packets s)) 16
    (given (all is_in_span (dates_in s told)) 7
    (given (leb (length (packets s)) (length out)) 13
    (gives (map pos (dates_in s told)))))))

-- ---- what is handed back: the number, how many dates, the last total, and the whole lent slice
pub record Run : Type 0 where
  pub number : ℕ
  pub count : ℕ
  pub last : ℕ
  pub lent : List ℤ

abbrev pub ran : ℕ → List ℤ → Outcome (List ℤ) → Run
ran last out (refused n) = record { number = n; count = 0; last = 0; lent = out }
ran last out (answer dates) = record { number = 0; count = length dates; last = last; lent = dates ++ drop (length dates) out }

-- "An empty run is answered with no dates"; its last total is the told count
unfoldable pub siral : List ℕ → ℕ → List ℤ → Run
siral s told out = ran (last_of told (totals told (packets s))) out (outcome (running s told out))
