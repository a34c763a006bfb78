-- The file on places, as the code reads it: a signed number of 64 bits stands 2^63 further on than its bits, so that the order of numbers is
-- the order of places. Assumes nothing.
use Rattle.std.specs.Prelude.{Bool, cond, ◌&&◌, ◌||◌, List, ℕ, zero, suc, ◌+◌, leb, ltb, eqb, pos, Option, Some, None, Result, Ok, Err}
use Rattle.axis.specs.Meaning.{signed_of}
use Rattle.axis.specs.Signed.{turned}
use Rattle.octets.specs.Meaning.{part}
use Rattle.scales.specs.Meaning.{Outcome, refused, answer, Valued, valued, number_of}
use Rattle.scales.specs.declared.Refusal.{Refusal}
use Rattle.scales.specs.declared.Refusal.TheVariants as R
use Rattle.clock.specs.Meaning.{Cover}
use Rattle.season.specs.Meaning.{all, count_of, is_sized, entry_at, position_in, body_at, entry_kept}
use Rattle.season.specs.declared.Entry.{Entry}
use Rattle.season.specs.declared.question.Cover as Q

-- ---- what the private functions answer
abbrev pub count_in : List ℕ → Option ℕ
count_in s = cond (is_sized s) (Some (count_of s)) None

abbrev pub entry_of : List ℕ → ℕ → Entry
entry_of s k = record { from = turned (part s (entry_at k) 8); to = turned (part s (entry_at k + 8) 8); position = position_in s k }

abbrev pub may_follow : Entry → ℕ → ℕ → ℕ → Bool
may_follow e n k before = eqb e.position (body_at n k) && (leb e.from e.to && (eqb k 0 || ltb before e.from))

-- ---- the question
abbrev pub told_of : Entry → Q.Cover
told_of e = record { first = signed_of (turned e.from); last = signed_of (turned e.to) }

abbrev pub cover_slip : Result Q.Cover Refusal → Valued Cover
cover_slip (Ok v) = valued (record { from = pos 0; to = pos 0 }) (answer (record { from = v.first; to = v.last }))
cover_slip (Err f) = valued (record { from = pos 0; to = pos 0 }) (refused (number_of f))

abbrev pub covers_at : Entry → ℕ → Bool
covers_at e w = leb e.from w && leb w e.to

-- of the first k entries, the one that covers the place w
abbrev pub seen_in : List ℕ → ℕ → ℕ → Option Entry
seen_in s w zero = None
seen_in s w (suc k) = cond (covers_at (entry_of s k) w) (Some (entry_of s k)) (seen_in s w k)

abbrev pub scanned : List ℕ → ℕ → ℕ → Result (Option Entry) Refusal
scanned s n w = cond (all (entry_kept s) n) (Ok (seen_in s w n)) (Err R.SeasonBroken)

-- 15 where no entry covers the receipt
abbrev pub asked : Option Entry → Outcome Cover
asked (Some e) = answer (record { from = (told_of e).first; to = (told_of e).last })
asked None = refused 15

abbrev pub answered : Result (Option Entry) Refusal → Valued Cover
answered (Ok o) = valued (record { from = pos 0; to = pos 0 }) (asked o)
answered (Err f) = valued (record { from = pos 0; to = pos 0 }) (refused (number_of f))
