-- The leap list as the paper states it. A list is its steps' days, TAI minus UTC from each day on, and its last day E. Days are
-- signed, counted from 1 January 2000; TAI counts are signed microseconds from 00:00:00 of day 0. Assumes nothing.
use Rattle.std.specs.Prelude.{◌≡◌, Bool, true, false, cond, ◌&&◌, ◌||◌, List, [], ◌∷◌, ◌++◌, ℕ, ◌+◌, ◌-◌, ◌*◌, eqb, leb, ltb, ℤ, pos, negsuc, ◌+ℤ◌, ◌-ℤ◌, length, Result, Ok, Err}
use Rattle.std.specs.Int.Signed.{le_z, lt_z}
use Rattle.axis.specs.Meaning.{Moment, day_micros, since, moment_of}
use Rattle.scales.specs.Meaning.{moment_at}
use Rattle.scales.specs.declared.Scale.TheVariants as S
use Rattle.scales.specs.declared.Utc.{Utc}
use Rattle.scales.specs.declared.Refusal.{Refusal}
use Rattle.scales.specs.declared.Refusal.TheVariants as R
use Rattle.calendar.specs.Meaning.{all_firsts}

-- a list as it is lent
pub record LeapList : Type 0 where
  pub days : List ℤ
  pub offsets : List ℕ
  pub last : ℤ

abbrev pub list_of : List ℤ → List ℕ → ℤ → LeapList
list_of ds os e = record { days = ds; offsets = os; last = e }

abbrev pub seconds : ℕ → ℤ
seconds n = pos (n * 1000000)

abbrev pub same_day : ℤ → ℤ → Bool
same_day a b = le_z a b && le_z b a

-- ---- "A list has 1 to 64 steps, each a day and TAI minus UTC from that day on": slices of unlike length are no steps
abbrev pub are_steps : List ℤ → List ℕ → Bool
are_steps ds os = leb 1 (length ds) && (leb (length ds) 64 && eqb (length os) (length ds))

-- "the first step is (-10227, 10)"
unfoldable pub begins : List ℤ → List ℕ → Bool
begins [] os = false
begins (d ∷ ds) [] = false
begins (d ∷ ds) (o ∷ os) = same_day d (negsuc 10226) && eqb o 10

-- "days rise strictly"
unfoldable pub rises_from : ℤ → List ℤ → Bool
rises_from d [] = true
rises_from d (c ∷ cs) = lt_z d c && rises_from c cs

unfoldable pub rises : List ℤ → Bool
rises [] = true
rises (d ∷ ds) = rises_from d ds

-- "each offset is one more than the last"
unfoldable pub counts_from : ℕ → List ℕ → Bool
counts_from o [] = true
counts_from o (p ∷ ps) = eqb p (o + 1) && counts_from p ps

unfoldable pub counts_up : List ℕ → Bool
counts_up [] = true
counts_up (o ∷ os) = counts_from o os

-- "E is from -10227 to 36524"
abbrev pub ends_in : ℤ → Bool
ends_in e = le_z (negsuc 10226) e && le_z e (pos 36524)

-- no step is later than a day
unfoldable pub none_later : List ℤ → ℤ → Bool
none_later [] e = true
none_later (d ∷ ds) e = le_z d e && none_later ds e

-- "It is accepted when the first step is (-10227, 10), days rise strictly, each day is the first of a month, each offset is one
-- more than the last, E is from -10227 to 36524, and no step is later than E+1."
unfoldable pub accepted : List ℤ → List ℕ → ℤ → Bool
accepted ds os e =
    are_steps ds os
    && (begins ds os
    && (rises ds
    && (all_firsts ds
    && (counts_up os
    && (ends_in e
    && none_later ds (e +ℤ pos 1))))))

-- a list that is lent, where it is accepted, or 5
abbrev pub accepted_or : LeapList → Result LeapList Refusal
accepted_or l = cond (accepted l.days l.offsets l.last) (Ok l) (Err R.ListNotAccepted)

-- ---- "List B extends A when B begins with A's steps, B's further steps are later than E(A)+1, and E(B) is not before E(A)"
unfoldable pub all_later : List ℤ → ℤ → Bool
all_later [] e = true
all_later (d ∷ ds) e = lt_z e d && all_later ds e

pub record Extends (ds : List ℤ) (os : List ℕ) (e : ℤ) (cs : List ℤ) (ps : List ℕ) (f : ℤ) : Type 0 where
  pub more_days : List ℤ
  pub more_offsets : List ℕ
  pub days : cs ≡ ds ++ more_days
  pub offsets : ps ≡ os ++ more_offsets
  pub further : all_later more_days (e +ℤ pos 1) ≡ true
  pub ends : le_z e f ≡ true

-- ---- "UTC to TAI adds the offset of the last step on or before the UTC day"
-- what the steps, one after the other, make of a value: the last that has a say is heard
unfoldable pub through : {A : Type 0} → (ℤ → ℕ → A → A) → A → List ℤ → List ℕ → A
through f a [] os = a
through f a (d ∷ ds) [] = a
through f a (d ∷ ds) (o ∷ os) = through f (f d o a) ds os

abbrev pub on_or_before : ℤ → ℤ → ℕ → ℕ → ℕ
on_or_before d s p o = cond (le_z s d) p o

abbrev pub offset_on : List ℤ → List ℕ → ℤ → ℕ
offset_on ds os d = through (on_or_before d) 0 ds os

-- the TAI count of microsecond u of UTC day d
abbrev pub tai_of : List ℤ → List ℕ → ℤ → ℕ → ℤ
tai_of ds os d u = since d u +ℤ seconds (offset_on ds os d)

-- ---- "Microseconds from 86,400,000,000 up exist only on a day whose next day is a step"
unfoldable pub is_step : List ℤ → ℤ → Bool
is_step [] d = false
is_step (s ∷ ss) d = same_day s d || is_step ss d

abbrev pub has_micro : List ℤ → ℤ → ℕ → Bool
has_micro ds d u = ltb u day_micros || is_step ds (d +ℤ pos 1)

-- ---- "A UTC day after E is expired, and so is a TAI instant at or after the TAI of 00:00:00 UTC on E+1"
abbrev pub is_expired_day : ℤ → ℤ → Bool
is_expired_day e d = lt_z e d

abbrev pub is_expired_tai : List ℤ → List ℕ → ℤ → ℤ → Bool
is_expired_tai ds os e c = le_z (tai_of ds os (e +ℤ pos 1) 0) c

-- ---- "TAI to UTC gives the one UTC record whose TAI is the input": proved of `utc_of` in specs/Back.antt
-- the TAI of 00:00:00 UTC on day s, by the offset p
abbrev pub tai_of_start : ℤ → ℕ → ℤ
tai_of_start s p = since s 0 +ℤ seconds p

-- by the offset p
abbrev pub plain : ℕ → ℤ → Moment
plain p c = moment_of (c -ℤ seconds p)

-- in the second that a step on day s puts in: second 60 of the day before, p - 1 still in force
abbrev pub sixty : ℤ → ℕ → ℤ → Moment
sixty s p c = record { day = s -ℤ pos 1; micro = day_micros + (moment_of (c -ℤ seconds (p - 1))).micro }

-- a step that has begun at the TAI count c, or whose second has, has a say
abbrev pub begun : ℤ → ℤ → ℕ → Moment → Moment
begun c s p m = cond (le_z (tai_of_start s p) c) (plain p c) (cond (le_z (tai_of_start s (p - 1)) c) (sixty s p c) m)

-- before the first step there is no UTC: its offset leads out of the span
abbrev pub utc_of : List ℤ → List ℕ → ℤ → Moment
utc_of ds os c = through (begun c) (plain 10 c) ds os

-- the day and the microsecond of a UTC count
abbrev pub utc_moment : Utc → Moment
utc_moment t = moment_at S.Utc t.0

-- ---- "The published 28 steps, offsets 10 to 37": 1 January and 1 July of the years named; E = 9131 is 31 December 2024
abbrev pub published_days : List ℤ
published_days =
    negsuc 10226 ∷ negsuc 10044 ∷ negsuc 9860 ∷ negsuc 9495 ∷ negsuc 9130 ∷ negsuc 8765 ∷ negsuc 8399 ∷ negsuc 8034
    ∷ negsuc 7669 ∷ negsuc 7304 ∷ negsuc 6757 ∷ negsuc 6392 ∷ negsuc 6027 ∷ negsuc 5296 ∷ negsuc 4382 ∷ negsuc 3651
    ∷ negsuc 3286 ∷ negsuc 2739 ∷ negsuc 2374 ∷ negsuc 2009 ∷ negsuc 1460 ∷ negsuc 913 ∷ negsuc 364 ∷ pos 2192 ∷ pos 3288
    ∷ pos 4565 ∷ pos 5660 ∷ pos 6210 ∷ []

abbrev pub published_offsets : List ℕ
published_offsets =
    10 ∷ 11 ∷ 12 ∷ 13 ∷ 14 ∷ 15 ∷ 16 ∷ 17 ∷ 18 ∷ 19 ∷ 20 ∷ 21 ∷ 22 ∷ 23 ∷ 24 ∷ 25 ∷ 26 ∷ 27 ∷ 28 ∷ 29 ∷ 30 ∷ 31 ∷ 32 ∷ 33 ∷ 34 ∷ 35
    ∷ 36 ∷ 37 ∷ []

abbrev pub published_last : ℤ
published_last = pos 9131
