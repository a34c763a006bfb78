-- Wrong programs for the leap list and the changes, each shut out by an input at which its answer is not the meaning's.
-- Assumes nothing.
use mathlib.Core.Path.{refl}
use mathlib.Core.Bool.{Bool, true, false, cond, not, ◌&&◌}
use mathlib.Core.List.{List, [], ◌∷◌}
use Prim.Native.Nat.{ℕ, ◌+◌, ◌-◌, ◌*◌}
use native.Mathlib.Omega.{arith}
use lib.IntN.{ℤ, pos, negsuc, ◌+ℤ◌, ◌-ℤ◌}
use lib.ListN.{get_or, take}
use Rattle.evidence.specs.ShutOut.{ShutOut, differ}
use Rattle.axis.specs.Meaning.{place_of_day, Moment, since, moment_of}
use Rattle.scales.specs.Meaning.{and_then, Judged, given, gives, outcome, Slip, dated, record_of, marked_record, resulting}
use Rattle.scales.specs.declared.Scale.{Scale}
use Rattle.scales.specs.declared.Scale.TheVariants as S
use Rattle.scales.specs.declared.Record.{Record}
use Rattle.scales.specs.declared.Mark.TheVariants as M
use Rattle.handed.specs.declared.Handed.TheVariants as H
use Rattle.calendar.specs.Meaning.{leap, month_length, length_of, first_day, day_after, days_to, walk, is_first, all_firsts}
use Rattle.leap.specs.Meaning.{seconds, are_steps, begins, rises_from, rises, counts_from, counts_up, ends_in, none_later, accepted, through, offset_on, tai_of, is_step, has_micro, is_expired_day, published_days, published_offsets, published_last}
use Rattle.via_tai.specs.Meaning.{from_tai, from_utc, to_tai, to_gps, to_utc, of_count}
use Rattle.changes.specs.Meaning.{moving, tai_to_gps, gps_to_tai, utc_to_tai, utc_to_gps, tai_to_utc, gps_to_utc, change_of}
use Rattle.ground_laws.proofs.Desks.{answered, empty, marked_as, by_number, by_mark, by_micro, always_marked, refuses_all, day_zero}

-- ---- is_accepted
-- a step on E+1 dropped as expired: none may be later than E
abbrev dropped_next : List ℤ → List ℕ → ℤ → Bool
dropped_next ds os e = are_steps ds os && (begins ds os && (rises ds && (all_firsts ds && (counts_up os && (ends_in e && none_later ds e)))))

-- days and offsets need not rise
abbrev unordered : List ℤ → List ℕ → ℤ → Bool
unordered ds os e = are_steps ds os && (begins ds os && (all_firsts ds && (ends_in e && none_later ds (e +ℤ pos 1))))

as_number : Bool → ℕ
as_number b = cond b 1 0

pub record WrongAccept : Type 0 where
  pub step_on_next : ShutOut (accepted published_days published_offsets (pos 6209)) true (dropped_next published_days published_offsets (pos 6209)) false
  pub same_day_twice :
      ShutOut (accepted (negsuc 10226 ∷ negsuc 10226 ∷ []) (10 ∷ 11 ∷ []) (pos 0)) false
      (unordered (negsuc 10226 ∷ negsuc 10226 ∷ []) (10 ∷ 11 ∷ []) (pos 0)) true

pub wrong_accept : WrongAccept
unfolding leap month_length length_of first_day day_after days_to walk is_first begins rises_from rises counts_from counts_up none_later accepted as_number
wrong_accept =
    record { step_on_next = (refl, refl, differ as_number (λ e. omega arith)); same_day_twice = (refl, refl, differ as_number (λ e. omega arith)) }

-- ---- published_days and published_offsets
-- the day that has the second 60, not the day after it
pub day_before : ShutOut (get_or published_days 27 (pos 0)) (pos 6210) (get_or published_days 27 (pos 0) -ℤ pos 1) (pos 6209)
day_before = (refl, refl, differ place_of_day (λ e. omega arith))

-- days counted from 1 January 1972
pub days_from_1972 : ShutOut (get_or published_days 27 (pos 0)) (pos 6210) (get_or published_days 27 (pos 0) +ℤ pos 10227) (pos 16437)
days_from_1972 = (refl, refl, differ place_of_day (λ e. omega arith))

-- the leap seconds alone, without the ten of the start
pub without_ten : ShutOut (get_or published_offsets 9 0) 19 (get_or published_offsets 9 0 - 10) 9
without_ten = (refl, refl, λ e. omega arith)

-- 19 leap seconds counted between 1972 and 1980
pub nineteen_counted : ShutOut (get_or published_offsets 9 0) 19 (get_or published_offsets 0 0 + 19) 29
nineteen_counted = (refl, refl, λ e. omega arith)

-- ---- the changes, with one part put in another's place; the list is the published one
abbrev counted : Scale → ℤ → ℕ → ℕ
counted S.Utc d u = place_of_day d * 86401000000 + u
counted S.Tai d u = place_of_day d * 86400000000 + u
counted S.Gps d u = place_of_day d * 86400000000 + u

abbrev made : Scale → Judged Moment → Slip
made to j = dated to (outcome j)

-- UTC to the TAI count by another offset, with other tests of 9 and 10
abbrev utc_by : (Moment → ℤ) → Bool → Moment → Judged ℤ
utc_by tai spans m =
    given spans 7
    (given (not (is_expired_day published_last m.day)) 9
    (given (has_micro published_days m.day m.micro) 10
    (gives (tai m))))

-- only the first step used
abbrev first_only : Moment → ℤ
first_only m = since m.day m.micro +ℤ seconds 10

-- 19 leap seconds counted between 1972 and 1980, ten at the start besides
abbrev ten_more : Moment → ℤ
ten_more m = tai_of published_days published_offsets m.day m.micro +ℤ seconds 10

-- 9 and 10 swapped
abbrev second_first : Bool → Moment → Judged ℤ
second_first spans m =
    given spans 7
    (given (has_micro published_days m.day m.micro) 10
    (given (not (is_expired_day published_last m.day)) 9
    (gives (tai_of published_days published_offsets m.day m.micro))))

-- second 60 on any day
abbrev any_sixty : Bool → Moment → Judged ℤ
any_sixty spans m =
    given spans 7
    (given (not (is_expired_day published_last m.day)) 9
    (gives (tai_of published_days published_offsets m.day m.micro)))

-- 5 after 7
abbrev list_last : List ℤ → List ℕ → ℤ → ℕ → Slip
list_last ds os e n =
    made S.Tai
    (of_count S.Utc n
    (λ spans m. given spans 7 (given (accepted ds os e) 5 (and_then (from_utc ds os e spans m) to_tai))))

pub record WrongUtc : Type 0 where
  pub first_only_lem :
      ShutOut (utc_to_tai (counted S.Utc (pos 6210) 0) published_days published_offsets published_last) (answered S.Tai (pos 6210) 37000000)
      (made S.Tai (and_then (of_count S.Utc (counted S.Utc (pos 6210) 0) (utc_by first_only)) to_tai)) (answered S.Tai (pos 6210) 10000000)
  pub ten_more_lem :
      ShutOut (utc_to_tai (counted S.Utc (negsuc 7299) 0) published_days published_offsets published_last) (answered S.Tai (negsuc 7299) 19000000)
      (made S.Tai (and_then (of_count S.Utc (counted S.Utc (negsuc 7299) 0) (utc_by ten_more)) to_tai)) (answered S.Tai (negsuc 7299) 29000000)
  pub swapped :
      ShutOut (utc_to_tai (counted S.Utc (pos 9132) 86400000000) published_days published_offsets published_last) (empty 9 S.Tai)
      (made S.Tai (and_then (of_count S.Utc (counted S.Utc (pos 9132) 86400000000) second_first) to_tai)) (empty 10 S.Tai)
  pub any_sixty_lem :
      ShutOut (utc_to_tai (counted S.Utc (pos 0) 86400000000) published_days published_offsets published_last) (empty 10 S.Tai)
      (made S.Tai (and_then (of_count S.Utc (counted S.Utc (pos 0) 86400000000) any_sixty) to_tai)) (answered S.Tai (pos 1) 32000000)
  pub list_last_lem :
      ShutOut (utc_to_tai (counted S.Utc (pos 36525) 0) [] [] published_last) (empty 5 S.Tai)
      (list_last [] [] published_last (counted S.Utc (pos 36525) 0)) (empty 7 S.Tai)
  pub gps_first_only :
      ShutOut (utc_to_gps (counted S.Utc (pos 6210) 0) published_days published_offsets published_last) (answered S.Gps (pos 6210) 18000000)
      (made S.Gps (and_then (of_count S.Utc (counted S.Utc (pos 6210) 0) (utc_by first_only)) to_gps)) (answered S.Gps (pos 6209) 86391000000)
  -- the step on E+1 dropped: day E loses its second 60
  pub step_dropped :
      ShutOut (utc_to_tai (counted S.Utc (pos 6209) 86400000000) published_days published_offsets (pos 6209)) (answered S.Tai (pos 6210) 36000000)
      (utc_to_tai (counted S.Utc (pos 6209) 86400000000) (take 27 published_days) (take 27 published_offsets) (pos 6209)) (empty 10 S.Tai)
  -- the TAI count's span tested on the way
  pub span_on_the_way :
      ShutOut (utc_to_gps (counted S.Utc (pos 36524) 86395000000) (negsuc 10226 ∷ []) (10 ∷ []) (pos 36524)) (answered S.Gps (pos 36524) 86386000000)
      (made S.Gps
      (and_then (and_then (of_count S.Utc (counted S.Utc (pos 36524) 86395000000) (from_utc (negsuc 10226 ∷ []) (10 ∷ []) (pos 36524))) to_tai)
      (λ m. to_gps (since m.day m.micro)))) (empty 11 S.Gps)

pub wrong_utc : WrongUtc
unfolding leap month_length length_of first_day day_after days_to walk is_first begins rises_from rises counts_from counts_up none_later accepted through is_step utc_to_tai utc_to_gps
wrong_utc =
    record {
      first_only_lem = (refl, refl, by_micro (λ e. omega arith));
      ten_more_lem = (refl, refl, by_micro (λ e. omega arith));
      swapped = (refl, refl, by_number (λ e. omega arith));
      any_sixty_lem = (refl, refl, by_number (λ e. omega arith));
      list_last_lem = (refl, refl, by_number (λ e. omega arith));
      gps_first_only = (refl, refl, by_micro (λ e. omega arith));
      step_dropped = (refl, refl, by_number (λ e. omega arith));
      span_on_the_way = (refl, refl, by_number (λ e. omega arith));
    }

-- ---- to UTC
-- the offset of the TAI day used for the UTC day
abbrev by_tai_day : ℤ → Judged Moment
by_tai_day c = resulting S.Utc (moment_of (c -ℤ seconds (offset_on published_days published_offsets (moment_of c).day)))

-- expiry not judged
abbrev unexpired : ℤ → Judged Moment
unexpired c = to_utc published_days published_offsets published_last c

-- GPS taken for TAI
abbrev gps_as_tai : Bool → Moment → Judged ℤ
gps_as_tai spans m = from_tai spans m

-- 19 s the wrong way
abbrev less_gps : Bool → Moment → Judged ℤ
less_gps spans m =
    given spans 7
    (gives (since m.day m.micro -ℤ seconds 19))

abbrev plus_gps : ℤ → Judged Moment
plus_gps c = resulting S.Gps (moment_of (c +ℤ seconds 19))

-- 18 s, GPS minus UTC today
abbrev eighteen : ℤ → Judged Moment
eighteen c = resulting S.Gps (moment_of (c -ℤ seconds 18))

abbrev correlated : Record
correlated = marked_record (M.Correlated 9) (record_of S.Gps (pos 5) 7)

pub record WrongRest : Type 0 where
  pub tai_day :
      ShutOut (tai_to_utc (counted S.Tai (pos 6210) 36500000) published_days published_offsets published_last) (answered S.Utc (pos 6209) 86400500000)
      (made S.Utc (and_then (of_count S.Tai (counted S.Tai (pos 6210) 36500000) from_tai) by_tai_day)) (answered S.Utc (pos 6209) 86399500000)
  pub tai_unexpired :
      ShutOut (tai_to_utc (counted S.Tai (pos 6210) 37000000) published_days published_offsets (pos 6209)) (empty 9 S.Utc)
      (made S.Utc (and_then (of_count S.Tai (counted S.Tai (pos 6210) 37000000) from_tai) unexpired)) (answered S.Utc (pos 6210) 0)
  pub gps_as_tai_lem :
      ShutOut (gps_to_utc (counted S.Gps (negsuc 7299) 0) published_days published_offsets published_last) (answered S.Utc (negsuc 7299) 0)
      (made S.Utc (and_then (of_count S.Gps (counted S.Gps (negsuc 7299) 0) gps_as_tai) (to_utc published_days published_offsets published_last)))
      (answered S.Utc (negsuc 7300) 86381000000)
  pub gps_utc_less :
      ShutOut (gps_to_utc (counted S.Gps (pos 0) 0) published_days published_offsets published_last) (answered S.Utc (negsuc 0) 86387000000)
      (made S.Utc (and_then (of_count S.Gps (counted S.Gps (pos 0) 0) less_gps) (to_utc published_days published_offsets published_last)))
      (answered S.Utc (negsuc 0) 86349000000)
  pub gps_less :
      ShutOut (gps_to_tai (counted S.Gps (pos 0) 0)) (answered S.Tai (pos 0) 19000000)
      (made S.Tai (and_then (of_count S.Gps (counted S.Gps (pos 0) 0) less_gps) to_tai)) (answered S.Tai (negsuc 0) 86381000000)
  pub gps_tai_same :
      ShutOut (gps_to_tai (counted S.Gps (pos 0) 0)) (answered S.Tai (pos 0) 19000000)
      (made S.Tai (and_then (of_count S.Gps (counted S.Gps (pos 0) 0) gps_as_tai) to_tai)) (answered S.Tai (pos 0) 0)
  pub gps_plus :
      ShutOut (tai_to_gps (counted S.Tai (pos 0) 0)) (answered S.Gps (negsuc 0) 86381000000)
      (made S.Gps (and_then (of_count S.Tai (counted S.Tai (pos 0) 0) from_tai) plus_gps)) (answered S.Gps (pos 0) 19000000)
  pub gps_eighteen :
      ShutOut (tai_to_gps (counted S.Tai (pos 0) 0)) (answered S.Gps (negsuc 0) 86381000000)
      (made S.Gps (and_then (of_count S.Tai (counted S.Tai (pos 0) 0) from_tai) eighteen)) (answered S.Gps (negsuc 0) 86382000000)
  -- to its own scale with nothing judged; 5 where no list is used
  pub unjudged :
      ShutOut (change_of (H.Record (record_of S.Utc (pos 9132) 0)) S.Utc published_days published_offsets published_last) (empty 9 S.Utc)
      (made S.Utc (gives (record { day = pos 9132; micro = 0 }))) (answered S.Utc (pos 9132) 0)
  pub list_always :
      ShutOut (change_of (H.Record (record_of S.Tai (pos 0) 0)) S.Tai [] [] (pos 0)) (answered S.Tai (pos 0) 0)
      (made S.Tai (given (accepted [] [] (pos 0)) 5 (moving S.Tai S.Tai [] [] (pos 0) true (record { day = pos 0; micro = 0 })))) (empty 5 S.Tai)
  -- a change that loses the mark, to another scale and to its own; a refusal that keeps it
  pub mark_lost :
      ShutOut (change_of (H.Record correlated) S.Tai [] [] (pos 0)) (marked_as (M.Correlated 9) S.Tai (pos 5) 19000007)
      (change_of (H.Record (record_of S.Gps (pos 5) 7)) S.Tai [] [] (pos 0)) (answered S.Tai (pos 5) 19000007)
  pub own_mark_lost :
      ShutOut (change_of (H.Record correlated) S.Gps [] [] (pos 0)) (marked_as (M.Correlated 9) S.Gps (pos 5) 7)
      (change_of (H.Record (record_of S.Gps (pos 5) 7)) S.Gps [] [] (pos 0)) (answered S.Gps (pos 5) 7)
  pub refusal_marked_lem :
      ShutOut (change_of (H.Record correlated) S.Utc [] [] (pos 0)) (empty 5 S.Utc) (always_marked (M.Correlated 9) (change_of (H.Record correlated) S.Utc [] [] (pos 0)))
      (record { number = 5; scale = S.Utc; day = pos 0; micro = 0; mark = M.Correlated 9 })
  -- the desk that refuses all, and the one that answers day 0 for everything
  pub all_refused : ShutOut (change_of (H.Record (record_of S.Gps (pos 5) 7)) S.Tai [] [] (pos 0)) (answered S.Tai (pos 5) 19000007) (refuses_all S.Tai) (empty 7 S.Tai)
  pub all_day_zero : ShutOut (change_of (H.Record (record_of S.Gps (pos 5) 7)) S.Tai [] [] (pos 0)) (answered S.Tai (pos 5) 19000007) (day_zero S.Tai) (answered S.Tai (pos 0) 0)

pub wrong_rest : WrongRest
unfolding leap month_length length_of first_day day_after days_to walk is_first begins rises_from rises counts_from counts_up none_later accepted through is_step tai_to_utc gps_to_utc gps_to_tai tai_to_gps change_of
wrong_rest =
    record {
      tai_day = (refl, refl, by_micro (λ e. omega arith));
      tai_unexpired = (refl, refl, by_number (λ e. omega arith));
      gps_as_tai_lem = (refl, refl, by_micro (λ e. omega arith));
      gps_utc_less = (refl, refl, by_micro (λ e. omega arith));
      gps_less = (refl, refl, by_micro (λ e. omega arith));
      gps_tai_same = (refl, refl, by_micro (λ e. omega arith));
      gps_plus = (refl, refl, by_micro (λ e. omega arith));
      gps_eighteen = (refl, refl, by_micro (λ e. omega arith));
      unjudged = (refl, refl, by_number (λ e. omega arith));
      list_always = (refl, refl, by_number (λ e. omega arith));
      mark_lost = (refl, refl, by_mark (λ e. omega arith));
      own_mark_lost = (refl, refl, by_mark (λ e. omega arith));
      refusal_marked_lem = (refl, refl, by_mark (λ e. omega arith));
      all_refused = (refl, refl, by_number (λ e. omega arith));
      all_day_zero = (refl, refl, by_micro (λ e. omega arith));
    }
