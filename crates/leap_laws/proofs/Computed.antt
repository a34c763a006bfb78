-- The published list is accepted with E = 6209 too, its first 27 steps with E = 6000 and 6209, and its first alone; what the desk hands
-- back about its last steps is computed; the marked cases stand in the crate `marked`. Assumes nothing.
use mathlib.Core.Path.{◌≡◌, refl}
use mathlib.Core.Bool.{true}
use mathlib.Core.List.{List, [], ◌∷◌}
use Prim.Native.Nat.{ℕ}
use lib.IntN.{ℤ, pos, negsuc}
use lib.ListN.{take}
use Rattle.scales.specs.Meaning.{Slip, record_of}
use Rattle.scales.specs.declared.Scale.{Scale}
use Rattle.scales.specs.declared.Scale.TheVariants as S
use Rattle.handed.specs.declared.Handed.TheVariants as H
use Rattle.ground_laws.proofs.Desks.{answered, empty}
use Rattle.calendar.specs.Meaning.{leap, month_length, length_of, first_day, day_after, days_to, walk, is_first}
use Rattle.leap.specs.Meaning.{begins, rises_from, rises, counts_from, counts_up, none_later, accepted, all_later, Extends, through, is_step, published_days, published_offsets, published_last}
use Rattle.changes.specs.Meaning.{change_of}

-- ---- the 28th step is on E+1, and it counts
pub published_6209 : accepted published_days published_offsets (pos 6209) ≡ true
unfolding leap month_length length_of first_day day_after days_to walk is_first begins rises_from rises counts_from counts_up none_later accepted
published_6209 = refl

pub extended : Extends published_days published_offsets (pos 6209) published_days published_offsets published_last
unfolding all_later
extended = record { more_days = []; more_offsets = []; days = refl; offsets = refl; further = refl; ends = refl }

-- ---- the list as it was before its last step, with E = 6000: the published one extends it by a step
abbrev pub earlier_days : List ℤ
earlier_days = take 27 published_days

abbrev pub earlier_offsets : List ℕ
earlier_offsets = take 27 published_offsets

abbrev pub earlier_last : ℤ
earlier_last = pos 6000

pub earlier : accepted earlier_days earlier_offsets earlier_last ≡ true
unfolding leap month_length length_of first_day day_after days_to walk is_first begins rises_from rises counts_from counts_up none_later accepted
earlier = refl

pub step_more : Extends earlier_days earlier_offsets earlier_last published_days published_offsets published_last
unfolding all_later
step_more = record { more_days = pos 6210 ∷ []; more_offsets = 37 ∷ []; days = refl; offsets = refl; further = refl; ends = refl }

-- to the day before its last step, and without it: that day has no second 60
pub earlier_6209 : accepted earlier_days earlier_offsets (pos 6209) ≡ true
unfolding leap month_length length_of first_day day_after days_to walk is_first begins rises_from rises counts_from counts_up none_later accepted
earlier_6209 = refl

-- ---- the first step alone, as long as a list can be: every day has 86,400 s
abbrev pub even_days : List ℤ
even_days = negsuc 10226 ∷ []

abbrev pub even_offsets : List ℕ
even_offsets = 10 ∷ []

abbrev pub even_last : ℤ
even_last = pos 36524

pub even : accepted even_days even_offsets even_last ≡ true
unfolding leap month_length length_of first_day day_after days_to walk is_first begins rises_from rises counts_from counts_up none_later accepted
even = refl

-- ---- what the desk hands back of a record under the published steps
abbrev pub asked : ℤ → Scale → ℤ → ℕ → Scale → Slip
asked e s d u to = change_of (H.Record (record_of s d u)) to published_days published_offsets e

-- from TAI, at the second 60 of 31 December 2016 and after it
pub record Computed : Type 0 where
  pub sixty_back : asked published_last S.Tai (pos 6210) 36000000 S.Utc ≡ answered S.Utc (pos 6209) 86400000000
  pub next_back : asked published_last S.Tai (pos 6210) 37000000 S.Utc ≡ answered S.Utc (pos 6210) 0
  -- with E = 6209 the step on E+1 still gives day E its second 60, and TAI expires when it begins
  pub last_second : asked (pos 6209) S.Utc (pos 6209) 86400999999 S.Tai ≡ answered S.Tai (pos 6210) 36999999
  pub first_expired : asked (pos 6209) S.Tai (pos 6210) 37000000 S.Utc ≡ empty 9 S.Utc
  -- TAI before 1 January 1972 00:00:10 has no UTC in the span
  pub first_tai : asked published_last S.Tai (negsuc 10226) 9999999 S.Utc ≡ empty 11 S.Utc
  pub first_utc : asked published_last S.Tai (negsuc 10226) 10000000 S.Utc ≡ answered S.Utc (negsuc 10226) 0
  -- to its own scale
  pub same_tai : asked published_last S.Tai (pos 9132) 0 S.Tai ≡ answered S.Tai (pos 9132) 0
  pub same_utc : asked published_last S.Utc (pos 9132) 0 S.Utc ≡ empty 9 S.Utc
  pub same_sixty : asked published_last S.Utc (pos 6209) 86400000000 S.Utc ≡ answered S.Utc (pos 6209) 86400000000

pub computed : Computed
unfolding leap month_length length_of first_day day_after days_to walk is_first begins rises_from rises counts_from counts_up none_later accepted through is_step change_of
computed =
    record {
      sixty_back = refl;
      next_back = refl;
      last_second = refl;
      first_expired = refl;
      first_tai = refl;
      first_utc = refl;
      same_tai = refl;
      same_utc = refl;
      same_sixty = refl;
    }

-- UTC day 36524, 23:59:30 is a GPS time in the span, and no TAI time in it; a step on day 36525 gives day 36524 a second 60
abbrev days2100 : List ℤ
days2100 = negsuc 10226 ∷ pos 36525 ∷ []

abbrev offsets2100 : List ℕ
offsets2100 = 10 ∷ 11 ∷ []

pub record Late : Type 0 where
  pub to_gps : change_of (H.Record (record_of S.Utc (pos 36524) 86395000000)) S.Gps days2100 offsets2100 (pos 36524) ≡ answered S.Gps (pos 36524) 86386000000
  pub to_tai : change_of (H.Record (record_of S.Utc (pos 36524) 86395000000)) S.Tai days2100 offsets2100 (pos 36524) ≡ empty 11 S.Tai
  pub sixty : change_of (H.Record (record_of S.Utc (pos 36524) 86400000000)) S.Utc days2100 offsets2100 (pos 36524) ≡ answered S.Utc (pos 36524) 86400000000

pub late : Late
unfolding leap month_length length_of first_day day_after days_to walk is_first begins rises_from rises counts_from counts_up none_later accepted through is_step change_of
late = record { to_gps = refl; to_tai = refl; sixty = refl }
