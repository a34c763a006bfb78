-- Wrong desks over any correlated counter: a chain with a part to choose and the wrong parts, and a chain with a test more. What shuts each
-- out is computed where a counter is given. Assumes nothing.
use mathlib.Core.Path.{◌≡◌, ap}
use mathlib.Core.Bool.{Bool, true, false, cond, not, ◌&&◌, ◌||◌}
use mathlib.Core.List.{List}
use Prim.Native.Nat.{ℕ, suc, ◌-◌, ◌*◌, ◌/◌}
use lib.Dec.{ltb}
use lib.IntN.{ℤ, pos, negsuc, sub_ℕ, ◌+ℤ◌, ◌-ℤ◌}
use lib.Signed.{lt_z, le_z}
use Rattle.axis.specs.Meaning.{floor_z, mod_z, Moment, day_micros, since}
use Rattle.scales.specs.Meaning.{in_span, Slip, dated_as, Judged, given, gives, Outcome, outcome, record_of, Valued, resulting}
use Rattle.scales.specs.declared.Scale.{Scale}
use Rattle.scales.specs.declared.Mark.{Mark}
use Rattle.scales.specs.declared.Mark.TheVariants as M
use Rattle.handed.specs.declared.Handed.{Handed}
use Rattle.handed.specs.declared.Handed.TheVariants as H
use Rattle.handed.specs.Meaning.{mark_of as mark_in, is_finite, is_in_span, day_of, micro_of}
use Rattle.leap.specs.Meaning as Leap
use Rattle.leap_laws.proofs.Lists.{with_even}
use Rattle.clock.specs.Meaning.{Clock, instant, moment_after, list_serves, is_current, is_current_at, has_second, elapsed, time, in_window, cover, covers, both_known, covers_time, in_force, not_later, dating, mark_of, last_count, count_at, instant_of, has_image, turning}
use Rattle.clock_laws.proofs.Window.{widened}
use Rattle.clock_laws.proofs.Marks.{hand_back}

-- a rule of force, for a count, a rule of lateness, for its time, and a desk either way
abbrev pub Force : Type 0
Force = Clock → ℤ → ℤ → ℕ → List ℤ → List ℕ → ℤ → Bool

abbrev pub Lateness : Type 0
Lateness = Clock → ℤ → ℤ → ℕ → List ℤ → List ℕ → ℤ → Bool

abbrev pub Dating : Type 0
Dating = Bool → Clock → ℕ → ℤ → ℕ → List ℤ → List ℕ → ℤ → Slip

abbrev pub Turning : Type 0
Turning = Bool → Clock → Handed → List ℤ → List ℕ → ℤ → Outcome ℕ

-- ---- dates: a desk with another rule of force or of lateness, another elapsed count, another time of it, or another moment of that
abbrev pub date_by : Force → Lateness → (Clock → ℕ → ℤ) → (Clock → ℤ → ℤ) → (Clock → List ℤ → List ℕ → ℤ → Moment) → Dating
date_by force lateness count timing moment accepted c t d u ds os e =
    let s = c.scale in
    let z = timing c (count c t) in
    hand_back c
    (given (list_serves s ds os e) 5
    (given accepted 6
    (given (in_span s d u) 7
    (given (force c (count c t) d u ds os e) 8
    (given (lateness c z d u ds os e) 17
    (given (is_current s e c.day && (is_current s e d && is_current_at s ds os e z)) 9
    (given (has_second s ds d u) 10
    (resulting s (moment c ds os z)))))))))

-- the moment of an instant, as it should be
abbrev pub at_instant : Clock → List ℤ → List ℕ → ℤ → Moment
at_instant c ds os z = moment_after c.scale ds os z

-- a desk that is wrong in its rule of force alone
abbrev pub forced_by : Force → Dating
forced_by force = date_by force not_later elapsed time at_instant

-- in its rule of lateness alone
abbrev pub late_by : Lateness → Dating
late_by lateness = date_by in_force lateness elapsed time at_instant

-- and in the time of the count alone
abbrev pub timed_by : (Clock → ℤ → ℤ) → Dating
timed_by timing = date_by in_force not_later elapsed timing at_instant

-- the window ignored
abbrev pub window_ignored : Force
window_ignored c k d u ds os e = covers_time c d u ds os e

-- the receipt ignored
abbrev pub receipt_ignored : Force
receipt_ignored c k d u ds os e = in_window c k

-- what `Dates` tells of an answered date, but for its receipt: the desk that ignores the receipt meets it
pub record WithoutReceipt (accepted : Bool) (c : Clock) (t : ℕ) (ds : List ℤ) (os : List ℕ) (e : ℤ) (m : Moment) : Type 0 where
  pub serves : list_serves c.scale ds os e ≡ true
  pub accepts : accepted ≡ true
  pub window : in_window c (elapsed c t) ≡ true
  pub reference : is_current c.scale e c.day ≡ true
  pub current : is_current_at c.scale ds os e (time c (elapsed c t)) ≡ true
  pub span : in_span c.scale m.day m.micro ≡ true
  pub is : moment_after c.scale ds os (time c (elapsed c t)) ≡ m

-- back and ahead in each other's place
abbrev pub swapped : Force
swapped c k d u ds os e = in_force (widened c c.ahead c.back) k d u ds os e

-- the receipt compared in UTC days: taken to TAI by the reference's offset
abbrev pub receipt_in_utc : Force
receipt_in_utc c k d u ds os e = in_window c k && covers c (since d u +ℤ Leap.seconds (Leap.offset_on ds os c.day))

-- the receipt compared whether or not the list knows it and the reference
abbrev pub unknown_compared : Force
unknown_compared c k d u ds os e = in_window c k && covers c (instant c.scale ds os d u)

-- a time at its receipt refused
abbrev pub equal_refused : Lateness
equal_refused c z d u ds os e = not (both_known c d u ds e) || lt_z z (instant c.scale ds os d u)

-- the reference's time compared in place of the result's
abbrev pub reference_compared : Lateness
reference_compared c z d u ds os e = not_later c (time c (pos 0)) d u ds os e

-- compared in days of 86,400 s, second 60 with the next day's first
abbrev pub in_even_days : Lateness
in_even_days c z d u ds os e =
    let m = moment_after c.scale ds os z in
    not (both_known c d u ds e) || le_z (since m.day m.micro) (since d u)

-- refused where the receipt has no TAI time
abbrev pub unknown_late : Lateness
unknown_late c z d u ds os e = both_known c d u ds e && le_z z (instant c.scale ds os d u)

-- the elapsed count never negative
abbrev pub unsigned : Clock → ℕ → ℤ
unsigned c t = pos (mod_z (sub_ℕ t c.reference) (2 * c.half))

-- a negative elapsed time rounded towards zero
abbrev pub towards_zero : Clock → ℤ → ℤ
towards_zero c (pos k) = time c (pos k)
towards_zero c (negsuc k) = floor_z c.start c.per -ℤ pos (suc k * c.gain / c.per)

-- the reference's offset used for the result
abbrev pub reference_offset : Clock → List ℤ → List ℕ → ℤ → Moment
reference_offset c ds os z = Leap.plain (Leap.offset_on ds os c.day) z

-- ---- dates: a desk with one test more, judged behind 7
abbrev pub date_also : (Clock → ℕ → ℤ → ℕ → List ℤ → List ℕ → ℤ → Bool) → ℕ → Dating
date_also test n accepted c t d u ds os e =
    hand_back c
    (given (list_serves c.scale ds os e) 5
    (given accepted 6
    (given (in_span c.scale d u) 7
    (given (test c t d u ds os e) n
    (dating accepted c t d u ds os e)))))

-- 9 judged before 8
abbrev pub expired_first : Dating
expired_first =
    date_also (λ c t d u ds os e.
    is_current c.scale e c.day && (is_current c.scale e d && is_current_at c.scale ds os e (time c (elapsed c t)))) 9

-- 17 judged before 8
abbrev pub later_first : Dating
later_first = date_also (λ c t d u ds os e. not_later c (time c (elapsed c t)) d u ds os e) 17

-- 17 judged after 9
abbrev pub later_after9 : Dating
later_after9 =
    date_also (λ c t d u ds os e.
    not (in_force c (elapsed c t) d u ds os e)
    || (is_current c.scale e c.day && (is_current c.scale e d && is_current_at c.scale ds os e (time c (elapsed c t))))) 9

-- and after 11
abbrev pub later_after11 : Dating
later_after11 =
    date_also (λ c t d u ds os e.
    let m = moment_after c.scale ds os (time c (elapsed c t)) in
    not (in_force c (elapsed c t) d u ds os e) || in_span c.scale m.day m.micro) 11

-- 10 judged before 9
abbrev pub second_first : Dating
second_first = date_also (λ c t d u ds os e. not (in_force c (elapsed c t) d u ds os e) || has_second c.scale ds d u) 10

-- the end of the window held to the list
abbrev pub end_current : Clock → List ℤ → List ℕ → ℤ → Bool
end_current c ds os e = is_current_at c.scale ds os e (cover c).to

abbrev pub date_ending : Dating
date_ending = date_also (λ c t d u ds os e. end_current c ds os e) 9

-- the list judged, whatever the scale
abbrev pub listed : {A : Type 0} → List ℤ → List ℕ → ℤ → Judged A → Judged A
listed ds os e j = given (Leap.accepted ds os e) 5 j

abbrev pub date_listed : Dating
date_listed accepted c t d u ds os e = hand_back c (listed ds os e (dating accepted c t d u ds os e))

-- ---- dates: a desk with another mark
abbrev pub marked_by : (Clock → ℕ → Mark) → Dating
marked_by mark accepted c t d u ds os e = dated_as (mark c t) c.scale (outcome (dating accepted c t d u ds os e))

-- the packet's own count taken for the reference
abbrev pub own_count : Clock → ℕ → Mark
own_count c t = M.Correlated t

-- no mark
abbrev pub unmarked : Clock → ℕ → Mark
unmarked c t = M.Plain

-- the mark on a refusal too
abbrev pub refusal_marked : Dating
refusal_marked accepted c t d u ds os e =
    let x = hand_back c (dating accepted c t d u ds os e) in
    record { number = x.number; scale = x.scale; day = x.day; micro = x.micro; mark = mark_of c }

-- ---- the way back: a desk with another test of what has an image, or another count of a time
abbrev pub count_by : (Scale → Handed → Bool) → (Clock → ℤ → ℤ) → Turning
count_by image count accepted c h ds os e =
    let s = c.scale in
    let i = image s h in
    outcome
    (given (is_finite h) 4
    (given (list_serves s ds os e) 5
    (given accepted 6
    (given (is_in_span h) 7
    (given (not i || covers_time c (day_of h) (micro_of h) ds os e) 8
    (given (is_current s e c.day && (not i || is_current s e (day_of h))) 9
    (given (not i || has_second s ds (day_of h) (micro_of h)) 10
    (given i 12
    (gives (count_at c (count c (instant_of s ds os h))))))))))))

-- a time of another scale taken as the counter's
abbrev pub scale_ignored : Scale → Handed → Bool
scale_ignored s h = true

-- second 60 taken for what has no image
abbrev pub second_ignored : Scale → Handed → Bool
second_ignored s h = has_image s h && ltb (micro_of h) day_micros

-- a time that is marked taken for what has no image
abbrev is_plain : Mark → Bool
is_plain M.Plain = true
is_plain (M.Proteus b) = false
is_plain (M.Correlated n) = false

abbrev pub plain_alone : Scale → Handed → Bool
plain_alone s h = has_image s h && is_plain (mark_in h)

-- second 60 taken for the next day's first
abbrev pub carried : Handed → Handed
carried (H.Record r) = H.Record (cond (ltb r.micro day_micros) r (record_of r.scale (r.day +ℤ pos 1) (r.micro - day_micros)))
carried (H.Decimal x s) = H.Decimal x s

-- the inverse one count late
abbrev pub one_late : Clock → ℤ → ℤ
one_late c z = last_count c z +ℤ pos 1

-- ---- the way back: a desk with one test more, judged behind 7
abbrev pub count_also : (Clock → Handed → List ℤ → List ℕ → ℤ → Bool) → ℕ → Turning
count_also test n accepted c h ds os e =
    outcome
    (given (is_finite h) 4
    (given (list_serves c.scale ds os e) 5
    (given accepted 6
    (given (is_in_span h) 7
    (given (test c h ds os e) n
    (turning accepted c h ds os e))))))

-- 8 judged before 12
abbrev pub force_first : Turning
force_first = count_also (λ c h ds os e. covers c (instant_of c.scale ds os h)) 8

-- 17 of a time later than the reference
abbrev pub later_than_reference : Turning
later_than_reference = count_also (λ c h ds os e. le_z (instant_of c.scale ds os h) (time c (pos 0))) 17

-- 12 judged before the reference's 9
abbrev pub scale_first : Turning
scale_first = count_also (λ c h ds os e. has_image c.scale h) 12

abbrev pub count_ending : Turning
count_ending = count_also (λ c h ds os e. end_current c ds os e) 9

abbrev pub count_listed : Turning
count_listed accepted c h ds os e = outcome (listed ds os e (turning accepted c h ds os e))

-- ---- days of 86,400 s, either way: the list that is handed in put away for one with the first step alone
abbrev pub evenly : {A : Type 0} → (List ℤ → List ℕ → ℤ → A) → List ℤ → List ℕ → ℤ → A
evenly f ds os e = with_even f

-- ---- two counts handed back are not the same where their numbers differ, or their values
pub by_refusal : {x y : Valued ℕ} → (x.number ≡ y.number → ⊥) → x ≡ y → ⊥
by_refusal d e = d (ap (λ (v : Valued ℕ). v.number) e)

pub by_count : {x y : Valued ℕ} → (x.value ≡ y.value → ⊥) → x ≡ y → ⊥
by_count d e = d (ap (λ (v : Valued ℕ). v.value) e)
