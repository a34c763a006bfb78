-- A correlated counter, in the paper's signed numbers: the elapsed count, time(k), when its correlation is in force, the date of a count
-- and the count of a time. SBT's ticks and GOCE's counts are two of its kind. A list is its steps' days ds, its offsets os and its last
-- day e. Assumes nothing.
use Rattle.std.specs.Prelude.{Bool, true, cond, not, ◌&&◌, ◌||◌, List, ℕ, zero, suc, ◌+◌, ◌*◌, ℤ, pos, neg_ℤ, ◌+ℤ◌, ◌*ℤ◌}
use Rattle.std.proofs.Math.IntN.{sub_ℕ}
use Rattle.std.specs.Int.Signed.{le_z}
use Rattle.axis.specs.Meaning.{floor_z, mod_z, Moment, since, moment_of}
use Rattle.scales.specs.Meaning.{in_span, Judged, given, gives, same_scale, resulting}
use Rattle.scales.specs.declared.Scale.{Scale}
use Rattle.scales.specs.declared.Mark.{Mark}
use Rattle.scales.specs.declared.Mark.TheVariants as M
use Rattle.handed.specs.declared.Handed.{Handed}
use Rattle.handed.specs.Meaning.{scale_of, is_finite, is_in_span, day_of, micro_of}
use Rattle.leap.specs.Meaning as Leap
use Rattle.via_tai.specs.Meaning.{is_utc}

-- a counter from 0 to 2 * half - 1 and its correlation: at the reference count, on a day of the scale, the clock stands at start / per
-- microseconds of its axis, with each count it gains gain / per, and it may be relied on from back counts before to ahead counts after
pub record Clock : Type 0 where
  pub scale : Scale
  pub half : ℕ
  pub reference : ℕ
  pub day : ℤ
  pub start : ℤ
  pub gain : ℕ
  pub per : ℕ
  pub back : ℕ
  pub ahead : ℕ

-- ---- a clock's axis. "For UTC correlations .. reference, receipt and window are now taken to TAI with the leap list, the elapsed time is
-- added there, and the result is brought back to UTC": it counts TAI there. Under a TAI or GPS correlation it counts the microseconds
-- since day 0 of that scale, every day having 86,400 s
abbrev pub instant : Scale → List ℤ → List ℕ → ℤ → ℕ → ℤ
instant s ds os d u = cond (is_utc s) (Leap.tai_of ds os d u) (since d u)

abbrev pub moment_after : Scale → List ℤ → List ℕ → ℤ → Moment
moment_after s ds os z = cond (is_utc s) (Leap.utc_of ds os z) (moment_of z)

-- ---- what a list is asked: "5, 9 and 10 now apply to UTC correlations"
abbrev pub list_serves : Scale → List ℤ → List ℕ → ℤ → Bool
list_serves s ds os e = not (is_utc s) || Leap.accepted ds os e

-- a day that is not expired, and an instant that is not
abbrev pub is_current : Scale → ℤ → ℤ → Bool
is_current s e d = not (is_utc s) || not (Leap.is_expired_day e d)

abbrev pub is_current_at : Scale → List ℤ → List ℕ → ℤ → ℤ → Bool
is_current_at s ds os e z = not (is_utc s) || not (Leap.is_expired_tai ds os e z)

-- a second that its day has
abbrev pub has_second : Scale → List ℤ → ℤ → ℕ → Bool
has_second s ds d u = not (is_utc s) || Leap.has_micro ds d u

-- what has a TAI time
abbrev pub is_known : Scale → List ℤ → ℤ → ℤ → ℕ → Bool
is_known s ds e d u = is_current s e d && has_second s ds d u

-- ---- "the number from -2^31 to 2^31 - 1 that equals tick minus reference tick modulo 2^32", for any half of the modulus
abbrev pub elapsed : Clock → ℕ → ℤ
elapsed c t = sub_ℕ (mod_z (sub_ℕ (t + c.half) c.reference) (2 * c.half)) c.half

-- ---- a clock that starts at r / d and gains n / d with each count: what it shows at count k, rounded down
unfoldable pub clock : ℤ → ℕ → ℕ → ℤ → ℤ
clock r n d k = floor_z (r +ℤ k *ℤ pos n) d

abbrev pub time : Clock → ℤ → ℤ
time c k = clock c.start c.gain c.per k

-- ---- "in force when k is from -b to a and the receipt is from time(-b) to time(a)"
unfoldable pub in_window : Clock → ℤ → Bool
in_window c k = le_z (neg_ℤ (pos c.back)) k && le_z k (pos c.ahead)

pub record Cover : Type 0 where
  pub from : ℤ
  pub to : ℤ

abbrev pub cover : Clock → Cover
cover c = record { from = time c (neg_ℤ (pos c.back)); to = time c (pos c.ahead) }

unfoldable pub within : Cover → ℤ → Bool
within v z = le_z v.from z && le_z z v.to

abbrev pub covers : Clock → ℤ → Bool
covers c z = within (cover c) z

-- "the rest of 8 is judged only when the reference and the receipt (or time to be turned back) both have a TAI time"
abbrev pub both_known : Clock → ℤ → ℕ → List ℤ → ℤ → Bool
both_known c d u ds e = is_current c.scale e c.day && is_known c.scale ds e d u

abbrev pub covers_time : Clock → ℤ → ℕ → List ℤ → List ℕ → ℤ → Bool
covers_time c d u ds os e = cond (both_known c d u ds e) (covers c (instant c.scale ds os d u)) true

-- "A tick outside the window is refused 8 at once"
abbrev pub in_force : Clock → ℤ → ℤ → ℕ → List ℤ → List ℕ → ℤ → Bool
in_force c k d u ds os e = in_window c k && covers_time c d u ds os e

-- ---- the time z of a count, received at microsecond u of day d: "Refuse a correlated time later than its receipt ..; under a UTC
-- correlation the two are compared in TAI, once both are known there"
abbrev pub not_later : Clock → ℤ → ℤ → ℕ → List ℤ → List ℕ → ℤ → Bool
not_later c z d u ds os e = cond (both_known c d u ds e) (le_z z (instant c.scale ds os d u)) true

-- ---- the date of count t, received at microsecond u of day d: "9 to the reference, receipt .. and result"
abbrev pub dating : Bool → Clock → ℕ → ℤ → ℕ → List ℤ → List ℕ → ℤ → Judged Moment
dating accepted c t d u ds os e =
    given (list_serves c.scale ds os e) 5
    (given accepted 6
    (given (in_span c.scale d u) 7
    (given (in_force c (elapsed c t) d u ds os e) 8
    (given (not_later c (time c (elapsed c t)) d u ds os e) 17
    (given (is_current c.scale e c.day && (is_current c.scale e d && is_current_at c.scale ds os e (time c (elapsed c t)))) 9
    (given (has_second c.scale ds d u) 10
    (resulting c.scale (moment_after c.scale ds os (time c (elapsed c t))))))))))

-- "correlated with the reference tick, for GOCE the reference count"
abbrev pub mark_of : Clock → Mark
mark_of c = M.Correlated c.reference

-- ---- back again: "the last tick of the window whose time is not later"
-- the last of lo, lo + 1, .., lo + n whose f is not later than z; lo, where no other's is
unfoldable pub latest : (ℤ → ℤ) → ℤ → ℤ → ℕ → ℤ
latest f z lo zero = lo
latest f z lo (suc n) = cond (le_z (f (lo +ℤ pos (suc n))) z) (lo +ℤ pos (suc n)) (latest f z lo n)

abbrev pub last_count : Clock → ℤ → ℤ
last_count c z = latest (time c) z (neg_ℤ (pos c.back)) (c.back + c.ahead)

-- what the counter shows k counts after the reference
abbrev pub count_at : Clock → ℤ → ℕ
count_at c k = mod_z (pos c.reference +ℤ k) (2 * c.half)

-- a time of another scale has no count
abbrev pub has_image : Scale → Handed → Bool
has_image s h = same_scale (scale_of h) s

abbrev pub instant_of : Scale → List ℤ → List ℕ → Handed → ℤ
instant_of s ds os h = instant s ds os (day_of h) (micro_of h)

-- "A time of another scale .. gets 12, and 8 is not judged for it"; "9 to the reference, .. time given (where it is UTC)"; "12 no longer
-- covers second 60 there"
abbrev pub turning : Bool → Clock → Handed → List ℤ → List ℕ → ℤ → Judged ℕ
turning accepted c h ds os e =
    given (is_finite h) 4
    (given (list_serves c.scale ds os e) 5
    (given accepted 6
    (given (is_in_span h) 7
    (given (not (has_image c.scale h) || covers_time c (day_of h) (micro_of h) ds os e) 8
    (given (is_current c.scale e c.day && (not (has_image c.scale h) || is_current c.scale e (day_of h))) 9
    (given (not (has_image c.scale h) || has_second c.scale ds (day_of h) (micro_of h)) 10
    (given (has_image c.scale h) 12
    (gives (count_at c (last_count c (instant_of c.scale ds os h)))))))))))
