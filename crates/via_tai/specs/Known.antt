-- A UTC time that is known: of the span, on a day that is not expired, in a second that its day has. Its TAI is not expired either, nor is
-- what is not later, and it leads back. Assumes nothing.
use Rattle.std.specs.Prelude.{◌≡◌, true, false, List, ℕ, ◌+◌, ◌<◌, ◌≤◌, ℤ}
use Rattle.std.proofs.Common.{sym, ap, ◌∙◌, arith, leb-true, le-leb}
use Rattle.std.specs.Int.Signed.{le_z}
use Rattle.std.proofs.lemmas.Bool.{lt-leb}
use Rattle.axis.specs.Meaning.{place_of_day, day_at, micros_at, Moment}
use Rattle.axis.specs.Axis.{day_place, day_to, micros_le}
use Rattle.axis.specs.Diff.{le_not}
use Rattle.leap.specs.Meaning.{accepted, tai_of, has_micro, is_expired_day, is_expired_tai, utc_of}
use Rattle.leap.specs.Places.{tai_at_lem}
use Rattle.leap.specs.Steps.{steps}
use Rattle.leap.specs.Back.{Real, back}
use Rattle.leap.specs.Whole.{tai_at, known_before}
use Rattle.via_tai.specs.Ways.{has_sixty, expires}

-- a day that is not expired is not after E
pub day_by_lem : (ds : List ℤ) (os : List ℕ) (e : ℤ) → accepted ds os e ≡ true → (d : ℤ) → is_expired_day e d ≡ false → place_of_day d ≤ place_of_day e
day_by_lem ds os e w d h =
    let s = steps ds os e w in
    leb-true (place_of_day d) (place_of_day e) (sym (day_to (place_of_day e) d (omega (arith, s.to))) ∙ ap (le_z d) s.day ∙ le_not d e ∙ rw h)

module _ (ds : List ℤ) (os : List ℕ) (e : ℤ) (w : accepted ds os e ≡ true) (d : ℤ) (u : ℕ) (from : 29773 ≤ place_of_day d) (h : is_expired_day e d ≡ false)
    (under : u < 86401000000) (second : has_micro ds d u ≡ true) where
  by : place_of_day d ≤ place_of_day e
  by = day_by_lem ds os e w d h

  day : day_at (place_of_day d) ≡ d
  day = day_place d (omega (arith, from)) (omega (arith, by, (steps ds os e w).to))

  real : Real ds (place_of_day d) u
  real =
      record {
        from = from;
        under = under;
        has = λ l. has_sixty ds (place_of_day d) u l ∙ ap (λ (z : ℤ). has_micro ds z u) day ∙ second;
      }

  tai_is : tai_of ds os d u ≡ micros_at (tai_at ds os (place_of_day d) u)
  tai_is = ap (λ (z : ℤ). tai_of ds os z u) (sym day) ∙ tai_at_lem ds os (place_of_day d) u

  -- a TAI count that is not later
  pub current_to : (n : ℕ) → le_z (micros_at n) (tai_of ds os d u) ≡ true → is_expired_tai ds os e (micros_at n) ≡ false
  current_to n q =
      let c = tai_at ds os (place_of_day d) u in
      let l = leb-true n c (sym (ap (le_z (micros_at n)) tai_is ∙ micros_le n c) ∙ q) in
      expires ds os e w n
      ∙ lt-leb (tai_at ds os (place_of_day e + 1) 0) n (omega (arith, l, known_before ds os e w (place_of_day d) u real by))

  pub tai_current : is_expired_tai ds os e (tai_of ds os d u) ≡ false
  tai_current =
      let c = tai_at ds os (place_of_day d) u in
      ap (is_expired_tai ds os e) tai_is ∙ current_to c (ap (le_z (micros_at c)) tai_is ∙ micros_le c c ∙ le-leb c c (omega arith))

  pub utc_back : utc_of ds os (tai_of ds os d u) ≡ record { day = d; micro = u }
  utc_back =
      ap (utc_of ds os) tai_is ∙ back (steps ds os e w).grown (place_of_day d) u real ∙ ap {B = Moment} (λ (z : ℤ). record { day = z; micro = u }) day
