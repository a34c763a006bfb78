-- What a list that extends another keeps of it, for any day and any TAI count: demand 3's pieces, for those who reckon by a list
-- otherwise than by a change. Assumes nothing.
use mathlib.Core.Path.{◌≡◌, refl, sym, ap₂, subst, ◌∙◌}
use mathlib.Core.Bool.{true, false}
use mathlib.Core.List.{List, ◌++◌}
use Prim.Native.Nat.{ℕ, ◌+◌, ◌<◌, ◌≤◌}
use native.Mathlib.Omega.{arith}
use lib.Dec.{lit<, lit≤}
use lib.IntN.{ℤ, pos, ◌+ℤ◌}
use lib.Signed.{le_z}
use borrow.Author.Tests.{leb-false}
use Rattle.axis.specs.Meaning.{place_of_day, day_at, micros_at}
use Rattle.axis.specs.Axis.{day_place}
use Rattle.leap.specs.Meaning.{accepted, all_later, Extends, offset_on, tai_of, has_micro, is_expired_day, is_expired_tai, utc_of, published_days, published_offsets, published_last}
use Rattle.leap.specs.Published.{published}
use Rattle.leap.specs.Steps.{steps}
use Rattle.leap.specs.Whole.{tai_at}
use Rattle.via_tai.specs.Ways.{expires}
use Rattle.via_tai.specs.Known.{day_by_lem, utc_back}
use Rattle.leap_laws.proofs.Computed.{earlier_days, earlier_offsets, earlier_last, earlier, step_more}
use Rattle.leap_laws.proofs.Fresh.{same_offset, day_current, same_second, count_current, same_utc}

-- list B, (cs, ps, f), extends list A, (ds, os, e), and both are accepted
pub record Follows (ds : List ℤ) (os : List ℕ) (e : ℤ) (cs : List ℤ) (ps : List ℕ) (f : ℤ) : Type 0 where
  pub old : accepted ds os e ≡ true
  pub fresh : accepted cs ps f ≡ true
  pub extends : Extends ds os e cs ps f

-- of a day that is not expired under A, and of a TAI count that is not
pub record Kept (ds : List ℤ) (os : List ℕ) (e : ℤ) (cs : List ℤ) (ps : List ℕ) (f : ℤ) : Type 0 where
  pub current : (d : ℤ) → is_expired_day e d ≡ false → is_expired_day f d ≡ false
  pub offset : (d : ℤ) → 0 < place_of_day d → is_expired_day e d ≡ false → offset_on cs ps d ≡ offset_on ds os d
  pub second : (d : ℤ) (u : ℕ) → 0 < place_of_day d → is_expired_day e d ≡ false → has_micro cs d u ≡ has_micro ds d u
  pub instant : (c : ℕ) → is_expired_tai ds os e (micros_at c) ≡ false → is_expired_tai cs ps f (micros_at c) ≡ false
  pub utc : (c : ℕ) → is_expired_tai ds os e (micros_at c) ≡ false → utc_of cs ps (micros_at c) ≡ utc_of ds os (micros_at c)

module _ (ds : List ℤ) (os : List ℕ) (e : ℤ) (w : accepted ds os e ≡ true) (cs : List ℤ) (ps : List ℕ) (f : ℤ)
    (v : accepted (ds ++ cs) (os ++ ps) f ≡ true) (far : all_later cs (e +ℤ pos 1) ≡ true) (ends : le_z e f ≡ true) where
  -- what holds of the days at places up to E's holds of the days of the axis that are not expired
  at_places : (P : ℤ → Type 0) → ((a : ℕ) → a ≤ place_of_day e → P (day_at a)) → (d : ℤ) → 0 < place_of_day d → is_expired_day e d ≡ false → P d
  at_places P g d k h =
      let l = day_by_lem ds os e w d h in
      subst P (day_place d k (omega (arith, l, (steps ds os e w).to))) (g (place_of_day d) l)

  count_by_lem : (c : ℕ) → is_expired_tai ds os e (micros_at c) ≡ false → c < tai_at ds os (place_of_day e + 1) 0
  count_by_lem c h = leb-false (tai_at ds os (place_of_day e + 1) 0) c (sym (expires ds os e w c) ∙ h)

  core : Kept ds os e (ds ++ cs) (os ++ ps) f
  core =
      record {
        current = day_current ds os e w cs ps f v far ends;
        offset = at_places (λ (d : ℤ). offset_on (ds ++ cs) (os ++ ps) d ≡ offset_on ds os d) (λ a l. same_offset ds os e w cs ps f v far ends a (omega arith));
        second = λ d u. at_places (λ (d : ℤ). has_micro (ds ++ cs) d u ≡ has_micro ds d u) (λ a. same_second ds os e w cs ps f v far ends a u) d;
        instant = λ c h. count_current ds os e w cs ps f v far ends c (count_by_lem c h);
        utc = λ c h. same_utc ds os e w cs ps f v far ends c (count_by_lem c h);
      }

pub kept : (ds : List ℤ) (os : List ℕ) (e : ℤ) (cs : List ℤ) (ps : List ℕ) (f : ℤ) → Follows ds os e cs ps f → Kept ds os e cs ps f
kept ds os e cs ps f w =
    let x = w.extends in
    let ms = x.more_days in
    let ns = x.more_offsets in
    let v : accepted (ds ++ ms) (os ++ ns) f ≡ true = ap₂ (λ (c : List ℤ) (p : List ℕ). accepted c p f) (sym x.days) (sym x.offsets) ∙ w.fresh in
    subst (λ (c : List ℤ). Kept ds os e c ps f) (sym x.days)
    (subst (λ (p : List ℕ). Kept ds os e (ds ++ ms) p f) (sym x.offsets) (core ds os e w.old ms ns f v x.further x.ends))

-- the first 27 steps with E = 6000, and the published list
pub step_follows : Follows earlier_days earlier_offsets earlier_last published_days published_offsets published_last
step_follows = record { old = earlier; fresh = published; extends = step_more }

pub step_keeps : Kept earlier_days earlier_offsets earlier_last published_days published_offsets published_last
step_keeps = kept earlier_days earlier_offsets earlier_last published_days published_offsets published_last step_follows

-- midnight of day 6001 under the published list: its TAI, 36 s later, is day 6001, 0
pub back_instance : utc_of published_days published_offsets (tai_of published_days published_offsets (pos 6001) 0) ≡ record { day = pos 6001; micro = 0 }
back_instance = utc_back published_days published_offsets published_last published (pos 6001) 0 (lit≤ tt) refl (lit< tt) refl
