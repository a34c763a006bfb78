-- What a typed count tells, over the scale: from a constructor's count to its slip, and from a slip back. Assumes nothing.
use Rattle.std.specs.Prelude.{◌≡◌, refl, Bool, true, false, cond, ℕ, ◌+◌, ◌*◌, ◌≤◌, ◌<◌, ℤ, Ok, Err}
use Rattle.std.proofs.Common.{sym, ap, ap₂, subst, ◌∙◌, mul-le-mul, arith}
use Rattle.axis.specs.Meaning.{is_between, place_of_day, Moment}
use Rattle.axis.specs.Shift.{place_top}
use Rattle.scales.specs.Meaning.{first, last, bound, in_span, answer, dated, moment_at, time_slip, spanned, time_scale, time_count, time_at, slip_timed, refused_of}
use Rattle.scales.specs.Place.{apart, out_days, out_over, in_days, count_of, moment_of_lem, count_inj, fit_of, spanned_in, spanned_out}
use Rattle.scales.specs.Same.{no_zero, refusals, time_is, time_scale_lem, time_count_lem}
use Rattle.scales.specs.declared.Scale.{Scale}
use Rattle.scales.specs.declared.Refusal.{Refusal}
use Rattle.scales.specs.declared.Refusal.TheVariants as R
use Rattle.scales.specs.declared.Time.{Time}
use Rattle.scales.specs.declared.Refused.{Refused}

-- ---- the ways out of the one test of a span: b is the scale's bound, p the day's place
module _ (s : Scale) (d : ℤ) (u b : ℕ) (q : b ≡ bound s) where
  pub count_days : is_between (first s) d (last s) ≡ false → Err (refused_of s R.OutsideSpan) ≡ fit_of s d u
  count_days e = rw (out_days s d u e)

  pub count_over_lem : b ≤ u → Err (refused_of s R.OutsideSpan) ≡ fit_of s d u
  count_over_lem h = rw (out_over s d u (omega arith))

  module _ (p : ℕ) (e : p ≡ place_of_day d) (h : u < b) where
    -- the product and the sum fit with much to spare
    pub count_fits : p * b + u < 8640200000000000
    count_fits =
        let m : b ≤ 86401000000 = omega (arith, (apart s).most) in
        let k : p ≤ 100000 = omega (arith, place_top 40000 100000 d) in
        omega (arith, mul-le-mul {n₂ = 100000} {m₂ = 86401000000} k m)

    pub count_within : is_between (first s) d (last s) ≡ true → Ok (p * b + u) ≡ fit_of s d u
    count_within f = rw (e, q) (rw (in_days s d u f (subst (λ (x : ℕ). u < x) q h)))

module _ (s : Scale) (d : ℤ) (u : ℕ) where
  -- ---- what a count tells, and its slip
  at_by : (t : Bool) → in_span s d u ≡ t → (n : ℕ) → cond t (Ok (count_of s d u)) (Err (refused_of s R.OutsideSpan)) ≡ Ok n → (in_span s d u ≡ true) × (n ≡ count_of s d u)
  at_by true e n f = (e, cc)
  at_by false e n f = absurd (let z : ◌≡◌ {A = ℕ} 0 1 = cc in omega arith)

  out_by : (t : Bool) → in_span s d u ≡ t → (x : Refused) → cond t (Ok (count_of s d u)) (Err (refused_of s R.OutsideSpan)) ≡ Err x →
      (in_span s d u ≡ false) × (x ≡ refused_of s R.OutsideSpan)
  out_by true e x f = absurd (let z : ◌≡◌ {A = ℕ} 0 1 = cc in omega arith)
  out_by false e x f = (e, cc)

  pub fit_at : (n : ℕ) → fit_of s d u ≡ Ok n → (in_span s d u ≡ true) × (n ≡ count_of s d u)
  fit_at n e = at_by (in_span s d u) refl n e

  pub fit_out : (x : Refused) → fit_of s d u ≡ Err x → (in_span s d u ≡ false) × (x ≡ refused_of s R.OutsideSpan)
  fit_out x e = out_by (in_span s d u) refl x e

  pub count_at_lem : (n : ℕ) → fit_of s d u ≡ Ok n → time_slip s (Ok n) ≡ spanned s d u
  count_at_lem n e =
      let k = fit_at n e in
      ap (λ (m : Moment). dated s (answer m)) (ap (moment_at s) k.1 ∙ moment_of_lem s d u k.0) ∙ sym (spanned_in s d u k.0)

  pub count_out_lem : (x : Refused) → fit_of s d u ≡ Err x → time_slip s (Err x.refusal) ≡ spanned s d u
  count_out_lem x e =
      let k = fit_out x e in
      ap (λ (y : Refused). time_slip s (Err y.refusal)) k.1 ∙ sym (spanned_out s d u k.0)

  -- ---- from the slip of a constructor: the test and the count, or the test and the refusal
  typed_by : (t : Bool) → in_span s d u ≡ t → (n : ℕ) → time_slip s (Ok n) ≡ spanned s d u → (in_span s d u ≡ true) × (n ≡ count_of s d u)
  typed_by true e n f =
      let g = f ∙ spanned_in s d u e in
      (e, count_inj s n (count_of s d u) ((λ i. record { day = (g i).day; micro = (g i).micro }) ∙ sym (moment_of_lem s d u e)))
  typed_by false e n f = absurd (let g = f ∙ spanned_out s d u e in let z : ◌≡◌ {A = ℕ} 0 7 = λ i. (g i).number in omega arith)

  pub typed_at : (n : ℕ) → time_slip s (Ok n) ≡ spanned s d u → (in_span s d u ≡ true) × (n ≡ count_of s d u)
  typed_at n e = typed_by (in_span s d u) refl n e

  no_by : (t : Bool) → in_span s d u ≡ t → (f : Refusal) → time_slip s (Err f) ≡ spanned s d u → (in_span s d u ≡ false) × (f ≡ R.OutsideSpan)
  no_by true e f g = absurd (no_zero f (λ i. ((g ∙ spanned_in s d u e) i).number))
  no_by false e f g = (e, refusals f R.OutsideSpan (λ i. ((g ∙ spanned_out s d u e) i).number))

  pub typed_no : (f : Refusal) → time_slip s (Err f) ≡ spanned s d u → (in_span s d u ≡ false) × (f ≡ R.OutsideSpan)
  typed_no f e = no_by (in_span s d u) refl f e

-- ---- the same of a time whose scale is a value
pub timed_count : (s : Scale) (n : ℕ) → slip_timed (Ok (time_at s n)) ≡ time_slip s (Ok n)
timed_count s n = ap₂ (λ (x : Scale) (m : ℕ). time_slip x (Ok m)) (time_scale_lem s n) (time_count_lem s n)

module _ (s : Scale) (d : ℤ) (u : ℕ) where
  spanned_scale : (t : Bool) → in_span s d u ≡ t → (spanned s d u).scale ≡ s
  spanned_scale true e = λ i. (spanned_in s d u e i).scale
  spanned_scale false e = λ i. (spanned_out s d u e i).scale

  pub timed_at : (t : Time) → slip_timed (Ok t) ≡ spanned s d u → (in_span s d u ≡ true) × (t ≡ time_at s (count_of s d u))
  timed_at t e =
      let k : time_scale t ≡ s = (λ i. (e i).scale) ∙ spanned_scale (in_span s d u) refl in
      let q = typed_at s d u (time_count t) (ap (λ (x : Scale). time_slip x (Ok (time_count t))) (sym k) ∙ e) in
      (q.0, sym (time_is t) ∙ ap₂ time_at k q.1)

  pub timed_no : (f : Refusal) (r : Scale) → slip_timed (Err (refused_of r f)) ≡ spanned s d u → (in_span s d u ≡ false) × ((f ≡ R.OutsideSpan) × (r ≡ s))
  timed_no f r e =
      let k : r ≡ s = (λ i. (e i).scale) ∙ spanned_scale (in_span s d u) refl in
      let q = typed_no s d u f (ap (λ (x : Scale). time_slip x (Err f)) (sym k) ∙ e) in
      (q.0, (q.1, k))
