-- The ways out of the private functions that test a span, and what a receipt tells that is in its span. Assumes nothing.
use Rattle.std.proofs.Common.{◌≡◌, sym, ◌∙◌, ◌/◌, ◌%◌, ◌<◌, true, List, ℕ, ℤ, ap, Result, Ok, Err, Some, None, arith, lt-ltb}
use Rattle.std.specs.Result.{result_ok}
use Rattle.axis.specs.Meaning.{day_at, Moment}
use Rattle.scales.specs.Meaning.{in_span, spanned, slip_timed, slip_utc, slip, dated, refused, outcome, moment_at, record_of}
use Rattle.scales.specs.Counts.{timed_at, timed_no, typed_at}
use Rattle.scales.specs.Place.{spanned_in}
use Rattle.scales.specs.declared.Scale.{Scale}
use Rattle.scales.specs.declared.Scale.TheVariants as S
use Rattle.scales.specs.declared.Refusal.{Refusal}
use Rattle.scales.specs.declared.Tai.{Tai}
use Rattle.scales.specs.declared.Utc.{Utc}
use Rattle.scales.specs.declared.Time.{Time}
use Rattle.scales.specs.declared.Refused.{Refused}
use Rattle.via_tai.specs.Meaning.{from_utc, of_count}
use Rattle.via_tai.specs.Ways.{Left, counted}
use Rattle.clock.specs.Stage.{spot, place_in, result_at, placing, left_placing}

no_some : {A : Type 0} {x : A} → Some x ≡ None → ⊥
no_some e = let z : ◌≡◌ {A = ℕ} 0 1 = cc in omega arith

module _ (s : Scale) (d : ℤ) (u : ℕ) where
  pub place_found : u < 86400000000 → (r : Result Time Refused) → slip_timed r ≡ spanned s d u → (t : Time) → result_ok r ≡ Some t → Some (spot d u) ≡ place_in s d u
  place_found h (Ok x) e t f = rw ((timed_at s d u x e).0, lt-ltb u 86400000000 h)
  place_found h (Err x) e t f = absurd (no_some (sym f))

  pub place_none : (r : Result Time Refused) → slip_timed r ≡ spanned s d u → result_ok r ≡ None → None ≡ place_in s d u
  place_none (Ok x) e f = absurd (no_some f)
  place_none (Err x) e f = rw (timed_no s d u x.refusal x.scale e).0

module _ (s : Scale) (m : ℕ) where
  pub result_found : (t : Time) → slip_timed (Ok t) ≡ spanned s (day_at (m / 86400000000)) (m % 86400000000) →
      slip (Ok (record_of s (day_at (m / 86400000000)) (m % 86400000000))) ≡ result_at s m
  result_found t e = rw (timed_at s (day_at (m / 86400000000)) (m % 86400000000) t e).0

  pub result_out : (x : Refused) → slip_timed (Err x) ≡ spanned s (day_at (m / 86400000000)) (m % 86400000000) → dated s (refused 11) ≡ result_at s m
  result_out x e = rw (timed_no s (day_at (m / 86400000000)) (m % 86400000000) x.refusal x.scale e).0

-- ---- a UTC receipt that is in its span, and its place in TAI
module _ (d : ℤ) (u : ℕ) (t : Utc) (s : slip_utc (Ok t) ≡ spanned S.Utc d u) where
  pub received : in_span S.Utc d u ≡ true
  received = (typed_at S.Utc d u t.0 s).0

  pub receipt_at : (ds : List ℤ) (os : List ℕ) (e : ℤ) (r x : Result Tai Refusal) → Left (of_count S.Utc t.0 (from_utc ds os e)) r → r ≡ x →
      counted x ≡ outcome (placing (record { day = d; micro = u }) ds os e)
  receipt_at ds os e r x w q =
      let f = s ∙ spanned_in S.Utc d u received in
      let m : ◌≡◌ {A = Moment} (moment_at S.Utc t.0) (record { day = d; micro = u }) = λ i. record { day = (f i).day; micro = (f i).micro } in
      ap counted (sym q)
      ∙ left_placing (record { day = d; micro = u }) ds os e r t.0 (ap (λ (y : Moment). in_span S.Utc y.day y.micro) m ∙ received) m w
