-- A handed time as the writers take it: a number of microseconds, or 4, 7, 12. Assumes nothing.
use Rattle.std.specs.Prelude.{◌≡◌, refl, Bool, true, false, ◌&&◌, ℕ, Result, Ok, Err}
use Rattle.std.proofs.Common.{sym, ap, subst, ◌∙◌, eq-eqb, ne_eqb}
use Rattle.scales.specs.Meaning.{code_of, same_scale, Judged, given, gives, and_then, outcome, number_of, time_scale, time_count, valued, value_slip}
use Rattle.scales.specs.Order.{Answers, next, last, is_answers}
use Rattle.scales.specs.Place.{count_of}
use Rattle.scales.specs.Same.{scales_same, same_scale_lem}
use Rattle.scales.specs.declared.Scale.{Scale}
use Rattle.scales.specs.declared.Refusal.{Refusal}
use Rattle.scales.specs.declared.Refusal.TheVariants as R
use Rattle.scales.specs.declared.Time.{Time}
use Rattle.handed.specs.declared.Handed.{Handed}
use Rattle.handed.specs.Told.{Loose, loose, Told, untaken_lem, told_scale, told_count}
use Rattle.handed.specs.declared.Untaken.{Untaken}
use Rattle.handed.specs.declared.Untaken.TheVariants as K
use Rattle.handed.specs.Meaning.{scale_of, is_finite, is_in_span, day_of, micro_of, Took, refusal_by}
use Rattle.layout_times.specs.Chain.{then_refused, told_answer, told_refused}
use Rattle.layout_times.specs.Meaning.{micros_from}
use Rattle.layout_times.specs.Cryosat as Cryosat
use Rattle.layout_times.specs.Proteus as Proteus

-- m microseconds where the handed time has an image
abbrev pub taking : Handed → Bool → ℕ → Judged ℕ
taking h has m =
    given (is_finite h) 4
    (given (is_in_span h) 7
    (given has 12
    (gives m)))

-- the count where a time of scale s is due
abbrev pub due_in : Scale → Handed → Judged ℕ
due_in s h = taking h (same_scale s (scale_of h)) (count_of s (day_of h) (micro_of h))

-- the microseconds since day 0 that CryoSat and SIRAL write, and those since day -7300 that Proteus writes
abbrev pub since2000 : Handed → Judged ℕ
since2000 h = taking h (Cryosat.has_image (scale_of h) (day_of h)) (micros_from Cryosat.epoch (day_of h) (micro_of h))

abbrev pub since1980 : Handed → Judged ℕ
since1980 h = taking h (Proteus.has_image (scale_of h) (day_of h) (micro_of h)) (micros_from Proteus.epoch (day_of h) (micro_of h))

-- ---- from what `take` answers
module _ (s : Scale) (h : Handed) where
  pub due_untaken : (t : Result Time Untaken) → Took h t → (e : Untaken) → t ≡ Err e → value_slip 0 (Err (refusal_by e)) ≡ valued 0 (outcome (due_in s h))
  due_untaken t w e q =
      ap (valued 0) (sym (untaken_lem h t w e q (given (same_scale s (scale_of h)) 12 (gives (count_of s (day_of h) (micro_of h))))))

  module _ (t : Result Time Untaken) (w : Took h t) (x : Scale) where
    pub due_nothing : t ≡ Err (K.NotFinite x) → value_slip 0 (Err R.DecimalNotFinite) ≡ valued 0 (outcome (due_in s h))
    due_nothing e = due_untaken t w (K.NotFinite x) e

    pub due_outside : t ≡ Err (K.Outside x) → value_slip 0 (Err R.OutsideSpan) ≡ valued 0 (outcome (due_in s h))
    due_outside e = due_untaken t w (K.Outside x) e

  module _ (t : Time) (w : Told h t) where
    pub due_other : (time_scale t ≡ s → ⊥) → value_slip 0 (Err R.NoImage) ≡ valued 0 (outcome (due_in s h))
    due_other n =
        rw (w.finite, w.inside, ne_eqb (code_of s) (code_of (scale_of h)) (λ e. n (told_scale h t w ∙ scales_same (scale_of h) s (sym e))))

    pub due_at : time_scale t ≡ s → value_slip 0 (Ok (time_count t)) ≡ valued 0 (outcome (due_in s h))
    due_at e =
        let q = sym (told_scale h t w) ∙ e in
        rw (w.finite, w.inside, eq-eqb (code_of s) (code_of (scale_of h)) (ap code_of (sym q)), told_count h t w, q)

    pub due_at_code : code_of (time_scale t) ≡ code_of s → value_slip 0 (Ok (time_count t)) ≡ valued 0 (outcome (due_in s h))
    due_at_code e = due_at (scales_same (time_scale t) s e)

-- ---- what a number that was taken tells
pub record Held (h : Handed) (has : Bool) (m n : ℕ) : Type 0 where
  pub finite : is_finite h ≡ true
  pub inside : is_in_span h ≡ true
  pub image : has ≡ true
  pub is : n ≡ m
  pub place : Loose (scale_of h) (day_of h) (micro_of h)

module _ (h : Handed) (has : Bool) (m : ℕ) where
  from_answer : {n : ℕ} → Answers (taking h has m) n → Held h has m n
  from_answer (next e (next k (next l last))) = record { finite = e; inside = k; image = l; is = refl; place = loose h e k }

  pub held : (n : ℕ) → value_slip 0 (Ok n) ≡ valued 0 (outcome (taking h has m)) → Held h has m n
  held n e = from_answer (is_answers (taking h has m) n (told_answer 0 (taking h has m) refl n e))

module _ (s : Scale) (h : Handed) where
  abbrev pub HeldIn : ℕ → Type 0
  HeldIn n = Held h (same_scale s (scale_of h)) (count_of s (day_of h) (micro_of h)) n

  pub held_in : (n : ℕ) → value_slip 0 (Ok n) ≡ valued 0 (outcome (due_in s h)) → HeldIn n
  held_in n e = held h (same_scale s (scale_of h)) (count_of s (day_of h) (micro_of h)) n e

  pub place_in_lem : {n : ℕ} → HeldIn n → Loose s (day_of h) (micro_of h)
  place_in_lem d =
      subst (λ (t : Scale). Loose t (day_of h) (micro_of h))
      (sym (same_scale_lem s (scale_of h) d.image)) d.place

  -- ---- a further test of the count, which refuses with 12 too
  module _ (m : ℕ) where
    both : (a b : Bool) (c : ℕ) → outcome (and_then (taking h a c) (λ (n : ℕ). given b 12 (gives m))) ≡ outcome (taking h (a && b) m)
    both true b c = refl
    both false b c = refl

    module _ (b : Bool) where
      pub still_no : (f : Refusal) → value_slip 0 (Err f) ≡ valued 0 (outcome (due_in s h)) → value_slip 0 (Err f) ≡ valued 0 (outcome (taking h (same_scale s (scale_of h) && b) m))
      still_no f e =
          ap (valued 0)
          (sym (then_refused (λ (n : ℕ). given b 12 (gives m)) (due_in s h) (number_of f) (told_refused 0 (due_in s h) f e))
          ∙ both (same_scale s (scale_of h)) b (count_of s (day_of h) (micro_of h)))

      module _ {n : ℕ} (d : HeldIn n) where
        pub now_no : b ≡ false → value_slip 0 (Err R.NoImage) ≡ valued 0 (outcome (taking h (same_scale s (scale_of h) && b) m))
        now_no e = rw (d.finite, d.inside, d.image, e)

        pub now_at : b ≡ true → {k : ℕ} → k ≡ m → value_slip 0 (Ok k) ≡ valued 0 (outcome (taking h (same_scale s (scale_of h) && b) m))
        now_at e q = rw (d.finite, d.inside, d.image, e, q)
