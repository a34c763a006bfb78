-- What a handed time that was taken apart tells: what the crates above cite. Assumes nothing.
use Rattle.std.specs.Prelude.{◌≡◌, refl, Bool, true, false, cond, ℕ, ◌≤◌, ◌<◌, ℤ, Result, Ok, Err}
use Rattle.std.proofs.Common.{sym, ap, ap₂, subst, ◌∙◌, arith}
use Rattle.std.proofs.lemmas.Bool.{false≢true}
use Rattle.std.specs.Float.{nan, inf, fin}
use Rattle.axis.specs.Meaning.{place_of_day, Moment}
use Rattle.axis.specs.Axis.{day_place}
use Rattle.scales.specs.Meaning.{bound, in_span, Judged, given, refused, answer, outcome, number_of, dated, moment_at, time_scale, time_count, time_at, record_of, record_at}
use Rattle.scales.specs.Place.{first_at, apart, Placed, placed, day_part, micro_part, count_of}
use Rattle.scales.specs.Same.{time_scale_lem, time_count_lem}
use Rattle.scales.specs.declared.Scale.{Scale}
use Rattle.scales.specs.declared.Time.{Time}
use Rattle.double.specs.Meaning.{exact_of}
use Rattle.handed.specs.declared.Handed.{Handed}
use Rattle.handed.specs.declared.Handed.TheVariants as H
use Rattle.handed.specs.Signs.{place_from, place_to, day_at_lem, micro_at}
use Rattle.handed.specs.declared.Untaken.{Untaken}
use Rattle.handed.specs.declared.Untaken.TheVariants as K
use Rattle.handed.specs.Meaning.{scale_of, is_finite, is_in_span, day_of, micro_of, taken_of, Kept, Took, taken_slip, taking, refused_by, refusal_by}

-- Any two answers that the contract of `take` allows are equal.
pub took_one : (h : Handed) (s t : Result Time Untaken) → Took h s → Took h t → s ≡ t
took_one h s t a b = a.is ∙ sym b.is

abbrev pub count_in : Handed → ℕ
count_in h = count_of (scale_of h) (day_of h) (micro_of h)

-- ---- a handed time in its span is well on the axis, also where it was rounded up to the end of the last day
pub record Loose (s : Scale) (d : ℤ) (u : ℕ) : Type 0 where
  pub from : first_at s ≤ place_of_day d
  pub to : place_of_day d ≤ 76525
  pub under : u < bound s

pub loose : (h : Handed) → is_finite h ≡ true → is_in_span h ≡ true → Loose (scale_of h) (day_of h) (micro_of h)
loose (H.Record r) e f =
    let p = placed r.scale r.day r.micro f in
    record { from = p.from; to = omega (arith, p.to, (apart r.scale).to); under = p.under }
loose (H.Decimal nan s) e f = absurd (false≢true e)
loose (H.Decimal (inf t) s) e f = absurd (false≢true e)
loose (H.Decimal (fin t m e) s) g f =
    let v = exact_of (fin t m e) in
    let d = day_at_lem s v f in
    let u = micro_at s v f in
    record { from = omega (arith, place_from s v f); to = omega (arith, place_to s v f); under = omega (arith, (apart s).whole) }

pub moment_is : (s : Scale) (d : ℤ) (u : ℕ) → Loose s d u → moment_at s (count_of s d u) ≡ record { day = d; micro = u }
moment_is s d u l =
    let h : 0 < place_of_day d = omega (arith, l.from, (apart s).from) in
    let k : place_of_day d < 100000 = omega (arith, l.to) in
    rw (day_part (bound s) (place_of_day d) u l.under, micro_part (bound s) (place_of_day d) u l.under, day_place d h k)

-- whether the time at a count lies in its span, and whether the day and the microsecond do, is one question
pub kept_is : (s : Scale) (d : ℤ) (u : ℕ) → Loose s d u → let t = time_at s (count_of s d u) in
    in_span (time_scale t) (moment_at (time_scale t) (time_count t)).day (moment_at (time_scale t) (time_count t)).micro ≡ in_span s d u
kept_is s d u l =
    ap₂ (λ (x : Scale) (n : ℕ). in_span x (moment_at x n).day (moment_at x n).micro) (time_scale_lem s (count_of s d u)) (time_count_lem s (count_of s d u))
    ∙ ap (λ (m : Moment). in_span s m.day m.micro) (moment_is s d u l)

-- ---- what each answer tells
pub record Told (h : Handed) (t : Time) : Type 0 where
  pub finite : is_finite h ≡ true
  pub inside : is_in_span h ≡ true
  pub is : t ≡ time_at (scale_of h) (count_in h)
  pub kept : in_span (scale_of h) (day_of h) (micro_of h) ≡ true

abbrev Tells : Handed → Result Time Untaken → Type 0
Tells h (Err (K.NotFinite s)) = (is_finite h ≡ false) × (s ≡ scale_of h)
Tells h (Err (K.Outside s)) = (is_finite h ≡ true) × (is_in_span h ≡ false) × (s ≡ scale_of h)
Tells h (Ok t) = Told h t

tells : (h : Handed) (t : Result Time Untaken) → Took h t → Tells h t
unfolding taken_of
tells h t w = subst (Tells h) (sym w.is) (go (is_finite h) refl (is_in_span h) refl (subst Kept w.is w.kept))
  where
    go : (a : Bool) → is_finite h ≡ a → (b : Bool) → is_in_span h ≡ b →
        Kept (cond a (cond b (Ok (time_at (scale_of h) (count_in h))) (Err (K.Outside (scale_of h)))) (Err (K.NotFinite (scale_of h)))) →
        Tells h (cond a (cond b (Ok (time_at (scale_of h) (count_in h))) (Err (K.Outside (scale_of h)))) (Err (K.NotFinite (scale_of h))))
    go false p b q k = (p, refl)
    go true p false q k = (p, q, refl)
    go true p true q k =
        record { finite = p; inside = q; is = refl; kept = sym (kept_is (scale_of h) (day_of h) (micro_of h) (loose h p q)) ∙ k }

module _ (h : Handed) (t : Result Time Untaken) (w : Took h t) where
  pub told_nothing : (s : Scale) → t ≡ Err (K.NotFinite s) → (is_finite h ≡ false) × (s ≡ scale_of h)
  told_nothing s e = subst (Tells h) e (tells h t w)

  pub told_outside : (s : Scale) → t ≡ Err (K.Outside s) → (is_finite h ≡ true) × (is_in_span h ≡ false) × (s ≡ scale_of h)
  told_outside s e = subst (Tells h) e (tells h t w)

  pub told_at : (n : Time) → t ≡ Ok n → Told h n
  told_at n e = subst (Tells h) e (tells h t w)

  -- what is not taken is refused so by every chain that judges the two first
  pub untaken_lem : (e : Untaken) → t ≡ Err e → {A : Type 0} (rest : Judged A) → outcome (given (is_finite h) 4 (given (is_in_span h) 7 rest)) ≡ refused (number_of (refusal_by e))
  untaken_lem (K.NotFinite s) q rest = rw (told_nothing s q).0
  untaken_lem (K.Outside s) q rest = let k = told_outside s q in rw (k.0, k.1)

  pub untaken_scale : (e : Untaken) → t ≡ Err e → (refused_by e).scale ≡ scale_of h
  untaken_scale (K.NotFinite s) q = (told_nothing s q).1
  untaken_scale (K.Outside s) q = (told_outside s q).2

-- with its scale or without, the refusal is the same
pub refused_refusal : (e : Untaken) → (refused_by e).refusal ≡ refusal_by e
refused_refusal (K.NotFinite s) = refl
refused_refusal (K.Outside s) = refl

-- ---- a time that was taken: its place on the axis, its scale, its count and its record
module _ (h : Handed) (t : Time) (w : Told h t) where
  pub handed_placed : Placed (scale_of h) (day_of h) (micro_of h)
  handed_placed = placed (scale_of h) (day_of h) (micro_of h) w.kept

  pub told_scale : time_scale t ≡ scale_of h
  told_scale = ap time_scale w.is ∙ time_scale_lem (scale_of h) (count_in h)

  pub told_count : time_count t ≡ count_in h
  told_count = ap time_count w.is ∙ time_count_lem (scale_of h) (count_in h)

  pub told_moment : moment_at (time_scale t) (time_count t) ≡ record { day = day_of h; micro = micro_of h }
  told_moment =
      ap₂ moment_at told_scale told_count ∙ moment_is (scale_of h) (day_of h) (micro_of h) (loose h w.finite w.inside)

  pub told_record : record_at (time_scale t) (time_count t) ≡ record_of (scale_of h) (day_of h) (micro_of h)
  told_record = ap₂ (λ (s : Scale) (m : Moment). record_of s m.day m.micro) told_scale told_moment

-- the number and the values of what was taken are those of the chain that judges it
pub taken_is : (h : Handed) (t : Result Time Untaken) → Took h t → taken_slip t ≡ dated (scale_of h) (outcome (taking h))
taken_is h (Err (K.NotFinite z)) w = let x = told_nothing h (Err (K.NotFinite z)) w z refl in rw (x.0, x.1)
taken_is h (Err (K.Outside z)) w = let x = told_outside h (Err (K.Outside z)) w z refl in rw (x.0, x.1, x.2)
taken_is h (Ok t) w =
    let x = told_at h (Ok t) w t refl in
    rw (x.finite, x.inside) (ap₂ (λ (s : Scale) (m : Moment). dated s (answer m)) (told_scale h t x) (told_moment h t x))
