-- A handed time as a record that nothing has judged yet, and what it tells of the handed time. Assumes nothing.
use Rattle.std.specs.Prelude.{◌≡◌, refl, Bool, true, false, cond, ◌≤◌, Float, pos, Result, Ok, Err}
use Rattle.std.proofs.Common.{sym, subst, ◌∙◌, lit≤}
use Rattle.scales.specs.Meaning.{in_span, record_of, record_moment}
use Rattle.scales.specs.declared.Scale.{Scale}
use Rattle.scales.specs.declared.Scale.TheVariants as S
use Rattle.scales.specs.declared.Record.{Record}
use Rattle.scales.specs.declared.Refusal.{Refusal}
use Rattle.scales.specs.declared.Refusal.TheVariants as R
use Rattle.handed.specs.declared.Handed.{Handed}
use Rattle.handed.specs.declared.Handed.TheVariants as H
use Rattle.handed.specs.declared.inner.NotFinite.{NotFinite}
use Rattle.handed.specs.Meaning.{scale_of, is_finite, is_in_span, day_of, micro_of, moment_in}

-- the refusal of a decimal day that is not finite
abbrev pub not_laid : NotFinite → Refusal
not_laid e = R.DecimalNotFinite

-- one fixed record outside every span
abbrev pub outside_of : Scale → Record
outside_of s = record_of s (pos 60000) 0

pub outside_span_lem : (s : Scale) → in_span s (pos 60000) 0 ≡ false
outside_span_lem S.Tai = refl
outside_span_lem S.Utc = refl
outside_span_lem S.Gps = refl

-- of a record the record itself; of a decimal day the record of its moment, or one outside where the day lies outside
abbrev record_in : Handed → Record
record_in (H.Record r) = r
record_in (H.Decimal x s) = let h = H.Decimal x s in cond (is_in_span h) (record_of s (day_of h) (micro_of h)) (outside_of s)

abbrev pub laid_of : Handed → Result Record NotFinite
laid_of h = cond (is_finite h) (Ok (record_in h)) (Err (record { 0 = scale_of h }))

-- a record lies in its span where the handed time does, rounded or not; of the other there is nothing to say
abbrev Spans : Handed → Result Record NotFinite → Type 0
Spans h (Err e) = 0 ≤ 0
Spans h (Ok r) = in_span r.scale r.day r.micro ≡ is_in_span h

pub record Lays (h : Handed) (t : Result Record NotFinite) : Type 0 where
  pub is : t ≡ laid_of h
  pub spans : Spans h t

-- Any two answers that the contract of `lay` allows are equal.
pub lays_one : (h : Handed) (s t : Result Record NotFinite) → Lays h s → Lays h t → s ≡ t
lays_one h s t a b = a.is ∙ sym b.is

-- ---- what each answer tells
pub record LaidAt (h : Handed) (r : Record) : Type 0 where
  pub finite : is_finite h ≡ true
  pub scale : r.scale ≡ scale_of h
  pub spans : in_span r.scale r.day r.micro ≡ is_in_span h
  pub moment : is_in_span h ≡ true → record_moment r ≡ moment_in h

abbrev Tells : Handed → Result Record NotFinite → Type 0
Tells h (Err e) = (is_finite h ≡ false) × (e.0 ≡ scale_of h)
Tells h (Ok r) = LaidAt h r

scale_in_lem : (h : Handed) → (record_in h).scale ≡ scale_of h
scale_in_lem (H.Record r) = refl
scale_in_lem (H.Decimal x s) = go (is_in_span (H.Decimal x s))
  where
    go : (b : Bool) → (cond b (record_of s (day_of (H.Decimal x s)) (micro_of (H.Decimal x s))) (outside_of s)).scale ≡ s
    go true = refl
    go false = refl

moment_in_lem : (h : Handed) → is_in_span h ≡ true → record_moment (record_in h) ≡ moment_in h
moment_in_lem (H.Record r) e = refl
moment_in_lem (H.Decimal x s) e = rw e

tells : (h : Handed) (t : Result Record NotFinite) → Lays h t → Tells h t
tells h t w = subst (Tells h) (sym w.is) (go (is_finite h) refl (subst (Spans h) w.is w.spans))
  where
    go : (a : Bool) → is_finite h ≡ a → Spans h (cond a (Ok (record_in h)) (Err (record { 0 = scale_of h })))
        → Tells h (cond a (Ok (record_in h)) (Err (record { 0 = scale_of h })))
    go false p k = (p, refl)
    go true p k = record { finite = p; scale = scale_in_lem h; spans = k; moment = moment_in_lem h }

module _ (h : Handed) (t : Result Record NotFinite) (w : Lays h t) where
  pub laid_nothing : (n : NotFinite) → t ≡ Err n → (is_finite h ≡ false) × (n.0 ≡ scale_of h)
  laid_nothing n e = subst (Tells h) e (tells h t w)

  pub laid_at : (r : Record) → t ≡ Ok r → LaidAt h r
  laid_at r e = subst (Tells h) e (tells h t w)

-- ---- from a record, and from what was read of a decimal day, back to the contract
pub lays_record : (r : Record) → Lays (H.Record r) (Ok r)
lays_record r = record { is = refl; spans = refl }

module _ (x : Float) (s : Scale) where
  abbrev h : Handed
  h = H.Decimal x s

  pub lays_nothing : is_finite h ≡ false → Lays h (Err (record { 0 = s }))
  lays_nothing p = record { is = sym (rw p); spans = lit≤ tt }

  pub lays_outside : is_finite h ≡ true → is_in_span h ≡ false → Lays h (Ok (outside_of s))
  lays_outside p q = record { is = sym (rw (p, q)); spans = outside_span_lem s ∙ sym q }

  pub lays_at : is_finite h ≡ true → is_in_span h ≡ true → in_span s (day_of h) (micro_of h) ≡ true → Lays h (Ok (record_of s (day_of h) (micro_of h)))
  lays_at p q k = record { is = sym (rw (p, q)); spans = k ∙ sym q }
