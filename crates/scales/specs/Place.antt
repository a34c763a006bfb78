-- The spans on the axis, one law over the scale, and what a typed count is. Assumes nothing.
use Rattle.std.specs.Prelude.{◌≡◌, refl, Bool, true, false, cond, not, ◌&&◌, ℕ, ◌≤◌, ◌<◌, ◌+◌, ◌*◌, ◌/◌, ◌%◌, leb, ltb, ℤ, Result, Ok, Err}
use Rattle.std.proofs.Common.{sym, ap, ap₂, ◌∙◌, arith, mod-eq_of_lt, div-add-mod', lit<, lit≤, le-leb, lt-ltb, le-ltb, leb-true, ltb-true}
use Rattle.std.proofs.Math.Bool.{and_assoc}
use Rattle.std.proofs.lemmas.Bool.{false≢true, lt-leb}
use Rattle.std.proofs.Math.Nat.{div-eq_of_lt-le, mul-add-mod_self_right}
use Rattle.std.specs.Int.Signed.{le_z}
use Rattle.axis.specs.Meaning.{is_between, place_of_day, day_at}
use Rattle.axis.specs.Axis.{day_from, day_to, day_le, day_place, day_inj}
use Rattle.scales.specs.Meaning.{first, last, bound, in_span, refused, answer, dated_as, dated, moment_at, spanned_as, spanned, refused_of}
use Rattle.scales.specs.declared.Scale.{Scale}
use Rattle.scales.specs.declared.Scale.TheVariants as S
use Rattle.scales.specs.declared.Mark.{Mark}
use Rattle.scales.specs.declared.Mark.TheVariants as M
use Rattle.scales.specs.declared.spans.Span.{Span}
use Rattle.scales.specs.declared.Refused.{Refused}
use Rattle.scales.specs.declared.Refusal.TheVariants as R

-- ---- the places of a span
abbrev pub first_at : Scale → ℕ
first_at s = place_of_day (first s)

abbrev pub last_at : Scale → ℕ
last_at s = place_of_day (last s)

first_is : (s : Scale) (d : ℤ) → le_z (first s) d ≡ leb (first_at s) (place_of_day d)
first_is S.Tai d = day_from 29773 d (lit< tt) (lit≤ tt)
first_is S.Utc d = day_from 29773 d (lit< tt) (lit≤ tt)
first_is S.Gps d = day_from 32700 d (lit< tt) (lit≤ tt)

last_is : (s : Scale) (d : ℤ) → le_z d (last s) ≡ leb (place_of_day d) (last_at s)
last_is S.Tai d = day_to 76524 d (lit< tt)
last_is S.Utc d = day_to 76524 d (lit< tt)
last_is S.Gps d = day_to 76524 d (lit< tt)

-- what the laws use of a scale's numbers; the calendar's first month begins at 29773
pub record Apart (s : Scale) : Type 0 where
  pub from : 29773 ≤ first_at s
  pub to : last_at s ≡ 76524
  pub whole : 86400000000 ≤ bound s
  pub most : bound s ≤ 86401000000

pub apart : (s : Scale) → Apart s
apart S.Tai = record { from = lit≤ tt; to = refl; whole = lit≤ tt; most = lit≤ tt }
apart S.Utc = record { from = lit≤ tt; to = refl; whole = lit≤ tt; most = lit≤ tt }
apart S.Gps = record { from = lit≤ tt; to = refl; whole = lit≤ tt; most = lit≤ tt }

-- the three spans, as one law
pub span_is : (s : Scale) (d : ℤ) (u : ℕ) →
    in_span s d u ≡ (leb (first_at s) (place_of_day d) && (leb (place_of_day d) (last_at s) && ltb u (bound s)))
span_is s d u = rw (first_is s d, last_is s d)

pub and_false : (a : Bool) → a && false ≡ false
and_false true = refl
and_false false = refl

pub and_both : (a b : Bool) → a && b ≡ true → (a ≡ true) × (b ≡ true)
and_both true b e = (refl, e)
and_both false b e = absurd (false≢true e)

-- what is used and not lacking is there
pub not_lacking : (u a : Bool) → (u && not a) ≡ false → u ≡ true → a ≡ true
not_lacking true true e h = refl
not_lacking true false e h = sym e
not_lacking false a e h = absurd (false≢true h)

pub record Placed (s : Scale) (d : ℤ) (u : ℕ) : Type 0 where
  pub from : first_at s ≤ place_of_day d
  pub to : place_of_day d ≤ last_at s
  pub under : u < bound s

pub placed : (s : Scale) (d : ℤ) (u : ℕ) → in_span s d u ≡ true → Placed s d u
placed s d u e =
    let y = and_both (leb (first_at s) (place_of_day d)) (leb (place_of_day d) (last_at s) && ltb u (bound s)) (sym (span_is s d u) ∙ e) in
    let z = and_both (leb (place_of_day d) (last_at s)) (ltb u (bound s)) y.1 in
    record { from = leb-true (first_at s) (place_of_day d) y.0; to = leb-true (place_of_day d) (last_at s) z.0; under = ltb-true u (bound s) z.1 }

pub in_span_lem : (s : Scale) (d : ℤ) (u : ℕ) → Placed s d u → in_span s d u ≡ true
in_span_lem s d u p =
    span_is s d u
    ∙ rw (le-leb (first_at s) (place_of_day d) p.from, le-leb (place_of_day d) (last_at s) p.to, lt-ltb u (bound s) p.under)

module _ (s : Scale) (d : ℤ) (u : ℕ) where
  -- the span's days, and then its microseconds
  by_days : in_span s d u ≡ (is_between (first s) d (last s) && ltb u (bound s))
  by_days = sym (and_assoc (le_z (first s) d) (le_z d (last s)) (ltb u (bound s)))

  pub out_days : is_between (first s) d (last s) ≡ false → in_span s d u ≡ false
  out_days e = by_days ∙ rw e

  pub in_days : is_between (first s) d (last s) ≡ true → u < bound s → in_span s d u ≡ true
  in_days e h = by_days ∙ rw (e, lt-ltb u (bound s) h)

  pub out_over : bound s ≤ u → in_span s d u ≡ false
  out_over h =
      span_is s d u
      ∙ rw (le-ltb u (bound s) h, and_false (leb (place_of_day d) (last_at s)), and_false (leb (first_at s) (place_of_day d)))

-- ---- the spans, by the place of a day
pub span_at : (s : Scale) (a u : ℕ) → in_span s (day_at a) u ≡ (leb (first_at s) a && (leb a 76524 && ltb u (bound s)))
span_at S.Tai a u = ap₂ (λ (x y : Bool). x && (y && ltb u 86400000000)) (day_le 29773 a) (day_le a 76524)
span_at S.Utc a u = ap₂ (λ (x y : Bool). x && (y && ltb u 86401000000)) (day_le 29773 a) (day_le a 76524)
span_at S.Gps a u = ap₂ (λ (x y : Bool). x && (y && ltb u 86400000000)) (day_le 32700 a) (day_le a 76524)

module _ (s : Scale) (a u : ℕ) where
  pub span_early : a < first_at s → in_span s (day_at a) u ≡ false
  span_early h = span_at s a u ∙ rw (lt-leb (first_at s) a h)

  pub span_late : 76524 < a → in_span s (day_at a) u ≡ false
  span_late h = span_at s a u ∙ rw (lt-leb a 76524 h, and_false (leb (first_at s) a))

  pub span_in : first_at s ≤ a → a ≤ 76524 → u < bound s → in_span s (day_at a) u ≡ true
  span_in h k l = span_at s a u ∙ rw (le-leb (first_at s) a h, le-leb a 76524 k, lt-ltb u (bound s) l)

-- ---- what is handed back of a day and a microsecond
module _ (m : Mark) (s : Scale) (d : ℤ) (u : ℕ) where
  pub marked_in : in_span s d u ≡ true → spanned_as m s d u ≡ dated_as m s (answer (record { day = d; micro = u }))
  unfolding spanned_as
  marked_in e = rw e

  pub marked_out : in_span s d u ≡ false → spanned_as m s d u ≡ dated s (refused 7)
  unfolding spanned_as
  marked_out e = rw e

pub spanned_in : (s : Scale) (d : ℤ) (u : ℕ) → in_span s d u ≡ true → spanned s d u ≡ dated s (answer (record { day = d; micro = u }))
spanned_in = marked_in M.Plain

pub spanned_out : (s : Scale) (d : ℤ) (u : ℕ) → in_span s d u ≡ false → spanned s d u ≡ dated s (refused 7)
spanned_out = marked_out M.Plain

-- ---- a count of b microseconds a day: its day and its microsecond
module _ (b p u : ℕ) (h : u < b) where
  pub day_part : (p * b + u) / b ≡ p
  day_part = div-eq_of_lt-le b (omega arith) (omega arith)

  pub micro_part : (p * b + u) % b ≡ u
  micro_part = mul-add-mod_self_right p b u ∙ mod-eq_of_lt h

-- a count is known by its day and its microsecond
pub count_inj : (s : Scale) (n m : ℕ) → moment_at s n ≡ moment_at s m → n ≡ m
count_inj s n m e =
    let q : n / bound s ≡ m / bound s = day_inj (n / bound s) (m / bound s) (λ i. (e i).day) in
    let r : n % bound s ≡ m % bound s = λ i. (e i).micro in
    sym (div-add-mod' n (bound s)) ∙ ap₂ ◌+◌ (ap (λ (x : ℕ). x * bound s) q) r ∙ div-add-mod' m (bound s)

-- the count of a day and a microsecond in the span
abbrev pub count_of : Scale → ℤ → ℕ → ℕ
count_of s d u = place_of_day d * bound s + u

pub moment_of_lem : (s : Scale) (d : ℤ) (u : ℕ) → in_span s d u ≡ true → moment_at s (count_of s d u) ≡ record { day = d; micro = u }
moment_of_lem s d u e =
    let p = placed s d u e in
    let a = apart s in
    let h : 0 < place_of_day d = omega arith in
    let k : place_of_day d < 100000 = omega arith in
    rw (day_part (bound s) (place_of_day d) u p.under, micro_part (bound s) (place_of_day d) u p.under, day_place d h k)

-- ---- what the private functions answer
abbrev pub span_of : Scale → Span
span_of s = record { first = first s; last = last s; bound = bound s }

abbrev pub fit_of : Scale → ℤ → ℕ → Result ℕ Refused
fit_of s d u = cond (in_span s d u) (Ok (count_of s d u)) (Err (refused_of s R.OutsideSpan))
