-- The ways out of `take` and `lay`: a record judged by its scale, a decimal day by what was found in its bits. An f64 that is in its
-- span is, rounded to a day and a microsecond, in its span too; a number with more digits than an f64 need not be. Assumes nothing.
use mathlib.Core.Path.{◌≡◌, refl, sym, ap, subst, ◌∙◌}
use mathlib.Core.Bool.{Bool, true, false, cond, false≢true}
use Rattle.std.specs.Prelude.{Result, Ok, Err}
use Prim.Native.Nat.{ℕ, suc, ◌+◌, ◌-◌, ◌*◌, ◌/◌, ◌%◌, ◌^◌, ◌≤◌, ◌<◌}
use native.Mathlib.Nat.{div-lt_iff_lt-mul}
use native.Mathlib.Omega.{arith}
use lib.Dec.{T, leb, lit<, lit≤}
use lib.IntN.{ℤ, pos, negsuc}
use lib.Pow.{pow_pos, pow_mono}
use lib.Ieee.{Float, nan, inf, fin, binary64, fits}
use borrow.Author.Tests.{leb-true, leb-false, ltb-true}
use Rattle.axis.specs.Meaning.{day_at, day_micros, Moment}
use Rattle.axis.specs.Axis.{place_day}
use Rattle.scales.specs.Meaning.{bound, in_span, spanned, slip_timed, time_at, record_of, refused_of}
use Rattle.scales.specs.Place.{apart, in_span_lem, count_of}
use Rattle.scales.specs.Counts.{timed_at, timed_no}
use Rattle.scales.specs.declared.Scale.{Scale}
use Rattle.scales.specs.declared.Refusal.{Refusal}
use Rattle.scales.specs.declared.Record.{Record}
use Rattle.scales.specs.declared.Time.{Time}
use Rattle.handed.specs.declared.Handed.{Handed}
use Rattle.handed.specs.declared.Handed.TheVariants as H
use Rattle.handed.specs.Signs.{double_pos, spans_is, place_to, moment_place, day_at_lem}
use Rattle.handed.specs.Told.{count_in, loose, kept_is, Told}
use Rattle.handed.specs.Laid.{Lays, lays_at}
use Rattle.double.proofs.Exact.{digits}
use Rattle.double.specs.Meaning.{up, down, finite, exact_of}
use Rattle.handed.specs.declared.Unread.{Unread}
use Rattle.handed.specs.declared.Unread.TheVariants as R
use Rattle.handed.specs.declared.Untaken.TheVariants as K
use Rattle.handed.specs.Meaning.{spans, nearest_moment, scale_of, is_finite, is_in_span, day_of, micro_of, taken_of, Took}
use Rattle.handed.specs.Parts.{first_of, micros_in, inside, place_of, found, time_of}

-- ---- from what is told back to the contract
module _ (h : Handed) where
  pub took_nothing : is_finite h ≡ false → Took h (Err (K.NotFinite (scale_of h)))
  unfolding taken_of
  took_nothing p = record { is = rw p; kept = lit≤ tt }

  pub took_outside : is_finite h ≡ true → is_in_span h ≡ false → Took h (Err (K.Outside (scale_of h)))
  unfolding taken_of
  took_outside p q = record { is = rw (p, q); kept = lit≤ tt }

  took_here : is_finite h ≡ true → is_in_span h ≡ true → in_span (scale_of h) (day_of h) (micro_of h) ≡ true → Took h (Ok (time_at (scale_of h) (count_in h)))
  unfolding taken_of
  took_here p q k = record { is = rw (p, q); kept = kept_is (scale_of h) (day_of h) (micro_of h) (loose h p q) ∙ k }

  took_at : (t : Time) → Told h t → Took h (Ok t)
  took_at t w = subst (λ (x : Time). Took h (Ok x)) (sym w.is) (took_here w.finite w.inside w.kept)

-- ---- a record
pub record_at_lem : (r : Record) (t : Time) → slip_timed (Ok t) ≡ spanned r.scale r.day r.micro → Took (H.Record r) (Ok t)
record_at_lem r t e =
    let w = timed_at r.scale r.day r.micro t e in
    took_at (H.Record r) t (record { finite = refl; inside = w.0; is = w.1; kept = w.0 })

pub record_out : (r : Record) (f : Refusal) (s : Scale) → slip_timed (Err (refused_of s f)) ≡ spanned r.scale r.day r.micro → Took (H.Record r) (Err (K.Outside s))
record_out r f s e =
    let w = timed_no r.scale r.day r.micro f s e in
    subst (λ (x : Scale). Took (H.Record r) (Err (K.Outside x))) (sym w.1.1) (took_outside (H.Record r) refl w.0)

-- ---- the last day is not left by rounding: an f64 has at most 53 digits
-- fewer than 36,525 days are, rounded, fewer microseconds
fewer : (a c : ℕ) → 0 < c → a * day_micros * 2 + c < 36525 * day_micros * (c * 2) → micros_in false a c < 36525 * day_micros
fewer a c h k = (div-lt_iff_lt-mul (double_pos c h)).1 k

stays : (m : ℕ) (e : ℤ) → m < 2 ^ 53 → m * up e < 36525 * down e → micros_in false (m * up e) (down e) < 36525 * day_micros
stays m (pos k) h l = fewer (m * 2 ^ k) 1 (lit< tt) (go (m * 2 ^ k) l)
  where
    go : (a : ℕ) → a < 36525 * 1 → a * day_micros * 2 + 1 < 36525 * day_micros * (1 * 2)
    go a l = omega arith
stays m (negsuc k) h l = fewer (m * 1) (2 ^ suc k) (pow_pos (suc k)) (go (leb (suc k) 37) refl)
  where
    near : (a c : ℕ) → a < 36525 * c → c ≤ 137438953472 → a * day_micros * 2 + c < 36525 * day_micros * (c * 2)
    near a c l g = omega arith

    far : (a c : ℕ) → a < 9007199254740992 → 274877906944 ≤ c → a * day_micros * 2 + c < 36525 * day_micros * (c * 2)
    far a c l g = omega arith

    one : m * 1 < 9007199254740992
    one = omega arith

    go : (b : Bool) → leb (suc k) 37 ≡ b → m * 1 * day_micros * 2 + 2 ^ suc k < 36525 * day_micros * (2 ^ suc k * 2)
    go true p = near (m * 1) (2 ^ suc k) l (pow_mono (leb-true (suc k) 37 p))
    go false p = far (m * 1) (2 ^ suc k) one (pow_mono {i = 38} (leb-false (suc k) 37 p))

last_day : (t : Bool) (back m : ℕ) (e : ℤ) → m < 2 ^ 53 → inside back t (m * up e) (down e) ≡ true → place_of (exact_of (fin t m e)) < 76525 * day_micros
last_day false back m e h k = go (micros_in false (m * up e) (down e)) (stays m e h (ltb-true (m * up e) (36525 * down e) k))
  where
    go : (n : ℕ) → n < 36525 * day_micros → 3456000000000000 + n < 76525 * day_micros
    go n l = omega arith
last_day true back m e h k = go (micros_in true (m * up e) (down e))
  where
    go : (n : ℕ) → 3456000000000000 - n < 76525 * day_micros
    go n = omega arith

-- ---- a decimal day
pub kept_decimal : (x : Float) (s : Scale) → T (fits binary64 x) → finite x ≡ true → spans s (exact_of x) ≡ true →
    let h = H.Decimal x s in in_span s (day_of h) (micro_of h) ≡ true
kept_decimal nan s d g f = absurd (false≢true g)
kept_decimal (inf t) s d g f = absurd (false≢true g)
kept_decimal (fin t m e) s d g f =
    let h = H.Decimal (fin t m e) s in
    let v = exact_of (fin t m e) in
    let w = loose h g f in
    let l = last_day t (first_of s) m e (digits t m e d).0 (sym (spans_is s v) ∙ f) in
    let p = day_at_lem s v f in
    in_span_lem s (day_of h) (micro_of h) (record { from = w.from; to = omega (arith, (apart s).to); under = w.under })

pub record At (x : Float) (s : Scale) (n : ℕ) : Type 0 where
  pub ends : finite x ≡ true
  pub inside : spans s (exact_of x) ≡ true
  pub small : n ≤ 76525 * day_micros
  pub moment : nearest_moment x ≡ record { day = day_at (n / day_micros); micro = n % day_micros }

abbrev pub Found : Float → Scale → Result ℕ Unread → Type 0
Found x s (Err R.NotFinite) = finite x ≡ false
Found x s (Err R.Outside) = (finite x ≡ true) × (spans s (exact_of x) ≡ false)
Found x s (Ok n) = At x s n

found_is : (x : Float) (s : Scale) → Found x s (found (first_of s) x)
unfolding found
found_is nan s = refl
found_is (inf t) s = refl
found_is (fin t m e) s = go (inside (first_of s) t (m * up e) (down e)) refl
  where
    go : (b : Bool) → inside (first_of s) t (m * up e) (down e) ≡ b → Found (fin t m e) s (cond b (Ok (place_of (exact_of (fin t m e)))) (Err R.Outside))
    go false p = (refl, spans_is s (exact_of (fin t m e)) ∙ p)
    go true p =
        let v = exact_of (fin t m e) in
        let f = spans_is s v ∙ p in
        record { ends = refl; inside = f; small = place_to s v f; moment = moment_place s v f }

module _ (x : Float) (s : Scale) where
  -- what `read_days` answers tells, where it was asked with the scale's first day
  pub read_tells : {n : ℕ} {r : Result ℕ Unread} → n ≡ first_of s → r ≡ found n x → Found x s r
  read_tells e f = subst (Found x s) (sym (f ∙ ap (λ (k : ℕ). found k x) e)) (found_is x s)

  -- the time at place n is the one at the count of its moment
  read_time : (n : ℕ) → At x s n → time_of s n ≡ time_at s (count_in (H.Decimal x s))
  read_time n k =
      let p : n / day_micros ≤ 100000 = omega (arith, k.small) in
      ap (λ (a : ℕ). time_at s (a * bound s + n % day_micros)) (sym (place_day (n / day_micros) p))
      ∙ ap (λ (m : Moment). time_at s (count_of s m.day m.micro)) (sym k.moment)

  module _ (d : T (fits binary64 x)) where
    pub read_took : (n : ℕ) → At x s n → Took (H.Decimal x s) (Ok (time_of s n))
    read_took n k =
        took_at (H.Decimal x s) (time_of s n)
        (record { finite = k.ends; inside = k.inside; is = read_time n k; kept = kept_decimal x s d k.ends k.inside })

    pub read_lays : (n : ℕ) → At x s n → Lays (H.Decimal x s) (Ok (record_of s (day_at (n / day_micros)) (n % day_micros)))
    read_lays n k =
        subst (λ (m : Moment). Lays (H.Decimal x s) (Ok (record_of s m.day m.micro))) k.moment
        (lays_at x s k.ends k.inside (kept_decimal x s d k.ends k.inside))
