-- A time of each scale and its TAI count: what it is that a change's two halves give, for one accepted list. Assumes nothing.
use mathlib.Core.Path.{◌≡◌, refl, sym, ap, ◌∙◌}
use mathlib.Core.Bool.{Bool, true, false, not, ◌&&◌}
use mathlib.Core.List.{List}
use Prim.Native.Nat.{ℕ, ◌+◌, ◌*◌, ◌<◌, ◌≤◌}
use native.Mathlib.Omega.{arith}
use lib.Dec.{leb, ltb}
use lib.IntN.{ℤ, ◌+ℤ◌}
use borrow.Author.Tests.{ltb-true, leb-true, le-ltb, ltb-false, not-true}
use Rattle.axis.specs.Meaning.{place_of_day, day_at, micros_at, Moment, day_micros}
use Rattle.axis.specs.Diff.{Way, way, below, above}
use Rattle.axis.specs.Axis.{since_at, micros_add}
use Rattle.scales.specs.Meaning.{bound, in_span, given, gives, answer, outcome}
use Rattle.scales.specs.declared.Scale.{Scale}
use Rattle.scales.specs.declared.Scale.TheVariants as S
use Rattle.scales.specs.Place.{first_at, and_both, span_at, span_in}
use Rattle.scales.specs.Order.{no_answer, passed}
use Rattle.leap.specs.Meaning.{seconds, accepted, tai_of, is_step, has_micro, is_expired_day}
use Rattle.leap.specs.Places.{tai_at_lem}
use Rattle.leap.specs.Back.{Real}
use Rattle.leap.specs.Whole.{expired_at, tai_at}
use Rattle.via_tai.specs.Meaning.{from_scale}
use Rattle.via_tai.specs.Ways.{has_plain, has_sixty}

abbrev pub moment : ℕ → ℕ → Moment
moment a u = record { day = day_at a; micro = u }

-- the place of the TAI count of microsecond u of the day at place a
abbrev pub on_tai : Scale → List ℤ → List ℕ → ℕ → ℕ → ℕ
on_tai S.Tai ds os a u = a * day_micros + u
on_tai S.Utc ds os a u = tai_at ds os a u
on_tai S.Gps ds os a u = a * day_micros + u + 19000000

-- a time that a change from its scale does not refuse
abbrev pub Known : Scale → List ℤ → ℤ → ℕ → ℕ → Type 0
Known S.Tai ds e a u = 0 ≤ 0
Known S.Utc ds e a u = (a ≤ place_of_day e) × Real ds a u
Known S.Gps ds e a u = 0 ≤ 0

pub record Stands (s : Scale) (ds : List ℤ) (e : ℤ) (a u : ℕ) : Type 0 where
  pub from : first_at s ≤ a
  pub to : a ≤ 76524
  pub under : u < bound s
  pub known : Known s ds e a u

pub spans : (s : Scale) (a u : ℕ) → in_span s (day_at a) u ≡ true → (first_at s ≤ a) × ((a ≤ 76524) × (u < bound s))
spans s a u h =
    let x = and_both (leb (first_at s) a) (leb a 76524 && ltb u (bound s)) (sym (span_at s a u) ∙ h) in
    let y = and_both (leb a 76524) (ltb u (bound s)) x.1 in
    (leb-true (first_at s) a x.0, (leb-true a 76524 y.0, ltb-true u (bound s) y.1))

pub inside : {s : Scale} {ds : List ℤ} {e : ℤ} {a u : ℕ} → Stands s ds e a u → in_span s (day_at a) u ≡ true
inside {s} {ds} {e} {a} {u} w = span_in s a u w.from w.to w.under

-- what a chain of one test gives
pub one : {A : Type 0} (t : Bool) (n : ℕ) (a b : A) → outcome (given t n (gives a)) ≡ answer b → (t ≡ true) × (a ≡ b)
one t n a b e = let p = passed t n (gives a) b e in (p.0, (let q = p.1 in (cc)))

has : (ds : List ℤ) (a u : ℕ) → has_micro ds (day_at a) u ≡ true → day_micros ≤ u → is_step ds (day_at (a + 1)) ≡ true
has ds a u h l = has_sixty ds a u l ∙ h

had : (ds : List ℤ) (a u : ℕ) → Real ds a u → has_micro ds (day_at a) u ≡ true
had ds a u r = go (way u day_micros)
  where
    go : Way u day_micros → has_micro ds (day_at a) u ≡ true
    go (below x) = sym (has_plain ds (day_at a) u x)
    go (above x) = sym (has_sixty ds a u x) ∙ r.has x

module _ (ds : List ℤ) (os : List ℕ) (e : ℤ) (w : accepted ds os e ≡ true) where
  -- ---- to the TAI count
  pub leaves : (s : Scale) (a u : ℕ) → Stands s ds e a u → outcome (from_scale s ds os e true (moment a u)) ≡ answer (micros_at (on_tai s ds os a u))
  leaves S.Tai a u k = ap answer (since_at a u)
  leaves S.Utc a u k =
      rw (expired_at ds os e w a, le-ltb (place_of_day e) a k.known.0, had ds a u k.known.1) (ap answer (tai_at_lem ds os a u))
  leaves S.Gps a u k = ap answer (ap (λ (z : ℤ). z +ℤ seconds 19) (since_at a u) ∙ micros_add (a * day_micros + u) 19000000)

  pub record Left (s : Scale) (a u : ℕ) (z : ℤ) : Type 0 where
    pub stands : Stands s ds e a u
    pub is : z ≡ micros_at (on_tai s ds os a u)

  pub left : (s : Scale) (a u : ℕ) (z : ℤ) → outcome (from_scale s ds os e (in_span s (day_at a) u) (moment a u)) ≡ answer z → Left s a u z
  left s a u z h = go s (in_span s (day_at a) u) refl h
    where
      at : (s : Scale) → in_span s (day_at a) u ≡ true → outcome (from_scale s ds os e true (moment a u)) ≡ answer z → Known s ds e a u → Left s a u z
      at s p h k =
          let r = spans s a u p in
          let w : Stands s ds e a u = record { from = r.0; to = r.1.0; under = r.1.1; known = k } in
          let x = leaves s a u w in
          record { stands = w; is = (cc) }

      go : (s : Scale) (b : Bool) → in_span s (day_at a) u ≡ b → outcome (from_scale s ds os e b (moment a u)) ≡ answer z → Left s a u z
      go S.Tai false p h = absurd (no_answer h)
      go S.Utc false p h = absurd (no_answer h)
      go S.Gps false p h = absurd (no_answer h)
      go S.Tai true p h = at S.Tai p h (omega arith)
      go S.Gps true p h = at S.Gps p h (omega arith)
      go S.Utc true p h =
          let r = spans S.Utc a u p in
          let x = passed (not (is_expired_day e (day_at a))) 9 (given (has_micro ds (day_at a) u) 10 (gives (tai_of ds os (day_at a) u))) z h in
          let y = one (has_micro ds (day_at a) u) 10 (tai_of ds os (day_at a) u) z x.1 in
          at S.Utc p h
          (ltb-false (place_of_day e) a (sym (expired_at ds os e w a) ∙ not-true (is_expired_day e (day_at a)) x.0), record { from = r.0; under = r.1.1; has = has ds a u y.0 })
