-- The changes under one accepted list: each undoes its opposite, later stays later, and TAI to UTC gives the one UTC record whose
-- TAI is the input. One theorem for all pairs of scales. Assumes nothing.
use mathlib.Core.Path.{◌≡◌, refl, sym, ap, ap₂, subst, ◌∙◌}
use mathlib.Core.Bool.{Bool, true}
use mathlib.Core.List.{List}
use Prim.Native.Nat.{ℕ, ◌+◌, ◌*◌, ◌/◌, ◌%◌, ◌<◌, ◌≤◌}
use native.Mathlib.Omega.{arith}
use native.Mathlib.Nat.{div-add-mod'}
use lib.Dec.{lit<}
use lib.IntN.{ℤ}
use Rattle.axis.specs.Meaning.{place_of_day, micros_at, Moment, day_micros}
use Rattle.axis.specs.Diff.{Way, way, below, above}
use Rattle.axis.specs.Axis.{day_inj}
use Rattle.scales.specs.Meaning.{and_then, bound, Judged, Outcome, refused, answer, outcome, moment_at}
use Rattle.scales.specs.Order.{onward, then_is, no_answer}
use Rattle.scales.specs.Place.{count_inj, day_part, micro_part}
use Rattle.scales.specs.declared.Scale.{Scale}
use Rattle.scales.specs.declared.Scale.TheVariants as S
use Rattle.leap.specs.Meaning.{accepted}
use Rattle.leap.specs.Steps.{steps}
use Rattle.leap.specs.Back.{forth}
use Rattle.leap.specs.Whole.{tai_at, tai_later, before_known}
use Rattle.via_tai.specs.Meaning.{from_scale, to_scale, of_count}
use Rattle.leap_laws.proofs.Stands.{moment, on_tai, Stands, inside, leaves, left}
use Rattle.leap_laws.proofs.Arrives.{on_the_way, arrives, found}

-- a count of scale s, changed to another scale
abbrev pub changed : Scale → Scale → List ℤ → List ℕ → ℤ → ℕ → Outcome Moment
changed s to ds os e n = outcome (and_then (of_count s n (from_scale s ds os e)) (to_scale to ds os e))

-- a day and a microsecond are the parts of their count
whole : (s : Scale) → 0 < bound s
whole S.Tai = lit< tt
whole S.Utc = lit< tt
whole S.Gps = lit< tt

moment_inj : (a u b v : ℕ) → moment a u ≡ moment b v → (a ≡ b) × (u ≡ v)
moment_inj a u b v e = (day_inj a b (λ i. (e i).day), λ i. (e i).micro)

module _ (ds : List ℤ) (os : List ℕ) (e : ℤ) (w : accepted ds os e ≡ true) where
  -- ---- what an answer tells: both times have one TAI count
  pub record Met (s to : Scale) (n k : ℕ) : Type 0 where
    pub here : Stands s ds e (n / bound s) (n % bound s)
    pub there : Stands to ds e (k / bound to) (k % bound to)
    pub meet : on_tai s ds os (n / bound s) (n % bound s) ≡ on_tai to ds os (k / bound to) (k % bound to)

  pub met : (s to : Scale) (n k : ℕ) → changed s to ds os e n ≡ answer (moment_at to k) → Met s to n k
  met s to n k h = go (outcome j) refl (sym (then_is j (to_scale to ds os e)) ∙ h)
    where
      j : Judged ℤ
      j = of_count s n (from_scale s ds os e)

      a : ℕ
      a = n / bound s

      u : ℕ
      u = n % bound s

      go : (x : Outcome ℤ) → outcome j ≡ x → onward (to_scale to ds os e) x ≡ answer (moment_at to k) → Met s to n k
      go (refused m) p q = absurd (no_answer q)
      go (answer z) p q =
          let l = left ds os e w s a u z p in
          let c = on_tai s ds os a u in
          let f = found ds os e w to c (on_the_way ds os e w s a u l.stands) (moment_at to k) (ap (λ (y : ℤ). outcome (to_scale to ds os e y)) (sym l.is) ∙ q) in
          let i = moment_inj (k / bound to) (k % bound to) f.place f.micro f.is in
          record {
            here = l.stands;
            there = subst (λ (x : ℕ). Stands to ds e x (k % bound to)) (sym i.0) (subst (λ (x : ℕ). Stands to ds e f.place x) (sym i.1) f.stands);
            meet = sym f.tai ∙ ap₂ (on_tai to ds os) (sym i.0) (sym i.1);
          }

  pub meets : (s to : Scale) (n k : ℕ) → Met s to n k → changed s to ds os e n ≡ answer (moment_at to k)
  meets s to n k m =
      let a = n / bound s in
      let u = n % bound s in
      then_is (of_count s n (from_scale s ds os e)) (to_scale to ds os e)
      ∙ ap (onward (to_scale to ds os e))
      (ap (λ (b : Bool). outcome (from_scale s ds os e b (moment a u))) (inside m.here) ∙ leaves ds os e w s a u m.here)
      ∙ ap (λ (c : ℕ). outcome (to_scale to ds os e (micros_at c))) m.meet
      ∙ arrives ds os e w to (k / bound to) (k % bound to) m.there

  -- ---- there and back is the same
  pub round : (s to : Scale) (n k : ℕ) → changed s to ds os e n ≡ answer (moment_at to k) → changed to s ds os e k ≡ answer (moment_at s n)
  round s to n k h =
      let m = met s to n k h in meets to s k n (record { here = m.there; there = m.here; meet = sym m.meet })

  -- two times that change to one time are one
  pub only : (s to : Scale) (n m k : ℕ) → changed s to ds os e n ≡ answer (moment_at to k) → changed s to ds os e m ≡ answer (moment_at to k) → n ≡ m
  only s to n m k g h =
      count_inj s n m (let x = sym (round s to n k g) ∙ round s to m k h in cc)

  -- ---- later stays later, second 60 included
  later_on : (s : Scale) (n m : ℕ) → Stands s ds e (n / bound s) (n % bound s) → Stands s ds e (m / bound s) (m % bound s) → n < m
      → on_tai s ds os (n / bound s) (n % bound s) < on_tai s ds os (m / bound s) (m % bound s)
  later_on S.Tai n m x y h = omega arith
  later_on S.Gps n m x y h = omega arith
  later_on S.Utc n m x y h =
      tai_later ds os e w (n / 86401000000) (n % 86401000000) (m / 86401000000) (m % 86401000000) x.known.1 y.known.1 (omega arith)

  pub later : (s to : Scale) (n m k l : ℕ) → changed s to ds os e n ≡ answer (moment_at to k) → changed s to ds os e m ≡ answer (moment_at to l) → n < m → k < l
  later s to n m k l g h o = go (way k l)
    where
      p : Met s to n k
      p = met s to n k g

      q : Met s to m l
      q = met s to m l h

      before : on_tai to ds os (k / bound to) (k % bound to) < on_tai to ds os (l / bound to) (l % bound to)
      before = omega (arith, later_on s n m p.here q.here o, p.meet, q.meet)

      go : Way k l → k < l
      go (below x) = x
      go (above x) = same (way l k)
        where
          same : Way l k → k < l
          same (below y) = absurd (omega (arith, before, later_on to l k q.there p.there y))
          same (above y) =
              absurd
              (let z : k ≡ l = omega arith in
              omega (arith, before, ap (λ (n : ℕ). on_tai to ds os (n / bound to) (n % bound to)) z))

  -- ---- TAI to UTC: every TAI time from the first step on that is not expired is the TAI of one UTC time
  pub record UtcOf (t : ℕ) : Type 0 where
    pub utc : ℕ
    pub gives : changed S.Tai S.Utc ds os e t ≡ answer (moment_at S.Utc utc)
    pub tai : changed S.Utc S.Tai ds os e utc ≡ answer (moment_at S.Tai t)
    pub one : (k : ℕ) → changed S.Utc S.Tai ds os e k ≡ answer (moment_at S.Tai t) → k ≡ utc

  pub the_one : (t : ℕ) → 29773 * day_micros + 10000000 ≤ t → t / day_micros ≤ 76524 → t < tai_at ds os (place_of_day e + 1) 0 → UtcOf t
  the_one t h k l =
      let g = steps ds os e w in
      let r = forth g.grown t h in
      let b = before_known ds os e w t r l in
      let n = r.place * 86401000000 + r.micro in
      let p : n / 86401000000 ≡ r.place = day_part 86401000000 r.place r.micro r.real.under in
      let q : n % 86401000000 ≡ r.micro = micro_part 86401000000 r.place r.micro r.real.under in
      let f : Stands S.Utc ds e r.place r.micro = record { from = r.real.from; to = omega (arith, b, g.to); under = r.real.under; known = (b, r.real) } in
      let m : Met S.Tai S.Utc t n =
      record {
        here = record { from = omega arith; to = k; under = omega arith; known = omega arith };
        there = subst (λ (x : ℕ). Stands S.Utc ds e x (n % 86401000000)) (sym p) (subst (λ (x : ℕ). Stands S.Utc ds e r.place x) (sym q) f);
        meet = div-add-mod' t day_micros ∙ sym r.tai ∙ ap₂ (tai_at ds os) (sym p) (sym q);
      } in
      let x = meets S.Tai S.Utc t n m in
      let y = round S.Tai S.Utc t n x in
      record { utc = n; gives = x; tai = y; one = λ j z. only S.Utc S.Tai j n t z y }
