-- The cover of an accepted TAI correlation, on the places of the axis: its ends, and that they lie well on the axis. Assumes nothing.
use Rattle.std.specs.Prelude.{◌≡◌, refl, Bool, true, false, cond, [], ℕ, zero, suc, ◌+◌, ◌-◌, ◌*◌, ◌≤◌, ◌<◌, pos, neg_ℤ, Some, None}
use Rattle.std.proofs.Common.{ap, subst, ◌∙◌, mul-le-mul, mul-le-mul_right, add-mul, div-lt_iff_lt-mul, arith, lit<, le-leb}
use Rattle.std.specs.Int.Signed.{le_z}
use Rattle.scales.specs.declared.Scale.TheVariants as S
use Rattle.clock.specs.Places as C
use Rattle.clock.specs.Stage.{spot}
use Rattle.clock.specs.Window as W
use Rattle.clock.specs.declared.inner.Ends.{Ends}
use Rattle.sbt.specs.Meaning.{accepted, clock_of}
use Rattle.sbt.specs.Places.{shifted, covered_by, ends_at}
use Rattle.sbt.specs.Accepted.{sound, runs, based}
use Rattle.sbt.specs.declared.Correlation.{Correlation}
use Rattle.season.specs.Meaning.{cover_of}

abbrev pub ends_of : Correlation → Ends
ends_of c = ends_at (spot c.day c.micro) c.period c.back c.ahead

module _ (c : Correlation) (a : accepted c ≡ true) where
  pub cover_tai : c.scale ≡ S.Tai → cover_of c ≡ C.cover_of (ends_of c)
  cover_tai t =
      C.cover_place (clock_of c [] []) (shifted c [] [] * 1000000) (based c a [] [])
      ∙ ap (λ (r : ℕ). C.cover_of (ends_at r c.period c.back c.ahead)) (rw t (omega arith))

  -- it does not end before it begins
  pub cover_runs : le_z (cover_of c).from (cover_of c).to ≡ true
  cover_runs = W.rises (clock_of c [] []) (runs c a [] []) (neg_ℤ (pos c.back)) (pos c.ahead) (low c.back)
    where
      low : (b : ℕ) → le_z (neg_ℤ (pos b)) (pos c.ahead) ≡ true
      low zero = le-leb 0 c.ahead (omega arith)
      low (suc b) = refl

  -- ---- the reference and the ends
  pub spot_few : spot c.day c.micro < 6611760000000000
  spot_few = let s = sound c a in omega (arith, s.day.to, s.under)

  pub from_few : (ends_of c).from < 8640000000000000
  from_few =
      let l : (2147483648 - c.back) * c.period ≤ 2147483648 * c.period = mul-le-mul_right c.period (omega arith) in
      (div-lt_iff_lt-mul (lit< tt)).1 (omega (arith, spot_few, l))

  pub to_few : (ends_of c).to < 8640000000000000
  to_few =
      let s = sound c a in
      let l : c.ahead * c.period ≤ 2147483647 * 3906500000 = mul-le-mul s.ahead_to s.slow in
      (div-lt_iff_lt-mul (lit< tt)).1 (omega (arith, spot_few, l, add-mul 2147483648 c.ahead c.period))

-- ---- a cover that is found where a test holds
pub covered_at : (t : Bool) (x v : Ends) → cond t (Some x) None ≡ Some v → (t ≡ true) × (x ≡ v)
covered_at true x v e = (refl, cc)
covered_at false x v e = absurd (let z : ◌≡◌ {A = ℕ} 0 1 = cc in omega arith)

pub covered_none : (t : Bool) (x : Ends) → cond t (Some x) None ≡ None → t ≡ false
covered_none true x e = absurd (let z : ◌≡◌ {A = ℕ} 0 1 = cc in omega arith)
covered_none false x e = refl

pub few : (c : Correlation) (v : Ends) → covered_by c ≡ Some v → (v.from < 8640000000000000) × (v.to < 8640000000000000)
few c v e =
    let w = covered_at (accepted c) (ends_of c) v e in (
      omega (arith, from_few c w.0, ap (λ (x : Ends). x.from) w.1),
      omega (arith, to_few c w.0, ap (λ (x : Ends). x.to) w.1),
    )

-- ---- the place at which the cover before cover k ends; before the first there is none
abbrev pub EndsAt : (ℕ → ℕ) → ℕ → ℕ → Type 0
EndsAt to zero before = 0 ≤ 0
EndsAt to (suc k) before = before ≡ to k

pub ends_next : (to : ℕ → ℕ) (k before : ℕ) → before ≡ to k → EndsAt to (k + 1) before
ends_next to k before e = let z : suc k ≡ k + 1 = omega arith in subst (λ (m : ℕ). EndsAt to m before) z e
