-- A decimal day is less than half a microsecond off. So a record that was written is read as itself, and of two records of one scale the
-- later gives the larger double. Assumes nothing.
use mathlib.Core.Path.{◌≡◌, refl, sym, ap, ap₂, subst, ◌∙◌}
use mathlib.Core.Logic.{◌⊎◌, inl, inr}
use mathlib.Core.Bool.{Bool, true, false, cond}
use Rattle.std.specs.Prelude.{Ok}
use Prim.Native.Nat.{ℕ, zero, suc, ◌+◌, ◌-◌, ◌*◌, ◌/◌, ◌^◌, ◌≤◌, ◌<◌}
use native.Mathlib.Nat.{eq-or-lt_of_le, mul-le-mul_right, mul-lt-mul_of_pos_right, div-eq_of_lt-le, add-mul-div_right}
use native.Mathlib.Omega.{arith}
use lib.Dec.{T, ltb}
use lib.IntN.{ℤ, pos, negsuc, neg_ℤ, sub_ℕ, nat_abs, ◌+ℤ◌, ◌*ℤ◌}
use lib.Signed.{lt_z}
use lib.Ieee.{Float, fin, binary64, fits}
use borrow.Author.Tests.{lt-ltb, le-ltb, ltb-true}
use Rattle.axis.specs.Meaning.{place_of_day, day_at, micros_at, floor_z, Moment, day_micros, since}
use Rattle.axis.specs.Axis.{day_place, micros_day, micros_left, since_at}
use Rattle.axis.specs.Diff.{is_pos, is_negsuc, sub_eq, sub_inj, sub_mul, sub_add, sub_lt, sub_floor, up, down, parts}
use Rattle.scales.specs.Meaning.{first, in_span, dated, refused, answer, record_of, record_moment}
use Rattle.scales.specs.Place.{first_at, apart, Placed, placed, day_part, micro_part}
use Rattle.scales.specs.declared.Scale.{Scale}
use Rattle.scales.specs.declared.Scale.TheVariants as S
use Rattle.scales.specs.declared.Record.{Record}
use Rattle.double.specs.Meaning.{Exact, exact_of, under, signed_over, finite, before}
use Rattle.double.proofs.Exact.{under_pos}
use Rattle.handed.specs.declared.Handed.TheVariants as H
use Rattle.decimal.specs.Meaning.{read_of, DayOf, decimal_slip, Allowed, WroteDay}
use Rattle.handed.specs.Signs.{double_pos}
use Rattle.handed.specs.Meaning.{spans, micros_of, nearest_moment}
use Rattle.decimal_laws.specs.Meaning.{off, less, Sooner}
use Rattle.decimal_laws.proofs.Distance.{off_sub, close}
use Rattle.decimal_laws.proofs.Nearer.{exact_day}

-- ---- the whole part of a difference, by its two ends
floor_is : (A B m P Q : ℕ) → 0 < m → P * m + B ≤ A + Q * m → A + Q * m < P * m + m + B → floor_z (sub_ℕ A B) m ≡ sub_ℕ P Q
floor_is A B m P Q M lo hi =
    let w : 1 * B ≤ m * B = mul-le-mul_right B M in
    let X = A + (B * m - B) in
    let i : sub_ℕ A B ≡ sub_ℕ X (B * m) = sub_eq A B X (B * m) (omega arith) in
    let q : (X + Q * m) / m ≡ P + B = div-eq_of_lt-le m (omega arith) (omega arith) in
    ap (λ (z : ℤ). floor_z z m) i ∙ sub_floor X B m M ∙ sub_eq (X / m) B P Q (sym (add-mul-div_right X Q M) ∙ q)

-- ---- the value v lies less than half a microsecond from the place n of the axis
module _ (v : Exact) (n : ℕ) where
  abbrev a : ℕ
  a = up (signed_over v)

  abbrev b : ℕ
  b = down (signed_over v)

  abbrev c : ℕ
  c = under v

  abbrev Close : Type 0
  Close = (a * day_micros * 2 + 3456000000000000 * c * 2 < b * day_micros * 2 + n * c * 2 + c) × (b * day_micros * 2 + n * c * 2 < a * day_micros * 2 + 3456000000000000 * c * 2 + c)

  off_at : off (micros_at n) day_micros v ≡ (a * day_micros + 3456000000000000 * c - (b * day_micros + n * c)) + (b * day_micros + n * c - (a * day_micros + 3456000000000000 * c))
  off_at = ap (λ (x : ℤ). nat_abs (x *ℤ pos day_micros +ℤ neg_ℤ (micros_at n *ℤ pos c))) (parts (signed_over v)) ∙ off_sub a b n 3456000000000000 day_micros c

  close_at : off (micros_at n) day_micros v * 2 < c → Close
  close_at h = let e = off_at in (omega arith, omega arith)

  micros_at_lem : Close → micros_of v ≡ micros_at n
  micros_at_lem h =
      ap (λ (x : ℤ). floor_z (x *ℤ pos 2 +ℤ pos c) (c * 2)) (ap (λ (x : ℤ). x *ℤ pos day_micros) (parts (signed_over v)) ∙ sub_mul a b day_micros)
      ∙ ap (λ (x : ℤ). floor_z (x +ℤ pos c) (c * 2)) (sub_mul (a * day_micros) (b * day_micros) 2)
      ∙ ap (λ (x : ℤ). floor_z (sub_ℕ (a * day_micros * 2) (b * day_micros * 2) +ℤ x) (c * 2)) (is_pos c)
      ∙ ap (λ (x : ℤ). floor_z x (c * 2)) (sub_add (a * day_micros * 2) (b * day_micros * 2) c 0)
      ∙ floor_is (a * day_micros * 2 + c) (b * day_micros * 2 + 0) (c * 2) n 3456000000000000 (double_pos c (under_pos v.power)) (lo h.1) (hi h.0)
    where
      lo : b * day_micros * 2 + n * c * 2 < a * day_micros * 2 + 3456000000000000 * c * 2 + c → n * (c * 2) + (b * day_micros * 2 + 0) ≤ a * day_micros * 2 + c + 3456000000000000 * (c * 2)
      lo l = omega arith

      hi : a * day_micros * 2 + 3456000000000000 * c * 2 < b * day_micros * 2 + n * c * 2 + c → a * day_micros * 2 + c + 3456000000000000 * (c * 2) < n * (c * 2) + c * 2 + (b * day_micros * 2 + 0)
      hi l = omega arith

  before_is : (f g : ℕ) → before v (sub_ℕ f g) ≡ ltb (a + g * c) (f * c + b)
  before_is f g = ap₂ lt_z (parts (signed_over v)) (sub_mul f g c) ∙ sub_lt a b (f * c) (g * c)

  late_at : Close → n < 76525 * day_micros → before v (pos 36525) ≡ true
  late_at h l =
      let g : suc n * c ≤ 76525 * day_micros * c = mul-le-mul_right c l in
      let k = h.0 in
      let p = under_pos v.power in
      ap (before v) (is_pos 36525) ∙ before_is 36525 0 ∙ lt-ltb (a + 0 * c) (36525 * c + b) (omega arith)

  early_at : (f : ℕ) → Close → (f * day_micros ≡ n → off (micros_at n) day_micros v ≡ 0) → f * day_micros ≤ n → before v (day_at f) ≡ false
  early_at f h e l = before_is f 40000 ∙ le-ltb (a + 40000 * c) (f * c + b) (go (eq-or-lt_of_le l))
    where
      go : (f * day_micros ≡ n) ⊎ (f * day_micros < n) → f * c + b ≤ a + 40000 * c
      go (inl i) =
          let k = e i in
          let j = off_at in
          let g : f * day_micros * c ≡ n * c = ap (λ (y : ℕ). y * c) i in
          omega arith
      go (inr i) =
          let k = h.1 in
          let g : suc (f * day_micros) * c ≤ n * c = mul-le-mul_right c i in
          omega arith

-- ---- the first days are doubles
record Double (s : Scale) : Type 0 where
  pub x : Float
  pub double : T (fits binary64 x)
  pub ends : finite x ≡ true
  pub here : off (micros_at (first_at s * day_micros)) day_micros (exact_of x) ≡ 0

first_double : (s : Scale) → Double s
unfolding fits
first_double S.Tai = record { x = fin true 10227 (pos 0); double = tt; ends = refl; here = refl }
first_double S.Utc = record { x = fin true 10227 (pos 0); double = tt; ends = refl; here = refl }
first_double S.Gps = record { x = fin true 1825 (pos 2); double = tt; ends = refl; here = refl }

first_at_lem : (s : Scale) → first s ≡ day_at (first_at s)
first_at_lem S.Tai = refl
first_at_lem S.Utc = refl
first_at_lem S.Gps = refl

ends : (z : ℤ) (x : Float) → DayOf z x → finite x ≡ true
ends (pos zero) x d = ap finite d
ends (pos (suc n)) x d = d.value.ends
ends (negsuc n) x d = d.value.ends

-- the places of all spans are below 2 ^ 52 microseconds from day 0
small : (n : ℕ) (z : ℤ) → micros_at n ≡ z → n < 76525 * day_micros → nat_abs z < 2 ^ 52
small n (pos m) e l = let i = sub_inj n 3456000000000000 m 0 (e ∙ is_pos m) in omega arith
small n (negsuc m) e l = let i = sub_inj n 3456000000000000 0 (suc m) (e ∙ is_negsuc m) in omega arith

-- ---- a writing with an answer: the record lies in its span, outside second 60, and x is the decimal day of its place
record Placing (s : Scale) (d : ℤ) (u : ℕ) (x : Float) : Type 0 where
  pub placed : Placed s d u
  pub image : u < day_micros
  pub day : DayOf (micros_at (place_of_day d * day_micros + u)) x
  pub back : day_at (place_of_day d) ≡ d

abbrev place_at : ℤ → ℕ → ℕ
place_at d u = place_of_day d * day_micros + u

placing : (s : Scale) (d : ℤ) (u : ℕ) (x : Float) → WroteDay (H.Record (record_of s d u)) (Ok x) → Placing s d u x
placing s d u x w = go (in_span s d u) refl (ltb u day_micros) refl w
  where
    go : (i : Bool) → in_span s d u ≡ i → (j : Bool) → ltb u day_micros ≡ j →
        Allowed (cond i (cond j (answer (since d u)) (refused 12)) (refused 7)) (decimal_slip (Ok x)) → Placing s d u x
    go false e j f a = absurd (let z : ◌≡◌ {A = ℕ} 0 7 = a.0 in omega arith)
    go true e false f a = absurd (let z : ◌≡◌ {A = ℕ} 0 12 = a.0 in omega arith)
    go true e true f a =
        let p = placed s d u e in
        let h : 0 < place_of_day d = omega (arith, p.from, (apart s).from) in
        let k : place_of_day d < 100000 = omega (arith, p.to, (apart s).to) in
        let b = day_place d h k in
        record {
          placed = p;
          image = ltb-true u day_micros f;
          day = subst (λ (z : ℤ). DayOf z x) (ap (λ (e : ℤ). since e u) (sym b) ∙ since_at (place_of_day d) u) a.1;
          back = b;
        }

module _ (s : Scale) (d : ℤ) (u : ℕ) (x : Float) (w : Placing s d u x) where
  in_axis : place_at d u < 76525 * day_micros
  in_axis = omega (arith, w.placed.to, (apart s).to, w.image)

  near : Close (exact_of x) (place_at d u)
  near = close_at (exact_of x) (place_at d u) (close (micros_at (place_at d u)) x w.day (small (place_at d u) (micros_at (place_at d u)) refl in_axis))

  spans_here : spans s (exact_of x) ≡ true
  spans_here =
      rw (first_at_lem s, early_at (exact_of x) (place_at d u) (first_at s) near exact (omega (arith, w.placed.from)), late_at (exact_of x) (place_at d u) near in_axis)
    where
      exact : first_at s * day_micros ≡ place_at d u → off (micros_at (place_at d u)) day_micros (exact_of x) ≡ 0
      exact e =
          let f = first_double s in
          exact_day (micros_at (place_at d u)) x f.x w.day f.double f.ends (ap (λ (m : ℕ). off (micros_at m) day_micros (exact_of f.x)) (sym e) ∙ f.here)

  moment : nearest_moment x ≡ record { day = d; micro = u }
  moment =
      rw (micros_at_lem (exact_of x) (place_at d u) near, micros_day (place_at d u), micros_left (place_at d u), day_part day_micros (place_of_day d) u w.image, micro_part day_micros (place_of_day d) u w.image, w.back)

  trip_by : read_of x s ≡ dated s (answer (record { day = d; micro = u }))
  unfolding read_of
  trip_by = rw (ends (micros_at (place_at d u)) x w.day, spans_here) (ap (λ (m : Moment). dated s (answer m)) moment)

-- Record to double to record is the same time, and plain.
pub trip : (r : Record) (x : Float) → WroteDay (H.Record r) (Ok x) → read_of x r.scale ≡ dated r.scale (answer (record_moment r))
trip r x w = trip_by r.scale r.day r.micro x (placing r.scale r.day r.micro x w)

-- ---- the order
less_at : (v w : Exact) (n m : ℕ) → Close v n → Close w m → n < m → less v w ≡ true
less_at v w n m h k l =
    ap₂ lt_z (ap (λ (x : ℤ). x *ℤ pos (under w)) (parts (signed_over v)) ∙ sub_mul (a v n) (b v n) (under w))
    (ap (λ (x : ℤ). x *ℤ pos (under v)) (parts (signed_over w)) ∙ sub_mul (a w m) (b w m) (under v))
    ∙ sub_lt (a v n * under w) (b v n * under w) (a w m * under v) (b w m * under v)
    ∙ lt-ltb (a v n * under w + b w m * under v) (a w m * under v + b v n * under w)
    (go (a v n) (b v n) (under v) (a w m) (b w m) (under w) h.0 k.1 (under_pos v.power) (under_pos w.power))
  where
    go : (p q c f g e : ℕ) → p * day_micros * 2 + 3456000000000000 * c * 2 < q * day_micros * 2 + n * c * 2 + c →
        g * day_micros * 2 + m * e * 2 < f * day_micros * 2 + 3456000000000000 * e * 2 + e → 0 < c → 0 < e → p * e + g * c < f * c + q * e
    go p q c f g e i j C E =
        let x = mul-lt-mul_of_pos_right i E in
        let y = mul-lt-mul_of_pos_right j C in
        let z : suc n * (c * e) ≤ m * (c * e) = mul-le-mul_right (c * e) l in
        omega arith

sooner_at : (d : ℤ) (u : ℕ) (e : ℤ) (w : ℕ) → day_at (place_of_day d) ≡ d → day_at (place_of_day e) ≡ e → u < day_micros → Sooner d u e w → place_at d u < place_at e w
sooner_at d u e w i j l (inl t) =
    let k : ltb (place_of_day d + 40000) (place_of_day e + 40000) ≡ true = sym (sub_lt (place_of_day d) 40000 (place_of_day e) 40000) ∙ ap₂ lt_z i j ∙ t in
    let h = ltb-true (place_of_day d + 40000) (place_of_day e + 40000) k in
    omega arith
sooner_at d u e w i j l (inr t) = let k = ap place_of_day t.0 in let h = t.1 in omega arith

-- Of two records of one scale the later gives the larger double.
pub later : (s : Scale) (d e : ℤ) (u w : ℕ) (x y : Float) →
    WroteDay (H.Record (record_of s d u)) (Ok x) → WroteDay (H.Record (record_of s e w)) (Ok y) → Sooner d u e w → less (exact_of x) (exact_of y) ≡ true
later s d e u w x y p q h =
    let i = placing s d u x p in
    let j = placing s e w y q in
    less_at (exact_of x) (exact_of y) (place_at d u) (place_at e w) (near s d u x i) (near s e w y j) (sooner_at d u e w i.back j.back i.image h)
