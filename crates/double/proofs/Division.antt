-- One division of f64s gives the double nearest the quotient, as `specs/Meaning.antt` says it over whole numbers. Assumes nothing.
use mathlib.Core.Path.{◌≡◌, refl, sym, ap, ◌∙◌, subst}
use mathlib.Core.Bool.{Bool, true, false, not, true≢false}
use Prim.Native.Nat.{ℕ, zero, suc, ◌+◌, ◌-◌, ◌*◌, ◌/◌, ◌%◌, ◌^◌, ◌≤◌, ◌<◌, compare, Ordering}
use native.Mathlib.Nat.{le_trans, le_of_eq, le_of_lt, lt_irrefl, zero-lt-suc, lt_of_lt_of_le, lt_of_le_of_lt, mul_comm, mul_assoc, mul-pos, mul-le-mul_right, mul-le-mul_left, le-div_iff_mul-le, div-lt_iff_lt-mul, div-add-mod', mod-lt, lt_of_mul-lt-mul_right}
use native.Mathlib.Omega.{arith}
use lib.Dec.{T, is_le, compare_is_eq, leb→le, nleb→lt, eqb, eqb→eq, eqb_refl, lit<, lit≤}
use lib.Pow.{pow-add, pow_pos}
use lib.Arith.{lt_of_le-ne}
use lib.IntN.{pos}
use lib.Ieee.{Float, nan, inf, fin, binary64, up, down, size, nearest, units, round, div, neg, of_int, unlike}
use lib.Ieee.Digits.{size-lt, size_reaches}
use lib.Ieee.Fits.{round_is, round-fits, down_pos}
use lib.Ieee.Back.{round_whole}
use lib.Ieee.Exact.{HasValue, units_val}
use lib.Ieee.Nearest.{closest}
use lib.Ieee.Scale.{round_same, normal_of_fraction}
use borrow.Author.Tests.{ne_eqb}
use Rattle.double.specs.Meaning.{apart, Holds, Nearest, QuotientOf, signed}
use Rattle.double.proofs.Exact.{holds, has}

-- ---- `closest N u` is no further than half of u from N / u, and even at just half
abbrev Cmp : Ordering → ℕ → ℕ → Type 0
Cmp Ordering.lt a b = a < b
Cmp Ordering.eq a b = a ≡ b
Cmp Ordering.gt a b = b < a

cmp : (a b : ℕ) → Cmp (compare a b) a b
cmp a b = go (compare a b) (leb→le a b) (nleb→lt a b) (eqb→eq a b) (λ (e : a ≡ b). subst (λ (x : ℕ). T (eqb a x)) e (eqb_refl a))
  where
    go : (o : Ordering) → (T (is_le o) → a ≤ b) → (T (not (is_le o)) → b < a) → (T (compare_is_eq o) → a ≡ b) → (a ≡ b → T (compare_is_eq o)) → Cmp o a b
    go Ordering.lt h k e n = lt_of_le-ne (h tt) n
    go Ordering.eq h k e n = e tt
    go Ordering.gt h k e n = k tt

abbrev Half : ℕ → ℕ → ℕ → Type 0
Half q u N = (apart (q * u) N * 2 ≤ u) × (apart (q * u) N * 2 ≡ u → q % 2 ≡ 0)

half_at : (w r u N : ℕ) (o : Ordering) → Cmp o (r * 2) u → r < u → w * u + r ≡ N → Half (nearest w o) u N
half_at w r u N Ordering.lt c R e = (omega arith, λ t. absurd (no t))
  where
    no : apart (w * u) N * 2 ≡ u → ⊥
    no t = omega arith
half_at w r u N Ordering.eq c R e = go (w % 2) refl
  where
    even : (w : ℕ) → (w + w % 2) % 2 ≡ 0
    even w = omega arith

    same : w % 2 ≡ 0 → (w + w % 2) * u ≡ w * u
    same h = ap (λ (z : ℕ). (w + z) * u) h ∙ omega arith

    more : w % 2 ≡ 1 → (w + w % 2) * u ≡ w * u + u
    more h = ap (λ (z : ℕ). (w + z) * u) h ∙ omega arith

    at : (v : ℕ) → (v ≡ w * u) → apart v N * 2 ≤ u
    at v h = omega arith

    at' : (v : ℕ) → (v ≡ w * u + u) → apart v N * 2 ≤ u
    at' v h = omega arith

    odd : (w m : ℕ) → w % 2 ≡ suc m → w % 2 ≡ 1
    odd w m h = omega arith

    go : (m : ℕ) → w % 2 ≡ m → Half (w + w % 2) u N
    go zero h = (at ((w + w % 2) * u) (same h), λ _. even w)
    go (suc m) h = (at' ((w + w % 2) * u) (more (odd w m h)), λ _. even w)
half_at w r u N Ordering.gt c R e = (omega arith, λ t. absurd (no t))
  where
    no : apart (suc w * u) N * 2 ≡ u → ⊥
    no t = omega arith

half : (N u : ℕ) → 0 < u → Half (closest N u) u N
half N u U = half_at (N / u) (N % u) u N (compare (N % u * 2) u) (cmp (N % u * 2) u) (mod-lt N U) (div-add-mod' N u)

-- ---- `round`, of a fraction in the normal range
step_up : (z : ℕ) → 53 ≤ z → 53 + (z - 53) ≡ z
step_up z h = omega arith

step_in : (z : ℕ) → 53 ≤ z → 52 + (z - 53) < z
step_in z h = omega arith

module _ (n d : ℕ) (D : 0 < d) (normal : 2 ^ 52 * d ≤ n * 2 ^ 1074) where
  abbrev N : ℕ
  N = n * 2 ^ 1074

  abbrev k : ℕ
  k = size (N / d) - 53

  abbrev q : ℕ
  q = closest N (d * 2 ^ k)

  z : 53 ≤ size (N / d)
  z = normal_of_fraction binary64 n d D normal

  at_least : 2 ^ 52 * (d * 2 ^ k) ≤ N
  at_least =
      le_trans (le_of_eq (ap (λ (x : ℕ). 2 ^ 52 * x) (mul_comm d (2 ^ k)) ∙ sym (mul_assoc (2 ^ 52) (2 ^ k) d) ∙ ap (λ (x : ℕ). x * d) (sym (pow-add 2 52 k))))
      ((le-div_iff_mul-le D).0 (size_reaches (N / d) (52 + k) (step_in (size (N / d)) z)))

  at_most : N < 2 ^ 53 * (d * 2 ^ k)
  at_most =
      lt_of_lt_of_le ((div-lt_iff_lt-mul D).0 (subst (λ (x : ℕ). N / d < 2 ^ x) (sym (step_up (size (N / d)) z)) (size-lt (N / d))))
      (le_of_eq (ap (λ (x : ℕ). x * d) (pow-add 2 53 k) ∙ mul_assoc (2 ^ 53) (2 ^ k) d ∙ ap (λ (x : ℕ). 2 ^ 53 * x) (mul_comm (2 ^ k) d)))

  rounded : (s : Bool) → q * 2 ^ k < 2 ^ 2098 → Nearest s n d (round binary64 s n d)
  rounded s small =
      let h = half N (d * 2 ^ k) (mul-pos D (pow_pos k)) in
      record {
        double = round-fits binary64 s n d;
        q = q;
        k = k;
        value = subst (λ (x : Float). Holds x s (q * 2 ^ k) (2 ^ 1074)) (sym (round_is binary64 s n d)) (holds (units binary64 s q k) s (q * 2 ^ k) (2 ^ 1074) (units_val binary64 s q k small));
        least = at_least;
        most = at_most;
        near = h.0;
        tie = h.1;
      }

q_le : (q u N : ℕ) → apart (q * u) N * 2 ≤ u → N < 2 ^ 53 * u → q ≤ 2 ^ 53
q_le q u N h m =
    let a : q * 2 * u < (2 ^ 54 + 1) * u = omega arith in
    let b : q * 2 < 2 ^ 54 + 1 = lt_of_mul-lt-mul_right u a in
    omega arith

step_le : (n d K L : ℕ) → 0 < d → n < 2 ^ 53 → 2 ^ 52 * (d * K) ≤ n * L → 2 ^ 53 * K ≤ 2 ^ 54 * L
step_le n d K L D n< h =
    let a : 1 * K ≤ d * K = mul-le-mul_right K D in
    let b : suc n * L ≤ 2 ^ 53 * L = mul-le-mul_right L n< in
    omega arith

normal_from : (n d : ℕ) → 0 < n → d ≤ 2 ^ 64 → 2 ^ 52 * d ≤ n * 2 ^ 1074
normal_from n d h D =
    le_trans (mul-le-mul_left (2 ^ 52) D)
    (le_trans (lit≤ {n = 1 * 2 ^ 1074} tt) (mul-le-mul_right (2 ^ 1074) h))

small : (d : ℕ) → d < 2 ^ 53 → d ≤ 2 ^ 64
small d h = omega arith

-- the double that `round` picks, for a numerator below 2 ^ 53 and a denominator up to 2 ^ 64
round_nearest : (s : Bool) (n d : ℕ) → 0 < d → d ≤ 2 ^ 64 → 0 < n → n < 2 ^ 53 → Nearest s n d (round binary64 s n d)
round_nearest s n d D D64 P n< =
    let norm = normal_from n d P D64 in
    let kk = k n d D norm in
    let qq = q n d D norm in
    let ql : qq ≤ 2 ^ 53 = q_le qq (d * 2 ^ kk) (n * 2 ^ 1074) (half (n * 2 ^ 1074) (d * 2 ^ kk) (mul-pos D (pow_pos kk))).0 (at_most n d D norm) in
    rounded n d D norm s
    (lt_of_le_of_lt (mul-le-mul_right (2 ^ kk) ql)
    (lt_of_le_of_lt (step_le n d (2 ^ kk) (2 ^ 1074) D n< (at_least n d D norm)) (lit< tt)))

-- ---- the division
zero_quotient : (d : ℕ) → 0 < d → round binary64 false 0 d ≡ fin false 0 (pos 0)
unfolding round
zero_quotient d D = round_same binary64 false 0 d 0 1 D (lit< tt) (omega arith)

cross : (x c n y g d : ℕ) → x * 1 ≡ n * c → y * 1 ≡ d * g → x * g * d ≡ n * (y * c)
cross x c n y g d p q =
    let e : x ≡ n * c = omega (arith, p) in
    let f : y ≡ d * g = omega (arith, q) in
    rw (e, f) (omega arith)

-- a divisor is not zero
some_divisor : (a y g d : ℕ) → 0 < d → 0 < g → a * y * 1 ≡ d * g → eqb a 0 ≡ false
some_divisor zero y g d D G e = absurd (go (mul-pos D G))
  where
    go : 0 < d * g → ⊥
    go h = omega (arith, e, h)
some_divisor (suc a) y g d D G e = ne_eqb (suc a) 0 (λ q. omega arith)

by_whole : (s : Bool) (n d : ℕ) (x y : Float) → 0 < d → HasValue x s n 1 → HasValue y false d 1 → div binary64 x y ≡ round binary64 s n d
unfolding div
by_whole s n d nan y D h k = absurd h
by_whole s n d (inf t) y D h k = absurd h
by_whole s n d (fin t m e) nan D h k = absurd k
by_whole s n d (fin t m e) (inf u) D h k = absurd k
by_whole s n d (fin t m e) (fin true a f) D h k = absurd (true≢false k.0)
by_whole s n d (fin t m e) (fin false a f) D h k =
    let z = some_divisor a (up f) (down f) d D (down_pos f) k.1 in
    let g : 0 < a * up f = positive (a * up f) k.1 in
    rw z (like t
    ∙ round_same binary64 t (m * up e * down f) (a * up f * down e) n d (mul-pos g (down_pos e)) D (cross (m * up e) (down e) n (a * up f) (down f) d h.1 k.1)
    ∙ ap (λ (u : Bool). round binary64 u n d) h.0)
  where
    positive : (v : ℕ) → v * 1 ≡ d * down f → 0 < v
    positive v q = let w = mul-pos D (down_pos f) in omega (arith, q, w)

    like : (t : Bool) → round binary64 (unlike t false) (m * up e * down f) (a * up f * down e) ≡ round binary64 t (m * up e * down f) (a * up f * down e)
    like true = refl
    like false = refl

rounds : (s : Bool) (n d : ℕ) → n < 2 ^ 53 → (s ≡ true → 0 < n) → 0 < d → d < 2 ^ 53 → QuotientOf (signed s n) d (round binary64 s n d)
rounds false zero d l p D E = zero_quotient d D
rounds false (suc n) d l p D E = round_nearest false (suc n) d D (small d E) (zero-lt-suc n) l
rounds true zero d l p D E = absurd (lt_irrefl 0 (p refl))
rounds true (suc n) d l p D E = round_nearest true (suc n) d D (small d E) (zero-lt-suc n) l

-- x, which holds ± n exactly, divided by y, which holds d exactly
pub quotient_is : (s : Bool) (n d : ℕ) (x y : Float) → Holds x s n 1 → Holds y false d 1 → n < 2 ^ 53 → (s ≡ true → 0 < n) → 0 < d → d < 2 ^ 53 →
    QuotientOf (signed s n) d (div binary64 x y)
quotient_is s n d x y h k l p D E =
    subst (QuotientOf (signed s n) d) (sym (by_whole s n d x y D (has x s n 1 h) (has y false d 1 k))) (rounds s n d l p D E)

-- ---- a whole number, and the same negated
whole : (n : ℕ) → n < 2 ^ 53 → HasValue (of_int binary64 (pos n)) false n 1
unfolding of_int
whole n h = round_whole binary64 false n (le_of_lt h)

pub whole_held : (n : ℕ) → n < 2 ^ 53 → Holds (of_int binary64 (pos n)) false n 1
whole_held n h = holds (of_int binary64 (pos n)) false n 1 (whole n h)

minus : (x : Float) (n : ℕ) → HasValue x false n 1 → HasValue (neg x) true n 1
unfolding neg
minus nan n h = absurd h
minus (inf s) n h = absurd h
minus (fin true m e) n h = absurd (true≢false h.0)
minus (fin false m e) n h = (refl, h.1)

pub minus_held : (n : ℕ) → n < 2 ^ 53 → Holds (neg (of_int binary64 (pos n))) true n 1
minus_held n h = holds (neg (of_int binary64 (pos n))) true n 1 (minus (of_int binary64 (pos n)) n (whole n h))
