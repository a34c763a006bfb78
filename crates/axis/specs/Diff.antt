-- Differences of naturals. Every signed number is a difference a − b of naturals (`sub_ℕ a b`), and sums, negatives,
-- products, floors, orders and equality of differences are read off the naturals: what a goal says of ℤ becomes what
-- `omega` reads. Assumes nothing.
use Rattle.std.specs.Prelude.{◌≡◌, refl, Bool, true, false, not, ℕ, zero, suc, ◌+◌, ◌-◌, ◌*◌, ◌/◌, ◌%◌, ◌≤◌, ◌<◌, leb, ltb, ℤ, pos, negsuc, neg_ℤ, ◌+ℤ◌, ◌*ℤ◌}
use Rattle.std.proofs.Common.{sym, ap, ◌∙◌, mod-lt, le-div_iff_mul-le, div-lt_iff_lt-mul, arith, lt-ltb, le-ltb, le-leb, ltb-true, ltb-false}
use Rattle.std.proofs.Math.Nat.{div-add-mod, div-eq_of_lt-le}
use Rattle.std.proofs.Math.IntN.{sub_ℕ}
use Rattle.std.specs.Int.Signed.{lt_z, le_z, mag}
use Rattle.axis.specs.Meaning.{floor_z, mod_z}
use Rattle.std.proofs.lemmas.Bool.{lt-leb}

-- ---- the two shapes of a difference
pub sub_neg : (a b : ℕ) → a < b → sub_ℕ a b ≡ negsuc (b - suc a)
sub_neg a b h = rw (lt-ltb a b h)

pub sub_pos : (a b : ℕ) → b ≤ a → sub_ℕ a b ≡ pos (a - b)
sub_pos a b h = rw (le-ltb a b h)

-- a is below b or not: what each lemma below goes by
pub data Way (a b : ℕ) : Type 0 where
  below : a < b → Way a b
  above : b ≤ a → Way a b

way' : (a b : ℕ) (t : Bool) → ltb a b ≡ t → Way a b
way' a b true e = below (ltb-true a b e)
way' a b false e = above (ltb-false a b e)

pub way : (a b : ℕ) → Way a b
way a b = way' a b (ltb a b) refl

-- two tests that agree
pub tests : (a b c d : ℕ) → (a ≤ b → c ≤ d) → (b < a → d < c) → leb a b ≡ leb c d
tests a b c d f g = go (way b a)
  where
    go : Way b a → leb a b ≡ leb c d
    go (below h) = lt-leb a b h ∙ sym (lt-leb c d (g h))
    go (above h) = le-leb a b h ∙ sym (le-leb c d (f h))

-- ---- every signed number is one
pub is_pos : (n : ℕ) → pos n ≡ sub_ℕ n 0
is_pos n = sym (sub_pos n 0 (omega arith) ∙ ap pos (omega arith))

pub is_negsuc : (n : ℕ) → negsuc n ≡ sub_ℕ 0 (suc n)
is_negsuc n = sym (sub_neg 0 (suc n) (omega arith) ∙ ap negsuc (omega arith))

-- of its two parts
abbrev pub up : ℤ → ℕ
up (pos n) = n
up (negsuc n) = 0

abbrev pub down : ℤ → ℕ
down (pos n) = 0
down (negsuc n) = suc n

pub parts : (z : ℤ) → z ≡ sub_ℕ (up z) (down z)
parts (pos n) = is_pos n
parts (negsuc n) = is_negsuc n

-- ---- equal differences
pub sub_eq : (a b c d : ℕ) → a + d ≡ c + b → sub_ℕ a b ≡ sub_ℕ c d
sub_eq a b c d e = go (way a b) (way c d)
  where
    go : Way a b → Way c d → sub_ℕ a b ≡ sub_ℕ c d
    go (below h) (below k) = sub_neg a b h ∙ ap negsuc (omega arith) ∙ sym (sub_neg c d k)
    go (below h) (above k) = absurd (omega arith)
    go (above h) (below k) = absurd (omega arith)
    go (above h) (above k) = sub_pos a b h ∙ ap pos (omega arith) ∙ sym (sub_pos c d k)

pub sub_inj : (a b c d : ℕ) → sub_ℕ a b ≡ sub_ℕ c d → a + d ≡ c + b
sub_inj a b c d e = go (way a b) (way c d)
  where
    unpos : {m n : ℕ} → pos m ≡ pos n → m ≡ n
    unpos p = cc

    unneg : {m n : ℕ} → negsuc m ≡ negsuc n → m ≡ n
    unneg p = cc

    apart : {m n : ℕ} → pos m ≡ negsuc n → ⊥
    apart p = let z : ◌≡◌ {A = ℕ} 0 1 = cc in omega arith

    go : Way a b → Way c d → a + d ≡ c + b
    go (below h) (below k) =
        let q : b - suc a ≡ d - suc c = unneg (sym (sub_neg a b h) ∙ e ∙ sub_neg c d k) in omega arith
    go (below h) (above k) = absurd (apart (sym (sub_pos c d k) ∙ sym e ∙ sub_neg a b h))
    go (above h) (below k) = absurd (apart (sym (sub_pos a b h) ∙ e ∙ sub_neg c d k))
    go (above h) (above k) =
        let q : a - b ≡ c - d = unpos (sym (sub_pos a b h) ∙ e ∙ sub_pos c d k) in omega arith

-- ---- sums, negatives, products
pub sub_add : (a b c d : ℕ) → sub_ℕ a b +ℤ sub_ℕ c d ≡ sub_ℕ (a + c) (b + d)
sub_add a b c d = go (way a b) (way c d)
  where
    go : Way a b → Way c d → sub_ℕ a b +ℤ sub_ℕ c d ≡ sub_ℕ (a + c) (b + d)
    go (below h) (below k) =
        rw (sub_neg a b h, sub_neg c d k) (sym (sub_neg (a + c) (b + d) (omega arith) ∙ ap negsuc (omega arith)))
    go (below h) (above k) =
        rw (sub_neg a b h, sub_pos c d k) (sub_eq (c - d) (suc (b - suc a)) (a + c) (b + d) (omega arith))
    go (above h) (below k) =
        rw (sub_pos a b h, sub_neg c d k) (sub_eq (a - b) (suc (d - suc c)) (a + c) (b + d) (omega arith))
    go (above h) (above k) =
        rw (sub_pos a b h, sub_pos c d k) (sym (sub_pos (a + c) (b + d) (omega arith) ∙ ap pos (omega arith)))

pub neg_pos : (n : ℕ) → neg_ℤ (pos n) ≡ sub_ℕ 0 n
neg_pos zero = refl
neg_pos (suc n) = is_negsuc n

pub sub_negate : (a b : ℕ) → neg_ℤ (sub_ℕ a b) ≡ sub_ℕ b a
sub_negate a b = go (way a b)
  where
    go : Way a b → neg_ℤ (sub_ℕ a b) ≡ sub_ℕ b a
    go (below h) = rw (sub_neg a b h) (sym (sub_pos b a (omega arith) ∙ ap pos (omega arith)))
    go (above h) = rw (sub_pos a b h) (neg_pos (a - b) ∙ sub_eq 0 (a - b) b a (omega arith))

pub sub_mul : (a b n : ℕ) → sub_ℕ a b *ℤ pos n ≡ sub_ℕ (a * n) (b * n)
sub_mul a b n = go (way a b)
  where
    go : Way a b → sub_ℕ a b *ℤ pos n ≡ sub_ℕ (a * n) (b * n)
    go (below h) = rw (sub_neg a b h)
        (neg_pos (suc (b - suc a) * n) ∙ sub_eq 0 (suc (b - suc a) * n) (a * n) (b * n) (e (suc (b - suc a)) (omega arith)))
      where
        e : (x : ℕ) → b ≡ a + x → 0 + b * n ≡ a * n + x * n
        e x p = omega (arith, ap (λ (y : ℕ). y * n) p)
    go (above h) = rw (sub_pos a b h)
        (is_pos ((a - b) * n) ∙ sub_eq ((a - b) * n) 0 (a * n) (b * n) (e (a - b) (omega arith)))
      where
        e : (x : ℕ) → a ≡ b + x → x * n + b * n ≡ a * n + 0
        e x p = omega (arith, ap (λ (y : ℕ). y * n) p)

-- ---- orders
pub sub_lt : (a b c d : ℕ) → lt_z (sub_ℕ a b) (sub_ℕ c d) ≡ ltb (a + d) (c + b)
sub_lt a b c d = go (way a b) (way c d) (way (a + d) (c + b))
  where
    go : Way a b → Way c d → Way (a + d) (c + b) → lt_z (sub_ℕ a b) (sub_ℕ c d) ≡ ltb (a + d) (c + b)
    go (below h) (below k) (below l) = rw (sub_neg a b h, sub_neg c d k, lt-ltb (a + d) (c + b) l) (lt-ltb (d - suc c) (b - suc a) (omega arith))
    go (below h) (below k) (above l) = rw (sub_neg a b h, sub_neg c d k, le-ltb (a + d) (c + b) l) (le-ltb (d - suc c) (b - suc a) (omega arith))
    go (below h) (above k) l = rw (sub_neg a b h, sub_pos c d k) (sym (lt-ltb (a + d) (c + b) (omega arith)))
    go (above h) (below k) l = rw (sub_pos a b h, sub_neg c d k) (sym (le-ltb (a + d) (c + b) (omega arith)))
    go (above h) (above k) (below l) = rw (sub_pos a b h, sub_pos c d k, lt-ltb (a + d) (c + b) l) (lt-ltb (a - b) (c - d) (omega arith))
    go (above h) (above k) (above l) = rw (sub_pos a b h, sub_pos c d k, le-ltb (a + d) (c + b) l) (le-ltb (a - b) (c - d) (omega arith))

-- not above is at or below, of naturals and of signed numbers
leb_not : (a b : ℕ) → leb a b ≡ not (ltb b a)
leb_not a b = go (way b a)
  where
    go : Way b a → leb a b ≡ not (ltb b a)
    go (below h) = rw (lt-leb a b h, lt-ltb b a h)
    go (above h) = rw (le-leb a b h, le-ltb b a h)

pub le_not : (x y : ℤ) → le_z x y ≡ not (lt_z y x)
le_not (pos a) (pos b) = leb_not a b
le_not (pos a) (negsuc b) = refl
le_not (negsuc a) (pos b) = refl
le_not (negsuc a) (negsuc b) = leb_not b a

pub sub_le : (a b c d : ℕ) → le_z (sub_ℕ a b) (sub_ℕ c d) ≡ leb (a + d) (c + b)
sub_le a b c d = le_not (sub_ℕ a b) (sub_ℕ c d) ∙ ap not (sub_lt c d a b) ∙ sym (leb_not (a + d) (c + b))

-- ---- whole multiples of m go through the floor, and leave what is left over as it is
module _ (a q m : ℕ) (p : 0 < m) where
  dm : m * (a / m) + a % m ≡ a
  dm = div-add-mod a m

  ml : a % m < m
  ml = mod-lt a p

  module _ (h : q * m ≤ a) where
    qle : q ≤ a / m
    qle = (le-div_iff_mul-le p).1 h

    quot_above : (a - q * m) / m ≡ a / m - q
    quot_above = div-eq_of_lt-le m (low (a / m - q) (omega (arith, qle))) (high (a / m - q) (omega (arith, qle)))
      where
        low : (x : ℕ) → a / m ≡ q + x → x * m ≤ a - q * m
        low x e = omega (arith, ap (λ (y : ℕ). m * y) e, dm)

        high : (x : ℕ) → a / m ≡ q + x → a - q * m < (x + 1) * m
        high x e = omega (arith, ap (λ (y : ℕ). m * y) e, dm, ml)

  module _ (h : a < q * m) where
    qlt : a / m < q
    qlt = (div-lt_iff_lt-mul p).1 h

    quot_below : (q * m - suc a) / m ≡ q - suc (a / m)
    quot_below = div-eq_of_lt-le m (low (q - suc (a / m)) (omega (arith, qlt))) (high (q - suc (a / m)) (omega (arith, qlt)))
      where
        low : (x : ℕ) → q ≡ suc (a / m) + x → x * m ≤ q * m - suc a
        low x e = omega (arith, ap (λ (y : ℕ). y * m) e, dm, ml)

        high : (x : ℕ) → q ≡ suc (a / m) + x → q * m - suc a < (x + 1) * m
        high x e = omega (arith, ap (λ (y : ℕ). y * m) e, dm, ml)

  pub sub_floor : floor_z (sub_ℕ a (q * m)) m ≡ sub_ℕ (a / m) q
  sub_floor = go (way a (q * m))
    where
      go : Way a (q * m) → floor_z (sub_ℕ a (q * m)) m ≡ sub_ℕ (a / m) q
      go (above h) = rw (sub_pos a (q * m) h) (ap pos (quot_above h) ∙ sym (sub_pos (a / m) q (qle h)))
      go (below h) = rw (sub_neg a (q * m) h) (ap negsuc (quot_below h) ∙ sym (sub_neg (a / m) q (qlt h)))

  pub sub_mod : mod_z (sub_ℕ a (q * m)) m ≡ a % m
  sub_mod = go (way a (q * m))
    where
      go : Way a (q * m) → mod_z (sub_ℕ a (q * m)) m ≡ a % m
      go (above h) = rw (sub_pos a (q * m) h) (left (a / m - q) (omega (arith, qle h)) (sym (quot_above h)))
        where
          left : (x : ℕ) → a / m ≡ q + x → x ≡ (a - q * m) / m → (a - q * m) % m ≡ a % m
          left x e f = omega (arith, div-add-mod (a - q * m) m, ap (λ (y : ℕ). m * y) e, ap (λ (y : ℕ). m * y) f, dm)
      go (below h) = rw (sub_neg a (q * m) h) (left (q - suc (a / m)) (omega (arith, qlt h)) (sym (quot_below h)))
        where
          left : (x : ℕ) → q ≡ suc (a / m) + x → x ≡ (q * m - suc a) / m → m - suc ((q * m - suc a) % m) ≡ a % m
          left x e f = omega (arith, div-add-mod (q * m - suc a) m, ap (λ (y : ℕ). m * y) e, ap (λ (y : ℕ). m * y) f, dm, ml, h)

-- ---- the range of a difference, as a signed width asks it
pub sub_mag : (a b n : ℕ) → a < n → b ≤ n → mag (sub_ℕ a b) < n
sub_mag a b n p q = go (way a b)
  where
    go : Way a b → mag (sub_ℕ a b) < n
    go (below h) = rw (sub_neg a b h) (omega arith)
    go (above h) = rw (sub_pos a b h) (omega arith)

-- ---- differences from one number: the shift by m keeps order and equality
pub sub_le_same : (m a b : ℕ) → le_z (sub_ℕ a m) (sub_ℕ b m) ≡ leb a b
sub_le_same m a b = sub_le a m b m ∙ tests (a + m) (b + m) a b (λ h. omega arith) (λ h. omega arith)

pub sub_inj_same : (m a b : ℕ) → sub_ℕ a m ≡ sub_ℕ b m → a ≡ b
sub_inj_same m a b e = omega (arith, sub_inj a m b m e)
