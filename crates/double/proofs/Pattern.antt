-- From a bit pattern to the exact value that it stands for. Assumes nothing.
use mathlib.Core.Path.{◌≡◌, refl, sym, ap, ◌∙◌, subst}
use mathlib.Core.Bool.{Bool, true, false, not, cond, false≢true}
use Prim.Native.Nat.{ℕ, zero, suc, ◌+◌, ◌*◌, ◌/◌, ◌%◌, ◌^◌, ◌<◌}
use native.Mathlib.Nat.{lt_irrefl}
use native.Mathlib.Omega.{arith}
use lib.Dec.{T, leb, eqb, eqb→eq, not_T}
use lib.Pow.{field}
use lib.Ieee.{Float, nan, inf, fin, binary64, odd, of_fields, of_bits, is_nan}
use lib.Ieee.Fits.{eq→eqb}
use lib.Ieee.Exact.{HasValue, odd_sign}
use Rattle.double.specs.Meaning.{finite, size_at, Holds, bits_of}
use Rattle.double.proofs.Exact.{holds}

-- ---- the fields
of_bits_is : (b : ℕ) → of_bits binary64 b ≡ of_fields binary64 (leb (2 ^ 63) b) (b % 2 ^ 63 / 2 ^ 52) (b % 2 ^ 52)
unfolding of_bits
of_bits_is b = refl

by_fields : (b : ℕ) → of_bits binary64 b ≡ of_fields binary64 (leb (2 ^ 63) b) (b / 2 ^ 52 % 2 ^ 11) (b % 2 ^ 52)
by_fields b = of_bits_is b ∙ ap (λ (x : ℕ). of_fields binary64 (leb (2 ^ 63) b) x (b % 2 ^ 52)) (field b 11 52)

cond_no : (b : Bool) (x y : Float) → T (not b) → cond b x y ≡ y
cond_no true x y t = absurd t
cond_no false x y t = refl

cond_yes : (b : Bool) (x y : Float) → T b → cond b x y ≡ x
cond_yes true x y t = refl
cond_yes false x y t = absurd t

fields_value : (s : Bool) (x t : ℕ) → x < 2047 → HasValue (of_fields binary64 s x t) s (size_at x t) (2 ^ 1074)
unfolding of_fields
fields_value s zero t h = odd_sign 53 s t 0 1074
fields_value s (suc j) t h =
    let v = odd 53 s (2 ^ 52 + t) j 1074 in
    let no : T (not (eqb (suc j) 2047)) = not_T (eqb (suc j) 2047) (λ u. lt_irrefl 2047 (subst (λ (z : ℕ). z < 2047) (eqb→eq (suc j) 2047 u) h)) in
    subst (λ (y : Float). HasValue y s ((2 ^ 52 + t) * 2 ^ j) (2 ^ 1074)) (sym (cond_no (eqb (suc j) 2047) (cond (eqb t 0) (inf s) nan) v no)) (odd_sign 53 s (2 ^ 52 + t) j 1074)

not_finite_lem : (b s : Bool) → finite (cond b (inf s) nan) ≡ false
not_finite_lem true s = refl
not_finite_lem false s = refl

top_field : (s : Bool) (x t : ℕ) → x ≡ 2047 → finite (of_fields binary64 s x t) ≡ false
unfolding of_fields
top_field s zero t h = absurd (no h)
  where
    no : ◌≡◌ {A = ℕ} 0 2047 → ⊥
    no h = omega arith
top_field s (suc j) t h =
    ap finite (cond_yes (eqb (suc j) 2047) (cond (eqb t 0) (inf s) nan) (odd 53 s (2 ^ 52 + t) j 1074) (eq→eqb h)) ∙ not_finite_lem (eqb t 0) s

-- ---- by the parts of the bits
module _ (b : ℕ) where
  pub bits_infinite : (bits_of b).exponent ≡ 2047 → finite (of_bits binary64 b) ≡ false
  bits_infinite h = ap finite (by_fields b) ∙ top_field (leb (2 ^ 63) b) (b / 2 ^ 52 % 2 ^ 11) (b % 2 ^ 52) h

  pub bits_hold : (bits_of b).exponent < 2047 → Holds (of_bits binary64 b) (bits_of b).minus (size_at (bits_of b).exponent (bits_of b).digits) (2 ^ 1074)
  bits_hold h =
      let x = b / 2 ^ 52 % 2 ^ 11 in
      let s = leb (2 ^ 63) b in
      let t = b % 2 ^ 52 in
      subst (λ (y : Float). Holds y s (size_at x t) (2 ^ 1074)) (sym (by_fields b))
      (holds (of_fields binary64 s x t) s (size_at x t) (2 ^ 1074) (fields_value s x t h))

-- ---- what is not a number
pub at_nan : (x : Float) → is_nan x ≡ true → finite x ≡ false
unfolding is_nan
at_nan nan h = refl
at_nan (inf s) h = absurd (false≢true h)
at_nan (fin s m e) h = absurd (false≢true h)
