-- The value of a double as the meanings have it and as the logic's f64 has it, and how many digits it has. Assumes nothing.
use mathlib.Core.Path.{refl, sym, ◌∙◌}
use mathlib.Core.Bool.{Bool, ◌&&◌, false≢true}
use Prim.Native.Nat.{ℕ, zero, suc, ◌*◌, ◌%◌, ◌^◌, ◌≤◌, ◌<◌}
use native.Mathlib.Nat.{le_trans, le_of_eq, one-mul}
use lib.Dec.{eqb→eq, T, leb, ltb, eqb, ltb→lt, leb→le, lit<, lit≤}
use lib.IntN.{ℤ, pos, negsuc}
use lib.Ieee.{Float, nan, inf, fin, binary64, up, down, fits}
use lib.Ieee.Fits.{and_l, and_r}
use lib.Ieee.Exact.{HasValue}
use Rattle.double.specs.Meaning.{Holds}
use Rattle.double.specs.Meaning as M
use lib.Pow.{pow_pos}

pub holds : (x : Float) (s : Bool) (a c : ℕ) → HasValue x s a c → Holds x s a c
holds nan s a c h = absurd h
holds (inf t) s a c h = absurd h
holds (fin t m (pos k)) s a c h = record { ends = refl; sign = h.0; size = h.1 }
holds (fin t m (negsuc k)) s a c h = record { ends = refl; sign = h.0; size = h.1 }

pub has : (x : Float) (s : Bool) (a c : ℕ) → Holds x s a c → HasValue x s a c
has nan s a c h = absurd (false≢true h.ends)
has (inf t) s a c h = absurd (false≢true h.ends)
has (fin t m (pos k)) s a c h = (h.sign, h.size)
has (fin t m (negsuc k)) s a c h = (h.sign, h.size)

pub digits : (s : Bool) (m : ℕ) (e : ℤ) → T (fits binary64 (fin s m e)) → (m < 2 ^ 53) × (down e ≤ 2 ^ 1074)
unfolding fits
digits s zero (pos k) f = (lit< tt, lit≤ tt)
digits s zero (negsuc k) f = (lit< tt, le_trans (le_of_eq (sym (one-mul (2 ^ suc k)) ∙ eqb→eq (1 * 2 ^ suc k) 1 f)) (lit≤ tt))
digits s (suc m) e f =
    let a = eqb (suc m % 2) 1 in
    let b = ltb (suc m) (2 ^ 53) in
    let c = leb (down e) (2 ^ 1074) in
    let k = and_l (a && b && c) (ltb (suc m * up e) (2 ^ 1024 * down e)) f in
    (ltb→lt (suc m) (2 ^ 53) (and_r a b (and_l (a && b) c k)), leb→le (down e) (2 ^ 1074) (and_r (a && b) c k))

pub under_pos : (e : ℤ) → 0 < M.down e
under_pos (pos k) = lit< tt
under_pos (negsuc k) = pow_pos (suc k)
