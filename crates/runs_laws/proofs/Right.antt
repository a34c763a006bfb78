-- The totals of the remainders of true counts are the counts, where each is less than a roll after the one before. Assumes nothing.
use mathlib.Core.Path.{◌≡◌, refl, ap, ◌∙◌}
use mathlib.Core.List.{List, [], ◌∷◌, map}
use Prim.Native.Nat.{ℕ, ◌+◌, ◌%◌, ◌≤◌, ◌<◌}
use native.Mathlib.Omega.{arith}
use lib.IntN.{ℤ, pos}
use Rattle.runs.specs.Meaning.{packets, ahead, extras, unrolled, dates_of, siral}
use Rattle.runs_laws.specs.Meaning.{dates, Least, Near, none, more}
use Rattle.runs_laws.proofs.Answered.{passes, dates_are}

-- ---- a total by its formula is the paper's
pub ahead_least : (before extra : ℕ) → extra < 65536 → Least before extra (ahead before extra)
ahead_least before extra h =
    record { not_below = omega arith; leads = omega arith; least = λ c k e. omega arith }

-- ---- and the true one, where that is less than a roll after the one before
ahead_is : (t c : ℕ) → t ≤ c → c < t + 65536 → ahead t (c % 65536) ≡ c
ahead_is t c h k = omega arith

pub right : (told : ℕ) (cs : List ℕ) → Near told cs → unrolled told (map (λ (c : ℕ). c % 65536) cs) ≡ cs
right told [] none = refl
right told (c ∷ cs) (more h k r) = rw (ahead_is told c h k) (ap (λ (l : List ℕ). c ∷ l) (right c cs r))

-- so every date is the true one
pub true_dates : (s : List ℕ) (told : ℕ) (out : List ℤ) → (siral s told out).number ≡ 0 → (cs : List ℕ) →
    extras (packets s) ≡ map (λ (c : ℕ). c % 65536) cs → Near told cs → dates (siral s told out) ≡ map pos (dates_of (packets s) cs)
true_dates s told out e cs x n =
    let h = passes s told out e in
    dates_are s told out h.0 h.1 ∙ ap (λ (ts : List ℕ). map pos (dates_of (packets s) ts)) (ap (unrolled told) x ∙ right told cs n)
