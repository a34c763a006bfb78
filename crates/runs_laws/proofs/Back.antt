-- Dates never go back within a run. Assumes nothing.
use mathlib.Core.Path.{◌≡◌, refl, ap, ◌∙◌}
use mathlib.Core.Bool.{true}
use mathlib.Core.List.{List, [], ◌∷◌, map}
use Prim.Native.Nat.{ℕ, ◌/◌, ◌≤◌}
use native.Mathlib.Omega.{arith}
use lib.IntN.{ℤ, pos}
use lib.ListN.{length, take}
use lib.Signed.{le_z}
use borrow.Author.Tests.{le-leb}
use Rattle.layout_fields.specs.Siral.{fields_of}
use Rattle.layout_fields.specs.declared.siral.Fields.{Fields}
use Rattle.runs.specs.Meaning.{packets, all, ahead, extras, unrolled, date_of, siral}
use Rattle.runs.specs.Alike.{dates_alike}
use Rattle.runs.specs.Seconds.{all_alike}
use Rattle.runs_laws.specs.Meaning.{dates, never_back}
use Rattle.runs_laws.proofs.Answered.{passes, dates_are}

module _ (f : Fields) where
  at : List ℕ → List ℤ
  at ts = map pos (map (date_of f) ts)

  later : (u t : ℕ) → u ≤ t → date_of f u ≤ date_of f t
  later u t h = omega arith

  none_before : (u t : ℕ) (xs : List ℕ) → u ≤ t → all (le_z (pos (date_of f u))) (at (unrolled t xs)) ≡ true
  unfolding at
  none_before u t [] h = refl
  none_before u t (x ∷ xs) h = rw (le-leb (date_of f u) (date_of f (ahead t x)) (later u (ahead t x) (omega arith)), none_before u (ahead t x) xs (omega arith))

  never : (t : ℕ) (xs : List ℕ) → never_back (at (unrolled t xs)) ≡ true
  unfolding at
  never t [] = refl
  never t (x ∷ xs) = rw (none_before (ahead t x) (ahead t x) xs (omega arith), never (ahead t x) xs)

pub never_back_lem : (s : List ℕ) (told : ℕ) (out : List ℤ) → (siral s told out).number ≡ 0 → never_back (dates (siral s told out)) ≡ true
unfolding at
never_back_lem s told out e =
    let h = passes s told out e in
    let f = fields_of (take 10 s) in
    ap never_back (dates_are s told out h.0 h.1 ∙ ap (map pos) (dates_alike f (packets s) told (all_alike (length s / 10) s h.0.same)))
    ∙ never f told (extras (packets s))
