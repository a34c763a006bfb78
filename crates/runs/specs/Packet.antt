-- What a packet of ten bytes tells: its fields where they are below their limits, and its three fields in one number. Assumes nothing.
use Rattle.std.specs.Prelude.{◌≡◌, Bool, cond, List, ℕ, ◌+◌, ◌*◌, ◌≤◌, length, drop, Result, Ok, Err}
use Rattle.std.specs.Result.{is_ok}
use Rattle.std.proofs.Math.Path.{refl, sym, ap}
use Rattle.std.proofs.Common.{◌∙◌, arith, length-drop, length-take-le, eq-eqb}
use Rattle.std.proofs.Math.Bool.{true, false}
use Rattle.scales.specs.Meaning.{Valued, valued, answer, refused}
use Rattle.scales.specs.Same.{no_zero, refusals}
use Rattle.scales.specs.declared.Refusal.{Refusal}
use Rattle.scales.specs.declared.Refusal.TheVariants as R
use Rattle.layout_fields.specs.Siral.{fields_of, empty, slip, read}
use Rattle.layout_fields.specs.declared.siral.Fields.{Fields}
use Rattle.runs.specs.Meaning.{is_in_limits}
use Rattle.runs.specs.Passes.{packet_at}

pub packet_length : (s : List ℕ) (i : ℕ) → 10 * i + 10 ≤ length s → length (packet_at s i) ≡ 10
packet_length s i h = length-take-le 10 (drop (10 * i) s) (omega (arith, length-drop (10 * i) s))

-- the reader of the fields answers exactly where the limits are kept
module _ (p : List ℕ) (l : length p ≡ 10) where
  told : Bool → Valued Fields
  told b = valued empty (cond b (answer (fields_of p)) (refused 3))

  read_is : read p ≡ told (is_in_limits (fields_of p))
  unfolding read told
  read_is = rw (eq-eqb (length p) 10 l)

  pub packet_in : (f : Fields) → slip (Ok f) ≡ read p → (is_in_limits (fields_of p) ≡ true) × (f ≡ fields_of p)
  unfolding told
  packet_in f q = go (is_in_limits (fields_of p)) (q ∙ read_is)
    where
      go : (b : Bool) → slip (Ok f) ≡ told b → (b ≡ true) × (f ≡ fields_of p)
      go true q = (refl, ap (λ (v : Valued Fields). v.value) q)
      go false q = absurd (let z : 0 ≡ 3 = ap (λ (v : Valued Fields). v.number) q in omega arith)

  pub packet_over_lem : (r : Refusal) → slip (Err r) ≡ read p → (is_in_limits (fields_of p) ≡ false) × (r ≡ R.FieldOver)
  unfolding told
  packet_over_lem r q = go (is_in_limits (fields_of p)) (q ∙ read_is)
    where
      go : (b : Bool) → slip (Err r) ≡ told b → (b ≡ false) × (r ≡ R.FieldOver)
      go true q = absurd (no_zero r (ap (λ (v : Valued Fields). v.number) q))
      go false q = (refl, refusals r R.FieldOver (ap (λ (v : Valued Fields). v.number) q))

  pub packet_ok : (r : Result Fields Refusal) → slip r ≡ read p → is_ok r ≡ is_in_limits (fields_of p)
  packet_ok (Ok f) q = sym (packet_in f q).0
  packet_ok (Err r) q = sym (packet_over_lem r q).0
