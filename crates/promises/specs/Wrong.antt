-- Wrong programs that met the older statements of demand 1, and do not meet those of `One` and `OneForC`. Assumes nothing.
use Rattle.std.specs.Prelude.{◌≡◌, refl, Bool, List, [], ◌∷◌, ℕ, Float, pos}
use Rattle.std.proofs.Common.{arith}
use Rattle.evidence.specs.ShutOut.{Outgrown}
use Rattle.octets.specs.Meaning.{field}
use Rattle.scales.specs.Meaning.{Judged, given, outcome, written, record_of, Valued}
use Rattle.scales.specs.declared.Scale.TheVariants as S
use Rattle.handed.specs.declared.Handed.{Handed}
use Rattle.handed.specs.declared.Handed.TheVariants as H
use Rattle.handed.specs.Meaning.{is_finite, is_in_span, day_of, micro_of}
use Rattle.double.specs.Meaning.{plus_zero}
use Rattle.decimal.specs.Meaning as Decimal
use Rattle.layout_fields.specs.Meaning.{placing}
use Rattle.layout_times.specs.Cuc as Cuc
use Rattle.c_api.specs.Meaning as CApi
use Rattle.c_api.specs.declared.VrkHanded.{VrkHanded}
use Rattle.c_api.specs.declared.VrkDecimal.{VrkDecimal}
use Rattle.promises.specs.Meaning.{tests}
use Rattle.promises.specs.Conditions as C
use Rattle.promises.specs.Rows as Rows
use Rattle.promises.specs.One.{Writes, writes, Allows, allows}

-- ---- a chain without 12: CUC of any scale. Its number is the first of its own tests that fails, as that of every chain is
abbrev unjudged : Handed → List ℕ → Judged (List ℕ)
unjudged h out =
    given (is_finite h) 4
    (given (is_in_span h) 7
    (placing (Cuc.image_at (day_of h) (micro_of h)) out))

abbrev Judges : (Handed → List ℕ → List (ℕ × Bool)) → Type 0
Judges rows = (h : Handed) (out : List ℕ) → Writes out (written out (outcome (unjudged h out))) (unjudged h out) (rows h out)

pub chain_without_12 : Outgrown (Judges (λ h out. tests (unjudged h out))) (Judges Rows.cuc_write)
unfolding field
chain_without_12 = (
  λ h out. writes out (unjudged h out) refl refl,
  λ w. let z : ◌≡◌ {A = ℕ} 0 12 = (w (H.Record (record_of S.Tai (pos 0) 0)) (0 ∷ 0 ∷ 0 ∷ 0 ∷ 0 ∷ 0 ∷ [])).first in omega arith,
)

-- ---- `vrk_decimal_write` that takes scale 9 for TAI: what it writes is what the library writes of that time
abbrev slipped : VrkDecimal → Valued Float
slipped r = record { number = r.refusal; value = r.day }

abbrev Taken : VrkHanded → VrkDecimal → Type 0
Taken h r = Decimal.Allowed (outcome (Decimal.writing (CApi.handed_of h))) (slipped r)

pub code_taken :
    Outgrown ((h : VrkHanded) (r : VrkDecimal) → Taken h r → Allows (slipped r) (Decimal.writing (CApi.handed_of h)) (Rows.decimal_write (CApi.handed_of h)))
    ((h : VrkHanded) (r : VrkDecimal) → Taken h r
    → Allows (slipped r) (given (CApi.known h) 3 (Decimal.writing (CApi.handed_of h))) ((3, C.handed_unknown h) ∷ Rows.decimal_write (CApi.handed_of h)))
code_taken = (
  λ h r q. allows (Decimal.writing (CApi.handed_of h)) refl refl (slipped r) q,
  λ w.
      let h : VrkHanded = record { kind = 0; scale = 9; day = pos 40000; micro = 0; decimal = plus_zero; mark = 0; source = 0 } in
      let z : ◌≡◌ {A = ℕ} 7 3 = (w h (record { refusal = 7; day = plus_zero }) (refl, refl)).first in
      omega arith,
)
