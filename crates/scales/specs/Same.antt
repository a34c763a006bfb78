-- The numbers and values of an answer fix the answer: any two that a contract allows are equal. Assumes nothing.
use Rattle.std.specs.Prelude.{◌≡◌, refl, List, [], ◌∷◌, true, ℕ, get_or, Result, Ok, Err}
use Rattle.std.proofs.Common.{sym, ap, ap₂, ◌∙◌, arith, eqb-true}
use Rattle.scales.specs.Meaning.{code_of, scale_at, Slip, slip, Valued, value_slip, tick_slip, count_slip, time_slip, slip_tai, slip_utc, slip_gps, number_of, time_scale, time_count, time_at, slip_timed, wrote, same_scale}
use Rattle.scales.specs.Place.{count_inj}
use Rattle.scales.specs.declared.Scale.{Scale}
use Rattle.scales.specs.declared.Scale.TheVariants as S
use Rattle.scales.specs.declared.Refusal.{Refusal}
use Rattle.scales.specs.declared.Refusal.TheVariants as R
use Rattle.scales.specs.declared.Refused.{Refused}
use Rattle.scales.specs.declared.Record.{Record}
use Rattle.scales.specs.declared.Tick.{Tick}
use Rattle.scales.specs.declared.Tai.{Tai}
use Rattle.scales.specs.declared.Utc.{Utc}
use Rattle.scales.specs.declared.Gps.{Gps}
use Rattle.scales.specs.declared.Time.{Time}
use Rattle.scales.specs.declared.Time.TheVariants as TM

-- a scale is known by its code
code_back : (s : Scale) → scale_at (code_of s) ≡ s
code_back S.Tai = refl
code_back S.Utc = refl
code_back S.Gps = refl

pub scales_same : (s t : Scale) → code_of s ≡ code_of t → s ≡ t
scales_same s t e = sym (code_back s) ∙ ap scale_at e ∙ code_back t

pub same_scale_lem : (s t : Scale) → same_scale s t ≡ true → s ≡ t
same_scale_lem s t e = scales_same s t (eqb-true (code_of s) (code_of t) e)

-- a refusal by its number
abbrev of : ℕ → Refusal
of n =
    get_or
    (R.OutputShorter ∷ R.LengthIsNone ∷ R.MarkerWrong ∷ R.FieldOver ∷ R.DecimalNotFinite ∷ R.ListNotAccepted ∷ R.CorrelationNotAccepted ∷ R.OutsideSpan ∷ R.NotInForce ∷ R.ListExpired ∷ R.SecondLacking
    ∷ R.ResultOutside ∷ R.NoImage ∷ R.OutputShorter ∷ R.SeasonBroken ∷ R.NoEntry ∷ R.NotOneSecond ∷ R.ResultLater ∷ [])
    n R.OutputShorter

of_number : (r : Refusal) → of (number_of r) ≡ r
of_number R.LengthIsNone = refl
of_number R.MarkerWrong = refl
of_number R.FieldOver = refl
of_number R.DecimalNotFinite = refl
of_number R.ListNotAccepted = refl
of_number R.CorrelationNotAccepted = refl
of_number R.OutsideSpan = refl
of_number R.NotInForce = refl
of_number R.ListExpired = refl
of_number R.SecondLacking = refl
of_number R.ResultOutside = refl
of_number R.NoImage = refl
of_number R.OutputShorter = refl
of_number R.SeasonBroken = refl
of_number R.NoEntry = refl
of_number R.NotOneSecond = refl
of_number R.ResultLater = refl

pub refusals : (a b : Refusal) → number_of a ≡ number_of b → a ≡ b
refusals a b e = sym (of_number a) ∙ ap of e ∙ of_number b

-- 0 is no refusal's number
pub no_zero : (r : Refusal) → number_of r ≡ 0 → ⊥
no_zero r e =
    let q : r ≡ R.OutputShorter = sym (of_number r) ∙ ap of e in
    let n : number_of r ≡ 13 = ap number_of q in
    omega arith

pub same : (a b : Result Record Refused) → slip a ≡ slip b → a ≡ b
same (Ok x) (Ok y) e = λ i. Ok (record { scale = (e i).scale; day = (e i).day; micro = (e i).micro; mark = (e i).mark })
same (Ok x) (Err r) e = absurd (no_zero r.refusal (λ i. (sym e i).number))
same (Err r) (Ok x) e = absurd (no_zero r.refusal (λ i. (e i).number))
same (Err r) (Err q) e = ap₂ (λ (f : Refusal) (s : Scale). Err (record { refusal = f; scale = s })) (refusals r.refusal q.refusal (λ i. (e i).number)) (λ i. (e i).scale)

-- what an answer that holds one value hands back fixes it, where the slip shows the value
module _ {A Y : Type 0} (number : Y → ℕ) (slip_of : Result A Refusal → Y)
    (some : (a : A) → number (slip_of (Ok a)) ≡ 0) (none : (f : Refusal) → number (slip_of (Err f)) ≡ number_of f)
    (one : (a b : A) → slip_of (Ok a) ≡ slip_of (Ok b) → a ≡ b) where
  pub same_valued : (a b : Result A Refusal) → slip_of a ≡ slip_of b → a ≡ b
  same_valued (Ok a) (Ok b) e = ap Ok (one a b e)
  same_valued (Ok a) (Err g) e = absurd (no_zero g (sym (none g) ∙ sym (ap number e) ∙ some a))
  same_valued (Err f) (Ok b) e = absurd (no_zero f (sym (none f) ∙ ap number e ∙ some b))
  same_valued (Err f) (Err g) e = ap Err (refusals f g (sym (none f) ∙ ap number e ∙ none g))

-- an answer that is made of its reply is known by its slip, whatever the slip shows of the reply
module _ {A X Y : Type 0} (slip_of : Result A Refusal → Y) (one : (a b : Result A Refusal) → slip_of a ≡ slip_of b → a ≡ b)
    (reply : X → Result A Refusal) (make : Result A Refusal → X) (back : (x : X) → make (reply x) ≡ x) where
  pub same_made : (x y : X) → slip_of (reply x) ≡ slip_of (reply y) → x ≡ y
  same_made x y e = sym (back x) ∙ ap make (one (reply x) (reply y) e) ∙ back y

pub same_reply : {A : Type 0} (z : A) (a b : Result A Refusal) → value_slip z a ≡ value_slip z b → a ≡ b
same_reply z = same_valued (λ (v : Valued _). v.number) (value_slip z) (λ a. refl) (λ f. refl) (λ a b e i. (e i).value)

pub same_count : (a b : Result ℕ Refusal) → count_slip a ≡ count_slip b → a ≡ b
same_count = same_reply 0

pub same_tick : (a b : Result Tick Refusal) → tick_slip a ≡ tick_slip b → a ≡ b
same_tick = same_valued (λ (v : Valued ℕ). v.number) tick_slip (λ a. refl) (λ f. refl) (λ a b e i. record { 0 = (e i).value })

-- a count of a scale is known by its moment
by_moment : (s : Scale) (n m : ℕ) → time_slip s (Ok n) ≡ time_slip s (Ok m) → n ≡ m
by_moment s n m e = count_inj s n m (λ i. record { day = (e i).day; micro = (e i).micro })

pub same_typed : (s : Scale) (a b : Result ℕ Refusal) → time_slip s a ≡ time_slip s b → a ≡ b
same_typed s = same_valued (λ (v : Slip). v.number) (time_slip s) (λ a. refl) (λ f. refl) (by_moment s)

pub same_tai : (a b : Result Tai Refusal) → slip_tai a ≡ slip_tai b → a ≡ b
same_tai = same_valued (λ (v : Slip). v.number) slip_tai (λ a. refl) (λ f. refl) (λ a b e i. record { 0 = by_moment S.Tai a.0 b.0 e i })

pub same_utc : (a b : Result Utc Refusal) → slip_utc a ≡ slip_utc b → a ≡ b
same_utc = same_valued (λ (v : Slip). v.number) slip_utc (λ a. refl) (λ f. refl) (λ a b e i. record { 0 = by_moment S.Utc a.0 b.0 e i })

pub same_gps : (a b : Result Gps Refusal) → slip_gps a ≡ slip_gps b → a ≡ b
same_gps = same_valued (λ (v : Slip). v.number) slip_gps (λ a. refl) (λ f. refl) (λ a b e i. record { 0 = by_moment S.Gps a.0 b.0 e i })

-- a time is known by its scale and its count
pub time_is : (t : Time) → time_at (time_scale t) (time_count t) ≡ t
time_is (TM.Tai t) = refl
time_is (TM.Utc t) = refl
time_is (TM.Gps t) = refl

pub time_scale_lem : (s : Scale) (n : ℕ) → time_scale (time_at s n) ≡ s
time_scale_lem S.Tai n = refl
time_scale_lem S.Utc n = refl
time_scale_lem S.Gps n = refl

pub time_count_lem : (s : Scale) (n : ℕ) → time_count (time_at s n) ≡ n
time_count_lem S.Tai n = refl
time_count_lem S.Utc n = refl
time_count_lem S.Gps n = refl

slip_scale : (s : Scale) (a : Result ℕ Refusal) → (time_slip s a).scale ≡ s
slip_scale s (Ok n) = refl
slip_scale s (Err f) = refl

-- the scale and the parts of two typed slips that are equal
pub same_slips : (s t : Scale) (a b : Result ℕ Refusal) → time_slip s a ≡ time_slip t b → (s ≡ t) × (a ≡ b)
same_slips s t a b e =
    let k : s ≡ t = sym (slip_scale s a) ∙ (λ i. (e i).scale) ∙ slip_scale t b in
    (k, same_typed t a b (ap (λ (x : Scale). time_slip x a) (sym k) ∙ e))

pub same_timed : (a b : Result Time Refused) → slip_timed a ≡ slip_timed b → a ≡ b
same_timed (Ok x) (Ok y) e =
    let q = same_slips (time_scale x) (time_scale y) (Ok (time_count x)) (Ok (time_count y)) e in
    let n : time_count x ≡ time_count y = cc in
    ap Ok (sym (time_is x) ∙ ap₂ time_at q.0 n ∙ time_is y)
same_timed (Ok x) (Err g) e = absurd (no_zero g.refusal (λ i. (sym e i).number))
same_timed (Err f) (Ok y) e = absurd (no_zero f.refusal (λ i. (e i).number))
same_timed (Err f) (Err g) e =
    let q = same_slips f.scale g.scale (Err f.refusal) (Err g.refusal) e in
    let n : f.refusal ≡ g.refusal = cc in
    ap₂ (λ (x : Refusal) (s : Scale). Err (record { refusal = x; scale = s })) n q.0

pub same_written : {A : Type 0} (a b : Result ℕ Refusal) (x y : List A) → wrote a x ≡ wrote b y → (a ≡ b) × (x ≡ y)
same_written (Ok n) (Ok m) x y e = (λ i. Ok (e i).length, λ i. (e i).lent)
same_written (Ok n) (Err q) x y e = absurd (no_zero q (λ i. (sym e i).number))
same_written (Err r) (Ok m) x y e = absurd (no_zero r (λ i. (e i).number))
same_written (Err r) (Err q) x y e = (ap Err (refusals r q (λ i. (e i).number)), λ i. (e i).lent)
