-- What the crates above cite beside the chains: a place or a refusal that a time was turned to is fixed by its outcome, and a list that
-- was accepted is the list that was lent. Assumes nothing.
use Rattle.std.specs.Prelude.{◌≡◌, refl, Bool, true, false, cond, ℕ, ℤ, Result, Option, Ok, Err, Some, None}
use Rattle.std.proofs.Common.{sym, ap, ◌∙◌, arith}
use Rattle.std.specs.Option.{ok_or}
use Rattle.axis.specs.Diff.{sub_inj_same}
use Rattle.scales.specs.Meaning.{answer}
use Rattle.scales.specs.Order.{no_answer}
use Rattle.scales.specs.Same.{refusals}
use Rattle.clock.specs.Stage.{landed}
use Rattle.scales.specs.declared.Refusal.{Refusal}
use Rattle.scales.specs.declared.Refusal.TheVariants as R
use Rattle.leap.specs.Meaning.{LeapList, accepted, accepted_or}

answers : {x y : ℤ} → answer x ≡ answer y → x ≡ y
answers e = cc

pub same_landed : (a b : Result ℕ Refusal) → landed a ≡ landed b → a ≡ b
same_landed (Ok w) (Ok x) e = ap Ok (sub_inj_same 3456000000000000 w x (answers e))
same_landed (Ok w) (Err g) e = absurd (no_answer (sym e))
same_landed (Err f) (Ok x) e = absurd (no_answer e)
same_landed (Err f) (Err g) e = ap Err (refusals f g cc)

-- ---- a list that was tested
taken : (l m : LeapList) (b : Bool) → accepted l.days l.offsets l.last ≡ b → cond b (Ok l) (Err R.ListNotAccepted) ≡ Ok m →
    (l ≡ m) × (accepted m.days m.offsets m.last ≡ true)
taken l m true q e = let k : l ≡ m = cc in (k, ap (λ (x : LeapList). accepted x.days x.offsets x.last) (sym k) ∙ q)
taken l m false q e = absurd (let z : ◌≡◌ {A = ℕ} 0 1 = cc in omega arith)

left : (l : LeapList) (f : Refusal) (b : Bool) → cond b (Ok l) (Err R.ListNotAccepted) ≡ Err f → (b ≡ false) × (R.ListNotAccepted ≡ f)
left l f true e = absurd (let z : ◌≡◌ {A = ℕ} 0 1 = cc in omega arith)
left l f false e = (refl, cc)

pub listed : (l m : LeapList) → accepted_or l ≡ Ok m → (l ≡ m) × (accepted m.days m.offsets m.last ≡ true)
listed l m e = taken l m (accepted l.days l.offsets l.last) refl e

pub unlisted : (l : LeapList) (f : Refusal) → accepted_or l ≡ Err f → (accepted l.days l.offsets l.last ≡ false) × (R.ListNotAccepted ≡ f)
unlisted l f e = left l f (accepted l.days l.offsets l.last) e

-- ---- what there is not, and its refusal
pub lacking : {A E : Type 0} (o : Option A) (g f : E) → ok_or o g ≡ Err f → (o ≡ None) × (g ≡ f)
lacking None g f e = (refl, cc)
lacking (Some x) g f e = absurd (let z : ◌≡◌ {A = ℕ} 0 1 = cc in omega arith)
