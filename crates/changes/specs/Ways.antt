-- The ways out of a change that uses a list: the list is judged before the time. Assumes nothing.
use Rattle.std.specs.Prelude.{◌≡◌, refl, Bool, true, false, cond, List, ℕ, ℤ, Result, Ok, Err}
use Rattle.std.proofs.Common.{sym, ap, subst, ◌∙◌, arith}
use Rattle.axis.specs.Meaning.{micros_at, Moment}
use Rattle.scales.specs.Meaning.{and_then, Judged, given, refused, answer, outcome, Slip, dated, number_of}
use Rattle.scales.specs.Order.{no_answer}
use Rattle.scales.specs.declared.Scale.{Scale}
use Rattle.scales.specs.declared.Refusal.{Refusal}
use Rattle.scales.specs.declared.Refusal.TheVariants as R
use Rattle.scales.specs.declared.Tai.{Tai}
use Rattle.leap.specs.Meaning.{LeapList, accepted, accepted_or}
use Rattle.via_tai.specs.Meaning.{of_count, from_scale, to_scale}
use Rattle.via_tai.specs.Ways.{OnTheWay, counted, Left, way_held, way_on, way_out}
use Rattle.changes.specs.Meaning.{with_list}

-- ---- the list is judged before
pub list_in : (to : Scale) (ds : List ℤ) (os : List ℕ) (e : ℤ) (j : Judged Moment) → accepted ds os e ≡ true → dated to (outcome j) ≡ dated to (outcome (with_list ds os e j))
list_in to ds os e j h = sym (rw h)

-- the way to the TAI count in a change that uses a list
abbrev by_list : Scale → ℕ → List ℤ → List ℕ → ℤ → Judged ℤ
by_list s n ds os e = given (accepted ds os e) 5 (of_count s n (from_scale s ds os e))

pub record ByList (s : Scale) (n : ℕ) (ds : List ℤ) (os : List ℕ) (e : ℤ) (r : Result Tai Refusal) : Type 0 where
  pub left : Left (by_list s n ds os e) r

-- the last day is e, which may be spelled z
module _ {s : Scale} {n : ℕ} {ds : List ℤ} {os : List ℕ} {z e : ℤ} (q : z ≡ e) where
  pub list_lacks : accepted ds os z ≡ false → ByList s n ds os e (Err R.ListNotAccepted)
  list_lacks h = record { left = record { is = sym (rw (← q, h)); held = omega arith } }

  pub list_there : {r : Result Tai Refusal} → accepted ds os z ≡ true → Left (of_count s n (from_scale s ds os z)) r → ByList s n ds os e r
  list_there {r} h w = subst (λ (y : ℤ). ByList s n ds os y r) q (record { left = record { is = w.is ∙ sym (rw h); held = w.held } })

  module _ {r : Result Tai Refusal} (w : ByList s n ds os z r) (to : Scale) where
    abbrev by : ℤ → Slip
    by y = dated to (outcome (and_then (by_list s n ds os y) (to_scale to ds os y)))

    pub list_on : {t : Tai} {x : Slip} → r ≡ Ok t → x ≡ dated to (outcome (to_scale to ds os z (micros_at t.0))) → x ≡ by e
    list_on g h = way_on w.left to (to_scale to ds os z) g h ∙ ap by q

    pub list_out : {f : Refusal} → r ≡ Err f → dated to (refused (number_of f)) ≡ by e
    list_out g = way_out w.left to (to_scale to ds os z) g ∙ ap by q

module _ {s : Scale} {n : ℕ} {ds : List ℤ} {os : List ℕ} {z : ℤ} {r : Result Tai Refusal} (w : ByList s n ds os z r) {t : Tai} (g : r ≡ Ok t) where
  pub list_held : OnTheWay t.0
  list_held = way_held w.left g

  pub list_known : accepted ds os z ≡ true
  list_known = go (accepted ds os z) (ap counted (sym g) ∙ w.left.is)
    where
      go : (b : Bool) → answer (micros_at t.0) ≡ outcome (given b 5 (of_count s n (from_scale s ds os z))) → b ≡ true
      go true h = refl
      go false h = absurd (no_answer (sym h))

-- a list that is handed on is the one that was lent, and it is accepted
handed_on : {l m : LeapList} (b : Bool) → cond b (Ok l) (Err R.ListNotAccepted) ≡ Ok m → (m ≡ l) × (b ≡ true)
handed_on true h = (cc, refl)
handed_on false h = absurd (let z : ◌≡◌ {A = ℕ} 0 1 = cc in omega arith)

-- and one that is refused is not accepted
lacked : (l : LeapList) {f : Refusal} (b : Bool) → cond b (Ok l) (Err R.ListNotAccepted) ≡ Err f → (f ≡ R.ListNotAccepted) × (b ≡ false)
lacked l true h = absurd (let z : ◌≡◌ {A = ℕ} 0 1 = cc in omega arith)
lacked l false h = (cc, refl)

module _ (s to : Scale) (n : ℕ) where
  abbrev way : LeapList → Judged Moment
  way l = and_then (of_count s n (from_scale s l.days l.offsets l.last)) (to_scale to l.days l.offsets l.last)

  abbrev Changes : LeapList → Slip → Type 0
  Changes l x = x ≡ dated to (outcome (with_list l.days l.offsets l.last (way l)))

  -- a list that is not accepted
  pub changed_lacks : (l : LeapList) {f : Refusal} → accepted_or l ≡ Err f → Changes l (dated to (refused (number_of f)))
  changed_lacks l h =
      let k = lacked l (accepted l.days l.offsets l.last) h in
      let w : ByList s n l.days l.offsets l.last (Err R.ListNotAccepted) = list_lacks refl k.1 in
      ap (λ (g : Refusal). dated to (refused (number_of g))) k.0 ∙ list_out refl w to refl

  module _ (l m : LeapList) (h : accepted_or l ≡ Ok m) {r : Result Tai Refusal} (w : Left (of_count s n (from_scale s m.days m.offsets m.last)) r) where
    known : (m ≡ l) × (accepted l.days l.offsets l.last ≡ true)
    known = handed_on (accepted l.days l.offsets l.last) h

    -- the way is the one that the list, judged before, leaves open
    there : ByList s n m.days m.offsets m.last r
    there = list_there refl (rw known.0 known.1) w

    lent : {x : Slip} → x ≡ dated to (outcome (with_list m.days m.offsets m.last (way m))) → Changes l x
    lent g = g ∙ ap (λ (k : LeapList). dated to (outcome (with_list k.days k.offsets k.last (way k)))) known.0

    pub changed_on : {t : Tai} {x : Slip} → r ≡ Ok t → x ≡ dated to (outcome (to_scale to m.days m.offsets m.last (micros_at t.0))) → Changes l x
    changed_on g i = lent (list_on refl there to g i)

    pub changed_out : {f : Refusal} → r ≡ Err f → Changes l (dated to (refused (number_of f)))
    changed_out g = lent (list_out refl there to g)

    pub changed_held : {t : Tai} → r ≡ Ok t → OnTheWay t.0
    changed_held g = list_held there g
