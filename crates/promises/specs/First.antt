-- The first row that applies, of any chain of tests whose numbers stand in the slip's order. Assumes nothing.
use Rattle.std.specs.Prelude.{◌≡◌, refl, Bool, true, false, cond, not, ◌&&◌, ◌||◌, List, [], ◌∷◌, ◌++◌, ℕ, eqb}
use Rattle.std.proofs.Common.{sym, ap, ap₂, ◌∙◌, true≢false, arith, eqb-true, eq-eqb, ne_eqb}
use Rattle.std.proofs.lemmas.Bool.{false≢true, not-true}
use Rattle.scales.specs.Meaning.{Judged, given, gives, Outcome, refused, answer, outcome, numbers, order, stands_in}
use Rattle.scales.specs.Place.{and_both, and_false}
use Rattle.leap.specs.Walk.{or_true}
use Rattle.promises.specs.Meaning.{tests, applies, first_of, Kind, Promise, member}

-- no number stands twice, and none is 0
abbrev pub clear : List ℕ → Bool
clear [] = true
clear (o ∷ os) = not (eqb o 0) && (not (member o os) && clear os)

pub order_clear : clear order ≡ true
order_clear = refl

either : (a b : Bool) → a ≡ false → b ≡ false → a || b ≡ false
either a b e f = rw (e, f)

neither : (a b : Bool) → a || b ≡ false → (a ≡ false) × (b ≡ false)
neither true b e = absurd (true≢false e)
neither false b e = (refl, e)

abbrev bit : Bool → ℕ
bit true = 1
bit false = 0

unlike : (o n p : ℕ) → eqb o p ≡ false → eqb n p ≡ true → eqb n o ≡ false
unlike o n p e f = ne_eqb n o (λ q. let z : ◌≡◌ {A = ℕ} 0 1 = ap bit (sym e ∙ eq-eqb o p (sym q ∙ eqb-true n p f)) in omega arith)

first_same : (os : List ℕ) (p q : ℕ → Bool) → ((n : ℕ) → p n ≡ q n) → first_of os p ≡ first_of os q
first_same [] p q e = refl
first_same (o ∷ os) p q e = ap₂ (λ (b : Bool) (n : ℕ). cond b o n) (e o) (first_same os p q e)

module _ {A : Type 0} where
  -- a number that is none of those in which a chain's numbers stand does not apply
  absent : (o : ℕ) (os : List ℕ) (j : Judged A) → member o os ≡ false → stands_in (numbers j) os ≡ true → applies (tests j) o ≡ false
  absent o [] (gives a) m r = refl
  absent o [] (given t n rest) m r = absurd (false≢true r)
  absent o (p ∷ os) j m r = let k = neither (eqb o p) (member o os) m in along k.0 (λ i q. absent o os i k.1 q) j r
    where
      along : eqb o p ≡ false → ((i : Judged A) → stands_in (numbers i) os ≡ true → applies (tests i) o ≡ false) → (j : Judged A) → stands_in (numbers j) (p ∷ os) ≡ true → applies (tests j) o ≡ false
      along d ih (gives a) r = refl
      along d ih (given t n rest) r = go (eqb n p) refl r (λ q. along d ih rest q) (λ q. ih (given t n rest) q)
        where
          go : (x : Bool) → eqb n p ≡ x → cond x (stands_in (numbers rest) (p ∷ os)) (stands_in (n ∷ numbers rest) os) ≡ true
              → (stands_in (numbers rest) (p ∷ os) ≡ true → applies (tests rest) o ≡ false) → (stands_in (n ∷ numbers rest) os ≡ true → applies (tests (given t n rest)) o ≡ false)
              → applies (tests (given t n rest)) o ≡ false
          go true e r here there = rw (unlike o n p d e, here r)
          go false e r here there = there r

  abbrev pub number_in : Outcome A → ℕ
  number_in (refused n) = n
  number_in (answer a) = 0

  -- the number of a chain is the first that applies
  pub first_is : (os : List ℕ) (j : Judged A) → clear os ≡ true → stands_in (numbers j) os ≡ true → number_in (outcome j) ≡ first_of os (applies (tests j))
  first_is [] (gives a) c r = refl
  first_is [] (given t n rest) c r = absurd (false≢true r)
  first_is (p ∷ os) j c r =
      let k = and_both (not (eqb p 0)) (not (member p os) && clear os) c in
      let l = and_both (not (member p os)) (clear os) k.1 in
      along (not-true (member p os) l.0) (λ i q. first_is os i l.1 q) j r
    where
      along : member p os ≡ false → ((i : Judged A) → stands_in (numbers i) os ≡ true → number_in (outcome i) ≡ first_of os (applies (tests i))) → (j : Judged A) → stands_in (numbers j) (p ∷ os) ≡ true
          → number_in (outcome j) ≡ first_of (p ∷ os) (applies (tests j))
      along m ih (gives a) r = ih (gives a) refl
      along m ih (given t n rest) r = go (eqb n p) refl t r (λ q. along m ih rest q) (λ q. ih (given t n rest) q) (λ q. absent p os (given t n rest) m q)
        where
          go : (x : Bool) → eqb n p ≡ x → (t : Bool) → cond x (stands_in (numbers rest) (p ∷ os)) (stands_in (n ∷ numbers rest) os) ≡ true
              → (stands_in (numbers rest) (p ∷ os) ≡ true → number_in (outcome rest) ≡ first_of (p ∷ os) (applies (tests rest)))
              → (stands_in (n ∷ numbers rest) os ≡ true → number_in (outcome (given t n rest)) ≡ first_of os (applies (tests (given t n rest))))
              → (stands_in (n ∷ numbers rest) os ≡ true → applies (tests (given t n rest)) p ≡ false)
              → number_in (outcome (given t n rest)) ≡ first_of (p ∷ os) (applies (tests (given t n rest)))
          go true e true r here there none = here r ∙ sym (first_same (p ∷ os) (applies (tests (given true n rest))) (applies (tests rest)) (λ o. rw (and_false (eqb n o))))
          go true e false r here there none = rw e (eqb-true n p e)
          go false e t r here there none = rw (none r) (there r)

  -- a number is given only where a row with it applies
  pub given_applies : (n : ℕ) (j : Judged A) → (n ≡ 0 → ⊥) → number_in (outcome j) ≡ n → applies (tests j) n ≡ true
  given_applies n (given true m rest) w q = rw (given_applies n rest w q) (or_true (eqb m n && false))
  given_applies n (given false m rest) w q = rw (eq-eqb m n q)
  given_applies n (gives a) w q = absurd (w (sym q))

  -- ---- of every kind of answer
  pub promised : {R : Type 0} {hand : Outcome A → R} {number : R → ℕ} → Kind hand number → (j : Judged A) {rows : List (ℕ × Bool)} → tests j ≡ rows → stands_in (numbers j) order ≡ true
      → Promise hand number (hand (outcome j)) j rows
  promised {R} {hand} {number} k j {rows} e r =
      record {
        judges = e;
        first = numbered (outcome j) ∙ first_is order j order_clear r ∙ ap (λ (rs : List (ℕ × Bool)). first_of order (applies rs)) e;
        empty = bare (outcome j);
      }
    where
      numbered : (o : Outcome A) → number (hand o) ≡ number_in o
      numbered (refused n) = k.of_refusal n
      numbered (answer a) = k.of_answer a

      bare : (o : Outcome A) → (number (hand o) ≡ 0 → ⊥) → hand o ≡ hand (refused (number (hand o)))
      bare (refused n) w = ap (λ (m : ℕ). hand (refused m)) (sym (k.of_refusal n))
      bare (answer a) w = absurd (w (k.of_answer a))

-- ---- "exactly when condition n holds and no earlier one does"
abbrev pub none : (ℕ → Bool) → List ℕ → Bool
none p [] = true
none p (n ∷ ns) = not (p n) && none p ns

module _ (p : ℕ → Bool) where
  pub then_first : (before after : List ℕ) (n : ℕ) → none p before ≡ true → p n ≡ true → first_of (before ++ (n ∷ after)) p ≡ n
  then_first [] after n w e = rw e
  then_first (b ∷ before) after n w e =
      let k = and_both (not (p b)) (none p before) w in
      rw (not-true (p b) k.0) (then_first before after n k.1 e)

  -- the first is one of those asked, or 0
  asked : (os : List ℕ) (n : ℕ) → first_of os p ≡ n → member n os ≡ false → n ≡ 0
  asked [] n e m = sym e
  asked (o ∷ os) n e m = let k = neither (eqb n o) (member n os) m in go (p o) e k.0 (λ q. asked os n q k.1)
    where
      go : (x : Bool) → cond x o (first_of os p) ≡ n → eqb n o ≡ false → (first_of os p ≡ n → n ≡ 0) → n ≡ 0
      go true e d ih = absurd (let z : ◌≡◌ {A = ℕ} 0 1 = ap bit (sym d ∙ eq-eqb n o (sym e)) in omega arith)
      go false e d ih = ih e

  member_later : (before after : List ℕ) (n : ℕ) → member n (before ++ (n ∷ after)) ≡ true
  member_later [] after n = rw (eq-eqb n n refl)
  member_later (b ∷ before) after n = rw (member_later before after n) (or_true (eqb n b))

  pub first_then : (before after : List ℕ) (n : ℕ) → clear (before ++ (n ∷ after)) ≡ true → first_of (before ++ (n ∷ after)) p ≡ n → (none p before ≡ true) × (p n ≡ true)
  first_then [] after n c e =
      let k = and_both (not (eqb n 0)) (not (member n after) && clear after) c in
      let m = not-true (member n after) (and_both (not (member n after)) (clear after) k.1).0 in
      go (p n) refl e (not-true (eqb n 0) k.0) m
    where
      go : (x : Bool) → p n ≡ x → cond x n (first_of after p) ≡ n → eqb n 0 ≡ false → member n after ≡ false → (true ≡ true) × (p n ≡ true)
      go true q e z m = (refl, q)
      go false q e z m = absurd (let y : ◌≡◌ {A = ℕ} 0 1 = ap bit (sym z ∙ eq-eqb n 0 (asked after n e m)) in omega arith)
  first_then (b ∷ before) after n c e =
      let k = and_both (not (eqb b 0)) (not (member b (before ++ (n ∷ after))) && clear (before ++ (n ∷ after))) c in
      let l = and_both (not (member b (before ++ (n ∷ after)))) (clear (before ++ (n ∷ after))) k.1 in
      go (p b) refl e (not-true (member b (before ++ (n ∷ after))) l.0) (λ q. first_then before after n l.1 q)
    where
      go : (x : Bool) → p b ≡ x → cond x b (first_of (before ++ (n ∷ after)) p) ≡ n → member b (before ++ (n ∷ after)) ≡ false
          → (first_of (before ++ (n ∷ after)) p ≡ n → (none p before ≡ true) × (p n ≡ true)) → (not (p b) && none p before ≡ true) × (p n ≡ true)
      go true q e m ih = absurd (let y : ◌≡◌ {A = ℕ} 0 1 = ap bit (sym m ∙ ap (λ (i : ℕ). member i (before ++ (n ∷ after))) e ∙ member_later before after n) in omega arith)
      go false q e m ih = let w = ih e in (rw (q, w.0), w.1)

-- a promised number is n exactly when a row with n applies and none does whose number comes before n in the order
pub exactly : {A R : Type 0} {hand : Outcome A → R} {number : R → ℕ} {r : R} {j : Judged A} {rows : List (ℕ × Bool)} → Promise hand number r j rows
    → (before after : List ℕ) (n : ℕ) → order ≡ before ++ (n ∷ after)
    → (number r ≡ n → (none (applies rows) before ≡ true) × (applies rows n ≡ true)) × (none (applies rows) before ≡ true → applies rows n ≡ true → number r ≡ n)
exactly {A} {R} {hand} {number} {r} {j} {rows} p before after n e = (
  λ q. first_then (applies rows) before after n (sym (ap clear e) ∙ order_clear) (sym (ap (λ (os : List ℕ). first_of os (applies rows)) e) ∙ sym p.first ∙ q),
  λ w q. p.first ∙ ap (λ (os : List ℕ). first_of os (applies rows)) e ∙ then_first (applies rows) before after n w q,
)
