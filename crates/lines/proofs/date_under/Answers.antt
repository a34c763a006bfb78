use Rattle.std.proofs.Common.{◌≡◌, ◌≤◌, ◌<◌, ◌+◌, ◌-◌, ℕ, zero, suc, Bool, true, false, ℤ, List, [], ◌∷◌, ◌++◌, Option, Some, None, if◌then◌else◌, refl, sym, ap, subst, subst₂, ◌∙◌, arith, length, length-drop, take, drop, get_or, get_or-drop, slice_index, ⊎_elim}
use Rattle.std.proofs.lemmas.Bool.{both_ways, cases_eq, eq-eqb, eqb-true}
use Rattle.memchr.specs.Find.{IsFirst, Nowhere, Passes, TakesFirst, is_byte, places_from, places_between, first_of}
use Rattle.memchr.proofs.lemmas.PlaceLemmas.{places_between-first}
use Rattle.octets.specs.Place.{rest_lent, rest_back}
use Rattle.lines.specs.Meaning.{answer_to}
use Rattle.lines.specs.Stage.{before_newline, Put}
use Rattle.lines.specs.Lines.{newline_at, newline_none, Upto, begin, full, ended, another}
use Rattle.lines.proofs.date_under.Goals as goal

-- the head of the places whose byte passes is the first of them
module _ (test : ℕ → Bool) (hay : List ℕ) where
  none_sooner : (i j : ℕ) → test (slice_index hay i) ≡ false → Nowhere (Passes test hay) (i + 1) j → Nowhere (Passes test hay) i j
  none_sooner i j e h k a b p =
      ⊎_elim (λ same. both_ways _ (ap (λ (m : ℕ). test (slice_index hay m)) same ∙ e) p) (λ other. h k (omega arith) b p) (cases_eq k i)

  later : (i n : ℕ) (r : Option ℕ) → test (slice_index hay i) ≡ false → IsFirst (Passes test hay) (i + 1) (i + 1 + n) r → IsFirst (Passes test hay) i (i + suc n) r
  later i n None e h = λ k a b p. none_sooner i (i + 1 + n) e h k a (omega arith) p
  later i n (Some k) e h =
      (record { low = omega (arith, h.0.low); high = omega (arith, h.0.high); before = none_sooner i k e h.0.before }, h.1)

  head_is_first : (i n : ℕ) → IsFirst (Passes test hay) i (i + n) (first_of (places_from test hay i n))
  unfolding places_from first_of
  head_is_first i zero = λ k a b p. absurd (omega arith)
  head_is_first i (suc n) = go (test (slice_index hay i)) refl (head_is_first (i + 1) n)
    where
      go : (x : Bool) → test (slice_index hay i) ≡ x → IsFirst (Passes test hay) (i + 1) (i + 1 + n) (first_of (places_from test hay (i + 1) n))
          → IsFirst (Passes test hay) i (i + suc n) (first_of (if x then i ∷ places_from test hay (i + 1) n else places_from test hay (i + 1) n))
      go true e h = (record { low = omega arith; high = omega arith; before = λ k a b p. absurd (omega arith) }, e)
      go false e h = later i n (first_of (places_from test hay (i + 1) n)) e h

  first_of_places : (i j : ℕ) → i ≤ j → (l : List ℕ) → l ≡ places_between test hay i j → IsFirst (Passes test hay) i j (first_of l)
  first_of_places i j h l e =
      let all : i + (j - i) ≡ j = omega arith in
      subst₂ (λ (k : ℕ) (xs : List ℕ). IsFirst (Passes test hay) i k (first_of xs)) all (sym e) (head_is_first i (j - i))

-- the next newline, and those after it
module _ (s : List ℕ) (at : ℕ) (h : at ≤ length s) (l : List ℕ) (e : l ≡ places_between (is_byte 10) s at (length s)) where
  first : (k : ℕ) (t : List ℕ) → l ≡ k ∷ t → IsFirst (Passes (is_byte 10) s) at (length s) (Some k)
  unfolding first_of
  first k t q = subst (λ (xs : List ℕ). IsFirst (Passes (is_byte 10) s) at (length s) (first_of xs)) q (first_of_places (is_byte 10) s at (length s) h l e)

  rest : (k : ℕ) (t : List ℕ) → l ≡ k ∷ t → t ≡ places_between (is_byte 10) s (k + 1) (length s)
  rest k t q =
      let f = first k t q in
      ap (drop 1) (sym q ∙ e ∙ places_between-first (is_byte 10) s at (length s) k f.0 f.1)

  found : (k : ℕ) (t : List ℕ) → l ≡ k ∷ t → (at ≤ k) × (k < length s) × (before_newline (drop at s) ≡ k - at)
  found k t q =
      let f = first k t q in
      let here : at + (k - at) ≡ k = omega (arith, f.0.low) in
      let eq : get_or (drop at s) (k - at) 0 ≡ 10 = get_or-drop at s (k - at) 0 ∙ ap (λ (i : ℕ). get_or s i 0) here ∙ eqb-true _ 10 f.1 in
      (f.0.low, f.0.high, newline_at (drop at s) (k - at) (omega (arith, f.0.low, f.0.high, length-drop at s)) (λ i b p. f.0.before (at + i) (omega arith) (omega (arith, f.0.low)) (eq-eqb _ 10 (sym (get_or-drop at s i 0) ∙ p))) eq)

  none : l ≡ [] → before_newline (drop at s) ≡ length (drop at s)
  unfolding first_of
  none q =
      let f = subst (λ (xs : List ℕ). IsFirst (Passes (is_byte 10) s) at (length s) (first_of xs)) q (first_of_places (is_byte 10) s at (length s) h l e) in
      newline_none (drop at s) (λ i b p. f (at + i) (omega arith) (omega (arith, length-drop at s)) (eq-eqb _ 10 (sym (get_or-drop at s i 0) ∙ p)))

-- where a newline was found, another line is dated
dated : (ds : List ℤ) (os : List ℕ) (e : ℤ) (s out₀ o : List ℕ) (at written : ℕ) → Upto ds os e s out₀ at written o → 32 ≤ length o - written
    → (k : ℕ) → (at ≤ k) × (k < length s) × (before_newline (drop at s) ≡ k - at) → (r : ℕ) (a : List ℕ)
    → Put (answer_to ds os e (take (k - at) (drop at s))) (take (length o - written) (drop written o)) a r
    → Upto ds os e s out₀ (k + 1) (written + r) (take written o ++ (a ++ drop (length o - written) (drop written o)))
dated ds os e s out₀ o at written u h k f r a p =
    let on : at + before_newline (drop at s) + 1 ≡ k + 1 = omega (arith, f.0, f.2) in
    let q = subst₂ (λ (i : ℕ) (y : List ℕ). Put (answer_to ds os e (take i (drop at s))) y a r) (sym f.2) (rest_lent written o) p in
    subst₂ (λ (i : ℕ) (y : List ℕ). Upto ds os e s out₀ i (written + r) y) on (sym (rest_back written o a))
    (another ds os e s out₀ at written o u (omega (arith, u.same)) (omega (arith, f.0, f.1, f.2, length-drop at s)) r a q)

pub loop-out-init : goal.loop-out-init
loop-out-init c = let l = c.args.list.now in (c.memchr_iter-newlines.ensures.value, begin l.days l.offsets l.last c.args.input.now c.args.out.now)

pub overflow_sub-out : goal.overflow_sub-out
overflow_sub-out c = let u = c.loop-out.invariant.1 in omega (arith, u.to, u.same)

pub slice_bounds-answer-count : goal.slice_bounds-answer-count
slice_bounds-answer-count c =
    let x = c.loop-out in
    (found c.args.input.now x.at x.invariant.1.from x.newlines x.invariant.0 c.in-Some.end c.next.new.self c.in-Some.ensures.steps).0

pub slice_bounds-answer-start : goal.slice_bounds-answer-start
slice_bounds-answer-start c =
    let x = c.loop-out in
    let f = found c.args.input.now x.at x.invariant.1.from x.newlines x.invariant.0 c.in-Some.end c.next.new.self c.in-Some.ensures.steps in
    omega (arith, f.0)

pub slice_bounds-answer-end : goal.slice_bounds-answer-end
slice_bounds-answer-end c =
    let x = c.loop-out in
    let f = found c.args.input.now x.at x.invariant.1.from x.newlines x.invariant.0 c.in-Some.end c.next.new.self c.in-Some.ensures.steps in
    omega (arith, f.1)

pub overflow_add-written : goal.overflow_add-written
overflow_add-written c =
    let l = c.args.list.now in
    let s = c.args.input.now in
    let x = c.loop-out in
    let u = x.invariant.1 in
    let f = found s x.at u.from x.newlines x.invariant.0 c.in-Some.end c.next.new.self c.in-Some.ensures.steps in
    let v = dated l.days l.offsets l.last s c.args.out.now x.out x.at x.written u c.loop-out-test.true c.in-Some.end f c.answer-written.result c.answer-written.new.out c.answer-written.ensures in
    record { fits = omega (arith, v.to) }

pub loop-out-smaller : goal.loop-out-smaller
loop-out-smaller c =
    let x = c.loop-out in
    let f = found c.args.input.now x.at x.invariant.1.from x.newlines x.invariant.0 c.in-Some.end c.next.new.self c.in-Some.ensures.steps in
    omega (arith, f.0, f.1)

pub loop-out-preserved : goal.loop-out-preserved
loop-out-preserved c =
    let l = c.args.list.now in
    let s = c.args.input.now in
    let x = c.loop-out in
    let u = x.invariant.1 in
    let e = c.in-Some.ensures.steps in
    let f = found s x.at u.from x.newlines x.invariant.0 c.in-Some.end c.next.new.self e in (
      rest s x.at u.from x.newlines x.invariant.0 c.in-Some.end c.next.new.self e,
      dated l.days l.offsets l.last s c.args.out.now x.out x.at x.written u c.loop-out-test.true c.in-Some.end f c.answer-written.result c.answer-written.new.out c.answer-written.ensures,
    )

pub returns-after-loop-out : goal.returns-after-loop-out
returns-after-loop-out c =
    let l = c.args.list.now in
    let x = c.loop-out in
    let u = x.invariant.1 in
    full l.days l.offsets l.last c.args.input.now c.args.out.now x.at x.written x.out u (omega (arith, u.same)) _ refl refl

pub returns-in_default : goal.returns-in_default
returns-in_default c =
    let l = c.args.list.now in
    let s = c.args.input.now in
    let x = c.loop-out in
    let u = x.invariant.1 in
    let e : x.newlines ≡ [] = (subst (λ (r : Option ℕ). TakesFirst x.newlines r c.next.new.self) c.in_default.is c.next.ensures.steps).0 in
    ended l.days l.offsets l.last s c.args.out.now x.at x.written x.out u (none s x.at u.from x.newlines x.invariant.0 e) _ refl refl
