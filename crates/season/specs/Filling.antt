-- A lent slice that is filled part by part: what is written so far, then the rest as it was. Assumes nothing.
use Rattle.std.specs.Prelude.{◌≡◌, refl, List, [], ◌++◌, ℕ, suc, ◌+◌, ◌-◌, ◌*◌, ◌≤◌, length, take, drop}
use Rattle.std.proofs.Common.{sym, ap, ap₂, ◌∙◌, append_assoc, append-nil, add-one, arith, length-append, length-drop, drop_of_length-le, length-take-le, take_at, drop_at, drop-drop}
use Rattle.octets.specs.Meaning.{field}
use Rattle.octets.specs.Field.{length_field}
use Rattle.season.specs.Meaning.{each}

module _ {A : Type 0} where
  -- f on the front of out, a elements of it
  pub record Filled (a : ℕ) (f out s : List A) : Type 0 where
    pub long : length f ≡ a
    pub is : s ≡ f ++ drop a out

  pub fill_none : (out : List A) → Filled 0 [] out out
  fill_none out = record { long = refl; is = refl }

  pub fill_all : (a : ℕ) (f out s : List A) → Filled a f out s → length out ≡ a → s ≡ f
  fill_all a f out s h e =
      h.is ∙ ap (λ (l : List A). f ++ l) (drop_of_length-le out {i = a} (omega arith)) ∙ append-nil f

  pub filled_length : (a : ℕ) (f out s : List A) → Filled a f out s → a ≤ length out → length s ≡ length out
  filled_length a f out s h k = ap length h.is ∙ length-append f (drop a out) ∙ omega (arith, length-drop a out, h.long)

  -- the part from a to e is lent, and comes back as q: the checker's forms
  abbrev pub lent_part : ℕ → ℕ → List A → List A
  lent_part a e s = take (e - a) (drop a s)

  abbrev pub with_part : ℕ → ℕ → List A → List A → List A
  with_part a e q s = take a s ++ (q ++ drop (e - a) (drop a s))

  module _ (a e : ℕ) (f out s : List A) (h : Filled a f out s) where
    past : drop a s ≡ drop a out
    past = ap (drop a) h.is ∙ drop_at f (drop a out) a h.long

    pub part_length : e ≤ length out → length (lent_part a e s) ≡ e - a
    part_length k = length-take-le (e - a) (drop a s) (omega (arith, ap length past, length-drop a out))

    pub fill_part : (q : List A) → a + length q ≡ e → Filled e (f ++ q) out (with_part a e q s)
    fill_part q n =
        let r : a + (e - a) ≡ e = omega arith in
        record {
          long = length-append f q ∙ omega (arith, h.long);
          is =
              ap₂ ◌++◌ (ap (take a) h.is ∙ take_at f (drop a out) a h.long)
              (ap (λ (l : List A). q ++ l) (ap (drop (e - a)) past ∙ drop-drop (e - a) a out ∙ ap (λ (m : ℕ). drop m out) r))
              ∙ sym (append_assoc f q (drop e out));
        }

-- ---- a number laid into the part
pub fill_field : (a e n x : ℕ) (f out s q : List ℕ) → Filled a f out s → e ≤ length out → a + n ≡ e → q ≡ field (length (lent_part a e s)) x →
    Filled e (f ++ field n x) out (with_part a e q s)
fill_field a e n x f out s q h k m r =
    let t : q ≡ field n x = r ∙ ap (λ (l : ℕ). field l x) (part_length a e f out s h k ∙ omega arith) in
    rw t (fill_part a e f out s h (field n x) (omega (arith, length_field n x)))

-- ---- parts of m elements each, one after another
module _ {A : Type 0} (m : ℕ) (f : ℕ → List A) (k : ℕ) (out s : List A) (h : Filled (m * k) (each f k) out s) where
  pub fill_turn : (q : List A) → q ≡ f k → length (f k) ≡ m → Filled (m * (k + 1)) (each f (k + 1)) out (with_part (m * k) (m * k + m) q s)
  fill_turn q e l =
      let n : m * k + m ≡ m * suc k = omega arith in
      let t = fill_part (m * k) (m * k + m) (each f k) out s h q (omega (arith, ap length e)) in
      rw (add-one k, ← n, ← e) t

  -- the part that is lent
  pub turn_length : m * k + m ≤ length out → length (lent_part (m * k) (m * k + m) s) ≡ m
  turn_length l = part_length (m * k) (m * k + m) (each f k) out s h l ∙ omega arith

  pub turn_room : m * k ≤ length out → length s ≡ length out
  turn_room l = filled_length (m * k) (each f k) out s h l

  -- all of them
  pub fill_turns : (n : ℕ) → k ≡ n → length out ≡ m * n → s ≡ each f n
  fill_turns n q l = fill_all (m * k) (each f k) out s h (l ∙ ap (λ (j : ℕ). m * j) (sym q)) ∙ ap (each f) q
