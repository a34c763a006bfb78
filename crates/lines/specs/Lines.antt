-- Laws of lines: the first newline, the whole lines from a place on, and how far a block is done. Assumes nothing.
use Rattle.std.specs.Prelude.{◌≡◌, Bool, cond, ℕ, zero, suc, ◌+◌, ◌-◌, ◌≤◌, ◌<◌, eqb, ℤ, take, drop, get_or}
use Rattle.std.proofs.Math.Path.{refl, sym, ap}
use Rattle.std.proofs.Common.{ap₂, ◌∙◌, length-drop, drop-cons, drop-drop, length-take-le}
use Rattle.std.proofs.Math.Bool.{true, false}
use mathlib.Core.List.{List, [], ◌∷◌, ◌++◌, append-nil, append_assoc}
use native.Mathlib.Omega.{arith}
use Rattle.std.proofs.Math.Numerals.{add-one}
use Rattle.std.proofs.Math.Dec.{ltb}
use Rattle.std.proofs.Math.ListN.{length, length-append}
use borrow.Author.Tests.{eq-eqb, ne_eqb, lt-ltb, le-ltb, ltb-false}
use Rattle.octets.specs.Meaning.{onto}
use Rattle.octets.specs.Place.{onto_room, length_onto, rest_onto}
use Rattle.leap.specs.Meaning.{published_days, published_offsets, published_last}
use Rattle.lines.specs.Meaning.{answer_to, answers, on_begun, whole_in, bytes_in, room_for, done_under, date_lines, done}
use Rattle.lines.specs.Stage.{before_newline, Put}
use Rattle.lines.specs.Told.{answer_small}
use Rattle.lines.specs.declared.Progress.{Progress}

-- ---- the first newline, by what no byte before it is
pub newline_at : (s : List ℕ) (k : ℕ) → k < length s → ((i : ℕ) → i < k → get_or s i 0 ≡ 10 → ⊥) → get_or s k 0 ≡ 10 → before_newline s ≡ k
unfolding before_newline
newline_at [] k h n e = absurd (omega arith)
newline_at (b ∷ s) zero h n e = rw (eq-eqb b 10 e) refl
newline_at (b ∷ s) (suc k) h n e = rw (ne_eqb b 10 (n 0 (omega arith))) (ap suc (newline_at s k (omega arith) (λ i l. n (suc i) (omega arith)) e))

pub newline_none : (s : List ℕ) → ((i : ℕ) → i < length s → get_or s i 0 ≡ 10 → ⊥) → before_newline s ≡ length s
unfolding before_newline
newline_none [] n = refl
newline_none (b ∷ s) n = rw (ne_eqb b 10 (n 0 (omega arith))) (ap suc (newline_none s (λ i l. n (suc i) (omega arith))))

-- ---- the first newline, looked for from a place on
module _ (s : List ℕ) (i : ℕ) (h : i < length s) where
  pub newline_here : get_or s i 0 ≡ 10 → before_newline (drop i s) ≡ 0
  unfolding before_newline
  newline_here e = rw (drop-cons s i 0 h, eq-eqb (get_or s i 0) 10 e)

  pub newline_later : (get_or s i 0 ≡ 10 → ⊥) → before_newline (drop i s) ≡ before_newline (drop (i + 1) s) + 1
  unfolding before_newline
  newline_later e = rw (drop-cons s i 0 h, ne_eqb (get_or s i 0) 10 e, add-one i) (omega arith)

pub before_within : (s : List ℕ) → before_newline s ≤ length s
unfolding before_newline
before_within [] = omega arith
before_within (b ∷ s) = go (eqb b 10) (before_within s)
  where
    go : (x : Bool) → before_newline s ≤ length s → cond x 0 (suc (before_newline s)) ≤ suc (length s)
    go true h = omega arith
    go false h = omega arith

-- any number of bytes that are no newline may be passed over
passed : (k : ℕ) (s : List ℕ) → k ≤ before_newline s → k + before_newline (drop k s) ≡ before_newline s
unfolding before_newline
passed zero s h = omega arith
passed (suc k) [] h = absurd (omega arith)
passed (suc k) (b ∷ s) h = go (eqb b 10) h (λ h. passed k s h)
  where
    go : (x : Bool) → suc k ≤ cond x 0 (suc (before_newline s)) → (k ≤ before_newline s → k + before_newline (drop k s) ≡ before_newline s)
        → suc k + before_newline (drop k s) ≡ cond x 0 (suc (before_newline s))
    go true h ih = absurd (omega arith)
    go false h ih = omega (arith, ih (omega arith))

-- no newline stands from place i to place j
pub record Passed (s : List ℕ) (i j : ℕ) : Type 0 where
  pub from : i ≤ j
  pub to : j ≤ i + before_newline (drop i s)

module _ {s : List ℕ} {i j : ℕ} (p : Passed s i j) where
  pub newline_same : j + before_newline (drop j s) ≡ i + before_newline (drop i s)
  newline_same =
      let e : i + (j - i) ≡ j = omega (arith, p.from) in
      let q : j - i + before_newline (drop j s) ≡ before_newline (drop i s) =
      ap (λ (n : ℕ). j - i + before_newline (drop n s)) (sym e) ∙ ap (λ (t : List ℕ). j - i + before_newline t) (sym (drop-drop (j - i) i s))
      ∙ passed (j - i) (drop i s) (omega (arith, p.to)) in
      omega arith

  pub newline_from_at : get_or s j 0 ≡ 10 → j < length s → j ≡ i + before_newline (drop i s)
  newline_from_at e h = omega (arith, newline_same, newline_here s j h e)

  pub newline_after : (get_or s j 0 ≡ 10 → ⊥) → j < length s → (k : ℕ) → k ≡ j + 1 → Passed s i k
  newline_after e h k q = record { from = omega (arith, p.from); to = omega (arith, newline_same, newline_later s j h e) }

-- ---- the whole lines
pub whole_none : (s : List ℕ) → before_newline s ≡ length s → whole_in s ≡ []
unfolding before_newline whole_in
whole_none [] h = refl
whole_none (b ∷ s) h = go (eqb b 10) h (λ k. whole_none s k)
  where
    go : (x : Bool) → cond x 0 (suc (before_newline s)) ≡ suc (length s) → (before_newline s ≡ length s → whole_in s ≡ [])
        → cond x ([] ∷ whole_in s) (on_begun b (whole_in s)) ≡ []
    go true h ih = absurd (omega arith)
    go false h ih = ap (on_begun b) (ih (omega arith))

pub whole_first : (s : List ℕ) → before_newline s < length s → whole_in s ≡ take (before_newline s) s ∷ whole_in (drop (suc (before_newline s)) s)
unfolding before_newline whole_in
whole_first [] h = absurd (omega arith)
whole_first (b ∷ s) h = go (eqb b 10) h (λ k. whole_first s k)
  where
    go : (x : Bool) → cond x 0 (suc (before_newline s)) < suc (length s)
        → (before_newline s < length s → whole_in s ≡ take (before_newline s) s ∷ whole_in (drop (suc (before_newline s)) s))
        → cond x ([] ∷ whole_in s) (on_begun b (whole_in s))
        ≡ take (cond x 0 (suc (before_newline s))) (b ∷ s) ∷ whole_in (drop (suc (cond x 0 (suc (before_newline s)))) (b ∷ s))
    go true h ih = refl
    go false h ih = ap (on_begun b) (ih (omega arith))

-- ---- lines that find room, one after another
pub bytes_snoc : (ls : List (List ℕ)) (l : List ℕ) → bytes_in (ls ++ (l ∷ [])) ≡ bytes_in ls + length l + 1
unfolding bytes_in
bytes_snoc [] l = omega arith
bytes_snoc (k ∷ ls) l = omega (arith, bytes_snoc ls l)

module _ (ds : List ℤ) (os : List ℕ) (e : ℤ) where
  answers_snoc : (ls : List (List ℕ)) (l : List ℕ) → answers ds os e (ls ++ (l ∷ [])) ≡ answers ds os e ls ++ answer_to ds os e l
  unfolding answers
  answers_snoc [] l = append-nil (answer_to ds os e l)
  answers_snoc (k ∷ ls) l = ap (λ (x : List ℕ). answer_to ds os e k ++ x) (answers_snoc ls l) ∙ sym (append_assoc (answer_to ds os e k) (answers ds os e ls) (answer_to ds os e l))

  room_none : (room : ℕ) (ls : List (List ℕ)) → room < 32 → room_for ds os e room ls ≡ []
  unfolding room_for
  room_none room [] h = refl
  room_none room (l ∷ ls) h = rw (lt-ltb room 32 h)

  room_next : (room : ℕ) (l : List ℕ) (ls : List (List ℕ)) → 32 ≤ room → room_for ds os e room (l ∷ ls) ≡ l ∷ room_for ds os e (room - length (answer_to ds os e l)) ls
  unfolding room_for
  room_next room l ls h = rw (le-ltb room 32 h)

  -- ---- how far a block is done: the lines that are dated, and those that are still to be
  module _ (input out₀ : List ℕ) where
    abbrev left : ℕ → ℕ → List (List ℕ)
    left at written = room_for ds os e (length out₀ - written) (whole_in (drop at input))

    pub record Upto (at written : ℕ) (out : List ℕ) : Type 0 where
      pub dated : List (List ℕ)
      pub are : room_for ds os e (length out₀) (whole_in input) ≡ dated ++ left at written
      pub at_is : at ≡ bytes_in dated
      pub written_is : written ≡ length (answers ds os e dated)
      pub out_is : out ≡ onto (answers ds os e dated) out₀
      pub from : at ≤ length input
      pub to : written ≤ length out₀
      pub same : length out ≡ length out₀

    pub begin : Upto 0 0 out₀
    unfolding bytes_in answers
    begin =
        record {
          dated = [];
          are = ap (λ (n : ℕ). room_for ds os e n (whole_in input)) (omega arith);
          at_is = refl;
          written_is = refl;
          out_is = sym (onto_room [] out₀ (omega arith));
          from = omega arith;
          to = omega arith;
          same = refl;
        }

    module _ (at written : ℕ) (out : List ℕ) (u : Upto at written out) where
      -- no room for another answer, or no line that ends: what is dated is all
      finish : left at written ≡ [] → (p : Progress) → p.consumed ≡ at → p.written ≡ written → done p out ≡ done_under ds os e input out₀
      finish n p q r =
          let ls = u.dated in
          let k : ls ≡ room_for ds os e (length out₀) (whole_in input) = sym (u.are ∙ ap (λ (x : List (List ℕ)). ls ++ x) n ∙ append-nil ls) in
          λ i.
          record {
            consumed = (q ∙ u.at_is ∙ ap bytes_in k) i;
            written = (r ∙ u.written_is ∙ ap (λ (x : List (List ℕ)). length (answers ds os e x)) k) i;
            bytes = (u.out_is ∙ ap (λ (x : List (List ℕ)). onto (answers ds os e x) out₀) k) i;
          }

      pub full : length out₀ - written < 32 → (p : Progress) → p.consumed ≡ at → p.written ≡ written → done p out ≡ done_under ds os e input out₀
      full h = finish (room_none (length out₀ - written) (whole_in (drop at input)) h)

      pub ended : before_newline (drop at input) ≡ length (drop at input) → (p : Progress) → p.consumed ≡ at → p.written ≡ written
          → done p out ≡ done_under ds os e input out₀
      unfolding room_for
      ended h = finish (ap (room_for ds os e (length out₀ - written)) (whole_none (drop at input) h))

      -- another line is dated, and its answer stands on the front of the rest
      module _ (room : 32 ≤ length out₀ - written) (h : before_newline (drop at input) < length (drop at input)) where
        abbrev pub line : List ℕ
        line = take (before_newline (drop at input)) (drop at input)

        line_length : length line ≡ before_newline (drop at input)
        line_length = length-take-le (before_newline (drop at input)) (drop at input) (omega arith)

        pub another : (n : ℕ) (after : List ℕ) → Put (answer_to ds os e line) (drop written out) after n
            → Upto (at + before_newline (drop at input) + 1) (written + n) (take written out ++ after)
        another n after p =
            let ls = u.dated in
            let k = before_newline (drop at input) in
            let a = answer_to ds os e line in
            let small = answer_small ds os e line in
            let less : length out₀ - written - length a ≡ length out₀ - (written + n) = omega (arith, p.length_is) in
            let on : at + suc k ≡ at + k + 1 = omega arith in
            let rest : left at written ≡ line ∷ left (at + k + 1) (written + n) =
            ap (room_for ds os e (length out₀ - written)) (whole_first (drop at input) h)
            ∙ room_next (length out₀ - written) line (whole_in (drop (suc k) (drop at input))) room
            ∙ ap₂ (λ (r : ℕ) (s : List ℕ). line ∷ room_for ds os e r (whole_in s)) less (drop-drop (suc k) at input ∙ ap (λ (i : ℕ). drop i input) on) in
            let image : take written out ++ after ≡ onto (answers ds os e ls ++ a) out₀ =
            rw (p.bytes_are, u.out_is) (rest_onto written (answers ds os e ls) a out₀ (sym u.written_is) (omega (arith, small))) in
            record {
              dated = ls ++ (line ∷ []);
              are = u.are ∙ ap (λ (x : List (List ℕ)). ls ++ x) rest ∙ sym (append_assoc ls (line ∷ []) (left (at + k + 1) (written + n)));
              at_is = omega (arith, u.at_is, bytes_snoc ls line, line_length);
              written_is = omega (arith, u.written_is, p.length_is, ap length (answers_snoc ls line), length-append (answers ds os e ls) a);
              out_is = image ∙ ap (λ (x : List ℕ). onto x out₀) (sym (answers_snoc ls line));
              from = omega (arith, length-drop at input);
              to = omega (arith, small, p.length_is);
              same = ap length image ∙ length_onto (answers ds os e ls ++ a) out₀;
            }

-- ---- what is dated stands in the input, and what is written in the lent slice
whole_within : (s : List ℕ) → bytes_in (whole_in s) ≤ length s
unfolding bytes_in whole_in
whole_within [] = omega arith
whole_within (b ∷ s) = go (eqb b 10) (whole_in s) (whole_within s)
  where
    go : (x : Bool) (w : List (List ℕ)) → bytes_in w ≤ length s → bytes_in (cond x ([] ∷ w) (on_begun b w)) ≤ suc (length s)
    go true w h = omega arith
    go false [] h = omega arith
    go false (l ∷ ls) h = omega arith

module _ (ds : List ℤ) (os : List ℕ) (e : ℤ) where
  room_within : (room : ℕ) (ls : List (List ℕ)) → bytes_in (room_for ds os e room ls) ≤ bytes_in ls
  unfolding bytes_in room_for
  room_within room [] = omega arith
  room_within room (l ∷ ls) = go (ltb room 32) (room_within (room - length (answer_to ds os e l)) ls)
    where
      go : (x : Bool) → bytes_in (room_for ds os e (room - length (answer_to ds os e l)) ls) ≤ bytes_in ls
          → bytes_in (cond x [] (l ∷ room_for ds os e (room - length (answer_to ds os e l)) ls)) ≤ bytes_in (l ∷ ls)
      go true h = omega arith
      go false h = omega arith

  room_fits : (room : ℕ) (ls : List (List ℕ)) → length (answers ds os e (room_for ds os e room ls)) ≤ room
  unfolding answers room_for
  room_fits room [] = omega arith
  room_fits room (l ∷ ls) = go (ltb room 32) refl (room_fits (room - length (answer_to ds os e l)) ls)
    where
      go : (x : Bool) → ltb room 32 ≡ x → length (answers ds os e (room_for ds os e (room - length (answer_to ds os e l)) ls)) ≤ room - length (answer_to ds os e l)
          → length (answers ds os e (cond x [] (l ∷ room_for ds os e (room - length (answer_to ds os e l)) ls))) ≤ room
      go true q h = omega arith
      go false q h =
          let r = room_for ds os e (room - length (answer_to ds os e l)) ls in
          omega (arith, ltb-false room 32 q, answer_small ds os e l, length-append (answer_to ds os e l) (answers ds os e r))

module _ (input out : List ℕ) (p : Progress) (after : List ℕ) (q : done p after ≡ date_lines input out) where
  pub consumed_within : p.consumed ≤ length input
  unfolding date_lines
  consumed_within =
      let k : p.consumed ≡ bytes_in (room_for published_days published_offsets published_last (length out) (whole_in input)) = λ i. (q i).consumed in
      omega (arith, room_within published_days published_offsets published_last (length out) (whole_in input), whole_within input)

  pub written_within : p.written ≤ length out
  unfolding date_lines
  written_within =
      let k : p.written ≡ length (answers published_days published_offsets published_last (room_for published_days published_offsets published_last (length out) (whole_in input))) = λ i. (q i).written in
      omega (arith, room_fits published_days published_offsets published_last (length out) (whole_in input))
