-- What is printed for a line, as it stands on the front of the lent slice. Assumes nothing.
use Rattle.std.specs.Prelude.{◌≡◌, Bool, true, false, cond, List, [], ◌∷◌, ◌++◌, ℕ, suc, ◌/◌, ◌≤◌, ◌<◌, ltb, ℤ, length, drop, get_or, set, Result, Ok, Err}
use Rattle.std.proofs.Math.Path.{refl, ap}
use Rattle.std.proofs.Common.{sym, ◌∙◌, append_assoc, arith, drop-cons, le-leb, lt-ltb, le-ltb}
use Rattle.std.proofs.Math.ListN.{length-append}
use Rattle.std.proofs.lemmas.List.{set_at}
use Rattle.axis.specs.Meaning.{Moment}
use Rattle.octets.specs.Meaning.{onto}
use Rattle.octets.specs.Place.{onto_room}
use Rattle.scales.specs.Meaning.{Outcome, refused, answer, outcome, wrote}
use Rattle.scales.specs.declared.Scale.{Scale}
use Rattle.scales.specs.declared.Scale.TheVariants as S
use Rattle.calendar.specs.Meaning.{date_of_day}
use Rattle.text_write.specs.Meaning.{stamp_of, image_of}
use Rattle.text_write.specs.Image.{size_is}
use Rattle.text_write.specs.Stage.{imaged}
use Rattle.text_write.specs.declared.Form.TheVariants as F
use Rattle.lines.specs.Meaning.{digit, refused_text, told, line_dating, answer_to}
use Rattle.lines.specs.Stage.{refused_line, Put}
use Rattle.scales.specs.declared.Refusal.{Refusal}

-- ---- `refused N`
put_on : (image front out : List ℕ) (n : ℕ) → front ≡ image → n ≡ length front → Put image out (onto front out) n
put_on image front out n e l = record { length_is = l ∙ ap length e; bytes_are = ap (λ (x : List ℕ). onto x out) e }

module _ (n u : ℕ) (out : List ℕ) (e : u ≡ digit n) where
  pub one_digit : n < 10 → Put (refused_line n) out (onto (114 ∷ 101 ∷ 102 ∷ 117 ∷ 115 ∷ 101 ∷ 100 ∷ 32 ∷ u ∷ 10 ∷ []) out) 10
  unfolding refused_line refused_text
  one_digit h = put_on _ (114 ∷ 101 ∷ 102 ∷ 117 ∷ 115 ∷ 101 ∷ 100 ∷ 32 ∷ u ∷ 10 ∷ []) out 10 (rw (lt-ltb n 10 h, e)) refl

  pub two_digits : 10 ≤ n → (t : ℕ) → t ≡ digit (n / 10)
      → Put (refused_line n) out (onto (114 ∷ 101 ∷ 102 ∷ 117 ∷ 115 ∷ 101 ∷ 100 ∷ 32 ∷ t ∷ u ∷ 10 ∷ []) out) 11
  unfolding refused_line refused_text
  two_digits h t f = put_on _ (114 ∷ 101 ∷ 102 ∷ 117 ∷ 115 ∷ 101 ∷ 100 ∷ 32 ∷ t ∷ u ∷ 10 ∷ []) out 11 (rw (le-ltb n 10 h, e, f)) refl

pub refused_is : (n : ℕ) → refused_line n ≡ told (refused n) ++ (10 ∷ [])
unfolding refused_line
refused_is n = refl

-- ---- a time
image_length : (z : Scale) (m : Moment) → length (image_of F.PrefixedMicros z m) ≡ 31
image_length z m = size_is F.PrefixedMicros z (stamp_of (date_of_day m.day).value m.micro)

module _ (z : Scale) (m : Moment) (out : List ℕ) (room : 32 ≤ length out) where
  abbrev image : List ℕ
  image = image_of F.PrefixedMicros z m

  imaged_is : imaged F.PrefixedMicros z m out ≡ record { number = 0; length = length image; lent = image ++ drop (length image) out }
  unfolding imaged
  imaged_is = rw (le-leb (length image) (length out) (omega (arith, image_length z m)))

  pub printed : (w : Result ℕ Refusal) (after : List ℕ) → wrote w after ≡ imaged F.PrefixedMicros z m out → Put (image ++ (10 ∷ [])) out (set after 31 10) 32
  printed w after q =
      let l = image_length z m in
      let b : length (image ++ (10 ∷ [])) ≡ 32 = omega (arith, l, length-append image (10 ∷ [])) in
      let e : after ≡ image ++ (get_or out 31 0 ∷ drop 32 out) =
      left w ∙ (λ i. ((q ∙ imaged_is) i).lent) ∙ ap (λ (n : ℕ). image ++ drop n out) l ∙ ap (λ (x : List ℕ). image ++ x) (drop-cons out 31 0 (omega arith)) in
      record {
        length_is = sym b;
        bytes_are =
            ap (λ (x : List ℕ). set x 31 10) e
            ∙ set_at image (get_or out 31 0) (drop 32 out) 10 31 l
            ∙ sym (append_assoc image (10 ∷ []) (drop 32 out))
            ∙ sym (onto_room (image ++ (10 ∷ [])) out (omega arith) ∙ ap (λ (n : ℕ). (image ++ (10 ∷ [])) ++ drop n out) b);
      }
    where
      left : (w : Result ℕ Refusal) → after ≡ (wrote w after).lent
      left (Ok n) = refl
      left (Err f) = refl

-- ---- an answer has at most 32 bytes
told_small : (o : Outcome Moment) → length (told o) ≤ 31
unfolding refused_text
told_small (refused n) = go (ltb n 10)
  where
    go : (b : Bool) → suc (suc (suc (suc (suc (suc (suc (suc (length (cond b (digit n ∷ []) (digit (n / 10) ∷ digit n ∷ [])))))))))) ≤ 31
    go true = omega arith
    go false = omega arith
told_small (answer m) = omega (arith, image_length S.Tai m)

module _ (ds : List ℤ) (os : List ℕ) (e : ℤ) (s : List ℕ) where
  pub answer_small : length (answer_to ds os e s) ≤ 32
  unfolding answer_to
  answer_small = omega (arith, told_small (outcome (line_dating ds os e s)), length-append (told (outcome (line_dating ds os e s))) (10 ∷ []))

  pub answer_is : (o : Outcome Moment) → outcome (line_dating ds os e s) ≡ o → told o ++ (10 ∷ []) ≡ answer_to ds os e s
  unfolding answer_to
  answer_is o q = ap (λ (x : Outcome Moment). told x ++ (10 ∷ [])) (sym q)
