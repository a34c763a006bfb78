-- Laws of an image on the front of a slice, and of a rest that is lent, `&mut out[a..]`. Over any element. Assumes nothing.
use Rattle.std.specs.Prelude.{◌≡◌, refl, Bool, true, false, List, [], ◌++◌, ℕ, ◌+◌, ◌-◌, ◌≤◌, ◌<◌, length, take, drop, get_or, set}
use Rattle.std.proofs.Common.{sym, ap, ◌∙◌, append-nil, append_assoc, arith, add-one, zero-add, length-append, length-drop, drop_of_length-le, take_all, take_at, drop_at, drop-drop, leb-true, leb-false, le-leb}
use Rattle.std.proofs.Math.Seq.{paste-suc}
use Rattle.std.proofs.lemmas.Bool.{lt-leb}
use Rattle.octets.specs.Meaning.{has_room, onto}

module _ {A : Type 0} where
  -- ---- an image on the front
  pub onto_room : (image out : List A) → length image ≤ length out → onto image out ≡ image ++ drop (length image) out
  unfolding onto
  onto_room image out h = rw (le-leb (length image) (length out) h)

  pub onto_none : (image out : List A) → length out < length image → onto image out ≡ out
  unfolding onto
  onto_none image out h = rw (lt-leb (length image) (length out) h)

  -- one more byte of an image is put on
  pub onto_next : (out image : List A) (d : A) (j : ℕ) → j < length image → length image ≤ length out
      → set (take j image ++ drop j out) j (get_or image j d) ≡ take (j + 1) image ++ drop (j + 1) out
  onto_next out image d j h room = rw (add-one j) (simp zero-add at (paste-suc out 0 image j d (omega arith) h))

  pub length_onto : (image out : List A) → length (onto image out) ≡ length out
  length_onto image out = go (has_room image out) refl
    where
      go : (room : Bool) → has_room image out ≡ room → length (onto image out) ≡ length out
      go true e =
          let h : length image ≤ length out = leb-true _ _ e in
          ap length (onto_room image out h) ∙ simp (length-append, length-drop) (omega arith)
      go false e = ap length (onto_none image out (leb-false _ _ e))

  -- ---- the rest from a on, in the checker's forms: what a callee gets, and the whole slice when the callee left r there
  pub rest_lent : (a : ℕ) (out : List A) → take (length out - a) (drop a out) ≡ drop a out
  rest_lent a out = take_all (length out - a) (drop a out) (omega (arith, length-drop a out))

  pub rest_back : (a : ℕ) (out r : List A) → take a out ++ (r ++ drop (length out - a) (drop a out)) ≡ take a out ++ r
  rest_back a out r =
      let e : drop (length out - a) (drop a out) ≡ [] = drop_of_length-le (drop a out) {i = length out - a} (omega (arith, length-drop a out)) in
      rw (e, append-nil r)

  -- ---- a front of a elements, and then an image on the rest, are both put on in one
  pub rest_onto : (a : ℕ) (front image out : List A) → length front ≡ a → a + length image ≤ length out
      → take a (onto front out) ++ onto image (drop a (onto front out)) ≡ onto (front ++ image) out
  rest_onto a front image out n h =
      let e : onto front out ≡ front ++ drop a out = onto_room front out (omega arith) ∙ rw n in
      let l : length (front ++ image) ≡ a + length image = length-append front image ∙ ap (λ (m : ℕ). m + length image) n in
      rw (e, take_at front (drop a out) a n, drop_at front (drop a out) a n)
      (ap (λ (s : List A). front ++ s) (onto_room image (drop a out) (omega (arith, length-drop a out)) ∙ rw drop-drop)
      ∙ sym (append_assoc front image (drop (a + length image) out))
      ∙ sym (onto_room (front ++ image) out (omega arith) ∙ rw l))
