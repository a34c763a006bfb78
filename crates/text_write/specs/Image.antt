-- Laws of the image of a text: its bytes, and how it stands on a slice. Assumes nothing.
use Rattle.std.specs.Prelude.{◌≡◌, refl, Bool, true, false, cond, ℕ, ◌+◌, ◌≤◌, ◌<◌, get_or, set, drop, Ok, Err}
use Rattle.std.proofs.Math.Path.{sym, ap, ap₂}
use Rattle.std.proofs.Common.{◌∙◌, arith, length-append, length-drop, le-leb}
use mathlib.Core.List.{List, [], ◌++◌}
use Rattle.std.proofs.Math.ListN.{length, take}
use Rattle.std.proofs.lemmas.List.Edits.{sets}
use Rattle.std.proofs.lemmas.Bool.{lt-leb}
use Rattle.octets.specs.Meaning.{onto}
use Rattle.octets.specs.Place.{onto_room, length_onto, rest_onto}
use Rattle.scales.specs.Meaning.{wrote}
use Rattle.scales.specs.declared.Scale.{Scale}
use Rattle.scales.specs.declared.Scale.TheVariants as S
use Rattle.scales.specs.declared.Refusal.TheVariants as R
use Rattle.text_fields.specs.declared.Stamp.{Stamp}
use Rattle.text_fields.specs.Meaning.{prefix_of}
use Rattle.text_write.specs.Meaning.{text_of, body_of, has_micros, shows_scale, full_text}
use Rattle.text_write.specs.Stage.{putting}
use Rattle.text_write.specs.Columns.{front_put}
use Rattle.text_write.specs.declared.Form.{Form}
use Rattle.text_write.specs.declared.Form.TheVariants as F

-- ---- how many bytes
abbrev pub size_of : Form → ℕ
size_of F.Plain = 20
size_of F.Micros = 27
size_of F.Prefixed = 24
size_of F.PrefixedMicros = 31

pub prefix_length : (z : Scale) → length (prefix_of z) ≡ 4
unfolding prefix_of
prefix_length S.Tai = refl
prefix_length S.Utc = refl
prefix_length S.Gps = refl

-- the prefix that a form has
abbrev pub prefix_in : Form → Scale → List ℕ
prefix_in f z = cond (shows_scale f) (prefix_of z) []

pub size_is : (f : Form) (z : Scale) (t : Stamp) → length (full_text f z t) ≡ size_of f
unfolding text_of
size_is F.Plain z t = refl
size_is F.Micros z t = refl
size_is F.Prefixed z t = length-append (prefix_of z) _ ∙ ap (λ (n : ℕ). n + 20) (prefix_length z)
size_is F.PrefixedMicros z t = length-append (prefix_of z) _ ∙ ap (λ (n : ℕ). n + 27) (prefix_length z)

-- the prefix, and then the rest
full_is : (f : Form) (z : Scale) (t : Stamp) → full_text f z t ≡ prefix_in f z ++ body_of (has_micros f) t
full_is f z t = go (shows_scale f)
  where
    go : (b : Bool) → cond b (prefix_of z ++ body_of (has_micros f) t) (body_of (has_micros f) t) ≡ cond b (prefix_of z) [] ++ body_of (has_micros f) t
    go true = refl
    go false = refl

-- ---- the prefix, as it was put
copied : (z : Scale) (out p : List ℕ) → p ≡ prefix_of z
    → set (set (set (set out 0 (get_or p 0 0)) 1 (get_or p 1 0)) 2 (get_or p 2 0)) 3 (get_or p 3 0) ≡ sets out 0 (prefix_of z)
unfolding prefix_of
copied S.Tai out p e = rw e
copied S.Utc out p e = rw e
copied S.Gps out p e = rw e

module _ (f : Form) (z : Scale) (out : List ℕ) where
  pub prefix_none : shows_scale f ≡ false → (0 ≡ length (prefix_in f z)) × (out ≡ onto (prefix_in f z) out)
  prefix_none q =
      let e : prefix_in f z ≡ [] = rw q in
      (ap length (sym e), sym (ap (λ (x : List ℕ). onto x out) e ∙ onto_room [] out (omega arith)))

  module _ (q : shows_scale f ≡ true) where
    prefix_is : prefix_in f z ≡ prefix_of z
    prefix_is = rw q

    pub prefix_room : length (prefix_in f z) ≤ length out → 4 ≤ length out
    prefix_room h = omega (arith, ap length prefix_is, prefix_length z)

    pub prefix_put : length (prefix_in f z) ≤ length out → (p : List ℕ) → p ≡ prefix_of z → (4 ≡ length (prefix_in f z)) × (p ++ drop 4 out ≡ onto (prefix_in f z) out)
    prefix_put h p e =
        let n : 4 ≡ length (prefix_in f z) = omega (arith, ap length prefix_is, prefix_length z) in
        (n, ap₂ (λ (s : List ℕ) (k : ℕ). s ++ drop k out) (e ∙ sym prefix_is) n ∙ sym (onto_room (prefix_in f z) out h))

    -- the same of a prefix that is laid byte by byte
    pub prefix_set : length (prefix_in f z) ≤ length out → (p : List ℕ) → p ≡ prefix_of z →
        (4 ≡ length (prefix_in f z)) × (set (set (set (set out 0 (get_or p 0 0)) 1 (get_or p 1 0)) 2 (get_or p 2 0)) 3 (get_or p 3 0) ≡ onto (prefix_in f z) out)
    prefix_set h p e =
        let l : length (prefix_of z) ≤ length out = omega (arith, ap length prefix_is) in
        (omega (arith, ap length prefix_is, prefix_length z), copied z out p e ∙ front_put (prefix_of z) out l ∙ ap (λ (x : List ℕ). onto x out) (sym prefix_is))

-- ---- the whole text
module _ (f : Form) (z : Scale) (t : Stamp) (out : List ℕ) (n : ℕ) (size : n ≡ size_of f) where
  pub text_short : length out < n → wrote (Err R.OutputShorter) out ≡ putting (full_text f z t) out
  unfolding putting
  text_short h = sym (rw (lt-leb (length (full_text f z t)) (length out) (omega (arith, size, size_is f z t))))

  module _ (h : n ≤ length out) where
    abbrev front : List ℕ
    front = prefix_in f z

    abbrev body : List ℕ
    body = body_of (has_micros f) t

    room : length front + length body ≤ length out
    room = omega (arith, size, sym (ap length (full_is f z t)) ∙ size_is f z t, length-append front body)

    pub front_room : length front ≤ length out
    front_room = omega (arith, room)

    -- what is lent after the prefix, and the slice when it was filled
    module _ (k : ℕ) (ek : k ≡ length front) (p : List ℕ) (ep : p ≡ onto front out) where
      pub from_room : k ≤ length p
      from_room = omega (arith, room, ap length ep, length_onto front out)

      pub rest_room : length body ≤ length (drop k p)
      rest_room = omega (arith, room, ap length ep, length_onto front out, length-drop k p)

      pub text_put : (b : List ℕ) → b ≡ onto body (drop k p) → wrote (Ok n) (take k p ++ b) ≡ putting (full_text f z t) out
      unfolding putting
      text_put b eb =
          let l : length (full_text f z t) ≤ length out = omega (arith, size, size_is f z t) in
          let o : take k p ++ b ≡ onto (front ++ body) out =
          ap (λ (s : List ℕ). take k p ++ s) eb ∙ rw (ep) (rest_onto k front body out (sym ek) (omega (arith, room))) in
          ap₂ (λ (i : ℕ) (s : List ℕ). wrote (Ok i) s) (size ∙ sym (size_is f z t))
          (o ∙ ap (λ (x : List ℕ). onto x out) (sym (full_is f z t)) ∙ onto_room (full_text f z t) out l)
          ∙ sym (rw (le-leb (length (full_text f z t)) (length out) l))
