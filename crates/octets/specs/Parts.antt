-- Laws of the parts of a byte string, over their widths: an image is cut into its fields, parts are joined again, and two
-- fields side by side are one. Assumes nothing.
use Rattle.std.specs.Prelude.{◌≡◌, List, [], ◌∷◌, ◌++◌, ℕ, zero, suc, ◌+◌, ◌-◌, ◌*◌, ◌^◌, ◌≤◌, ◌<◌, length, take, drop}
use Rattle.std.proofs.Common.{sym, ap, ap₂, subst, ◌∙◌, arith, length-append, length-drop, take-append-drop, length-take-le, take_all, take_at, drop_at, drop-drop, take-add, take-take}
use Rattle.std.proofs.Math.Seq.{take-nil}
use Rattle.octets.specs.Meaning.{number, word, field, part, PartIs}
use Rattle.octets.specs.Field.{Bytes, none, more, number_lt, number_append, number_field_small, field_number, length_field, field_bytes, bytes_take, bytes_drop, word_small}

-- ---- parts of bytes
module _ (s : List ℕ) (from n : ℕ) (h : from + n ≤ length s) where
  part_length : length (take n (drop from s)) ≡ n
  part_length = length-take-le n (drop from s) (omega (arith, length-drop from s))

  module _ (b : Bytes s) where
    pub part_lt : part s from n < 256 ^ n
    part_lt = subst (λ (m : ℕ). part s from n < 256 ^ m) part_length (number_lt (bytes_take n (bytes_drop from b)))

    -- the part as its 64 bits, in the checker's form
    pub part_word : n ≤ 8 → (r : ℕ) → r ≡ word (take (from + n - from) (drop from s)) → PartIs s from n r
    part_word k r e =
        let l : from + n - from ≡ n = omega arith in
        let v : r ≡ part s from n = e ∙ ap (λ (m : ℕ). word (take m (drop from s))) l ∙ word_small (bytes_take n (bytes_drop from b)) (omega (arith, part_length)) in
        record { is = v; small = subst (λ (x : ℕ). x < 256 ^ n) (sym v) part_lt }

    pub field_part : field n (part s from n) ≡ take n (drop from s)
    field_part = ap (λ (m : ℕ). field m (part s from n)) (sym part_length) ∙ field_number (bytes_take n (bytes_drop from b))

    -- a part before the rest, and the last part
    pub join : field n (part s from n) ++ drop (from + n) s ≡ drop from s
    join =
        ap₂ ◌++◌ field_part (sym (drop-drop n from s)) ∙ take-append-drop n (drop from s)

    pub join_last : from + n ≡ length s → field n (part s from n) ≡ drop from s
    join_last e = field_part ∙ take_all n (drop from s) (omega (arith, length-drop from s))

-- two parts side by side are one
pub part_two : (s : List ℕ) (from n m : ℕ) → from + n + m ≤ length s → part s from (n + m) ≡ part s from n * 256 ^ m + part s (from + n) m
part_two s from n m h =
    ap number (take-add n m (drop from s) ∙ ap (λ (l : List ℕ). take n (drop from s) ++ take m l) (drop-drop n from s))
    ∙ number_append (take n (drop from s)) (take m (drop (from + n) s))
    ∙ ap (λ (l : ℕ). part s from n * 256 ^ l + part s (from + n) m) (part_length s (from + n) m h)

-- what stands behind the first bytes does not show in a part of them
pub part_take : (s : List ℕ) (from n m : ℕ) → from + n ≤ m → part (take m s) from n ≡ part s from n
part_take s from n m h = ap number (go from m s h)
  where
    go : (from m : ℕ) (s : List ℕ) → from + n ≤ m → take n (drop from (take m s)) ≡ take n (drop from s)
    go zero m s h = take-take n m s (omega arith)
    go (suc from) zero s h = absurd (omega arith)
    go (suc from) (suc m) [] h = ap (λ (l : List ℕ). take n (drop (suc from) l)) (take-nil (suc m))
    go (suc from) (suc m) (b ∷ s) h = go from m s (omega arith)

-- no two numbers are one part
pub part_one : (s : List ℕ) (from n a b : ℕ) → PartIs s from n a → PartIs s from n b → a ≡ b
part_one s from n a b p q = p.is ∙ sym q.is

-- ---- the fields of an image
module _ (n x : ℕ) where
  pub part_last : x < 256 ^ n → part (field n x) 0 n ≡ x
  part_last h = ap number (take_all n (field n x) (omega (arith, length_field n x))) ∙ number_field_small n x h

  module _ (rest : List ℕ) where
    pub part_first : x < 256 ^ n → part (field n x ++ rest) 0 n ≡ x
    part_first h = ap number (take_at (field n x) rest n (length_field n x)) ∙ number_field_small n x h

    pub part_next : (k m : ℕ) → part (field n x ++ rest) (n + k) m ≡ part rest k m
    part_next k m =
        ap (λ (l : List ℕ). number (take m l)) (sym (drop-drop k n (field n x ++ rest)) ∙ ap (drop k) (drop_at (field n x) rest n (length_field n x)))

-- ---- two fields are one
pub bytes_append : {s t : List ℕ} → Bytes s → Bytes t → Bytes (s ++ t)
bytes_append none c = c
bytes_append (more h b) c = more h (bytes_append b c)

pub field_two : (n m x y : ℕ) → x < 256 ^ n → y < 256 ^ m → field (n + m) (x * 256 ^ m + y) ≡ field n x ++ field m y
field_two n m x y h k =
    let s = field n x ++ field m y in
    let l : length s ≡ n + m = length-append (field n x) (field m y) ∙ ap₂ ◌+◌ (length_field n x) (length_field m y) in
    let v : number s ≡ x * 256 ^ m + y =
    number_append (field n x) (field m y)
    ∙ ap₂ ◌+◌ (ap₂ (λ (a b : ℕ). a * 256 ^ b) (number_field_small n x h) (length_field m y)) (number_field_small m y k) in
    ap₂ field (sym l) (sym v) ∙ field_number (bytes_append (field_bytes n x) (field_bytes m y))
