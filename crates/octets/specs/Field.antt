-- Laws of big-endian fields, over the number n of bytes: the bytes of a number and the number of bytes undo each other. Assumes nothing.
use Rattle.std.specs.Prelude.{◌≡◌, refl, List, [], ◌∷◌, ◌++◌, ℕ, zero, suc, ◌+◌, ◌-◌, ◌*◌, ◌/◌, ◌%◌, ◌^◌, ◌≤◌, ◌<◌, length, get_or, set, take, drop}
use Rattle.std.proofs.Common.{sym, ap, ap₂, subst, ◌∙◌, mod-eq_of_lt, lt_of_lt_of_le, mod-lt, mul-le-mul_right, pow-suc, add-zero, arith, length-append, length-set, drop-cons, lt-length-set, get_or-set_same, drop-set-lt, lit<, pow-add}
use Rattle.std.proofs.Math.Nat.{mul-add-div_right, mul-add-mod_self_right, div-eq_of_lt, pow-le-pow_right, one-le-pow, pow-succ', div-div-eq-div-mul}
use Rattle.std.proofs.Math.Arith.{mod-mul}
use Rattle.octets.specs.Meaning.{number, field, word}

-- each is a byte
pub data Bytes : List ℕ → Type 0 where
  none : Bytes []
  more : {b : ℕ} {bs : List ℕ} → b < 256 → Bytes bs → Bytes (b ∷ bs)

-- ---- sizes
power_pos : (n : ℕ) → 0 < 256 ^ n
power_pos n = one-le-pow n 256 (lit< tt)

pub length_field : (n v : ℕ) → length (field n v) ≡ n
unfolding field
length_field zero v = refl
length_field (suc n) v = ap suc (length_field n v)

pub field_bytes : (n v : ℕ) → Bytes (field n v)
unfolding field
field_bytes zero v = none
field_bytes (suc n) v = more (mod-lt (v / 256 ^ n) (lit< tt)) (field_bytes n v)

pub number_lt : {s : List ℕ} → Bytes s → number s < 256 ^ length s
unfolding number
number_lt none = lit< tt
number_lt (more {b} {bs} h r) = rw (pow-succ' 256 (length bs)) (go (256 ^ length bs) (number bs) (number_lt r) (mul-le-mul_right (256 ^ length bs) (le_ones h)))
  where
    le_ones : b < 256 → b ≤ 255
    le_ones h = omega arith

    go : (p x : ℕ) → x < p → b * p ≤ 255 * p → b * p + x < 256 * p
    go p x h k = omega arith

-- ---- the number of joined bytes
pub number_append : (s t : List ℕ) → number (s ++ t) ≡ number s * 256 ^ length t + number t
unfolding number
number_append [] t = omega arith
number_append (b ∷ s) t =
    rw (number_append s t, length-append s t, pow-add 256 (length s) (length t))
    (go (256 ^ length s) (256 ^ length t) (number s) (number t))
  where
    go : (p q x y : ℕ) → b * (p * q) + (x * q + y) ≡ (b * p + x) * q + y
    go p q x y = omega arith

-- one byte more
pub number_snoc : (s : List ℕ) (b : ℕ) → number (s ++ (b ∷ [])) ≡ number s * 256 + b
unfolding number
number_snoc s b = number_append s (b ∷ []) ∙ omega arith

-- ---- there and back: the n bytes of v stand for the last n bytes of v
pub number_field : (n v : ℕ) → number (field n v) ≡ v % 256 ^ n
unfolding number field
number_field zero v = omega arith
number_field (suc n) v =
    rw (length_field n v, number_field n v, pow-succ' 256 n)
    (sym (mod-mul v {m = 256} {c = 256 ^ n} (lit< tt) (power_pos n)))

pub number_field_small : (n v : ℕ) → v < 256 ^ n → number (field n v) ≡ v
number_field_small n v h = number_field n v ∙ mod-eq_of_lt h

pub field_inj : (n x y : ℕ) → x < 256 ^ n → y < 256 ^ n → field n x ≡ field n y → x ≡ y
field_inj n x y h k e = sym (number_field_small n x h) ∙ ap number e ∙ number_field_small n y k

-- what stands above the n bytes does not show in them
field_high : (n k v : ℕ) → field n (k * 256 ^ n + v) ≡ field n v
unfolding field
field_high zero k v = refl
field_high (suc n) k v = ap₂ ◌∷◌ head (ap (field n) over ∙ field_high n (k * 256) v)
  where
    over : k * 256 ^ suc n + v ≡ k * 256 * 256 ^ n + v
    over = rw (pow-succ' 256 n) (go (256 ^ n))
      where
        go : (p : ℕ) → k * (256 * p) + v ≡ k * 256 * p + v
        go p = omega arith

    head : (k * 256 ^ suc n + v) / 256 ^ n % 256 ≡ v / 256 ^ n % 256
    head = ap (λ (x : ℕ). x / 256 ^ n % 256) over
        ∙ ap (λ (x : ℕ). x % 256) (mul-add-div_right (power_pos n) (k * 256) v)
        ∙ mul-add-mod_self_right k 256 (v / 256 ^ n)

-- bytes are the bytes of the number that they stand for
pub field_number : {s : List ℕ} → Bytes s → field (length s) (number s) ≡ s
unfolding number field
field_number none = refl
field_number (more {b} {bs} h r) = ap₂ ◌∷◌ head (field_high (length bs) b (number bs) ∙ field_number r)
  where
    head : (b * 256 ^ length bs + number bs) / 256 ^ length bs % 256 ≡ b
    head = ap (λ (x : ℕ). x % 256) (mul-add-div_right (power_pos (length bs)) b (number bs) ∙ ap (λ (x : ℕ). b + x) (div-eq_of_lt (number_lt r)))
        ∙ ap (λ (x : ℕ). x % 256) (add-zero b) ∙ mod-eq_of_lt h

-- up to 8 bytes nothing is cut off
pub word_small : {s : List ℕ} → Bytes s → length s ≤ 8 → word s ≡ number s
word_small b h = mod-eq_of_lt (lt_of_lt_of_le (number_lt b) (pow-le-pow_right (lit< tt) h))

-- ---- of a slice each element is a byte, and of its parts
pub bytes_all : (s : List ℕ) → ((k : ℕ) → get_or s k 0 < 256) → Bytes s
bytes_all [] h = none
bytes_all (b ∷ s) h = more (h 0) (bytes_all s (λ (k : ℕ). h (suc k)))

pub bytes_take : (n : ℕ) {s : List ℕ} → Bytes s → Bytes (take n s)
bytes_take zero h = none
bytes_take (suc n) none = none
bytes_take (suc n) (more h r) = more h (bytes_take n r)

pub bytes_drop : (n : ℕ) {s : List ℕ} → Bytes s → Bytes (drop n s)
bytes_drop zero h = h
bytes_drop (suc n) none = none
bytes_drop (suc n) (more h r) = bytes_drop n r

-- ---- a field laid from its end: one byte more, and what is left of the number
lay_byte : (s : List ℕ) (j v : ℕ) → j < length s → drop (suc j) s ≡ field (length s - suc j) v →
    drop j (set s j (v / 256 ^ (length s - suc j) % 256)) ≡ field (length s - j) v
unfolding field
lay_byte s j v h e =
    let k = length s - suc j in
    let b = v / 256 ^ k % 256 in
    let l : length s - j ≡ suc k = omega arith in
    drop-cons (set s j b) j 0 (lt-length-set s j b h)
    ∙ ap₂ ◌∷◌ (get_or-set_same s j b 0 h) (drop-set-lt (suc j) s j b (omega arith) ∙ e)
    ∙ sym (ap (λ (n : ℕ). field n v) l)

lay_rest : (v k : ℕ) → v / 256 ^ k / 256 ≡ v / 256 ^ suc k
lay_rest v k = div-div-eq-div-mul v (256 ^ k) 256 ∙ ap (λ (n : ℕ). v / n) (sym (pow-suc 256 k))

pub lay_turn : (s : List ℕ) (i v x : ℕ) → 0 < i → i ≤ length s → drop i s ≡ field (length s - i) v → x ≡ v / 256 ^ (length s - i) →
    (drop (i - 1) (set s (i - 1) (x % 256)) ≡ field (length (set s (i - 1) (x % 256)) - (i - 1)) v)
    × (x / 256 ≡ v / 256 ^ (length (set s (i - 1) (x % 256)) - (i - 1)))
lay_turn s i v x h k d e =
    let j = i - 1 in
    let n : i ≡ suc j = omega arith in
    let l : length s - j ≡ suc (length s - suc j) = omega arith in
    let d' : drop (suc j) s ≡ field (length s - suc j) v = subst (λ (y : ℕ). drop y s ≡ field (length s - y) v) n d in
    let e' : x ≡ v / 256 ^ (length s - suc j) = subst (λ (y : ℕ). x ≡ v / 256 ^ (length s - y)) n e in (
      rw (length-set, e') (lay_byte s j v (omega arith) d'),
      rw (length-set, e') (lay_rest v (length s - suc j) ∙ sym (ap (λ (y : ℕ). v / 256 ^ y) l)),
    )
