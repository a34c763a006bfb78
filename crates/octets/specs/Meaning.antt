-- What a reader must believe: the number that bytes stand for, the bytes of a number, and an image onto the front of a slice.
use Rattle.std.specs.Prelude.{◌≡◌, Bool, cond, List, [], ◌∷◌, ◌++◌, ℕ, zero, suc, ◌+◌, ◌*◌, ◌/◌, ◌%◌, ◌^◌, ◌<◌, leb, length, take, drop}

-- the number that bytes stand for, most significant byte first
unfoldable pub number : List ℕ → ℕ
number [] = 0
number (b ∷ bs) = b * 256 ^ length bs + number bs

-- the number in 64 bits: its last 64 where there are more than 8 bytes
abbrev pub word : List ℕ → ℕ
word s = number s % 2 ^ 64

-- the number that n bytes of s stand for, from a place on
abbrev pub part : List ℕ → ℕ → ℕ → ℕ
part s from n = number (take n (drop from s))

-- it, and that n bytes hold it
pub record PartIs (s : List ℕ) (from n r : ℕ) : Type 0 where
  pub is : r ≡ part s from n
  pub small : r < 256 ^ n

-- the last n bytes of v, most significant first
unfoldable pub field : ℕ → ℕ → List ℕ
field zero v = []
field (suc n) v = v / 256 ^ n % 256 ∷ field n v

-- whether an image fits into the slice
abbrev pub has_room : {A : Type 0} → List A → List A → Bool
has_room image out = leb (length image) (length out)

-- the slice with the image on its front and the rest as it was; all as it was where there is no room
unfoldable pub onto : {A : Type 0} → List A → List A → List A
onto image out = cond (has_room image out) (image ++ drop (length image) out) out
