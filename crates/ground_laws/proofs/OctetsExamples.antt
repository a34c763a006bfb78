-- The meanings at a few inputs, computed, and the laws at inputs that meet their hypotheses. Assumes nothing.
use mathlib.Core.Path.{◌≡◌, refl}
use mathlib.Core.Bool.{true, false}
use mathlib.Core.List.{List, [], ◌∷◌, ◌++◌}
use Prim.Native.Nat.{ℕ, ◌<◌}
use lib.Dec.{lit<, lit≤}
use lib.ListN.{take, drop}
use Rattle.octets.specs.Meaning.{number, word, field, has_room, onto}
use Rattle.octets.specs.Field.{Bytes, none, more, number_field_small, field_inj, field_number, word_small}
use Rattle.octets.specs.Place.{rest_onto}

-- 01 02 is 258, and back
pub two_bytes : number (1 ∷ 2 ∷ []) ≡ 258
unfolding number
two_bytes = refl

pub two_bytes_back : field 2 258 ≡ 1 ∷ 2 ∷ []
unfolding field
two_bytes_back = refl

-- of nine bytes the first is cut off
pub nine_bytes : word (5 ∷ 0 ∷ 0 ∷ 0 ∷ 0 ∷ 0 ∷ 0 ∷ 1 ∷ 2 ∷ []) ≡ 258
unfolding number
nine_bytes = refl

-- a number too large for the field shows its last bytes, and a small one gets zeros in front
pub last_bytes : field 2 66051 ≡ 2 ∷ 3 ∷ []
unfolding field
last_bytes = refl

pub zeros_in_front : field 4 258 ≡ 0 ∷ 0 ∷ 1 ∷ 2 ∷ []
unfolding field
zeros_in_front = refl

-- two onto three keeps the last; three onto two keeps all
pub onto_longer : onto {A = ℕ} (1 ∷ 2 ∷ []) (7 ∷ 8 ∷ 9 ∷ []) ≡ 1 ∷ 2 ∷ 9 ∷ []
unfolding onto
onto_longer = refl

pub onto_shorter : onto {A = ℕ} (1 ∷ 2 ∷ 3 ∷ []) (7 ∷ 8 ∷ []) ≡ 7 ∷ 8 ∷ []
unfolding onto
onto_shorter = refl

-- an image as long as the slice has room
pub just_room : has_room {A = ℕ} (1 ∷ 2 ∷ []) (7 ∷ 8 ∷ []) ≡ true
just_room = refl

pub no_room_lem : has_room {A = ℕ} (1 ∷ 2 ∷ 3 ∷ []) (7 ∷ 8 ∷ []) ≡ false
no_room_lem = refl

-- ---- the laws with hypotheses, each at an input that meets them
abbrev two : List ℕ
two = 1 ∷ 2 ∷ []

two_are_bytes : Bytes two
two_are_bytes = more (lit< tt) (more (lit< tt) none)

pub fields_meet : (word two ≡ number two) × (field 2 (number two) ≡ two) × (number (field 2 258) ≡ 258) × ((v : ℕ) → v < 65536 → field 2 v ≡ field 2 258 → v ≡ 258)
fields_meet = (word_small two_are_bytes (lit≤ tt), field_number two_are_bytes, number_field_small 2 258 (lit< tt), λ v h e. field_inj 2 v 258 h (lit< tt) e)

abbrev four : List ℕ
four = 6 ∷ 7 ∷ 8 ∷ 9 ∷ []

pub rest_meets : take 2 (onto two four) ++ onto (3 ∷ []) (drop 2 (onto two four)) ≡ onto (1 ∷ 2 ∷ 3 ∷ []) four
rest_meets = rest_onto 2 two (3 ∷ []) four refl (lit≤ tt)
