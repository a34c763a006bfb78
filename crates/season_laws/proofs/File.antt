-- The bytes of a written file, part by part: its length, its count, and the fields of each entry and body. Assumes nothing.
use mathlib.Core.Path.{◌≡◌, sym, ap, ap₂, ◌∙◌}
use mathlib.Core.List.{List, [], ◌++◌, append_assoc, append-nil}
use Prim.Native.Nat.{ℕ, zero, suc, ◌+◌, ◌*◌, ◌/◌, ◌≤◌, ◌<◌}
use native.Mathlib.Omega.{arith}
use lib.IntN.{ℤ}
use lib.ListN.{length, take, drop}
use Rattle.octets.specs.Meaning.{number, field, part}
use Rattle.octets.specs.Field.{Bytes, none, length_field, field_bytes}
use Rattle.octets.specs.Parts.{bytes_append, part_first, part_next, part_last}
use Rattle.season.specs.Meaning.{each, count_of, entry_bytes, body_bytes, file_of}
use Rattle.season.specs.Each.{in_second, in_each}
use Rattle.season.specs.Writing.{entry_length, body_length}
use Rattle.season.specs.Filed as F

-- how many correlations the words are of
abbrev pub many : List ℤ → ℕ
many ws = length ws / 7

-- ---- an entry: its three fields
abbrev pub entry_of : ℕ → ℕ → ℕ → List ℕ
entry_of x y p = field 8 x ++ field 8 y ++ field 4 p

module _ (x y p : ℕ) where
  three : entry_of x y p ≡ field 8 x ++ (field 8 y ++ field 4 p)
  three = append_assoc (field 8 x) (field 8 y) (field 4 p)

  pub entry_from : x < 18446744073709551616 → part (entry_of x y p) 0 8 ≡ x
  entry_from h = ap (λ (s : List ℕ). part s 0 8) three ∙ part_first 8 x (field 8 y ++ field 4 p) h

  pub entry_to : y < 18446744073709551616 → part (entry_of x y p) 8 8 ≡ y
  entry_to h = ap (λ (s : List ℕ). part s 8 8) three ∙ part_next 8 x (field 8 y ++ field 4 p) 0 8 ∙ part_first 8 y (field 4 p) h

  pub entry_position : p < 4294967296 → part (entry_of x y p) 16 4 ≡ p
  entry_position h =
      ap (λ (s : List ℕ). part s 16 4) three ∙ part_next 8 x (field 8 y ++ field 4 p) 8 4 ∙ part_next 8 y (field 4 p) 0 4 ∙ part_last 4 p h

-- ---- a body: its five
abbrev pub body_of : ℕ → ℕ → ℕ → ℕ → ℕ → List ℕ
body_of t z p b a = field 4 t ++ field 8 z ++ field 8 p ++ field 4 b ++ field 4 a

module _ (t z p b a : ℕ) where
  five : body_of t z p b a ≡ field 4 t ++ (field 8 z ++ (field 8 p ++ (field 4 b ++ field 4 a)))
  five = simp append_assoc

  after_tick : (k w : ℕ) → part (body_of t z p b a) (4 + k) w ≡ part (field 8 z ++ (field 8 p ++ (field 4 b ++ field 4 a))) k w
  after_tick k w = ap (λ (s : List ℕ). part s (4 + k) w) five ∙ part_next 4 t (field 8 z ++ (field 8 p ++ (field 4 b ++ field 4 a))) k w

  after_reference : (k w : ℕ) → part (field 8 z ++ (field 8 p ++ (field 4 b ++ field 4 a))) (8 + k) w ≡ part (field 8 p ++ (field 4 b ++ field 4 a)) k w
  after_reference k w = part_next 8 z (field 8 p ++ (field 4 b ++ field 4 a)) k w

  pub body_tick : t < 4294967296 → part (body_of t z p b a) 0 4 ≡ t
  body_tick h = ap (λ (s : List ℕ). part s 0 4) five ∙ part_first 4 t (field 8 z ++ (field 8 p ++ (field 4 b ++ field 4 a))) h

  pub body_reference : z < 18446744073709551616 → part (body_of t z p b a) 4 8 ≡ z
  body_reference h = after_tick 0 8 ∙ part_first 8 z (field 8 p ++ (field 4 b ++ field 4 a)) h

  pub body_period : p < 18446744073709551616 → part (body_of t z p b a) 12 8 ≡ p
  body_period h = after_tick 8 8 ∙ after_reference 0 8 ∙ part_first 8 p (field 4 b ++ field 4 a) h

  pub body_back : b < 4294967296 → part (body_of t z p b a) 20 4 ≡ b
  body_back h = after_tick 16 4 ∙ after_reference 8 4 ∙ part_next 8 p (field 4 b ++ field 4 a) 0 4 ∙ part_first 4 b (field 4 a) h

  pub body_ahead : a < 4294967296 → part (body_of t z p b a) 24 4 ≡ a
  body_ahead h = after_tick 20 4 ∙ after_reference 12 4 ∙ part_next 8 p (field 4 b ++ field 4 a) 4 4 ∙ part_next 4 b (field 4 a) 0 4 ∙ part_last 4 a h

-- ---- the file
module _ (ws : List ℤ) where
  pub file_length : length (file_of ws) ≡ 2 + 48 * many ws
  file_length = F.file_length ws ∙ omega arith

  file_split : file_of ws ≡ field 2 (many ws) ++ (each (entry_bytes (many ws) ws) (many ws) ++ each (body_bytes ws) (many ws))
  file_split = append_assoc (field 2 (many ws)) (each (entry_bytes (many ws) ws) (many ws)) (each (body_bytes ws) (many ws))

  pub file_count : many ws < 65536 → count_of (file_of ws) ≡ many ws
  file_count h =
      ap (λ (s : List ℕ). part s 0 2) file_split
      ∙ part_first 2 (many ws) (each (entry_bytes (many ws) ws) (many ws) ++ each (body_bytes ws) (many ws)) h

  -- w bytes from o on in an entry, and in a body
  pub in_entry : (k o w at : ℕ) → k < many ws → o + w ≤ 20 → at ≡ 2 + (20 * k + o) → part (file_of ws) at w ≡ part (entry_bytes (many ws) ws k) o w
  in_entry k o w at h i e =
      let n = many ws in
      ap₂ (λ (a : ℕ) (s : List ℕ). part s a w) e file_split
      ∙ ap number
      (in_second (field 2 n) (each (entry_bytes n ws) n ++ each (body_bytes ws) n) (20 * k + o) w 2 (length_field 2 n)
      ∙ in_each (entry_bytes n ws) 20 (entry_length n ws) n k o w (each (body_bytes ws) n) h i)

  pub in_body : (k o w at : ℕ) → k < many ws → o + w ≤ 28 → at ≡ 2 + 20 * many ws + (28 * k + o) → part (file_of ws) at w ≡ part (body_bytes ws k) o w
  in_body k o w at h i e =
      let n = many ws in
      ap (λ (a : ℕ). part (file_of ws) a w) e
      ∙ ap number
      (in_second (field 2 n ++ each (entry_bytes n ws) n) (each (body_bytes ws) n) (28 * k + o) w (2 + 20 * n) (F.front_length n ws)
      ∙ ap (λ (s : List ℕ). take w (drop (28 * k + o) s)) (sym (append-nil (each (body_bytes ws) n)))
      ∙ in_each (body_bytes ws) 28 (body_length ws) n k o w [] h i)

-- ---- what is written are bytes
each_bytes : (f : ℕ → List ℕ) → ((k : ℕ) → Bytes (f k)) → (n : ℕ) → Bytes (each f n)
each_bytes f b zero = none
each_bytes f b (suc n) = bytes_append (each_bytes f b n) (b n)

pub file_bytes : (ws : List ℤ) → Bytes (file_of ws)
file_bytes ws =
    let n = many ws in
    bytes_append
    (bytes_append (field_bytes 2 n)
    (each_bytes (entry_bytes n ws) (λ k. bytes_append (bytes_append (field_bytes 8 _) (field_bytes 8 _)) (field_bytes 4 _)) n))
    (each_bytes (body_bytes ws)
    (λ k. bytes_append (bytes_append (bytes_append (bytes_append (field_bytes 4 _) (field_bytes 8 _)) (field_bytes 8 _)) (field_bytes 4 _)) (field_bytes 4 _)) n)
