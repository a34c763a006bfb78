-- What is promised of a layout: bytes and fields are exact both ways, and what is written of a time is read as the last that is
-- not later; and of marks. Assumes nothing.
use Rattle.std.specs.Prelude.{◌≡◌, List, [], ◌∷◌, ℕ, ◌*◌, ◌/◌, ◌≤◌, T, length, take}
use Rattle.std.specs.Float.{binary64}
use Rattle.std.specs.Float.Ieee.{fits}
use Rattle.octets.specs.Field.{Bytes}
use Rattle.scales.specs.Meaning.{answer, Slip, dated, Wrote, written, Valued, valued}
use Rattle.scales.specs.Place.{count_of}
use Rattle.scales.specs.declared.Mark.{Mark}
use Rattle.handed.specs.declared.Handed.{Handed}
use Rattle.handed.specs.declared.Handed.TheVariants as H
use Rattle.handed.specs.Told.{count_in}
use Rattle.handed.specs.Meaning.{scale_of, day_of, micro_of}

-- the bytes that a writer answered with
abbrev pub image : Wrote ℕ → List ℕ
image w = take w.length w.lent

-- "Bytes to fields and back are exact in every layout", for every byte string and all fields that are answered: `zero` are the
-- empty fields, and `Fits` says that a value fits the type of its field
pub record Exact {A : Type 0} (zero : A) (Fits : A → Type 0) (read : List ℕ → Valued A) (write : A → List ℕ → Wrote ℕ) : Type 0 where
  pub bytes_back : (s out : List ℕ) → Bytes s → (read s).number ≡ 0 → length s ≤ length out → write (read s).value out ≡ written out (answer s)
  pub fields_back : (a : A) (out : List ℕ) → Fits a → (write a out).number ≡ 0 → read (image (write a out)) ≡ valued zero (answer a)

-- what is handed in as a decimal day is an f64
abbrev pub Real : Handed → Type 0
Real (H.Record r) = 0 ≤ 0
Real (H.Decimal x s) = T (fits binary64 x)

-- the record that an answered time is, its mark within
abbrev pub record_in : Slip → Handed
record_in t = H.Record (record { scale = t.scale; day = t.day; micro = t.micro; mark = t.mark })

-- the place of an answered time among those of its scale
abbrev pub place_at : Slip → ℕ
place_at t = count_of t.scale t.day t.micro

-- "round trips through a layout that holds no mark speak of the time alone": the bytes s are read as the handed time, which may have
-- any mark, and what is read is plain
abbrev pub SameTime : (List ℕ → Slip) → Handed → List ℕ → Type 0
SameTime read h s = read s ≡ dated (scale_of h) (answer (record { day = day_of h; micro = micro_of h }))

-- the bytes s are read as a time that is not later than the handed one, and no bytes are read as a time between; what is read has mark m
pub record LastNotLater (read : List ℕ → Slip) (m : Mark) (h : Handed) (s : List ℕ) : Type 0 where
  pub answered : (read s).number ≡ 0
  pub scale : (read s).scale ≡ scale_of h
  pub not_later : place_at (read s) ≤ count_in h
  pub last : (t : List ℕ) → Bytes t → (read t).number ≡ 0 → place_at (read t) ≤ count_in h → place_at (read t) ≤ place_at (read s)
  pub marked : (read s).mark ≡ m

-- bytes without H3, the lowest bit of the second
abbrev pub without_h3 : List ℕ → List ℕ
without_h3 [] = []
without_h3 (a ∷ []) = a ∷ []
without_h3 (a ∷ b ∷ s) = a ∷ b / 2 * 2 ∷ s

-- the same number, length and every bit but H3
pub record SameButH3 (v w : Wrote ℕ) : Type 0 where
  pub number : v.number ≡ w.number
  pub length : v.length ≡ w.length
  pub bits : without_h3 v.lent ≡ without_h3 w.lent
