-- The stage that the private functions answer for: a text parsed. Assumes nothing.
use Rattle.std.specs.Prelude.{◌≡◌, List, ℕ, ℤ, Result, Ok, Err}
use Rattle.axis.specs.Meaning.{Moment}
use Rattle.scales.specs.Meaning.{Judged, given, refused, outcome, number_of}
use Rattle.scales.specs.declared.Scale.{Scale}
use Rattle.changes.specs.Asked.{record_asked}
use Rattle.text_read.specs.Meaning.{is_body, reading_body, reading, scale_in}
use Rattle.scales.specs.declared.Record.{Record}
use Rattle.scales.specs.declared.Refusal.{Refusal}

-- a text that was parsed: whatever the list, what is left to judge is judged of the record alone
abbrev pub Parses : Scale → (List ℤ → List ℕ → ℤ → Judged Moment) → Result Record Refusal → Type 0
Parses z j (Err f) = (ds : List ℤ) (os : List ℕ) (e : ℤ) → refused (number_of f) ≡ outcome (j ds os e)
Parses z j (Ok r) = (r.scale ≡ z) × ((ds : List ℤ) (os : List ℕ) (e : ℤ) → outcome (record_asked r ds os e) ≡ outcome (j ds os e))

abbrev pub body_chain : Scale → List ℕ → List ℤ → List ℕ → ℤ → Judged Moment
body_chain z s ds os e = given (is_body z s) 3 (reading_body z s ds os e)

pub record ParsesBody (z : Scale) (s : List ℕ) (r : Result Record Refusal) : Type 0 where
  pub is : Parses z (body_chain z s) r

pub record ParsesText (s : List ℕ) (r : Result Record Refusal) : Type 0 where
  pub is : Parses (scale_in s) (reading s) r
