-- The stages that the private functions answer for: an image put, a time written. Assumes nothing.
use Rattle.std.specs.Prelude.{List, ℕ, ℤ}
use Rattle.axis.specs.Meaning.{Moment}
use Rattle.octets.specs.Meaning.{has_room}
use Rattle.scales.specs.Meaning.{and_then, given, gives, outcome, Wrote, written}
use Rattle.scales.specs.declared.Scale.{Scale}
use Rattle.scales.specs.declared.Record.{Record}
use Rattle.changes.specs.Asked.{record_asked}
use Rattle.text_write.specs.Meaning.{imaging}
use Rattle.text_write.specs.declared.Form.{Form}

-- ---- what is written
unfoldable pub putting : List ℕ → List ℕ → Wrote ℕ
putting image out = written out (outcome (given (has_room image out) 13 (gives image)))

unfoldable pub imaged : Form → Scale → Moment → List ℕ → Wrote ℕ
imaged f z m out = written out (outcome (imaging f z m out))

unfoldable pub written_of : Record → Form → List ℤ → List ℕ → ℤ → List ℕ → Wrote ℕ
written_of r f ds os e out = written out (outcome (and_then (record_asked r ds os e) (λ (m : Moment). imaging f r.scale m out)))
