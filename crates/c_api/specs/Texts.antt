-- What the functions on texts of the C interface mean. A form is named by its length; another number is refused 3, before
-- what the library judges. Assumes nothing.
use Rattle.std.specs.Prelude.{Bool, cond, ◌||◌, List, ℕ, eqb, ℤ, Option, Some, None}
use Rattle.scales.specs.Meaning.{Judged, given}
use Rattle.handed.specs.declared.Handed.{Handed}
use Rattle.text_write.specs.Meaning.{writing}
use Rattle.text_write.specs.declared.Form.{Form}
use Rattle.text_write.specs.declared.Form.TheVariants as F

abbrev pub known_form : ℕ → Bool
known_form n = eqb n 20 || (eqb n 24 || (eqb n 27 || eqb n 31))

abbrev pub form_at : ℕ → Form
form_at n = cond (eqb n 20) F.Plain (cond (eqb n 24) F.Prefixed (cond (eqb n 27) F.Micros F.PrefixedMicros))

abbrev pub named_form : ℕ → Option Form
named_form n = cond (known_form n) (Some (form_at n)) None

abbrev pub text_writing : ℕ → List ℤ → List ℕ → ℤ → Handed → List ℕ → Judged (List ℕ)
text_writing n ds os e h out =
    given (known_form n) 3
    (writing h (form_at n) ds os e out)
