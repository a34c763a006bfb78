-- What the functions on bytes of the C interface mean. Assumes nothing.
use Rattle.std.specs.Prelude.{List, ℕ, Result, Ok, Err}
use Rattle.scales.specs.Meaning.{Judged, given, outcome, Wrote, written, number_of}
use Rattle.scales.specs.declared.Refusal.{Refusal}
use Rattle.handed.specs.declared.Handed.{Handed}
use Rattle.c_api.specs.Meaning.{known, handed_of}
use Rattle.c_api.specs.declared.VrkHanded.{VrkHanded}
use Rattle.c_api.specs.declared.bytes.VrkWritten.{VrkWritten}

-- ---- what is handed out
-- the second argument is the lent slice as the writer leaves it
abbrev pub wrote_of : VrkWritten → List ℕ → Wrote ℕ
wrote_of r out = record { number = r.refusal; length = r.length; lent = out }

abbrev pub written_out : Result ℕ Refusal → VrkWritten
written_out (Ok n) = record { refusal = 0; length = n }
written_out (Err f) = record { refusal = number_of f; length = 0 }

-- ---- writers: a number that stands for nothing is refused 3, before what the library judges
unfoldable pub writes : (List ℕ → Judged (List ℕ)) → List ℕ → Wrote ℕ
writes m out = written out (outcome (m out))

abbrev pub handed_writing : (Handed → List ℕ → Judged (List ℕ)) → VrkHanded → List ℕ → Judged (List ℕ)
handed_writing m h out =
    given (known h) 3
    (m (handed_of h) out)
