-- Bytes and fields, for every layout: an image in a lent slice. Assumes nothing.
use Rattle.std.specs.Prelude.{List, ℕ}
use Rattle.octets.specs.Meaning.{has_room}
use Rattle.scales.specs.Meaning.{Judged, given, gives}

-- "output slice shorter than the image": 13
abbrev pub placing : List ℕ → List ℕ → Judged (List ℕ)
placing image out =
    given (has_room image out) 13
    (gives image)
