-- What a call of `date_lines` and one of `keep` leave to be done, by what they hand back: what was written, and after it what the line
-- program gives for the rest. Assumes nothing.
use Rattle.std.specs.Prelude.{◌≡◌, refl, List, [], ◌∷◌, ◌++◌, ℕ, ◌≤◌, length, take, drop, replicate}
use Rattle.std.proofs.Common.{sym, ap, ◌∙◌, arith, length-take, length-drop, take_at}
use Rattle.std.proofs.Math.Seq.{slice}
use Rattle.octets.specs.Meaning.{onto}
use Rattle.octets.specs.Place.{onto_room}
use Rattle.leap.specs.Meaning.{published_days, published_offsets, published_last}
use Rattle.lines.specs.Meaning.{desk, whole_in, lines_dated, date_lines, kept, keep}
use Rattle.lines.specs.Lines.{written_within}
use Rattle.lines_laws.specs.Lines.{Begun}
use Rattle.lines_laws.specs.Run as Run

front : (image out : List ℕ) → length image ≤ length out → take (length image) (onto image out) ≡ image
front image out h = ap (take (length image)) (onto_room image out h) ∙ take_at image (drop (length image) out) (length image) refl

-- ---- a block s, whatever t follows it: what was written is the output's front, and what was not consumed is still to be dated
pub dated : (s t out : List ℕ) → let d = date_lines s out in desk (s ++ t) ≡ take d.written d.bytes ++ desk (drop d.consumed s ++ t)
unfolding date_lines
dated s t out =
    let ls = lines_dated published_days published_offsets published_last s (length out) in
    let d = date_lines s out in
    Run.block s t (length out)
    ∙ ap (λ (x : List ℕ). x ++ desk (drop d.consumed s ++ t))
    (sym (front (Run.printed ls) out (written_within s out (record { consumed = d.consumed; written = d.written }) d.bytes refl)))

-- ---- a line that has begun: what was kept of it stands for it, whatever t follows
pub kept_for : (buf t : List ℕ) (from to : ℕ) → Begun (slice from to buf) → let k = keep buf from to in desk (slice from to buf ++ t) ≡ desk (take k.length k.bytes ++ t)
unfolding keep
kept_for buf t from to q =
    Run.kept_is (slice from to buf) t q
    ∙ ap (λ (x : List ℕ). desk (x ++ t)) (sym (front (kept buf from to) buf (omega (arith, length-take 32 (slice from to buf), length-drop from (take to buf), length-take to buf))))

-- 40 bytes of a line that has begun: 32 are kept for it
pub kept_for_instance : desk (replicate 40 120 ++ (10 ∷ [])) ≡ desk (replicate 32 120 ++ (10 ∷ []))
unfolding whole_in keep onto
kept_for_instance = kept_for (replicate 40 120) (10 ∷ []) 0 40 refl
