-- A record's mark as C has it: a code, and the source that belongs to it. The header's words are quoted. Assumes nothing.
use Rattle.std.specs.Prelude.{Bool, cond, not, ◌&&◌, ◌||◌, ℕ, eqb, leb, Option, Some, None}
use Rattle.scales.specs.declared.Mark.{Mark}
use Rattle.scales.specs.declared.Mark.TheVariants as M

-- ---- handed in: 0 plain; 1 Proteus, "source is their H3, 0 or 1"; 2 correlated, "source is its reference"
-- "A mark above VRK_CORRELATED, or VRK_PROTEUS with a source above 1, is unknown"
abbrev pub known_mark : ℕ → ℕ → Bool
known_mark c x = leb c 2 && (not (eqb c 1) || leb x 1)

-- "The source of VRK_PLAIN is ignored, and that of VRK_CORRELATED may be any number"
abbrev pub mark_at : ℕ → ℕ → Mark
mark_at c x = cond (eqb c 1) (M.Proteus (eqb x 1)) (cond (eqb c 2) (M.Correlated x) M.Plain)

-- ---- handed out
abbrev pub mark_code : Mark → ℕ
mark_code M.Plain = 0
mark_code (M.Proteus h3) = 1
mark_code (M.Correlated reference) = 2

abbrev pub bit_of : Bool → ℕ
bit_of b = cond b 1 0

-- plain: "nothing is told, source 0"
abbrev pub mark_source : Mark → ℕ
mark_source M.Plain = 0
mark_source (M.Proteus h3) = bit_of h3
mark_source (M.Correlated reference) = reference

-- ---- the inner answer
unfoldable pub marked_by : ℕ → ℕ → Option Mark
marked_by c x = cond (known_mark c x) (Some (mark_at c x)) None
