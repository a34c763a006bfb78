-- The fields of an Envisat text, and how its months and prefixes are spelled. Assumes nothing.
use Rattle.std.specs.Prelude.{List, [], ◌∷◌, ℕ, ◌+◌, ◌-◌, ◌*◌, get_or}
use Rattle.scales.specs.declared.Scale.{Scale}
use Rattle.scales.specs.declared.Scale.TheVariants as S

-- ---- "months are English, three capitals": JANFEBMARAPRMAYJUNJULAUGSEPOCTNOVDEC
unfoldable pub names : List ℕ
names =
    74 ∷ 65 ∷ 78 ∷ 70 ∷ 69 ∷ 66 ∷ 77 ∷ 65 ∷ 82 ∷ 65 ∷ 80 ∷ 82 ∷ 77 ∷ 65 ∷ 89 ∷ 74 ∷ 85 ∷ 78 ∷ 74 ∷ 85 ∷ 76 ∷ 65 ∷ 85 ∷ 71 ∷ 83 ∷ 69 ∷ 80
    ∷ 79 ∷ 67 ∷ 84 ∷ 78 ∷ 79 ∷ 86 ∷ 68 ∷ 69 ∷ 67 ∷ []

-- letter j (0 to 2) of the name of month m (1 to 12)
unfoldable pub letter : ℕ → ℕ → ℕ
letter m j = get_or names ((m - 1) * 3 + j) 0

-- ---- "with RRR= before either (24, 31). RRR is UTC, TAI or GPS"
unfoldable pub prefix_of : Scale → List ℕ
prefix_of S.Tai = 84 ∷ 65 ∷ 73 ∷ 61 ∷ []
prefix_of S.Utc = 85 ∷ 84 ∷ 67 ∷ 61 ∷ []
prefix_of S.Gps = 71 ∷ 80 ∷ 83 ∷ 61 ∷ []
