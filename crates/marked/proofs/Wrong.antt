-- Wrong programs that a weaker table would let in: one without scales, one with each instant one way, one with a case left out. Assumes
-- nothing.
use mathlib.Core.Path.{◌≡◌, sym, ap, ◌∙◌}
use mathlib.Core.Bool.{Bool, cond, not, ◌&&◌}
use mathlib.Core.List.{List, [], ◌∷◌, map}
use Prim.Native.Nat.{ℕ}
use native.Mathlib.Omega.{arith}
use lib.Dec.{eqb, leb, ltb}
use lib.IntN.{ℤ, pos, nat_abs}
use lib.ListN.{get_or}
use Rattle.evidence.specs.ShutOut.{Outgrown}
use Rattle.scales.specs.Meaning.{code_of}
use Rattle.scales.specs.declared.Scale.TheVariants as S
use Rattle.marked.specs.Table.{Row, table}
use Rattle.marked.proofs.Marked.{marked, without_repeats}

-- what is left of a slip without its scale: the number, the day and the microsecond
abbrev pub without_scale : List ℤ → List ℤ
without_scale [] = []
without_scale (n ∷ []) = n ∷ []
without_scale (n ∷ s ∷ time) = n ∷ time

-- the desk that calls every time UTC: case 4's CUC is UTC day -7300, 1,000,015
abbrev pub called_utc : List ℤ → List ℤ
called_utc [] = []
called_utc (n ∷ []) = n ∷ []
called_utc (n ∷ s ∷ time) = n ∷ pos (code_of S.Utc) ∷ time

abbrev wrong : List (List ℤ)
wrong = map (λ (r : Row). called_utc r.meaning) table

abbrev paper : List (List ℤ)
paper = map (λ (r : Row). r.paper) table

-- without the scales its table is the paper's, with them it is not
pub other_scale : Outgrown (map without_scale wrong ≡ map without_scale paper) (wrong ≡ paper)
other_scale = (ap (map without_scale) marked, λ e. let z : ◌≡◌ {A = ℕ} 1 0 = ap first_scale e in omega arith)
  where
    first_scale : List (List ℤ) → ℕ
    first_scale rows = nat_abs (get_or (get_or rows 0 []) 1 (pos 0))

-- ---- the desk without second 60: a time in it is given as the last microsecond before
abbrev pub no_sixty : List ℤ → List ℤ
no_sixty [] = []
no_sixty (u ∷ []) = cond (ltb (nat_abs u) 86400000000) u (pos 86399999999) ∷ []
no_sixty (n ∷ m ∷ rest) = n ∷ no_sixty (m ∷ rest)

abbrev dropped : List (List ℤ)
dropped = map no_sixty (map (λ (r : Row). r.meaning) table)

-- of the rows those that a test takes
abbrev pub rows_where : {A : Type 0} → (Row → Bool) → List Row → List A → List A
rows_where p [] items = []
rows_where p (r ∷ rs) [] = []
rows_where p (r ∷ rs) (a ∷ items) = cond (p r) (a ∷ rows_where p rs items) (rows_where p rs items)

-- all but the changes into UTC, which the older table had not
abbrev pub one_way : Row → Bool
one_way r = not (leb r.case 3 && eqb (nat_abs (get_or r.paper 1 (pos 0))) (code_of S.Utc))

-- one way its table is the paper's; back, TAI day 6210, 36 s is not UTC day 6209, 86,400,000,000
pub sixty_dropped : Outgrown (rows_where one_way table dropped ≡ rows_where one_way table paper) (dropped ≡ paper)
sixty_dropped = (
  ap (λ (answers : List (List ℤ)). rows_where one_way table (map no_sixty answers)) marked,
  λ e. let z : ◌≡◌ {A = ℕ} 86399999999 86400000000 = ap back_micro (sym (ap (map no_sixty) marked) ∙ e) in omega arith,
)
  where
    back_micro : List (List ℤ) → ℕ
    back_micro rows = nat_abs (get_or (get_or rows 7 []) 3 (pos 0))

-- ---- a table without SIRAL: what it has is right, and nothing is said of extra counters
abbrev pub not_siral : Row → Bool
not_siral r = not (eqb r.case 7)

abbrev short : List Row
short = rows_where not_siral table table

pub case_left_out :
    Outgrown (map (λ (r : Row). r.meaning) short ≡ map (λ (r : Row). r.paper) short)
    (without_repeats (map (λ (r : Row). r.case) short) ≡ 1 ∷ 2 ∷ 3 ∷ 4 ∷ 5 ∷ 6 ∷ 7 ∷ 8 ∷ 9 ∷ 10 ∷ [])
case_left_out = (
  ap (rows_where not_siral table) marked,
  λ e. let z : ◌≡◌ {A = ℕ} 8 7 = ap (λ (cases : List ℕ). get_or cases 6 0) e in omega arith,
)
