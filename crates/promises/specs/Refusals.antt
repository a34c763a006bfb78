-- What each function of the interface for C can refuse with: the numbers of its rows, without repeats and in the slip's order, over all
-- scales. refusals_by_function.txt is held to them. Assumes nothing.
use Rattle.std.specs.Prelude.{◌≡◌, refl, Bool, List, [], ◌∷◌, ◌++◌, ℕ, Float, ℤ}
use Rattle.scales.specs.Meaning.{code_of, Judged, Outcome, Valued}
use Rattle.scales.specs.declared.Scale.{Scale}
use Rattle.scales.specs.declared.Scale.TheVariants as S
use Rattle.c_api.specs.Meaning as CApi
use Rattle.c_api.specs.declared.VrkHanded.{VrkHanded}
use Rattle.c_api.specs.declared.VrkDecimal.{VrkDecimal}
use Rattle.c_api.specs.declared.VrkSbtCorrelation.{VrkSbtCorrelation}
use Rattle.c_api.specs.declared.counts.VrkGoceCorrelation.{VrkGoceCorrelation}
use Rattle.promises.specs.Meaning.{Promise, refusals}
use Rattle.promises.specs.One.{Allows}
use Rattle.promises.specs.One as One
use Rattle.promises.specs.OneForC as OneForC
use Rattle.promises.specs.OneRun as OneRun
use Rattle.promises.specs.OneSeason as OneSeason

-- the rows that a theorem of demand 1 names
abbrev rows_of : {A R : Type 0} {hand : Outcome A → R} {number : R → ℕ} {r : R} {j : Judged A} {rows : List (ℕ × Bool)} → Promise hand number r j rows → List (ℕ × Bool)
rows_of {rows} p = rows

abbrev rows_allowed : {w : Valued Float} {j : Judged ℤ} {rows : List (ℕ × Bool)} → Allows w j rows → List (ℕ × Bool)
rows_allowed {rows} p = rows

-- of a change: over both kinds of what is handed in, its scales and the scales to change to
abbrev handed_as : ℕ → Scale → VrkHanded → VrkHanded
handed_as k s h = record { kind = k; scale = code_of s; day = h.day; micro = h.micro; decimal = h.decimal; mark = h.mark; source = h.source }

abbrev over_scales : (Scale → List (ℕ × Bool)) → List (ℕ × Bool)
over_scales f = f S.Tai ++ (f S.Utc ++ f S.Gps)

abbrev over_all : (ℕ → Scale → Scale → List (ℕ × Bool)) → List (ℕ × Bool)
over_all f = over_scales (λ (s : Scale). over_scales (λ (to : Scale). f 0 s to)) ++ over_scales (λ (s : Scale). over_scales (λ (to : Scale). f 1 s to))

pub decimal_read_lem : (x : Float) (c : ℕ) → refusals (rows_of (OneForC.decimal_read_lem x c)) ≡ 3 ∷ 4 ∷ 7 ∷ []
decimal_read_lem x c = refl

pub decimal_write_lem : (h : VrkHanded) (r : VrkDecimal) (q : CApi.DecimalWrote h r) → refusals (rows_allowed (OneForC.decimal_write_lem h r q)) ≡ 3 ∷ 4 ∷ 7 ∷ 12 ∷ []
decimal_write_lem h r q = refl

pub sbt_date_lem : (t : ℕ) (c : VrkSbtCorrelation) (d : ℤ) (u : ℕ) (ds : List ℤ) (os : List ℕ) (e : ℤ) → refusals (rows_of (OneForC.sbt_date_lem t c d u ds os e)) ≡ 5 ∷ 6 ∷ 7 ∷ 8 ∷ 17 ∷ 9 ∷ 10 ∷ 11 ∷ []
sbt_date_lem t c d u ds os e = refl

pub sbt_tick_lem : (h : VrkHanded) (c : VrkSbtCorrelation) (ds : List ℤ) (os : List ℕ) (e : ℤ) → refusals (rows_of (OneForC.sbt_tick_lem h c ds os e)) ≡ 3 ∷ 4 ∷ 5 ∷ 6 ∷ 7 ∷ 8 ∷ 9 ∷ 10 ∷ 12 ∷ []
sbt_tick_lem h c ds os e = refl

pub goce_date : (t : ℕ) (c : VrkGoceCorrelation) (d : ℤ) (u : ℕ) (ds : List ℤ) (os : List ℕ) (e : ℤ) → refusals (rows_of (OneForC.goce_date t c d u ds os e)) ≡ 3 ∷ 5 ∷ 6 ∷ 7 ∷ 8 ∷ 17 ∷ 9 ∷ 10 ∷ 11 ∷ []
goce_date t c d u ds os e = refl

pub goce_count : (h : VrkHanded) (c : VrkGoceCorrelation) (ds : List ℤ) (os : List ℕ) (e : ℤ) → refusals (rows_of (OneForC.goce_count h c ds os e)) ≡ 3 ∷ 4 ∷ 5 ∷ 6 ∷ 7 ∷ 8 ∷ 9 ∷ 10 ∷ 12 ∷ []
goce_count h c ds os e = refl

pub change : (h : VrkHanded) (ds : List ℤ) (os : List ℕ) (e : ℤ)
    → refusals (over_all (λ (k : ℕ) (s to : Scale). rows_of (OneForC.change (handed_as k s h) (code_of to) ds os e))) ≡ 3 ∷ 4 ∷ 5 ∷ 7 ∷ 9 ∷ 10 ∷ 11 ∷ []
change h ds os e = refl

pub cuc_read_lem : (s : List ℕ) → refusals (rows_of (OneForC.cuc_read_lem s)) ≡ 1 ∷ 7 ∷ []
cuc_read_lem s = refl

pub cuc_write_lem : (h : VrkHanded) (out : List ℕ) → refusals (rows_of (OneForC.cuc_write_lem h out)) ≡ 3 ∷ 4 ∷ 7 ∷ 12 ∷ 13 ∷ []
cuc_write_lem h out = refl

pub goce_read_lem : (s : List ℕ) → refusals (rows_of (OneForC.goce_read_lem s)) ≡ 1 ∷ []
goce_read_lem s = refl

pub goce_write_lem : (f : ℕ) (out : List ℕ) → refusals (rows_of (One.goce_write_lem f out)) ≡ 3 ∷ 13 ∷ []
goce_write_lem f out = refl

pub obet_read_lem : (s : List ℕ) → refusals (rows_of (OneForC.obet_read_lem s)) ≡ 1 ∷ 2 ∷ []
obet_read_lem s = refl

pub obet_write_lem : (f : ℕ) (out : List ℕ) → refusals (rows_of (One.obet_write_lem f out)) ≡ 3 ∷ 13 ∷ []
obet_write_lem f out = refl

pub proteus_read_lem : (s : List ℕ) → refusals (rows_of (OneForC.proteus_read_lem s)) ≡ 1 ∷ 2 ∷ 3 ∷ 7 ∷ []
proteus_read_lem s = refl

pub proteus_write_lem : (h : VrkHanded) (out : List ℕ) → refusals (rows_of (OneForC.proteus_write_lem h out)) ≡ 3 ∷ 4 ∷ 7 ∷ 12 ∷ 13 ∷ []
proteus_write_lem h out = refl

pub cryosat_read_lem : (s : List ℕ) → refusals (rows_of (OneForC.cryosat_read_lem s)) ≡ 1 ∷ 3 ∷ 7 ∷ []
cryosat_read_lem s = refl

pub cryosat_write_lem : (h : VrkHanded) (out : List ℕ) → refusals (rows_of (OneForC.cryosat_write_lem h out)) ≡ 3 ∷ 4 ∷ 7 ∷ 12 ∷ 13 ∷ []
cryosat_write_lem h out = refl

pub siral_read_lem : (s : List ℕ) → refusals (rows_of (OneForC.siral_read_lem s)) ≡ 1 ∷ 3 ∷ 7 ∷ []
siral_read_lem s = refl

pub siral_write_lem : (h : VrkHanded) (out : List ℕ) → refusals (rows_of (OneForC.siral_write_lem h out)) ≡ 3 ∷ 4 ∷ 7 ∷ 12 ∷ 13 ∷ []
siral_write_lem h out = refl

pub siral_run_lem : (s : List ℕ) (told : ℕ) (out : List ℤ) → refusals (rows_of (OneRun.siral_run_lem s told out)) ≡ 1 ∷ 3 ∷ 16 ∷ 7 ∷ 13 ∷ []
siral_run_lem s told out = refl

pub sbt_read_lem : (s : List ℕ) → refusals (rows_of (OneForC.sbt_read_lem s)) ≡ 1 ∷ []
sbt_read_lem s = refl

pub sbt_write_lem : (f : ℕ) (out : List ℕ) → refusals (rows_of (One.sbt_write_lem f out)) ≡ 13 ∷ []
sbt_write_lem f out = refl

pub cuc_fields_read_lem : (s : List ℕ) → refusals (rows_of (OneForC.cuc_fields_read_lem s)) ≡ 1 ∷ []
cuc_fields_read_lem s = refl

pub cuc_fields_write_lem : (seconds fraction : ℕ) (out : List ℕ) → refusals (rows_of (OneForC.cuc_fields_write_lem seconds fraction out)) ≡ 3 ∷ 13 ∷ []
cuc_fields_write_lem seconds fraction out = refl

pub proteus_fields_read_lem : (s : List ℕ) → refusals (rows_of (OneForC.proteus_fields_read_lem s)) ≡ 1 ∷ 2 ∷ 3 ∷ []
proteus_fields_read_lem s = refl

pub proteus_fields_write_lem : (week h3 second fraction : ℕ) (out : List ℕ) → refusals (rows_of (OneForC.proteus_fields_write_lem week h3 second fraction out)) ≡ 3 ∷ 13 ∷ []
proteus_fields_write_lem week h3 second fraction out = refl

pub cryosat_fields_read_lem : (s : List ℕ) → refusals (rows_of (OneForC.cryosat_fields_read_lem s)) ≡ 1 ∷ 3 ∷ []
cryosat_fields_read_lem s = refl

pub cryosat_fields_write_lem : (day millisecond microsecond : ℕ) (out : List ℕ) → refusals (rows_of (OneForC.cryosat_fields_write_lem day millisecond microsecond out)) ≡ 3 ∷ 13 ∷ []
cryosat_fields_write_lem day millisecond microsecond out = refl

pub siral_fields_read_lem : (s : List ℕ) → refusals (rows_of (OneForC.siral_fields_read_lem s)) ≡ 1 ∷ 3 ∷ []
siral_fields_read_lem s = refl

pub siral_fields_write_lem : (day millisecond microsecond extra : ℕ) (out : List ℕ) → refusals (rows_of (OneForC.siral_fields_write_lem day millisecond microsecond extra out)) ≡ 3 ∷ 13 ∷ []
siral_fields_write_lem day millisecond microsecond extra out = refl

pub season_read_lem : (s : List ℕ) (out : List ℤ) → refusals (rows_of (OneSeason.season_read_lem s out)) ≡ 14 ∷ 13 ∷ []
season_read_lem s out = refl

pub season_write_lem : (ws : List ℤ) (out : List ℕ) → refusals (rows_of (OneSeason.season_write_lem ws out)) ≡ 14 ∷ 13 ∷ []
season_write_lem ws out = refl

pub season_covering_lem : (s : List ℕ) (d : ℤ) (u : ℕ) → refusals (rows_of (OneSeason.season_covering_lem s d u)) ≡ 14 ∷ 7 ∷ 15 ∷ []
season_covering_lem s d u = refl

pub text_read_lem : (s : List ℕ) (ds : List ℤ) (os : List ℕ) (e : ℤ) → refusals (rows_of (OneForC.text_read_lem s ds os e)) ≡ 1 ∷ 3 ∷ 5 ∷ 7 ∷ 9 ∷ 10 ∷ []
text_read_lem s ds os e = refl

pub text_write_lem : (h : VrkHanded) (n : ℕ) (ds : List ℤ) (os : List ℕ) (e : ℤ) (out : List ℕ) → refusals (rows_of (OneForC.text_write_lem h n ds os e out)) ≡ 3 ∷ 4 ∷ 5 ∷ 7 ∷ 9 ∷ 10 ∷ 12 ∷ 13 ∷ []
text_write_lem h n ds os e out = refl
