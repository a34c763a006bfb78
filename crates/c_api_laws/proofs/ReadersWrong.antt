-- Wrong readers for C, each shut out by an input at which its answer is not the meaning's. Assumes nothing.
use mathlib.Core.Path.{refl}
use mathlib.Core.List.{List, [], ◌∷◌, reverse}
use Prim.Native.Nat.{ℕ, ◌+◌}
use native.Mathlib.Omega.{arith}
use lib.IntN.{pos, negsuc}
use Rattle.evidence.specs.ShutOut.{ShutOut, differ}
use Rattle.octets.specs.Meaning.{number, part}
use Rattle.scales.specs.Meaning.{Valued}
use Rattle.layout_fields.specs.Cuc as FC
use Rattle.layout_fields.specs.Proteus as FP
use Rattle.layout_fields.specs.Cryosat as FY
use Rattle.layout_fields.specs.Siral as FR
use Rattle.layout_fields.specs.Goce as Goce
use Rattle.layout_fields.specs.Obet as Obet
use Rattle.layout_fields.specs.Sbt as Sbt
use Rattle.layout_times.specs.Cuc as Cuc
use Rattle.layout_times.specs.Proteus as Proteus
use Rattle.layout_times.specs.Cryosat as Cryosat
use Rattle.layout_times.specs.Siral as Siral
use Rattle.c_api.specs.Meaning.{time_out, count_out}
use Rattle.c_api.specs.Parts.{cuc_fields, proteus_fields, cryosat_fields, siral_fields}
use Rattle.c_api.specs.declared.VrkTime.{VrkTime}
use Rattle.c_api.specs.declared.VrkCount.{VrkCount}
use Rattle.c_api.specs.declared.parts.VrkCucFields.{VrkCucFields}
use Rattle.c_api.specs.declared.parts.VrkProteusFields.{VrkProteusFields}
use Rattle.c_api.specs.declared.parts.VrkCryosatFields.{VrkCryosatFields}
use Rattle.c_api.specs.declared.parts.VrkSiralFields.{VrkSiralFields}
use Rattle.c_api_laws.proofs.Marks.{with_h3}
use Rattle.c_api_laws.proofs.Desks.{empty_out, answered, plain, refusal_in, scale_in, micro_in, mark_in, source_in, remarked, source_lost}

-- ---- wrong in any layout
-- the bytes read from the last to the first
abbrev backwards : {A : Type 0} → (List ℕ → A) → List ℕ → A
backwards read s = read (reverse s)

-- what stands in a refused image handed back beside the refusal
abbrev hands_back : {A : Type 0} → (List ℕ → A) → (List ℕ → Valued A) → List ℕ → Valued A
hands_back stands read s = record { number = (read s).number; value = stands s }

-- the codes of the scales counted from 1
abbrev from_one : VrkTime → VrkTime
from_one t = record { refusal = t.refusal; scale = t.scale + 1; day = t.day; micro = t.micro; mark = t.mark; source = t.source }

abbrev counted : ℕ → ℕ → VrkCount
counted n c = record { refusal = n; count = c }

-- ---- vrk_cuc_read
abbrev a_second : List ℕ
a_second = 0 ∷ 0 ∷ 0 ∷ 1 ∷ 0 ∷ 0 ∷ []

pub cuc_backwards : ShutOut (time_out (Cuc.read a_second)) (plain 2 (negsuc 7299) 1000000) (time_out (backwards Cuc.read a_second)) (plain 2 (negsuc 7299) 256000000)
unfolding Cuc.read number
cuc_backwards = (refl, refl, differ micro_in (λ e. omega arith))

pub cuc_from_one : ShutOut (time_out (Cuc.read a_second)) (plain 2 (negsuc 7299) 1000000) (from_one (time_out (Cuc.read a_second))) (plain 3 (negsuc 7299) 1000000)
unfolding Cuc.read number
cuc_from_one = (refl, refl, differ scale_in (λ e. omega arith))

-- ---- vrk_cryosat_read
abbrev a_day : List ℕ
a_day = 0 ∷ 1 ∷ 0 ∷ 0 ∷ 0 ∷ 2 ∷ 0 ∷ 3 ∷ []

pub cryosat_backwards : ShutOut (time_out (Cryosat.read a_day)) (plain 0 (pos 1) 2003) (time_out (backwards Cryosat.read a_day)) (plain 0 (pos 768) 33554432256)
unfolding Cryosat.read number
cryosat_backwards = (refl, refl, differ micro_in (λ e. omega arith))

pub cryosat_from_one : ShutOut (time_out (Cryosat.read a_day)) (plain 0 (pos 1) 2003) (from_one (time_out (Cryosat.read a_day))) (plain 1 (pos 1) 2003)
unfolding Cryosat.read number
cryosat_from_one = (refl, refl, differ scale_in (λ e. omega arith))

-- ---- vrk_siral_read
abbrev a_day_more : List ℕ
a_day_more = 0 ∷ 1 ∷ 0 ∷ 0 ∷ 0 ∷ 2 ∷ 0 ∷ 3 ∷ 0 ∷ 4 ∷ []

pub siral_backwards : ShutOut (time_out (Siral.read a_day_more)) (plain 0 (pos 1) 2011) (time_out (backwards Siral.read a_day_more)) (plain 0 (pos 1024) 50332160528)
unfolding Siral.read number
siral_backwards = (refl, refl, differ micro_in (λ e. omega arith))

pub siral_from_one : ShutOut (time_out (Siral.read a_day_more)) (plain 0 (pos 1) 2011) (from_one (time_out (Siral.read a_day_more))) (plain 1 (pos 1) 2011)
unfolding Siral.read number
siral_from_one = (refl, refl, differ scale_in (λ e. omega arith))

-- ---- vrk_goce_read
pub goce_backwards : ShutOut (count_out (Goce.read (0 ∷ 0 ∷ 0 ∷ 0 ∷ 0 ∷ 1 ∷ []))) (counted 0 1) (count_out (backwards Goce.read (0 ∷ 0 ∷ 0 ∷ 0 ∷ 0 ∷ 1 ∷ []))) (counted 0 1099511627776)
unfolding Goce.read number
goce_backwards = (refl, refl, differ (λ (c : VrkCount). c.count) (λ e. omega arith))

pub goce_hands_back : ShutOut (count_out (Goce.read (0 ∷ 0 ∷ 0 ∷ 0 ∷ 1 ∷ []))) (counted 1 0) (count_out (hands_back number Goce.read (0 ∷ 0 ∷ 0 ∷ 0 ∷ 1 ∷ []))) (counted 1 1)
unfolding Goce.read number
goce_hands_back = (refl, refl, differ (λ (c : VrkCount). c.count) (λ e. omega arith))

-- ---- vrk_obet_read
pub obet_backwards : ShutOut (count_out (Obet.read (102 ∷ 0 ∷ 0 ∷ 0 ∷ 0 ∷ 0 ∷ 0 ∷ 1 ∷ []))) (counted 0 1) (count_out (backwards Obet.read (102 ∷ 0 ∷ 0 ∷ 0 ∷ 0 ∷ 0 ∷ 0 ∷ 1 ∷ []))) (counted 2 0)
unfolding Obet.read number
obet_backwards = (refl, refl, differ (λ (c : VrkCount). c.refusal) (λ e. omega arith))

abbrev after_marker : List ℕ → ℕ
after_marker s = part s 1 7

pub obet_hands_back : ShutOut (count_out (Obet.read (103 ∷ 0 ∷ 0 ∷ 0 ∷ 0 ∷ 0 ∷ 0 ∷ 1 ∷ []))) (counted 2 0) (count_out (hands_back after_marker Obet.read (103 ∷ 0 ∷ 0 ∷ 0 ∷ 0 ∷ 0 ∷ 0 ∷ 1 ∷ []))) (counted 2 1)
unfolding Obet.read number
obet_hands_back = (refl, refl, differ (λ (c : VrkCount). c.count) (λ e. omega arith))

-- ---- vrk_sbt_read
pub sbt_backwards : ShutOut (count_out (Sbt.read (1 ∷ 2 ∷ 3 ∷ 4 ∷ []))) (counted 0 16909060) (count_out (backwards Sbt.read (1 ∷ 2 ∷ 3 ∷ 4 ∷ []))) (counted 0 67305985)
unfolding Sbt.read number
sbt_backwards = (refl, refl, differ (λ (c : VrkCount). c.count) (λ e. omega arith))

pub sbt_hands_back : ShutOut (count_out (Sbt.read (0 ∷ 0 ∷ 0 ∷ 1 ∷ 9 ∷ []))) (counted 1 0) (count_out (hands_back (λ (s : List ℕ). part s 0 4) Sbt.read (0 ∷ 0 ∷ 0 ∷ 1 ∷ 9 ∷ []))) (counted 1 1)
unfolding Sbt.read number
sbt_hands_back = (refl, refl, differ (λ (c : VrkCount). c.count) (λ e. omega arith))

-- ---- vrk_proteus_read

pub proteus_backwards : ShutOut (time_out (Proteus.read with_h3)) (answered 1 (negsuc 7299) 1000000 1 1) (time_out (backwards Proteus.read with_h3)) (empty_out 3 1)
unfolding Proteus.read number
proteus_backwards = (refl, refl, differ refusal_in (λ e. omega arith))

pub proteus_no_h3_lem : ShutOut (time_out (Proteus.read with_h3)) (answered 1 (negsuc 7299) 1000000 1 1) (source_lost (time_out (Proteus.read with_h3))) (answered 1 (negsuc 7299) 1000000 1 0)
unfolding Proteus.read number
proteus_no_h3_lem = (refl, refl, differ source_in (λ e. omega arith))

-- every time from Proteus marked, a refusal's empty one too: no bytes
pub proteus_refusal_marked : ShutOut (time_out (Proteus.read [])) (empty_out 1 1) (remarked 1 0 (time_out (Proteus.read []))) (record { refusal = 1; scale = 1; day = pos 0; micro = 0; mark = 1; source = 0 })
unfolding Proteus.read number
proteus_refusal_marked = (refl, refl, differ mark_in (λ e. omega arith))

-- ---- vrk_cuc_fields_read
abbrev cuc_parts : ℕ → ℕ → ℕ → VrkCucFields
cuc_parts n s f = record { refusal = n; seconds = s; fraction = f }

pub cuc_fields_backwards : ShutOut (cuc_fields (FC.read (0 ∷ 0 ∷ 0 ∷ 1 ∷ 0 ∷ 2 ∷ []))) (cuc_parts 0 1 2) (cuc_fields (backwards FC.read (0 ∷ 0 ∷ 0 ∷ 1 ∷ 0 ∷ 2 ∷ []))) (cuc_parts 0 33554688 0)
unfolding FC.read number
cuc_fields_backwards = (refl, refl, differ (λ (f : VrkCucFields). f.fraction) (λ e. omega arith))

pub cuc_fields_back : ShutOut (cuc_fields (FC.read (0 ∷ 0 ∷ 0 ∷ 1 ∷ 0 ∷ 2 ∷ 9 ∷ []))) (cuc_parts 1 0 0) (cuc_fields (hands_back FC.fields_of FC.read (0 ∷ 0 ∷ 0 ∷ 1 ∷ 0 ∷ 2 ∷ 9 ∷ []))) (cuc_parts 1 1 2)
unfolding FC.read number
cuc_fields_back = (refl, refl, differ (λ (f : VrkCucFields). f.fraction) (λ e. omega arith))

-- ---- vrk_proteus_fields_read
abbrev proteus_parts : ℕ → ℕ → ℕ → ℕ → ℕ → VrkProteusFields
proteus_parts n w h s f = record { refusal = n; week = w; h3 = h; second = s; fraction = f }

pub proteus_fields_backwards : ShutOut (proteus_fields (FP.read (0 ∷ 1 ∷ 0 ∷ 0 ∷ 0 ∷ 1 ∷ 0 ∷ 2 ∷ []))) (proteus_parts 0 0 1 1 2) (proteus_fields (backwards FP.read (0 ∷ 1 ∷ 0 ∷ 0 ∷ 0 ∷ 1 ∷ 0 ∷ 2 ∷ []))) (proteus_parts 3 0 0 0 0)
unfolding FP.read number
proteus_fields_backwards = (refl, refl, differ (λ (f : VrkProteusFields). f.fraction) (λ e. omega arith))

pub proteus_fields_back : ShutOut (proteus_fields (FP.read (0 ∷ 2 ∷ 0 ∷ 0 ∷ 0 ∷ 1 ∷ 0 ∷ 2 ∷ []))) (proteus_parts 2 0 0 0 0) (proteus_fields (hands_back FP.fields_of FP.read (0 ∷ 2 ∷ 0 ∷ 0 ∷ 0 ∷ 1 ∷ 0 ∷ 2 ∷ []))) (proteus_parts 2 0 0 1 2)
unfolding FP.read number
proteus_fields_back = (refl, refl, differ (λ (f : VrkProteusFields). f.fraction) (λ e. omega arith))

-- ---- vrk_cryosat_fields_read
abbrev cryosat_parts : ℕ → ℕ → ℕ → ℕ → VrkCryosatFields
cryosat_parts n d m u = record { refusal = n; day = d; millisecond = m; microsecond = u }

pub cryosat_fields_backwards : ShutOut (cryosat_fields (FY.read a_day)) (cryosat_parts 0 1 2 3) (cryosat_fields (backwards FY.read a_day)) (cryosat_parts 0 768 33554432 256)
unfolding FY.read number
cryosat_fields_backwards = (refl, refl, differ (λ (f : VrkCryosatFields). f.day) (λ e. omega arith))

pub cryosat_fields_back : ShutOut (cryosat_fields (FY.read (0 ∷ 1 ∷ 0 ∷ 0 ∷ 0 ∷ 2 ∷ 3 ∷ 232 ∷ []))) (cryosat_parts 3 0 0 0) (cryosat_fields (hands_back FY.fields_of FY.read (0 ∷ 1 ∷ 0 ∷ 0 ∷ 0 ∷ 2 ∷ 3 ∷ 232 ∷ []))) (cryosat_parts 3 1 2 1000)
unfolding FY.read number
cryosat_fields_back = (refl, refl, differ (λ (f : VrkCryosatFields). f.day) (λ e. omega arith))

-- ---- vrk_siral_fields_read
abbrev siral_parts : ℕ → ℕ → ℕ → ℕ → ℕ → VrkSiralFields
siral_parts n d m u x = record { refusal = n; day = d; millisecond = m; microsecond = u; extra = x }

pub siral_fields_backwards : ShutOut (siral_fields (FR.read a_day_more)) (siral_parts 0 1 2 3 4) (siral_fields (backwards FR.read a_day_more)) (siral_parts 0 1024 50332160 0 256)
unfolding FR.read number
siral_fields_backwards = (refl, refl, differ (λ (f : VrkSiralFields). f.day) (λ e. omega arith))

pub siral_fields_back : ShutOut (siral_fields (FR.read a_day)) (siral_parts 1 0 0 0 0) (siral_fields (hands_back FR.fields_of FR.read a_day)) (siral_parts 1 1 2 3 0)
unfolding FR.read number
siral_fields_back = (refl, refl, differ (λ (f : VrkSiralFields). f.day) (λ e. omega arith))
