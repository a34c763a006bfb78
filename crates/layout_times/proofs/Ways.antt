-- What a count that was taken is in each layout: whether it has an image, and the microseconds of the image. Assumes nothing.
use mathlib.Core.Path.{◌≡◌, refl, sym, ap, ap₂, ◌∙◌}
use mathlib.Core.Bool.{Bool, true, false, ◌&&◌}
use mathlib.Core.List.{List}
use Rattle.std.specs.Prelude.{Ok, Err}
use Prim.Native.Nat.{ℕ, ◌+◌, ◌-◌, ◌*◌, ◌/◌, ◌%◌, ◌≤◌, ◌<◌}
use native.Mathlib.Omega.{arith}
use lib.Dec.{leb, ltb, lit<, lit≤}
use lib.IntN.{pos}
use lib.Signed.{le_z}
use borrow.Author.Tests.{lt-ltb, le-ltb, le-leb, lt-leb, ltb-true, leb-true}
use Rattle.axis.specs.Meaning.{place_of_day}
use Rattle.axis.specs.Axis.{day_from, day_to}
use Rattle.scales.specs.Meaning.{same_scale, outcome, valued, value_slip}
use Rattle.scales.specs.Order.{Answers, last, next}
use Rattle.scales.specs.Place.{apart, day_part, micro_part, and_false, and_both}
use Rattle.scales.specs.declared.Scale.TheVariants as S
use Rattle.scales.specs.declared.Refusal.{Refusal}
use Rattle.scales.specs.declared.Refusal.TheVariants as R
use Rattle.handed.specs.declared.Handed.{Handed}
use Rattle.handed.specs.Meaning.{scale_of, day_of, micro_of}
use Rattle.layout_fields.specs.Cryosat as FC
use Rattle.layout_fields.specs.Proteus as FP
use Rattle.layout_fields.specs.declared.proteus.Fields.{Fields}
use Rattle.layout_times.specs.Meaning.{micros_from}
use Rattle.layout_times.specs.Due.{due_in, since2000, since1980, held, HeldIn, place_in_lem, still_no, now_no, now_at}
use Rattle.layout_times.specs.Cuc as Cuc
use Rattle.layout_times.specs.Proteus as Proteus
use Rattle.layout_times.specs.Cryosat as Cryosat

-- ---- CUC
module _ (h : Handed) (n : ℕ) (d : HeldIn S.Gps h n) where
  pub cuc_from : 2825280000000000 ≤ n
  cuc_from = omega (arith, d.is, (place_in_lem S.Gps h d).from)

  pub cuc_below : n - 2825280000000000 < 4294967296000000
  cuc_below = omega (arith, d.is, d.place.to, (place_in_lem S.Gps h d).under)

  pub cuc_micros : n - 2825280000000000 ≡ micros_from Cuc.epoch (day_of h) (micro_of h)
  cuc_micros = omega (arith, d.is, (place_in_lem S.Gps h d).from)

-- ---- Proteus
module _ (h : Handed) where
  -- a week that the field can hold, and no second 60
  abbrev in_weeks : Bool
  in_weeks = le_z Proteus.epoch (day_of h) && (le_z (day_of h) (pos 21371) && ltb (micro_of h) 86400000000)

  pub proteus_no : (f : Refusal) → value_slip 0 (Err f) ≡ valued 0 (outcome (due_in S.Utc h)) → value_slip 0 (Err f) ≡ valued 0 (outcome (since1980 h))
  proteus_no f e = still_no S.Utc h (micros_from Proteus.epoch (day_of h) (micro_of h)) in_weeks f e

  module _ (n : ℕ) (d : HeldIn S.Utc h n) where
    day_of_lem : n / 86401000000 ≡ place_of_day (day_of h)
    day_of_lem = ap (λ (x : ℕ). x / 86401000000) d.is ∙ day_part 86401000000 (place_of_day (day_of h)) (micro_of h) (place_in_lem S.Utc h d).under

    micro_of_lem : n % 86401000000 ≡ micro_of h
    micro_of_lem = ap (λ (x : ℕ). x % 86401000000) d.is ∙ micro_part 86401000000 (place_of_day (day_of h)) (micro_of h) (place_in_lem S.Utc h d).under

    tests : in_weeks ≡ leb 32700 (n / 86401000000) && (leb (n / 86401000000) 61371 && ltb (n % 86401000000) 86400000000)
    tests = rw (day_from 32700 (day_of h) (lit< tt) (lit≤ tt), day_to 61371 (day_of h) (lit< tt), day_of_lem, micro_of_lem)

    none : in_weeks ≡ false → value_slip 0 (Err R.NoImage) ≡ valued 0 (outcome (since1980 h))
    none e = now_no S.Utc h (micros_from Proteus.epoch (day_of h) (micro_of h)) in_weeks d e

    pub proteus_early : n / 86401000000 < 32700 → value_slip 0 (Err R.NoImage) ≡ valued 0 (outcome (since1980 h))
    proteus_early k = none (tests ∙ rw (lt-leb 32700 (n / 86401000000) k))

    pub proteus_late_lem : 61371 < n / 86401000000 → value_slip 0 (Err R.NoImage) ≡ valued 0 (outcome (since1980 h))
    proteus_late_lem k = none (tests ∙ rw (lt-leb (n / 86401000000) 61371 k) (and_false (leb 32700 (n / 86401000000))))

    pub proteus_sixty_lem : 86400000000 ≤ n % 86401000000 → value_slip 0 (Err R.NoImage) ≡ valued 0 (outcome (since1980 h))
    proteus_sixty_lem k =
        none (tests ∙ rw (le-ltb (n % 86401000000) 86400000000 k, and_false (leb (n / 86401000000) 61371), and_false (leb 32700 (n / 86401000000))))

    pub proteus_at : 32700 ≤ n / 86401000000 → n / 86401000000 ≤ 61371 → n % 86401000000 < 86400000000 →
        value_slip 0 (Ok ((n / 86401000000 - 32700) * 86400000000 + n % 86401000000)) ≡ valued 0 (outcome (since1980 h))
    proteus_at a b k =
        now_at S.Utc h (micros_from Proteus.epoch (day_of h) (micro_of h)) in_weeks d
        (tests ∙ rw (le-leb 32700 (n / 86401000000) a, le-leb (n / 86401000000) 61371 b, lt-ltb (n % 86401000000) 86400000000 k))
        (ap₂ (λ (x y : ℕ). (x - 32700) * 86400000000 + y) day_of_lem micro_of_lem)

  pub proteus_below : (n : ℕ) → value_slip 0 (Ok n) ≡ valued 0 (outcome (since1980 h)) → n < 2477260800000000
  proteus_below n e =
      let d = held h (Proteus.has_image (scale_of h) (day_of h) (micro_of h)) (micros_from Proteus.epoch (day_of h) (micro_of h)) n e in
      let w = (and_both (same_scale S.Utc (scale_of h)) in_weeks d.image).1 in
      let x = (and_both (le_z Proteus.epoch (day_of h)) (le_z (day_of h) (pos 21371) && ltb (micro_of h) 86400000000) w).1 in
      let y = and_both (le_z (day_of h) (pos 21371)) (ltb (micro_of h) 86400000000) x in
      omega (arith, d.is, ltb-true (micro_of h) 86400000000 y.1, leb-true (place_of_day (day_of h)) 61371 (sym (day_to 61371 (day_of h) (lit< tt)) ∙ y.0))

-- the fields that are read have the H3 of the bytes
pub proteus_h3 : (s : List ℕ) (f : Fields) → Answers (FP.reading s) f → (FP.fields_of s).h3 ≡ f.h3
proteus_h3 s f (next e (next z (next t last))) = refl

pub proteus_limits : (b : Bool) (n : ℕ) → n < 2477260800000000 → FP.in_limits (Proteus.fields_at b n) ≡ true
proteus_limits b n h = rw (lt-ltb (n / 604800000000) 4096 (omega arith), le-leb (n / 1000000 % 604800) 604799 (omega arith))

-- ---- CryoSat and SIRAL
module _ (h : Handed) where
  pub cryosat_no : (f : Refusal) → value_slip 0 (Err f) ≡ valued 0 (outcome (due_in S.Tai h)) → value_slip 0 (Err f) ≡ valued 0 (outcome (since2000 h))
  cryosat_no f e = still_no S.Tai h (micros_from Cryosat.epoch (day_of h) (micro_of h)) (le_z Cryosat.epoch (day_of h)) f e

  day_test : le_z Cryosat.epoch (day_of h) ≡ leb 40000 (place_of_day (day_of h))
  day_test = day_from 40000 (day_of h) (lit< tt) (lit≤ tt)

  module _ (n : ℕ) (d : HeldIn S.Tai h n) where
    pub cryosat_early : n < 3456000000000000 → value_slip 0 (Err R.NoImage) ≡ valued 0 (outcome (since2000 h))
    cryosat_early k =
        now_no S.Tai h (micros_from Cryosat.epoch (day_of h) (micro_of h)) (le_z Cryosat.epoch (day_of h)) d
        (day_test ∙ lt-leb 40000 (place_of_day (day_of h)) (omega (arith, d.is)))

    pub cryosat_at : 3456000000000000 ≤ n → value_slip 0 (Ok (n - 3456000000000000)) ≡ valued 0 (outcome (since2000 h))
    cryosat_at k =
        let u = (place_in_lem S.Tai h d).under in
        now_at S.Tai h (micros_from Cryosat.epoch (day_of h) (micro_of h)) (le_z Cryosat.epoch (day_of h)) d
        (day_test ∙ le-leb 40000 (place_of_day (day_of h)) (omega (arith, d.is))) (omega (arith, d.is))

  pub cryosat_below : (n : ℕ) → value_slip 0 (Ok n) ≡ valued 0 (outcome (since2000 h)) → n < 5662310400000000
  cryosat_below n e =
      let d = held h (Cryosat.has_image (scale_of h) (day_of h)) (micros_from Cryosat.epoch (day_of h) (micro_of h)) n e in
      omega (arith, d.is, d.place.to, d.place.under, (apart (scale_of h)).most)

pub cryosat_limits : (n : ℕ) → FC.in_limits (n % 86400000000 / 1000) (n % 1000) ≡ true
cryosat_limits n = rw (lt-ltb (n % 86400000000 / 1000) 86400000 (omega arith), lt-ltb (n % 1000) 1000 (omega arith))

-- all four added: the first three are whole
pub siral_micros : (n m x : ℕ) → n ≡ m → n + x * 33 / 16 ≡ (m * 16 + x * 33) / 16
siral_micros n m x e = omega arith
