-- Demand 2 of the readings: an answered reading is the exact time that the conventions give, in microseconds since day 0. That each
-- writing is the image whose reading is that time, or the last not later, is said where `All` names it. Assumes nothing.
use Rattle.std.specs.Prelude.{◌≡◌, List, ℕ, ◌+◌, ◌*◌, ◌/◌, ◌%◌, ℤ}
use Rattle.std.proofs.Common.{sym, ap, ◌∙◌, arith}
use Rattle.axis.specs.Meaning.{day_at, micros_at, Moment, day_micros, since}
use Rattle.axis.specs.Axis.{since_at}
use Rattle.scales.specs.Meaning.{answer, outcome}
use Rattle.scales.specs.Order.{ends}
use Rattle.layout_fields.specs.Cuc as CucFields
use Rattle.layout_fields.specs.Proteus as ProteusFields
use Rattle.layout_fields.specs.Cryosat as CryosatFields
use Rattle.layout_fields.specs.Siral as SiralFields
use Rattle.layout_times.specs.Meaning.{fraction_micros, moment_from}
use Rattle.layout_times.specs.Days.{day_is}
use Rattle.layout_times.specs.Cuc as Cuc
use Rattle.layout_times.specs.Proteus as Proteus
use Rattle.layout_times.specs.Cryosat as Cryosat
use Rattle.layout_times.specs.Siral as Siral

-- n microseconds after the beginning of the day at a place
after : (p n : ℕ) → since (moment_from (day_at p) n).day (moment_from (day_at p) n).micro ≡ since (day_at p) n
after p n =
    let e : (p + n / day_micros) * day_micros + n % day_micros ≡ p * day_micros + n = omega arith in
    ap (λ (d : ℤ). since d (n % day_micros)) (day_is p n) ∙ since_at (p + n / day_micros) (n % day_micros) ∙ ap micros_at e ∙ sym (since_at p n)

module _ (s : List ℕ) where
  -- "GPS seconds since 6 January 1980. The fraction f stands for the whole part of f x 15625 / 1024 microseconds"
  pub cuc_time : (m : Moment) → outcome (Cuc.reading s) ≡ answer m
      → since m.day m.micro ≡ since Cuc.epoch ((CucFields.fields_of s).seconds * 1000000 + fraction_micros (CucFields.fields_of s).fraction)
  cuc_time m = ends (λ (x : Moment). since x.day x.micro ≡ since Cuc.epoch (Cuc.micros_of (CucFields.fields_of s))) (Cuc.reading s) m (λ a b. after 32700 (Cuc.micros_of (CucFields.fields_of s)))

  -- "UTC, in weeks of 604,800 s from day -7300"
  pub proteus_time : (m : Moment) → outcome (Proteus.reading s) ≡ answer m
      → since m.day m.micro
      ≡ since Proteus.epoch (((ProteusFields.fields_of s).week * 604800 + (ProteusFields.fields_of s).second) * 1000000 + fraction_micros (ProteusFields.fields_of s).fraction)
  proteus_time m = ends (λ (x : Moment). since x.day x.micro ≡ since Proteus.epoch (Proteus.micros_of (ProteusFields.fields_of s))) (Proteus.reading s) m (λ a b c d. after 32700 (Proteus.micros_of (ProteusFields.fields_of s)))

  -- "day 16 bits, millisecond 32 bits, microsecond 16 bits. Read as TAI, MJD2000"
  pub cryosat_time : (m : Moment) → outcome (Cryosat.reading s) ≡ answer m
      → since m.day m.micro
      ≡ since Cryosat.epoch ((CryosatFields.fields_of s).day * 86400000000 + (CryosatFields.fields_of s).millisecond * 1000 + (CryosatFields.fields_of s).microsecond)
  cryosat_time m = ends (λ (x : Moment). since x.day x.micro ≡ since Cryosat.epoch (Cryosat.micros_of (CryosatFields.fields_of s))) (Cryosat.reading s) m (λ a b c. after 40000 (Cryosat.micros_of (CryosatFields.fields_of s)))

  -- "All four are added and the whole part is taken; a carry may pass midnight"
  pub siral_time : (m : Moment) → outcome (Siral.reading s) ≡ answer m → since m.day m.micro ≡ since Cryosat.epoch (Siral.micros_of (SiralFields.fields_of s))
  siral_time m = ends (λ (x : Moment). since x.day x.micro ≡ since Cryosat.epoch (Siral.micros_of (SiralFields.fields_of s))) (Siral.reading s) m (λ a b c. after 40000 (Siral.micros_of (SiralFields.fields_of s)))
