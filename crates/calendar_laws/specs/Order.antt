-- The order of dates, by year, month and day, is the order of their days. Assumes nothing.
use Rattle.std.specs.Prelude.{◌≡◌, Bool, ◌&&◌, ◌||◌, suc, ◌+◌, ◌-◌, ◌<◌, leb, ltb, eqb, ℤ, pos}
use Rattle.std.proofs.Common.{sym, ap, ap₂, ◌∙◌, arith, lt-ltb, le-ltb, le-leb, eq-eqb, ne_eqb}
use Rattle.std.specs.Int.Signed.{le_z}
use Rattle.std.proofs.lemmas.Bool.{lt-leb}
use Rattle.axis.specs.Axis.{day_le}
use Rattle.axis.specs.Diff.{Way, way, below, above}
use Rattle.scales.specs.Meaning.{answer}
use Rattle.calendar.specs.Meaning.{first_day, months_to, day_handed, day_of_date}
use Rattle.calendar.specs.Gregorian.{first_mono}
use Rattle.calendar.specs.Walk.{before_next}
use Rattle.calendar.specs.Days.{days_to_date}
use Rattle.calendar.specs.Dates.{date_located}
use Rattle.calendar.specs.Told.{Counted, counted}
use Rattle.calendar.specs.declared.Date.{Date}
use Rattle.calendar_laws.specs.Computed.{on, start_2000, end_2099}

-- t is not after u: by the year, then the month, then the day
abbrev pub not_after : Date → Date → Bool
not_after t u =
    ltb t.year u.year || (eqb t.year u.year && (ltb t.month u.month || (eqb t.month u.month && leb t.day u.day)))

-- a date of an earlier month has the earlier day
sooner : (t u : Date) (d e : ℤ) → Counted t d → Counted u e → months_to t.year t.month < months_to u.year u.month
    → days_to_date t < days_to_date u
sooner t u d e c o h =
    omega (
      arith,
      before_next (days_to_date t) (months_to t.year t.month) (t.day - 1) (date_located t c.rule c.from c.to),
      first_mono (suc (months_to t.year t.month)) (months_to u.year u.month) h,
    )

module _ (t u : Date) (d e : ℤ) (c : Counted t d) (o : Counted u e) where
  places : not_after t u ≡ leb (days_to_date t + 29773) (days_to_date u + 29773)
  places = go (way t.year u.year) (way u.year t.year) (way t.month u.month) (way u.month t.month) (way u.day t.day)
    where
      go : Way t.year u.year → Way u.year t.year → Way t.month u.month → Way u.month t.month → Way u.day t.day
          → not_after t u ≡ leb (days_to_date t + 29773) (days_to_date u + 29773)
      go (below h) i j k l =
          rw (lt-ltb t.year u.year h)
          (sym (le-leb (days_to_date t + 29773) (days_to_date u + 29773) (omega (arith, sooner t u d e c o (omega arith)))))
      go (above h) (below i) j k l =
          rw (le-ltb t.year u.year h, ne_eqb t.year u.year (λ q. omega arith))
          (sym (lt-leb (days_to_date t + 29773) (days_to_date u + 29773) (omega (arith, sooner u t e d o c (omega arith)))))
      go (above h) (above i) (below j) k l =
          rw (le-ltb t.year u.year h, eq-eqb t.year u.year (omega arith), lt-ltb t.month u.month j)
          (sym (le-leb (days_to_date t + 29773) (days_to_date u + 29773) (omega (arith, sooner t u d e c o (omega arith)))))
      go (above h) (above i) (above j) (below k) l =
          rw (le-ltb t.year u.year h, eq-eqb t.year u.year (omega arith), le-ltb t.month u.month j, ne_eqb t.month u.month (λ q. omega arith))
          (sym (lt-leb (days_to_date t + 29773) (days_to_date u + 29773) (omega (arith, sooner u t e d o c (omega arith)))))
      go (above h) (above i) (above j) (above k) l =
          rw (le-ltb t.year u.year h, eq-eqb t.year u.year (omega arith), le-ltb t.month u.month j, eq-eqb t.month u.month (omega arith))
          (days l)
        where
          same : months_to t.year t.month ≡ months_to u.year u.month
          same = omega arith

          days : Way u.day t.day → leb t.day u.day ≡ leb (days_to_date t + 29773) (days_to_date u + 29773)
          days (below l) = rw (lt-leb t.day u.day l)
              (sym (lt-leb (days_to_date t + 29773) (days_to_date u + 29773) (omega (arith, ap first_day same))))
          days (above l) = rw (le-leb t.day u.day l)
              (sym (le-leb (days_to_date t + 29773) (days_to_date u + 29773) (omega (arith, ap first_day same))))

  order_counted : not_after t u ≡ le_z d e
  order_counted =
      places ∙ sym (ap₂ le_z c.day o.day ∙ day_le (days_to_date t + 29773) (days_to_date u + 29773))

pub order : (t u : Date) (d e : ℤ) → day_of_date t ≡ day_handed (answer d) → day_of_date u ≡ day_handed (answer e) → not_after t u ≡ le_z d e
order t u d e p q = order_counted t u d e (counted t d p) (counted u e q)

pub order_instance : not_after (on 2000 1 1) (on 2099 12 31) ≡ le_z (pos 0) (pos 36524)
order_instance = order (on 2000 1 1) (on 2099 12 31) (pos 0) (pos 36524) start_2000 end_2099
