use Rattle.std.proofs.Common.{rules, ◌≡◌, true, arith}
use Rattle.calendar.specs.Meaning.{is_date}
use Rattle.calendar.specs.Gregorian.{month_bounds}
use Rattle.calendar.specs.Days.{days_to_date}
use Rattle.calendar.specs.Dates.{real, date_located, located_span}
use Rattle.calendar.proofs.day_of.Goals as goal

pub days_to-requires : goal.days_to-requires
days_to-requires c =
    let t = c.args.date in
    let e : is_date t ≡ true = search rules in
    let r = real t e in
    let m = month_bounds t.year t.month in
    search rules

pub overflow_add-days_to : goal.overflow_add-days_to
overflow_add-days_to c =
    let t = c.args.date in
    let e : is_date t ≡ true = search rules in
    let l = located_span (days_to_date t) _ _ (date_located t (real t e) (omega arith) (omega arith)) in
    search rules
