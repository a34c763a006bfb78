-- The number and the value of an answer fix the answer. Assumes nothing.
use Rattle.std.specs.Prelude.{◌≡◌, ℤ, pos, Result}
use Rattle.scales.specs.Same.{same_reply}
use Rattle.scales.specs.declared.Refusal.{Refusal}
use Rattle.calendar.specs.Meaning.{no_date, date_slip, day_slip}
use Rattle.calendar.specs.declared.Date.{Date}

pub same_date : (a b : Result Date Refusal) → date_slip a ≡ date_slip b → a ≡ b
same_date = same_reply no_date

pub same_day_lem : (a b : Result ℤ Refusal) → day_slip a ≡ day_slip b → a ≡ b
same_day_lem = same_reply (pos 0)
