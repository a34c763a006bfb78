-- What a date of the rule tells: its fields' bounds, and where it lies. Assumes nothing.
use Rattle.std.specs.Prelude.{◌≡◌, refl, true, ◌&&◌, ℕ, suc, ◌-◌, ◌<◌, ◌≤◌, leb}
use Rattle.std.proofs.Common.{arith, leb-true, le-leb}
use Rattle.scales.specs.Place.{and_both}
use Rattle.calendar.specs.Meaning.{is_date, month_length, months_to, year_of, month_of, length_of}
use Rattle.calendar.specs.Gregorian.{first_end, first_mono}
use Rattle.calendar.specs.Walk.{Located, before_next}
use Rattle.calendar.specs.Days.{days_to_date}
use Rattle.calendar.specs.declared.Date.{Date}

pub record Real (t : Date) : Type 0 where
  pub year_to : t.year ≤ 9999
  pub month_from : 1 ≤ t.month
  pub month_to : t.month ≤ 12
  pub day_from : 1 ≤ t.day
  pub day_to : t.day ≤ month_length t.year t.month

pub real : (t : Date) → is_date t ≡ true → Real t
unfolding is_date
real t e =
    let y = leb t.year 9999 in
    let m = leb 1 t.month in
    let n = leb t.month 12 in
    let d = leb 1 t.day in
    let l = leb t.day (month_length t.year t.month) in
    let p = and_both (y && m && n && d) l e in
    let q = and_both (y && m && n) d p.0 in
    let r = and_both (y && m) n q.0 in
    let s = and_both y m r.0 in
    record {
      year_to = leb-true t.year 9999 s.0;
      month_from = leb-true 1 t.month s.1;
      month_to = leb-true t.month 12 r.1;
      day_from = leb-true 1 t.day q.1;
      day_to = leb-true t.day (month_length t.year t.month) p.1;
    }

pub real_is : (t : Date) → Real t → is_date t ≡ true
unfolding is_date
real_is t r =
    rw (
      le-leb t.year 9999 r.year_to,
      le-leb 1 t.month r.month_from,
      le-leb t.month 12 r.month_to,
      le-leb 1 t.day r.day_from,
      le-leb t.day (month_length t.year t.month) r.day_to,
    )

-- the month of a date, counted from January 1972 and back
module _ (t : Date) (r : Real t) (h : 1972 ≤ t.year) where
  pub year_back : year_of (months_to t.year t.month) ≡ t.year
  year_back = let a = r.month_from in let b = r.month_to in omega arith

  pub month_back : month_of (months_to t.year t.month) ≡ t.month
  month_back = let a = r.month_from in let b = r.month_to in omega arith

  pub date_located : t.year ≤ 2099 → Located (days_to_date t) (months_to t.year t.month) (t.day - 1)
  unfolding length_of
  date_located k =
      let a = r.month_from in
      let b = r.month_to in
      let c = r.day_from in
      let d = r.day_to in
      record { early = omega arith; whole = refl; short = rw (year_back, month_back) (omega arith) }

-- a day that lies in a month of the span is one of its days
pub located_span : (n k r : ℕ) → Located n k r → n < 46752
located_span n k r l = let e = l.early in omega (arith, before_next n k r l, first_mono (suc k) 1536 (omega arith), first_end)
