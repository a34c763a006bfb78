use Rattle.std.proofs.Common.{rules, ◌≡◌, ℕ, ◌+◌, ◌-◌, ◌*◌, ◌<◌, ◌≤◌, ◌∙◌, sym, ap, arith}
use Rattle.calendar.specs.Meaning.{year_of, month_of, walk, date_at}
use Rattle.calendar.specs.Walk.{walk_at}
use Rattle.calendar.specs.Formula.{march_year, march_month, scaled_of, month_at, past_of, march_falls, lies, located}
use Rattle.calendar.proofs.date_at.Goals as goal

-- a date whose fields are those that the formula finds
found : (n : ℕ) → n < 46752 → (y m d : ℕ) → y ≡ year_of (month_at n) → m ≡ month_of (month_at n) → d ≡ past_of n + 1
    → record { year = y; month = m; day = d } ≡ date_at (walk 1536 0 n)
found n h y m d p q r =
    (λ i. record { year = p i; month = q i; day = r i }) ∙ sym (ap date_at (walk_at n (month_at n) (past_of n) (located n h)))

-- month m of the March year y, by the calendar's years
module _ (y m : ℕ) (f : 49 ≤ 12 * y + m) where
  late : 12 < m → m ≤ 14 → (y + 1969 ≡ year_of (12 * y + m - 49)) × (m - 12 ≡ month_of (12 * y + m - 49))
  late l t = (omega arith, omega arith)

  soon : 3 ≤ m → m ≤ 12 → (y + 1968 ≡ year_of (12 * y + m - 49)) × (m ≡ month_of (12 * y + m - 49))
  soon t l = (omega arith, omega arith)

pub returns-then-month-gt12 : goal.returns-then-month-gt12
returns-then-month-gt12 c =
    let n = c.args.n in
    let e : c.from-s.result ≡ scaled_of n = search rules in
    let l : 12 < march_month n = search rules in
    let k = late (march_year n) (march_month n) (lies n (omega arith)).from l (march_falls n).to in
    found n c.requires _ _ _ (omega (arith, k.0)) (rw e k.1) (rw e)

pub returns-else-month-gt12 : goal.returns-else-month-gt12
returns-else-month-gt12 c =
    let n = c.args.n in
    let e : c.from-s.result ≡ scaled_of n = search rules in
    let l : march_month n ≤ 12 = search rules in
    let k = soon (march_year n) (march_month n) (lies n (omega arith)).from (march_falls n).from l in
    found n c.requires _ _ _ (omega (arith, k.0)) (rw e k.1) (rw e)
