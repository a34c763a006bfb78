-- The formula behind the dates. A year is taken from March on, so that a leap day is its last, and every fourth is given one: rightly
-- from 1968 to 2096, since 2000 is a leap year. It is asked of no day after 1 January 2100, and 29 February 2100 would be the first that is
-- lacking. Nothing outside this crate names it. Assumes nothing.
use Rattle.std.specs.Prelude.{◌≡◌, refl, Bool, true, ◌&&◌, ℕ, zero, suc, ◌+◌, ◌-◌, ◌*◌, ◌/◌, ◌%◌, ◌<◌, ◌≤◌, eqb, ltb, leb}
use Rattle.std.proofs.Common.{ap, ap₂, ◌∙◌, add-zero, arith, lit<, lit≤, eqb-true, ltb-true, leb-true, eq-eqb, ne_eqb, lt-ltb, le-ltb}
use Rattle.axis.specs.Diff.{Way, way, below, above}
use Rattle.scales.specs.Place.{and_both}
use Rattle.calendar.specs.Meaning.{leap, month_length, length_of, months_to, first_day, walk}
use Rattle.calendar.specs.Gregorian.{first_start, first_next, first_end}
use Rattle.calendar.specs.Walk.{Located, walk_at, walk_end}

-- ---- a day, counted from 1 January 1972: 1401 days after 1 March 1968, and four years have 1461
abbrev pub march_year : ℕ → ℕ
march_year n = (4 * n + 5607) / 1461

abbrev pub march_day : ℕ → ℕ
march_day n = (4 * n + 5607) % 1461 / 4

-- day r of a March year: 65536 times its month, March to February being 3 to 14, and 2141 times the days of the month before it
abbrev pub scaling : ℕ → ℕ
scaling r = r * 2141 + 197913

abbrev pub scaled_of : ℕ → ℕ
scaled_of n = scaling (march_day n)

abbrev pub march_month : ℕ → ℕ
march_month n = scaled_of n / 65536

abbrev pub past_of : ℕ → ℕ
past_of n = scaled_of n % 65536 / 2141

-- its month, counted from January 1972
abbrev pub month_at : ℕ → ℕ
month_at n = 12 * march_year n + march_month n - 49

-- ---- a first of a month, counted from 1 March 1968
-- the days of a March year before month m
abbrev pub days_before : ℕ → ℕ
days_before m = (979 * m - 2919) / 32

abbrev pub first_in : ℕ → ℕ → ℕ
first_in y m = 1461 * y / 4 + days_before m

-- of month k, counted from January 1972
abbrev pub first_by : ℕ → ℕ
first_by k = first_in ((k + 46) / 12) ((k + 46) % 12 + 3)

-- ---- the formula is `first_day`: one test, computed over the months from January 1972 to February 2100
-- of the f months from month k on, whose first day is x
abbrev months : ℕ → ℕ → ℕ → Bool
months zero k x = true
months (suc f) k x = eqb (first_by k) (x + 1401) && months f (suc k) (x + length_of k)

computed : months 1538 0 0 ≡ true
unfolding length_of month_length leap
computed = refl

each : (f k j : ℕ) → months f k (first_day k) ≡ true → j < f → first_by (k + j) ≡ first_day (k + j) + 1401
each zero k j e h = absurd (omega arith)
each (suc f) k zero e h =
    rw (add-zero k) (eqb-true (first_by k) (first_day k + 1401) (and_both (eqb (first_by k) (first_day k + 1401)) (months f (suc k) (first_day k + length_of k)) e).0)
each (suc f) k (suc j) e h =
    let p = and_both (eqb (first_by k) (first_day k + 1401)) (months f (suc k) (first_day k + length_of k)) e in
    let q : k + suc j ≡ suc k + j = omega arith in
    rw q (each f (suc k) j (rw (first_next k) p.1) (omega arith))

first_by_lem : (k : ℕ) → k < 1538 → first_by k ≡ first_day k + 1401
first_by_lem k h = let q : 0 + k ≡ k = omega arith in rw q at (each 1538 0 k (rw first_start computed) h)

-- the same of the month m of the March year y
pub first_of_lem : (y m k : ℕ) → 3 ≤ m → m ≤ 14 → 12 * y + m ≡ k + 49 → k < 1538 → first_in y m ≡ first_day k + 1401
first_of_lem y m k f t e h =
    let d : y ≡ (k + 46) / 12 = omega arith in
    let g : m ≡ (k + 46) % 12 + 3 = omega arith in
    ap₂ first_in d g ∙ first_by_lem k h

-- ---- the days of one March year, computed over all 366
pub record Falls (r m p : ℕ) : Type 0 where
  pub from : 3 ≤ m
  pub to : m ≤ 14
  pub whole : days_before m + p ≡ r
  pub short : r < days_before (m + 1)

abbrev falls : ℕ → ℕ → ℕ → Bool
falls r m p = leb 3 m && (leb m 14 && (eqb (days_before m + p) r && ltb r (days_before (m + 1))))

abbrev days : ℕ → ℕ → Bool
days zero r = true
days (suc f) r = falls r (scaling r / 65536) (scaling r % 65536 / 2141) && days f (suc r)

all_days : days 366 0 ≡ true
all_days = refl

told : (r m p : ℕ) → falls r m p ≡ true → Falls r m p
told r m p e =
    let x = leb 3 m in
    let y = leb m 14 in
    let z = eqb (days_before m + p) r in
    let w = ltb r (days_before (m + 1)) in
    let a = and_both x (y && (z && w)) e in
    let b = and_both y (z && w) a.1 in
    let c = and_both z w b.1 in
    record {
      from = leb-true 3 m a.0;
      to = leb-true m 14 b.0;
      whole = eqb-true (days_before m + p) r c.0;
      short = ltb-true r (days_before (m + 1)) c.1;
    }

day_of_lem : (f r j : ℕ) → days f r ≡ true → j < f → Falls (r + j) (scaling (r + j) / 65536) (scaling (r + j) % 65536 / 2141)
day_of_lem zero r j e h = absurd (omega arith)
day_of_lem (suc f) r zero e h =
    let m = scaling r / 65536 in
    let p = scaling r % 65536 / 2141 in
    rw (add-zero r) (told r m p (and_both (falls r m p) (days f (suc r)) e).0)
day_of_lem (suc f) r (suc j) e h =
    let m = scaling r / 65536 in
    let p = scaling r % 65536 / 2141 in
    let q : r + suc j ≡ suc r + j = omega arith in
    rw q (day_of_lem f (suc r) j (and_both (falls r m p) (days f (suc r)) e).1 (omega arith))

pub march_falls : (n : ℕ) → Falls (march_day n) (march_month n) (past_of n)
march_falls n = let q : 0 + march_day n ≡ march_day n = omega arith in rw q at (day_of_lem 366 0 (march_day n) all_days (omega arith))

-- ---- the formula finds where a day lies, 1 January 2100 too
pub record Lies (n : ℕ) : Type 0 where
  pub from : 49 ≤ 12 * march_year n + march_month n
  pub to : month_at n ≤ 1536
  pub whole : first_day (month_at n) + past_of n ≡ n
  pub short : n < first_day (suc (month_at n))

-- in the March year of 1971 a day from 1 January 1972 on is in month 13 or 14, and in that of 2099 one to 1 January 2100 not after month 13
starts : (n : ℕ) → 49 ≤ 12 * march_year n + march_month n
starts n = go (way (march_year n) 4)
  where
    go : Way (march_year n) 4 → 49 ≤ 12 * march_year n + march_month n
    go (below l) =
        let r : 306 ≤ march_day n = omega arith in
        let m : 13 ≤ march_month n = omega (arith, r) in
        omega (arith, m)
    go (above l) = omega (arith, (march_falls n).from)

ends : (n : ℕ) → n ≤ 46752 → month_at n ≤ 1536
ends n h = go (way (march_year n) 131)
  where
    go : Way (march_year n) 131 → month_at n ≤ 1536
    go (below l) = omega (arith, (march_falls n).to)
    go (above l) =
        let r : march_day n ≤ 306 = omega arith in
        let m : march_month n ≤ 13 = omega (arith, r) in
        omega (arith, m)

pub lies : (n : ℕ) → n ≤ 46752 → Lies n
lies n h =
    let y = march_year n in
    let m = march_month n in
    let k = month_at n in
    let f = march_falls n in
    let a = starts n in
    let b = ends n h in
    let c : n + 1401 ≡ 1461 * y / 4 + march_day n = omega arith in
    let g : first_in y m ≡ first_day k + 1401 = first_of_lem y m k f.from f.to (omega (arith, a)) (omega (arith, b)) in
    record {
      from = a;
      to = b;
      whole = omega (arith, c, g, f.whole);
      short = next (way m 14) a b c;
    }
  where
    next : Way (march_month n) 14 → 49 ≤ 12 * march_year n + march_month n → month_at n ≤ 1536 → n + 1401 ≡ 1461 * march_year n / 4 + march_day n → n < first_day (suc (month_at n))
    next (below l) a b c =
        let f = march_falls n in
        let g = first_of_lem (march_year n) (march_month n + 1) (suc (month_at n)) (omega (arith, f.from)) (omega arith) (omega (arith, a)) (omega (arith, b)) in
        omega (arith, c, g, f.short)
    next (above l) a b c =
        let f = march_falls n in
        let g = first_of_lem (march_year n + 1) 3 (suc (month_at n)) (omega arith) (omega arith) (omega (arith, a, f.to)) (omega (arith, b)) in
        omega (arith, g)

pub located : (n : ℕ) → n < 46752 → Located n (month_at n) (past_of n)
located n h =
    let l = lies n (omega arith) in
    record {
      early = early (way (month_at n) 1536) l.to l.whole;
      whole = l.whole;
      short = omega (arith, l.whole, l.short, first_next (month_at n));
    }
  where
    early : Way (month_at n) 1536 → month_at n ≤ 1536 → first_day (month_at n) + past_of n ≡ n → month_at n < 1536
    early (below p) t w = p
    early (above p) t w = let e : month_at n ≡ 1536 = omega arith in absurd (omega (arith, w, ap first_day e, first_end))

-- counting off months finds the same
pub walk_by : (n : ℕ) → n ≤ 46752 → (walk 1536 0 n).past ≡ past_of n
walk_by n h = go (way n 46752)
  where
    go : Way n 46752 → (walk 1536 0 n).past ≡ past_of n
    go (below l) = rw (walk_at n (month_at n) (past_of n) (located n l))
    go (above l) = let e : n ≡ 46752 = omega arith in walk_end n l ∙ rw e

-- a day is a first exactly where no day of its month is before it
pub first_is : (n : ℕ) → n ≤ 46752 → ltb (scaled_of n % 65536) 2141 ≡ eqb (walk 1536 0 n).past 0
first_is n h = go (way (scaled_of n % 65536) 2141) ∙ rw (walk_by n h)
  where
    go : Way (scaled_of n % 65536) 2141 → ltb (scaled_of n % 65536) 2141 ≡ eqb (past_of n) 0
    go (below l) = rw (lt-ltb (scaled_of n % 65536) 2141 l, eq-eqb (past_of n) 0 (omega arith))
    go (above l) = rw (le-ltb (scaled_of n % 65536) 2141 l, ne_eqb (past_of n) 0 (λ e. omega arith))

-- ---- 29 February 2000, and 1 January 2100, which is a first and no date
pub february_2000 : first_in 31 14 ≡ first_day (months_to 2000 2) + 1401
february_2000 = first_of_lem 31 14 337 (lit≤ tt) (lit≤ tt) refl (lit< tt)

pub leap_day : Located 10286 (months_to 2000 2) 28
leap_day = located 10286 (lit< tt)

pub last_first_lem : first_day (months_to 2100 1) + 0 ≡ 46752
last_first_lem = (lies 46752 (lit≤ tt)).whole
