-- The columns of a text: what a stamp must hold to be written there, and what stands in a slice piece after piece. Assumes nothing.
use Rattle.std.specs.Prelude.{◌≡◌, refl, Bool, true, false, ltb, length, set, take, drop}
use Rattle.std.proofs.Common.{sym, ap, ◌∙◌, add-zero, zero-add, length-set, ltb-true, lt-ltb, le-ltb}
use mathlib.Core.List.{List, [], ◌∷◌, ◌++◌}
use Prim.Native.Nat.{ℕ, suc, ◌+◌, ◌/◌, ◌%◌, ◌≤◌, ◌<◌}
use native.Mathlib.Omega.{arith}
use Rattle.std.proofs.Math.Seq.{sets, length-sets}
use Rattle.std.proofs.lemmas.List.Edits.{sets-eq}
use Rattle.octets.specs.Meaning.{onto}
use Rattle.octets.specs.Place.{onto_room}
use Rattle.calendar.specs.declared.Date.{Date}
use Rattle.text_fields.specs.declared.Stamp.{Stamp}
use Rattle.text_fields.specs.Meaning.{letter}
use Rattle.text_fields.specs.Names.{name_of, letter_small}
use Rattle.text_write.specs.Meaning.{stamp_of, tens, units, text_of, body_of}

-- no field has more digits than its columns, and the month has a name
pub record Fits (t : Stamp) : Type 0 where
  pub years : t.date.year < 10000
  pub named : (1 ≤ t.date.month) × (t.date.month ≤ 12)
  pub days : t.date.day < 100
  pub hours : t.hour < 100
  pub minutes : t.minute < 100
  pub seconds : t.second < 100
  pub micros : t.micro < 1000000

-- two digits; a month's letters
abbrev pub pair : ℕ → List ℕ
pair v = tens v ∷ units v ∷ []

abbrev pub letters_of : ℕ → List ℕ
letters_of m = letter m 0 ∷ letter m 1 ∷ letter m 2 ∷ []

-- ---- what stands from a place on, and the next piece after it
next : (xs ys l : List ℕ) (at : ℕ) → sets (sets l at xs) (at + length xs) ys ≡ sets l at (xs ++ ys)
next [] ys l at = ap (λ (k : ℕ). sets l k ys) (add-zero at)
next (x ∷ xs) ys l at =
    let e : at + suc (length xs) ≡ suc at + length xs = omega arith in
    ap (λ (k : ℕ). sets (sets (set l at x) (suc at) xs) k ys) e ∙ next xs ys (set l at x) (suc at)

pub after : (xs ys l : List ℕ) (at : ℕ) (m : List ℕ) → m ≡ sets l at xs → sets m (at + length xs) ys ≡ sets l at (xs ++ ys)
after xs ys l at m e = ap (λ (x : List ℕ). sets x (at + length xs) ys) e ∙ next xs ys l at

-- what stands from the front on is put onto it
pub front_put : (xs l : List ℕ) → length xs ≤ length l → sets l 0 xs ≡ onto xs l
front_put xs l h = sets-eq xs l 0 (omega arith) ∙ rw zero-add (sym (onto_room xs l h))

-- a slice keeps its length: a piece put, also after one byte
pub as_long : (xs l m : List ℕ) (at : ℕ) → m ≡ sets l at xs → length m ≡ length l
as_long xs l m at e = ap length e ∙ length-sets l at xs

pub marked_long : (xs l m : List ℕ) (i b at : ℕ) → m ≡ sets (set l i b) at xs → length m ≡ length l
marked_long xs l m i b at e = as_long xs (set l i b) m at e ∙ length-set l i b

module _ (out : List ℕ) (at : ℕ) where
  pub pair_laid : (v : ℕ) → v < 100 → set (set out at (48 + v / 10)) (at + 1) (48 + v % 10) ≡ sets out at (pair v)
  pair_laid v h = let e : 48 + v / 10 ≡ tens v = omega arith in rw e (next (tens v ∷ []) (units v ∷ []) out at)

  pub name_laid : (m n : ℕ) → n ≡ name_of m → set (set (set out at (n / 65536 % 256)) (at + 1) (n / 256 % 256)) (at + 2) (n % 256) ≡ sets out at (letters_of m)
  name_laid m n e =
      let a : n / 65536 % 256 ≡ letter m 0 = omega (arith, e, letter_small m 0, letter_small m 1, letter_small m 2) in
      let b : n / 256 % 256 ≡ letter m 1 = omega (arith, e, letter_small m 0, letter_small m 1, letter_small m 2) in
      let c : n % 256 ≡ letter m 2 = omega (arith, e, letter_small m 0, letter_small m 1, letter_small m 2) in
      rw (a, b, c) (after (letter m 0 ∷ letter m 1 ∷ []) (letter m 2 ∷ []) out at _ (next (letter m 0 ∷ []) (letter m 1 ∷ []) out at))

  -- ---- each part of a text, as its pieces were put
  module _ (t : Stamp) where
    pub date_laid : (a b c d : List ℕ) → a ≡ sets out at (pair t.date.day)
        → b ≡ sets (set a (at + 2) 45) (at + 3) (letters_of t.date.month)
        → c ≡ sets (set b (at + 6) 45) (at + 7) (pair (t.date.year / 100))
        → d ≡ sets c (at + 9) (pair (t.date.year % 100))
        → d ≡ sets out at (take 11 (text_of t))
    unfolding text_of
    date_laid a b c d ea eb ec ed =
        let y = t.date.year in
        let x2 = pair t.date.day in
        let x6 = x2 ++ (45 ∷ []) ++ letters_of t.date.month in
        let x9 = x6 ++ (45 ∷ []) ++ pair (y / 100) in
        let p : tens (y % 100) ≡ tens y = omega arith in
        let q : units (y % 100) ≡ units y = omega arith in
        let pb : b ≡ sets out at x6 = eb ∙ after (x2 ++ (45 ∷ [])) (letters_of t.date.month) out at _ (after x2 (45 ∷ []) out at a ea) in
        let pc : c ≡ sets out at x9 = ec ∙ after (x6 ++ (45 ∷ [])) (pair (y / 100)) out at _ (after x6 (45 ∷ []) out at b pb) in
        ed ∙ after x9 (pair (y % 100)) out at c pc ∙ rw (p, q)

    pub clock_laid : (a b c : List ℕ) → a ≡ sets (set out at 32) (at + 1) (pair t.hour)
        → b ≡ sets (set a (at + 3) 58) (at + 4) (pair t.minute)
        → c ≡ sets (set b (at + 6) 58) (at + 7) (pair t.second)
        → c ≡ sets out at (take 9 (drop 11 (text_of t)))
    unfolding text_of
    clock_laid a b c ea eb ec =
        let x3 : List ℕ = 32 ∷ pair t.hour in
        let x6 = x3 ++ (58 ∷ []) ++ pair t.minute in
        let pa : a ≡ sets out at x3 = ea ∙ next (32 ∷ []) (pair t.hour) out at in
        let pb : b ≡ sets out at x6 = eb ∙ after (x3 ++ (58 ∷ [])) (pair t.minute) out at _ (after x3 (58 ∷ []) out at a pa) in
        ec ∙ after (x6 ++ (58 ∷ [])) (pair t.second) out at _ (after x6 (58 ∷ []) out at b pb)

    pub micro_laid : (a b c : List ℕ) → a ≡ sets (set out at 46) (at + 1) (pair (t.micro / 10000))
        → b ≡ sets a (at + 3) (pair (t.micro / 100 % 100))
        → c ≡ sets b (at + 5) (pair (t.micro % 100))
        → c ≡ sets out at (drop 20 (text_of t))
    unfolding text_of
    micro_laid a b c ea eb ec =
        let u = t.micro in
        let x3 : List ℕ = 46 ∷ pair (u / 10000) in
        let x5 = x3 ++ pair (u / 100 % 100) in
        let p : tens (u / 100 % 100) ≡ tens (u / 100) = omega arith in
        let q : units (u / 100 % 100) ≡ units (u / 100) = omega arith in
        let r : tens (u % 100) ≡ tens u = omega arith in
        let s : units (u % 100) ≡ units u = omega arith in
        let pa : a ≡ sets out at x3 = ea ∙ next (46 ∷ []) (pair (u / 10000)) out at in
        let pb : b ≡ sets out at x5 = eb ∙ after x3 (pair (u / 100 % 100)) out at a pa in
        ec ∙ after x5 (pair (u % 100)) out at b pb ∙ rw (p, q, r, s)

    pub short_laid : (a b : List ℕ) → a ≡ sets out at (take 11 (text_of t)) → b ≡ sets a (at + 11) (take 9 (drop 11 (text_of t))) → b ≡ sets out at (body_of false t)
    unfolding text_of
    short_laid a b ea eb = eb ∙ after (take 11 (text_of t)) (take 9 (drop 11 (text_of t))) out at a ea

    pub long_laid : (b c : List ℕ) → b ≡ sets out at (body_of false t) → c ≡ sets b (at + 20) (drop 20 (text_of t)) → c ≡ sets out at (body_of true t)
    unfolding text_of
    long_laid b c eb ec = ec ∙ after (take 20 (text_of t)) (drop 20 (text_of t)) out at b eb

-- ---- the fields of a time
module _ (d : Date) (u : ℕ) where
  pub stamp_day : u / 1000000 < 86400
      → record { date = d; hour = u / 1000000 / 60 / 60; minute = u / 1000000 / 60 % 60; second = u / 1000000 % 60; micro = u % 1000000 } ≡ stamp_of d u
  stamp_day h =
      let a : u / 1000000 / 60 / 60 ≡ u / 3600000000 = omega arith in
      let b : u / 1000000 / 60 ≡ u / 60000000 = omega arith in
      rw (lt-ltb u 86400000000 (omega arith), a, b)

  pub stamp_second : 86400 ≤ u / 1000000 → record { date = d; hour = 23; minute = 59; second = 60; micro = u % 1000000 } ≡ stamp_of d u
  stamp_second h = rw (le-ltb u 86400000000 (omega arith))

  -- those of a date of the calendar fit their columns
  pub stamp_fits : d.year < 10000 → (1 ≤ d.month) × (d.month ≤ 12) → d.day < 100 → u < 86401000000 → Fits (stamp_of d u)
  stamp_fits y m k l = go (ltb u 86400000000) refl
    where
      go : (b : Bool) → ltb u 86400000000 ≡ b → Fits (stamp_of d u)
      go true e =
          let h = ltb-true u 86400000000 e in
          record { years = y; named = m; days = k; hours = rw e (omega arith); minutes = rw e (omega arith); seconds = rw e (omega arith); micros = omega arith }
      go false e =
          record { years = y; named = m; days = k; hours = rw e (omega arith); minutes = rw e (omega arith); seconds = rw e (omega arith); micros = omega arith }

pub body_long : (micros : Bool) (t : Stamp) → 20 ≤ length (body_of micros t)
unfolding text_of
body_long true t = omega arith
body_long false t = omega arith

pub whole_long : (t : Stamp) → length (text_of t) ≡ 27
unfolding text_of
whole_long t = refl

-- by the form that was asked for
pub filled : (micros b : Bool) (t : Stamp) (out : List ℕ) → micros ≡ b → length (body_of micros t) ≤ length out
    → (m : List ℕ) → m ≡ sets out 0 (body_of b t) → m ≡ onto (body_of micros t) out
filled micros b t out q h m e = e ∙ rw (sym q) (front_put (body_of micros t) out h)
