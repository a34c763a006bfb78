-- What the code finds on its way through the chains: places of days and of times, the chain of a date from 7 on and that of a time to be
-- turned back, each under an accepted correlation, and a list that is accepted where it is used. Assumes nothing.
use Rattle.std.specs.Prelude.{◌≡◌, refl, Bool, true, false, cond, not, ◌&&◌, ◌||◌, List, ℕ, ◌+◌, ◌*◌, ◌/◌, ◌%◌, ◌≤◌, ltb, ℤ, pos, ◌+ℤ◌, ◌*ℤ◌, Result, Option, Ok, Err, Some, None}
use Rattle.std.proofs.Common.{sym, ap, ◌∙◌, arith, le-leb}
use Rattle.std.proofs.lemmas.Bool.{false≢true, not-true}
use Rattle.std.specs.Int.Signed.{le_z}
use Rattle.axis.specs.Meaning.{place_of_day, day_at, micros_at, Moment, day_micros, since, moment_of}
use Rattle.axis.specs.Axis.{day_place, micros_le, micros_add}
use Rattle.axis.specs.Diff.{sub_mul}
use Rattle.axis.specs.Shift.{number_add}
use Rattle.scales.specs.Meaning.{first, last, in_span, Judged, given, gives, Outcome, refused, answer, outcome, Slip, dated, moment_at, number_of, resulting}
use Rattle.scales.specs.Order.{passed}
use Rattle.scales.specs.Place.{apart, placed}
use Rattle.scales.specs.declared.Scale.{Scale}
use Rattle.scales.specs.declared.Scale.TheVariants as S
use Rattle.handed.specs.declared.Handed.{Handed}
use Rattle.handed.specs.Meaning.{is_finite, is_in_span, day_of, micro_of}
use Rattle.leap.specs.Meaning.{accepted, offset_on, tai_of, has_micro, is_expired_day, is_expired_tai}
use Rattle.via_tai.specs.Meaning.{is_utc, from_utc, of_count}
use Rattle.via_tai.specs.Ways.{Left, counted, count_is}
use Rattle.via_tai.specs.Known.{current_to}
use Rattle.clock.specs.Places.{base_as}
use Rattle.clock.specs.Meaning.{instant, moment_after, list_serves, is_current, is_current_at, has_second, is_known, Cover, within, has_image, instant_of}
use Rattle.scales.specs.declared.Refusal.{Refusal}
use Rattle.scales.specs.declared.Tai.{Tai}

-- ---- the reference: the place of a day and a microsecond, every day having 86,400 s, and how many seconds the axis is ahead
abbrev pub spot : ℤ → ℕ → ℕ
spot d u = place_of_day d * 86400000000 + u

abbrev pub place_in : Scale → ℤ → ℕ → Option ℕ
place_in s d u = cond (in_span s d u && ltb u day_micros) (Some (spot d u)) None

abbrev pub seconds_in : Scale → ℤ → List ℤ → List ℕ → ℕ
seconds_in s d ds os = cond (is_utc s) (offset_on ds os d) 0

abbrev pub Spanned : Scale → ℕ → Type 0
Spanned s n = in_span s (moment_at s n).day (moment_at s n).micro ≡ true

-- ---- a UTC receipt, or a UTC time to be turned back: its TAI count
abbrev pub placing : Moment → List ℤ → List ℕ → ℤ → Judged ℤ
placing m ds os e =
    given (not (is_expired_day e m.day)) 9
    (given (has_micro ds m.day m.micro) 10
    (gives (tai_of ds os m.day m.micro)))

abbrev pub landed : Result ℕ Refusal → Outcome ℤ
landed (Ok w) = answer (micros_at w)
landed (Err f) = refused (number_of f)

-- ---- a date from 7 on: whether the reference is current, whether the count is in the window, the cover, and the time of the count
abbrev pub judging : Scale → Bool → Bool → Cover → ℤ → ℤ → ℕ → List ℤ → List ℕ → ℤ → Judged Moment
judging s current inside v z d u ds os e =
    given (in_span s d u) 7
    (given (inside && cond (current && is_known s ds e d u) (within v (instant s ds os d u)) true) 8
    (given (cond (current && is_known s ds e d u) (le_z z (instant s ds os d u)) true) 17
    (given (current && (is_current s e d && is_current_at s ds os e z)) 9
    (given (has_second s ds d u) 10
    (resulting s (moment_after s ds os z))))))

-- the same under a TAI or GPS correlation, which looks at no list
abbrev pub judging_own : Scale → Bool → Cover → ℤ → ℤ → ℕ → Judged Moment
judging_own s inside v z d u =
    given (in_span s d u && ltb u day_micros) 7
    (given (inside && within v (since d u)) 8
    (given (le_z z (since d u)) 17
    (resulting s (moment_of z))))

-- its end at place m
abbrev pub result_at : Scale → ℕ → Slip
result_at s m = dated s (outcome (resulting s (record { day = day_at (m / 86400000000); micro = m % 86400000000 })))

-- its end where the receipt has the number n and no place
abbrev pub lacking_at : ℕ → ℤ → List ℤ → List ℕ → ℤ → ℕ
lacking_at n z ds os e = cond (is_expired_tai ds os e z) 9 n

-- ---- the way back as far as the time in the cover
abbrev pub covering : Scale → Bool → Cover → Handed → List ℤ → List ℕ → ℤ → Judged ℤ
covering s current v h ds os e =
    given (is_finite h) 4
    (given (is_in_span h) 7
    (given (not (has_image s h) || cond (current && is_known s ds e (day_of h) (micro_of h)) (within v (instant_of s ds os h)) true) 8
    (given (current && (not (has_image s h) || is_current s e (day_of h))) 9
    (given (not (has_image s h) || has_second s ds (day_of h) (micro_of h)) 10
    (given (has_image s h) 12
    (gives (instant_of s ds os h)))))))

abbrev pub covering_own : Scale → Cover → Handed → Judged ℤ
covering_own s v h =
    given (is_finite h) 4
    (given (is_in_span h) 7
    (given (not (has_image s h) || within v (since (day_of h) (micro_of h))) 8
    (given (has_image s h) 12
    (gives (since (day_of h) (micro_of h))))))

-- and where the list or the correlation is not accepted: n, or 4 before it
abbrev pub unaccepted_by : Handed → ℕ → ℕ
unaccepted_by h n = cond (is_finite h) n 4

-- ---- a day of the span stands well on the axis
pub record Held (d : ℤ) : Type 0 where
  pub from : 29773 ≤ place_of_day d
  pub to : place_of_day d ≤ 76524

pub held : (s : Scale) (d : ℤ) (u : ℕ) → in_span s d u ≡ true → Held d
held s d u e =
    let q = placed s d u e in
    record { from = omega (arith, (apart s).from); to = omega (arith, (apart s).to) }

pub since_place : (d : ℤ) (u : ℕ) → Held d → since d u ≡ micros_at (spot d u)
since_place d u h =
    ap (λ (x : ℤ). x *ℤ pos 86400000000 +ℤ pos u) (sym (day_place d (omega arith) (omega arith)))
    ∙ ap (λ (x : ℤ). x +ℤ pos u) (sub_mul (place_of_day d) 40000 86400000000)
    ∙ sym (number_add 3456000000000000 (place_of_day d * 86400000000) u)

pub instant_place : (s : Scale) (d : ℤ) (u : ℕ) (ds : List ℤ) (os : List ℕ) → Held d →
    instant s ds os d u ≡ micros_at (spot d u + seconds_in s d ds os * 1000000)
instant_place s d u ds os h = at (is_utc s)
  where
    at : (b : Bool) → cond b (tai_of ds os d u) (since d u) ≡ micros_at (spot d u + cond b (offset_on ds os d) 0 * 1000000)
    at true = ap (λ (z : ℤ). z +ℤ pos (offset_on ds os d * 1000000)) (since_place d u h) ∙ micros_add (spot d u) (offset_on ds os d * 1000000)
    at false = let q : spot d u ≡ spot d u + 0 * 1000000 = omega arith in since_place d u h ∙ ap micros_at q

-- ---- a scale of its own axis
module _ (s : Scale) (i : is_utc s ≡ false) where
  span_plain : (d : ℤ) (u : ℕ) → (in_span s d u && ltb u day_micros) ≡ in_span s d u
  span_plain d u = go s i
    where
      both : (a b c : Bool) → ((a && (b && c)) && c) ≡ (a && (b && c))
      both true true true = refl
      both true true false = refl
      both true false c = refl
      both false b c = refl

      go : (z : Scale) → is_utc z ≡ false → (in_span z d u && ltb u day_micros) ≡ in_span z d u
      go S.Tai k = both (le_z (first S.Tai) d) (le_z d (last S.Tai)) (ltb u day_micros)
      go S.Utc k = absurd (false≢true (sym k))
      go S.Gps k = both (le_z (first S.Gps) d) (le_z d (last S.Gps)) (ltb u day_micros)

  -- a count of it is a place
  pub count_since : (n : ℕ) → since (moment_at s n).day (moment_at s n).micro ≡ micros_at n
  count_since n = go s i
    where
      go : (z : Scale) → is_utc z ≡ false → since (moment_at z n).day (moment_at z n).micro ≡ micros_at n
      go S.Tai k = count_is n
      go S.Utc k = absurd (false≢true (sym k))
      go S.Gps k = count_is n

  module _ (ds : List ℤ) (os : List ℕ) (e : ℤ) where
    pub judging_own_lem : (b : Bool) (v : Cover) (z d : ℤ) (u : ℕ) → outcome (judging_own s b v z d u) ≡ outcome (judging s true b v z d u ds os e)
    judging_own_lem b v z d u = rw (i, span_plain d u)

    pub covering_own_lem : (v : Cover) (h : Handed) → outcome (covering_own s v h) ≡ outcome (covering s true v h ds os e)
    covering_own_lem v h = go (has_image s h) refl
      where
        go : (b : Bool) → has_image s h ≡ b → outcome (covering_own s v h) ≡ outcome (covering s true v h ds os e)
        go true k = rw (i, k)
        go false k = rw (i, k)

    pub current_own : (d : ℤ) → is_current s e d ≡ true
    current_own d = rw i

    pub serves_own : list_serves s ds os e ≡ true
    serves_own = rw i

-- ---- a place that is found where a test holds, as a reference's
pub found : (t : Bool) (x r : ℕ) → cond t (Some x) None ≡ Some r → (t ≡ true) × (x ≡ r)
found true x r e = (refl, cc)
found false x r e = absurd (let z : ◌≡◌ {A = ℕ} 0 1 = cc in omega arith)

pub none : (t : Bool) (x : ℕ) → cond t (Some x) None ≡ None → t ≡ false
none true x e = absurd (let z : ◌≡◌ {A = ℕ} 0 1 = cc in omega arith)
none false x e = refl

pub based_at : (t : Bool) (x r : ℕ) (b n : Bool) → cond t (Some (base_as x b)) None ≡ Some (base_as r n) → (t ≡ true) × ((x ≡ r) × (b ≡ n))
based_at true x r b n e = let q : base_as x b ≡ base_as r n = cc in (refl, ((λ i. (q i).at), (λ i. (q i).current)))
based_at false x r b n e = absurd (let z : ◌≡◌ {A = ℕ} 0 1 = cc in omega arith)

pub based_none : (t : Bool) (x : ℕ) (b : Bool) → cond t (Some (base_as x b)) None ≡ None → t ≡ false
based_none true x b e = absurd (let z : ◌≡◌ {A = ℕ} 0 1 = cc in omega arith)
based_none false x b e = refl

-- ---- UTC, whose list is used
pub utc_is : (s : Scale) → is_utc s ≡ true → s ≡ S.Utc
utc_is S.Tai i = absurd (false≢true i)
utc_is S.Utc i = refl
utc_is S.Gps i = absurd (false≢true i)

-- ---- what the place of a UTC time tells
module _ (m : Moment) (ds : List ℤ) (os : List ℕ) (e : ℤ) where
  pub record At (z : ℤ) : Type 0 where
    pub current : is_expired_day e m.day ≡ false
    pub second : has_micro ds m.day m.micro ≡ true
    pub is : tai_of ds os m.day m.micro ≡ z

  pub at_place : (z : ℤ) → answer z ≡ outcome (placing m ds os e) → At z
  at_place z q =
      let i = tai_of ds os m.day m.micro in
      let x = is_expired_day e m.day in
      let f = passed (not x) 9 (given (has_micro ds m.day m.micro) 10 (gives i)) z (sym q) in
      let g = passed (has_micro ds m.day m.micro) 10 (gives i) z f.1 in
      record { current = not-true x f.0; second = g.0; is = cc }

  -- by an accepted list, what is not later than that place is not expired
  pub unexpired : accepted ds os e ≡ true → in_span S.Utc m.day m.micro ≡ true → (w n : ℕ) → answer (micros_at w) ≡ outcome (placing m ds os e) → n ≤ w →
      is_expired_tai ds os e (micros_at n) ≡ false
  unexpired v i w n q l =
      let a = at_place (micros_at w) q in
      let p = placed S.Utc m.day m.micro i in
      current_to ds os e v m.day m.micro p.from a.current p.under a.second n
      (ap (le_z (micros_at n)) a.is ∙ micros_le n w ∙ le-leb n w l)

  -- a count of its span, by the way to TAI
  pub left_placing : (r : Result Tai Refusal) (n : ℕ) → Spanned S.Utc n → moment_at S.Utc n ≡ m → Left (of_count S.Utc n (from_utc ds os e)) r →
      counted r ≡ outcome (placing m ds os e)
  left_placing r n i q w = w.is ∙ rw i (ap (λ (x : Moment). outcome (placing x ds os e)) q)
