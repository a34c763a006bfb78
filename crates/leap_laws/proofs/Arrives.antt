-- A TAI count on the way to a time of each scale: which time a change gives, for one accepted list. Assumes nothing.
use mathlib.Core.Path.{◌≡◌, refl, sym, ap, ◌∙◌}
use mathlib.Core.Bool.{Bool, true, false, not, false≢true}
use mathlib.Core.List.{List}
use Prim.Native.Nat.{ℕ, ◌+◌, ◌-◌, ◌*◌, ◌/◌, ◌%◌, ◌<◌, ◌≤◌}
use native.Mathlib.Omega.{arith}
use lib.IntN.{ℤ}
use borrow.Author.Tests.{lt-leb, leb-false}
use Rattle.axis.specs.Meaning.{place_of_day, day_at, micros_at, Moment, day_micros, moment_of}
use Rattle.axis.specs.Diff.{Way, way, below, above}
use Rattle.axis.specs.Axis.{micros_minus, moment_at_lem}
use Rattle.scales.specs.Meaning.{in_span, given, answer, outcome, resulting}
use Rattle.scales.specs.declared.Scale.{Scale}
use Rattle.scales.specs.declared.Scale.TheVariants as S
use Rattle.scales.specs.Place.{span_early, day_part, micro_part}
use Rattle.scales.specs.Order.{no_answer}
use Rattle.leap.specs.Meaning.{accepted, is_expired_tai, utc_of}
use Rattle.leap.specs.Steps.{Steps, steps}
use Rattle.leap.specs.Back.{back, forth, none_before}
use Rattle.leap.specs.Whole.{tai_at, offset_small, known_before, before_known}
use Rattle.via_tai.specs.Meaning.{to_utc, to_scale}
use Rattle.via_tai.specs.Ways.{OnTheWay, far_on, expires}
use Rattle.leap_laws.proofs.Stands.{moment, on_tai, Known, Stands, spans, inside, one}

-- the moment of a count of whole days and microseconds
moment_back : (a u : ℕ) → u < day_micros → moment_of (micros_at (a * day_micros + u)) ≡ moment a u
moment_back a u h = moment_at_lem (a * day_micros + u) ∙ λ i. record { day = day_at (day_part day_micros a u h i); micro = micro_part day_micros a u h i }

gives_in : (s : Scale) (m n : Moment) → m ≡ n → in_span s n.day n.micro ≡ true → outcome (resulting s m) ≡ answer n
gives_in s m n e h = ap (λ (x : Moment). outcome (resulting s x)) e ∙ rw h

module _ (ds : List ℤ) (os : List ℕ) (e : ℤ) (w : accepted ds os e ≡ true) where
  list : Steps ds os e
  list = steps ds os e w

  -- a TAI count of a time that a change does not refuse is well on the axis
  pub on_the_way : (s : Scale) (a u : ℕ) → Stands s ds e a u → OnTheWay (on_tai s ds os a u)
  on_the_way S.Tai a u k = record { from = omega (arith, k.from); to = omega (arith, k.to, k.under) }
  on_the_way S.Utc a u k =
      record { from = omega (arith, k.from); to = omega (arith, k.to, k.under, offset_small ds os e w a) }
  on_the_way S.Gps a u k = record { from = omega (arith, k.from); to = omega (arith, k.to, k.under) }

  pub arrives : (s : Scale) (a u : ℕ) → Stands s ds e a u → outcome (to_scale s ds os e (micros_at (on_tai s ds os a u))) ≡ answer (moment a u)
  arrives S.Tai a u k = gives_in S.Tai (moment_of (micros_at (a * day_micros + u))) (moment a u) (moment_back a u k.under) (inside k)
  arrives S.Gps a u k =
      let q : a * day_micros + u + 19000000 - 19000000 ≡ a * day_micros + u = omega arith in
      ap (λ (z : ℤ). outcome (resulting S.Gps (moment_of z))) (micros_minus (a * day_micros + u + 19000000) 19000000 (omega arith) ∙ ap micros_at q)
      ∙ gives_in S.Gps (moment_of (micros_at (a * day_micros + u))) (moment a u) (moment_back a u k.under) (inside k)
  arrives S.Utc a u k =
      let c = tai_at ds os a u in
      let x = known_before ds os e w a u k.known.1 k.known.0 in
      rw (expires ds os e w c, lt-leb (tai_at ds os (place_of_day e + 1) 0) c x)
      (gives_in S.Utc (utc_of ds os (micros_at c)) (moment a u) (back list.grown a u k.known.1) (inside k))

  pub record Found (s : Scale) (c : ℕ) (m : Moment) : Type 0 where
    pub place : ℕ
    pub micro : ℕ
    pub stands : Stands s ds e place micro
    pub is : m ≡ moment place micro
    pub tai : on_tai s ds os place micro ≡ c

  -- in a scale whose days are those of its count g
  plain_found : (s : Scale) (g c : ℕ) (m : Moment) → outcome (resulting s (moment_of (micros_at g))) ≡ answer m → Known s ds e (g / day_micros) (g % day_micros) →
      on_tai s ds os (g / day_micros) (g % day_micros) ≡ c → Found s c m
  plain_found s g c m h k e =
      let t = one (in_span s (moment_of (micros_at g)).day (moment_of (micros_at g)).micro) 11 (moment_of (micros_at g)) m h in
      let i = spans s (g / day_micros) (g % day_micros) (ap (λ (x : Moment). in_span s x.day x.micro) (sym (moment_at_lem g)) ∙ t.0) in
      record {
        place = g / day_micros;
        micro = g % day_micros;
        stands = record { from = i.0; to = i.1.0; under = i.1.1; known = k };
        is = sym t.1 ∙ moment_at_lem g;
        tai = e;
      }

  -- in UTC, wherever the first offset can be taken away: the span is not tested on the way
  pub found_utc : (c : ℕ) → 10000000 ≤ c → (m : Moment) → outcome (to_utc ds os e (micros_at c)) ≡ answer m → Found S.Utc c m
  found_utc c v m h = go (is_expired_tai ds os e (micros_at c)) refl (way c (29773 * day_micros + 10 * 1000000)) h
    where
      U : Moment
      U = utc_of ds os (micros_at c)

      no : false ≡ true → Found S.Utc c m
      no x = absurd (false≢true x)

      go : (b : Bool) → is_expired_tai ds os e (micros_at c) ≡ b → Way c (29773 * day_micros + 10 * 1000000)
          → outcome (given (not b) 9 (resulting S.Utc U)) ≡ answer m → Found S.Utc c m
      go true p y h = absurd (no_answer h)
      go false p (below y) h =
          let t = one (in_span S.Utc U.day U.micro) 11 U m h in
          let b = none_before list.grown c v y in
          no (sym (span_early S.Utc b.place b.micro b.early) ∙ ap (λ (x : Moment). in_span S.Utc x.day x.micro) (sym b.is) ∙ t.0)
      go false p (above y) h =
          let t = one (in_span S.Utc U.day U.micro) 11 U m h in
          let r = forth list.grown c y in
          let l = leb-false (tai_at ds os (place_of_day e + 1) 0) c (sym (expires ds os e w c) ∙ p) in
          let k = before_known ds os e w c r l in
          record {
            place = r.place;
            micro = r.micro;
            stands = record { from = r.real.from; to = omega (arith, k, list.to); under = r.real.under; known = (k, r.real) };
            is = sym t.1 ∙ r.is;
            tai = r.tai;
          }

  pub found : (s : Scale) (c : ℕ) → OnTheWay c → (m : Moment) → outcome (to_scale s ds os e (micros_at c)) ≡ answer m → Found s c m
  found S.Tai c v m h = plain_found S.Tai c c m h (omega arith) (omega arith)
  found S.Gps c v m h =
      let f : 19000000 ≤ c = omega (arith, v.from) in
      plain_found S.Gps (c - 19000000) c m (ap (λ (z : ℤ). outcome (resulting S.Gps (moment_of z))) (sym (micros_minus c 19000000 f)) ∙ h) (omega arith) (omega arith)
  found S.Utc c v m h = found_utc c (far_on v) m h
