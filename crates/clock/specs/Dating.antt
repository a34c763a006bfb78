-- The chain of a date by what the code finds on the places: one law for each way out of `inner::date`, and the chain of a counter's
-- dates from what its crate reckoned. Assumes nothing.
use Rattle.std.specs.Prelude.{◌≡◌, refl, Bool, true, false, ◌&&◌, List, ℕ, ◌≤◌, ◌<◌, ltb, ℤ, Some, None}
use Rattle.std.proofs.Common.{sym, ap, ap₂, ◌∙◌, arith, le-leb}
use Rattle.std.proofs.lemmas.Bool.{lt-leb}
use Rattle.axis.specs.Meaning.{micros_at, Moment, day_micros, since}
use Rattle.axis.specs.Axis.{micros_le, moment_at_lem}
use Rattle.scales.specs.Meaning.{in_span, dated, Slip, refused, answer, outcome, resulting}
use Rattle.scales.specs.Order.{no_answer}
use Rattle.scales.specs.Place.{and_both}
use Rattle.scales.specs.declared.Scale.{Scale}
use Rattle.scales.specs.declared.Scale.TheVariants as S
use Rattle.leap.specs.Meaning.{has_micro, is_expired_day, is_expired_tai}
use Rattle.via_tai.specs.Meaning.{to_utc}
use Rattle.clock.specs.Meaning.{Clock, elapsed, time, in_window, Cover, cover, list_serves, is_current, dating}
use Rattle.clock.specs.Places.{time_at, ends_at, cover_of, within_at, window_at, reckoned_at, count_from, within_place, elapsed_place, Based, time_place, cover_place, window_place}
use Rattle.clock.specs.Stage.{spot, place_in, placing, judging, judging_own, result_at, lacking_at, At, at_place, found, none, held, since_place}
use Rattle.clock.specs.declared.inner.Ends.{Ends}
use Rattle.clock.specs.declared.inner.Reckoned.{Reckoned}

-- ---- under a TAI or GPS correlation
module _ (s : Scale) (i : Bool) (v : Ends) (m : ℕ) (d : ℤ) (u : ℕ) where
  pub own_7 : place_in s d u ≡ None → dated s (refused 7) ≡ dated s (outcome (judging_own s i (cover_of v) (micros_at m) d u))
  own_7 f = rw (none (in_span s d u && ltb u day_micros) (spot d u) f)

  module _ (w : ℕ) (f : place_in s d u ≡ Some w) where
    in_day : (in_span s d u && ltb u day_micros) ≡ true
    in_day = (found (in_span s d u && ltb u day_micros) (spot d u) w f).0

    since_is : since d u ≡ micros_at w
    since_is =
        since_place d u (held s d u (and_both (in_span s d u) (ltb u day_micros) in_day).0)
        ∙ ap micros_at (found (in_span s d u && ltb u day_micros) (spot d u) w f).1

    pub own_out : i ≡ false → dated s (refused 8) ≡ dated s (outcome (judging_own s i (cover_of v) (micros_at m) d u))
    own_out g = rw (in_day, g)

    module _ (g : i ≡ true) where
      pub own_8 : within_at v w ≡ false → dated s (refused 8) ≡ dated s (outcome (judging_own s i (cover_of v) (micros_at m) d u))
      own_8 k = rw (in_day, g, since_is, within_place v w, k)

      module _ (k : within_at v w ≡ true) where
        pub own_17 : w < m → dated s (refused 17) ≡ dated s (outcome (judging_own s i (cover_of v) (micros_at m) d u))
        own_17 l = rw (in_day, g, since_is, within_place v w, k, micros_le m w, lt-leb m w l)

        pub own_at : m ≤ w → result_at s m ≡ dated s (outcome (judging_own s i (cover_of v) (micros_at m) d u))
        own_at l =
            ap (λ (x : Moment). dated s (outcome (resulting s x))) (sym (moment_at_lem m))
            ∙ rw (in_day, g, since_is, within_place v w, k, micros_le m w, le-leb m w l)

-- ---- under a UTC correlation
module _ (current inside : Bool) (v : Ends) (m : ℕ) (d : ℤ) (u : ℕ) (ds : List ℤ) (os : List ℕ) (e : ℤ) where
  abbrev Given : Slip → Type 0
  Given r = r ≡ dated S.Utc (outcome (judging S.Utc current inside (cover_of v) (micros_at m) d u ds os e))

  pub date_7 : in_span S.Utc d u ≡ false → Given (dated S.Utc (refused 7))
  date_7 f = rw f

  module _ (f : in_span S.Utc d u ≡ true) where
    pub date_out : inside ≡ false → Given (dated S.Utc (refused 8))
    date_out g = rw (f, g)

    module _ (g : inside ≡ true) where
      pub date_stale : current ≡ false → Given (dated S.Utc (refused 9))
      date_stale k = rw (f, g, k)

      module _ (k : current ≡ true) where
        abbrev moment : Moment
        moment = record { day = d; micro = u }

        module _ (w : ℕ) (p : answer (micros_at w) ≡ outcome (placing moment ds os e)) where
          at : At moment ds os e (micros_at w)
          at = at_place moment ds os e (micros_at w) p

          pub date_8 : within_at v w ≡ false → Given (dated S.Utc (refused 8))
          date_8 q = rw (f, g, k, at.current, at.second, at.is, within_place v w, q)

          module _ (q : within_at v w ≡ true) where
            pub date_17 : w < m → Given (dated S.Utc (refused 17))
            date_17 l = rw (f, g, k, at.current, at.second, at.is, within_place v w, q, micros_le m w, lt-leb m w l)

            pub date_at_lem : m ≤ w → Given (dated S.Utc (outcome (to_utc ds os e (micros_at m))))
            date_at_lem l = rw (f, g, k, at.current, at.second, at.is, within_place v w, q, micros_le m w, le-leb m w l)

        pub date_lacks : (n : ℕ) → refused n ≡ outcome (placing moment ds os e) → Given (dated S.Utc (refused (lacking_at n (micros_at m) ds os e)))
        date_lacks n p = go (is_expired_day e d) refl (has_micro ds d u) refl (is_expired_tai ds os e (micros_at m)) refl
          where
            number : (j : ℕ) → outcome (placing moment ds os e) ≡ refused j → n ≡ j
            number j q = let z : refused n ≡ refused j = p ∙ q in cc

            go : (b : Bool) → is_expired_day e d ≡ b → (c : Bool) → has_micro ds d u ≡ c → (x : Bool) → is_expired_tai ds os e (micros_at m) ≡ x →
                Given (dated S.Utc (refused (lacking_at n (micros_at m) ds os e)))
            go false y true z x o = absurd (no_answer (rw (y, z) at p))
            go false y false z true o = rw (f, g, k, y, z, o)
            go false y false z false o = rw (f, g, k, y, z, o, number 10 (rw (y, z)))
            go true y c z true o = rw (f, g, k, y, o)
            go true y c z false o = rw (f, g, k, y, o, number 9 (rw y))

-- ---- a counter's date, by what its crate reckoned: whether the reference is current, the count, whether it is in the window, the cover's
-- ends and the count's time
module _ (accepted : Bool) (a : accepted ≡ true) (c : Clock) (ds : List ℤ) (os : List ℕ) (e : ℤ) (l : list_serves c.scale ds os e ≡ true)
    (r : ℕ) (b : Based c r) (t : ℕ) where
  date_is : (d : ℤ) (u : ℕ) → let k = count_from c.half t c.reference in
      outcome (judging c.scale (is_current c.scale e c.day) (window_at c.half c.back c.ahead k)
      (cover_of (ends_at r c.gain c.per c.half c.back c.ahead)) (micros_at (time_at r c.gain c.per c.half k)) d u ds os e)
      ≡ outcome (dating accepted c t d u ds os e)
  date_is d u =
      let k = count_from c.half t c.reference in
      let n = is_current c.scale e c.day in
      let p = elapsed_place c t (omega (arith, b.runs.ahead_to)) in
      sym (ap (λ (i : Bool). outcome (judging c.scale n i (cover c) (time c (elapsed c t)) d u ds os e))
      (ap (in_window c) p ∙ window_place c b.runs.back_to k)
      ∙ ap₂ (λ (v : Cover) (z : ℤ). outcome (judging c.scale n (window_at c.half c.back c.ahead k) v z d u ds os e))
      (cover_place c r b) (ap (time c) p ∙ time_place c r b k))
      ∙ rw (l, a)

  pub date_found : (n : Bool) → n ≡ is_current c.scale e c.day → (k : Reckoned) →
      k ≡ reckoned_at r c.gain c.per c.half c.back c.ahead (count_from c.half t c.reference) →
      (d y : ℤ) → d ≡ y → (u : ℕ) → (x : ℤ) → x ≡ e →
      outcome (judging c.scale n k.inside (cover_of k.ends) (micros_at k.at) d u ds os x) ≡ outcome (dating accepted c t y u ds os e)
  date_found n j k f d y z u o p =
      let s = c.scale in
      ap (λ (x : ℤ). outcome (judging s n k.inside (cover_of k.ends) (micros_at k.at) d u ds os x)) p
      ∙ ap₂ (λ (w : ℤ) (i : Bool). outcome (judging s i k.inside (cover_of k.ends) (micros_at k.at) w u ds os e)) z j
      ∙ ap (λ (x : Reckoned). outcome (judging s (is_current s e c.day) x.inside (cover_of x.ends) (micros_at x.at) y u ds os e)) f
      ∙ date_is y u
