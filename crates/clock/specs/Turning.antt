-- The way back by what the code finds on the places: one law for each way out of `inner::turn`, and the count of a time from what a
-- counter's crate reckoned. Assumes nothing.
use Rattle.std.specs.Prelude.{◌≡◌, refl, Bool, true, false, cond, not, ◌&&◌, ◌||◌, List, ℕ, ◌+◌, ◌-◌, ◌*◌, ◌/◌, ◌≤◌, ◌<◌, leb, ℤ, Result, Err}
use Rattle.std.proofs.Common.{sym, ap, ◌∙◌, arith, add-mul, div-mul-le_self, mul-le-mul_right, leb-true}
use Rattle.std.proofs.Math.Nat.{lt-div-mul-add}
use Rattle.axis.specs.Meaning.{micros_at, Moment, since}
use Rattle.scales.specs.Meaning.{same_scale, Judged, given, gives, refused, answer, outcome, number_of, moment_at, record_at, time_scale, time_count}
use Rattle.scales.specs.Order.{onward, then_is, passed, no_answer}
use Rattle.scales.specs.Place.{and_both}
use Rattle.scales.specs.declared.Scale.{Scale}
use Rattle.scales.specs.declared.Scale.TheVariants as S
use Rattle.scales.specs.declared.Record.{Record}
use Rattle.scales.specs.declared.Time.{Time}
use Rattle.handed.specs.declared.Handed.{Handed}
use Rattle.handed.specs.declared.Handed.TheVariants as H
use Rattle.handed.specs.declared.Untaken.{Untaken}
use Rattle.handed.specs.Told.{Told, told_record, untaken_lem}
use Rattle.handed.specs.Meaning.{is_finite, is_in_span, day_of, micro_of, Took, refusal_by}
use Rattle.leap.specs.Meaning.{has_micro, is_expired_day}
use Rattle.via_tai.specs.Meaning.{is_utc}
use Rattle.clock.specs.Meaning.{Clock, Cover, cover, within, covers, list_serves, is_current, is_known, has_second, last_count, count_at, instant_of, has_image, turning}
use Rattle.clock.specs.Places.{time_at, last_at, ends_at, cover_of, within_at, shown_at, within_place, count_place, Based, divided_place, cover_place, last_few}
use Rattle.clock.specs.Stage.{Spanned, placing, covering, covering_own, unaccepted_by, At, at_place, count_since}
use Rattle.clock.specs.Window.{last_is}
use Rattle.clock.specs.declared.inner.Ends.{Ends}

-- ---- under a TAI or GPS correlation: a handed time that was not taken, and one that was
module _ (s : Scale) (v : Cover) (h : Handed) where
  pub own_4 : is_finite h ≡ false → refused 4 ≡ outcome (covering_own s v h)
  own_4 f = rw f

  pub own_7 : is_finite h ≡ true → is_in_span h ≡ false → refused 7 ≡ outcome (covering_own s v h)
  own_7 f g = rw (f, g)

  pub own_untaken : (t : Result Time Untaken) → Took h t → (e : Untaken) → t ≡ Err e → refused (number_of (refusal_by e)) ≡ outcome (covering_own s v h)
  own_untaken t w e q =
      sym (untaken_lem h t w e q
      (given (not (has_image s h) || within v (since (day_of h) (micro_of h))) 8 (given (has_image s h) 12 (gives (since (day_of h) (micro_of h))))))

  pub own_at : (t : Time) → Told h t → outcome (covering_own s v (H.Record (record_at (time_scale t) (time_count t)))) ≡ outcome (covering_own s v h)
  own_at t w =
      ap (λ (r : Record). outcome (covering_own s v (H.Record r))) (told_record h t w)
      ∙ rw (w.kept, w.finite, w.inside)

-- a time of its scale's span
module _ (s : Scale) (v : Ends) (z : Scale) (n : ℕ) (i : Spanned z n) where
  pub own_12 : same_scale z s ≡ false → refused 12 ≡ outcome (covering_own s (cover_of v) (H.Record (record_at z n)))
  own_12 g = rw (i, g)

  module _ (g : same_scale z s ≡ true) (u : is_utc z ≡ false) where
    pub own_8 : within_at v n ≡ false → refused 8 ≡ outcome (covering_own s (cover_of v) (H.Record (record_at z n)))
    own_8 k = rw (i, g, count_since z u n, within_place v n, k)

    pub own_in : within_at v n ≡ true → answer (micros_at n) ≡ outcome (covering_own s (cover_of v) (H.Record (record_at z n)))
    own_in k = rw (i, g, count_since z u n, within_place v n, k)

-- ---- under a UTC correlation: the same
module _ (n : Bool) (v : Cover) (h : Handed) (ds : List ℤ) (os : List ℕ) (e : ℤ) where
  pub turn_4 : is_finite h ≡ false → refused 4 ≡ outcome (covering S.Utc n v h ds os e)
  turn_4 f = rw f

  pub turn_7 : is_finite h ≡ true → is_in_span h ≡ false → refused 7 ≡ outcome (covering S.Utc n v h ds os e)
  turn_7 f g = rw (f, g)

  pub turn_untaken : (t : Result Time Untaken) → Took h t → (u : Untaken) → t ≡ Err u → refused (number_of (refusal_by u)) ≡ outcome (covering S.Utc n v h ds os e)
  turn_untaken t w u q =
      sym (untaken_lem h t w u q
      (given (not (has_image S.Utc h) || cond (n && is_known S.Utc ds e (day_of h) (micro_of h)) (within v (instant_of S.Utc ds os h)) true) 8
      (given (n && (not (has_image S.Utc h) || is_current S.Utc e (day_of h))) 9
      (given (not (has_image S.Utc h) || has_second S.Utc ds (day_of h) (micro_of h)) 10
      (given (has_image S.Utc h) 12 (gives (instant_of S.Utc ds os h)))))))

  pub turn_stale : is_finite h ≡ true → is_in_span h ≡ true → n ≡ false → refused 9 ≡ outcome (covering S.Utc n v h ds os e)
  turn_stale f g k = go (has_image S.Utc h) refl
    where
      go : (b : Bool) → has_image S.Utc h ≡ b → refused 9 ≡ outcome (covering S.Utc n v h ds os e)
      go true i = rw (f, g, k, i)
      go false i = rw (f, g, k, i)

  pub turn_at : n ≡ true → (t : Time) → Told h t →
      outcome (covering S.Utc true v (H.Record (record_at (time_scale t) (time_count t))) ds os e) ≡ outcome (covering S.Utc n v h ds os e)
  turn_at k t w =
      ap (λ (r : Record). outcome (covering S.Utc true v (H.Record r) ds os e)) (told_record h t w)
      ∙ rw (w.kept, w.finite, w.inside, k)

pub turn_12 : (s : Scale) (n : ℕ) (v : Ends) (ds : List ℤ) (os : List ℕ) (e : ℤ) → Spanned s n → same_scale s S.Utc ≡ false →
    refused 12 ≡ outcome (covering S.Utc true (cover_of v) (H.Record (record_at s n)) ds os e)
turn_12 s n v ds os e i g = rw (i, g)

-- a UTC time of its span
module _ (v : Ends) (n : ℕ) (ds : List ℤ) (os : List ℕ) (e : ℤ) (i : Spanned S.Utc n) where
  abbrev moment : Moment
  moment = moment_at S.Utc n

  pub turn_lacks : (j : ℕ) → refused j ≡ outcome (placing moment ds os e) → refused j ≡ outcome (covering S.Utc true (cover_of v) (H.Record (record_at S.Utc n)) ds os e)
  turn_lacks j p = go (is_expired_day e moment.day) refl (has_micro ds moment.day moment.micro) refl
    where
      go : (b : Bool) → is_expired_day e moment.day ≡ b → (c : Bool) → has_micro ds moment.day moment.micro ≡ c →
          refused j ≡ outcome (covering S.Utc true (cover_of v) (H.Record (record_at S.Utc n)) ds os e)
      go false y true z = absurd (no_answer (rw (y, z) at p))
      go false y false z = p ∙ rw (i, y, z)
      go true y c z = p ∙ rw (i, y)

  module _ (w : ℕ) (p : answer (micros_at w) ≡ outcome (placing moment ds os e)) where
    at : At moment ds os e (micros_at w)
    at = at_place moment ds os e (micros_at w) p

    pub turn_8 : within_at v w ≡ false → refused 8 ≡ outcome (covering S.Utc true (cover_of v) (H.Record (record_at S.Utc n)) ds os e)
    turn_8 q = rw (i, at.current, at.second, at.is, within_place v w, q)

    pub turn_in : within_at v w ≡ true → answer (micros_at w) ≡ outcome (covering S.Utc true (cover_of v) (H.Record (record_at S.Utc n)) ds os e)
    turn_in q = rw (i, at.current, at.second, at.is, within_place v w, q)

-- ---- what is found is in the cover
pub turned_in : (s : Scale) (n : Bool) (v : Cover) (h : Handed) (ds : List ℤ) (os : List ℕ) (e z : ℤ) →
    outcome (covering s n v h ds os e) ≡ answer z → within v z ≡ true
turned_in s n v h ds os e z q =
    let i = instant_of s ds os h in
    let m = has_image s h in
    let c = is_current s e (day_of h) in
    let b = has_second s ds (day_of h) (micro_of h) in
    let x = not m || cond (n && (c && b)) (within v i) true in
    let y = n && (not m || c) in
    let o = not m || b in
    let f = passed (is_finite h) 4 (given (is_in_span h) 7 (given x 8 (given y 9 (given o 10 (given m 12 (gives i)))))) z q in
    let g = passed (is_in_span h) 7 (given x 8 (given y 9 (given o 10 (given m 12 (gives i))))) z f.1 in
    let k = passed x 8 (given y 9 (given o 10 (given m 12 (gives i)))) z g.1 in
    let l = passed y 9 (given o 10 (given m 12 (gives i))) z k.1 in
    let p = passed o 10 (given m 12 (gives i)) z l.1 in
    let r = passed m 12 (gives i) z p.1 in
    let d = and_both n (not m || c) l.0 in
    let w : i ≡ z = cc in
    ap (within v) (sym w) ∙ (rw (r.0, d.0, (rw r.0 at d.1), (rw r.0 at p.0)) at k.0)

-- ---- a place in the cover of a clock: how far it lies from the start, in parts
pub record Near (r n d h a w : ℕ) : Type 0 where
  pub low : r < (w + 1) * d + h * n
  pub high : w * d ≤ r + a * n

near_at : (r n d h b a w : ℕ) → 0 < d → b ≤ h → h * n ≤ r → within_at (ends_at r n d h b a) w ≡ true → Near r n d h a w
near_at r n d h b a w p l k e =
    let v = and_both (leb (time_at r n d h (h - b)) w) (leb w (time_at r n d h (h + a))) e in
    record {
      low = low ((h - b) * n) (h * n) (omega (arith, mul-le-mul_right n (back h b))) k (leb-true (time_at r n d h (h - b)) w v.0);
      high = high (add-mul h a n) (leb-true w (time_at r n d h (h + a)) v.1);
    }
  where
    back : (h b : ℕ) → h - b ≤ h
    back h b = omega arith

    low : (x y : ℕ) → x ≤ y → y ≤ r → (r + x - y) / d ≤ w → r < (w + 1) * d + y
    low x y f g q = omega (arith, lt-div-mul-add {a = r + x - y} p, mul-le-mul_right d q)

    high : (h + a) * n ≡ h * n + a * n → w ≤ (r + (h + a) * n - h * n) / d → w * d ≤ r + a * n
    high f q = omega (arith, f, mul-le-mul_right d q, div-mul-le_self (r + (h + a) * n - h * n) d)

-- ---- a counter's way back, by what was found and the division
module _ (accepted : Bool) (c : Clock) (h : Handed) (ds : List ℤ) (os : List ℕ) (e : ℤ) where
  pub turn_listless : list_serves c.scale ds os e ≡ false → refused (unaccepted_by h 5) ≡ outcome (turning accepted c h ds os e)
  turn_listless l = go (is_finite h) refl
    where
      go : (f : Bool) → is_finite h ≡ f → refused (unaccepted_by h 5) ≡ outcome (turning accepted c h ds os e)
      go true g = rw (g, l)
      go false g = rw g

  pub turn_unaccepted : list_serves c.scale ds os e ≡ true → accepted ≡ false → refused (unaccepted_by h 6) ≡ outcome (turning accepted c h ds os e)
  turn_unaccepted l a = go (is_finite h) refl
    where
      go : (f : Bool) → is_finite h ≡ f → refused (unaccepted_by h 6) ≡ outcome (turning accepted c h ds os e)
      go true g = rw (g, l, a)
      go false g = rw g

module _ (accepted : Bool) (a : accepted ≡ true) (c : Clock) (ds : List ℤ) (os : List ℕ) (e : ℤ) (l : list_serves c.scale ds os e ≡ true)
    (r : ℕ) (b : Based c r) (h : Handed) where
  abbrev ends : Ends
  ends = ends_at r c.gain c.per c.half c.back c.ahead

  abbrev current : Bool
  current = is_current c.scale e c.day

  abbrev counted : ℤ → Judged ℕ
  counted z = gives (count_at c (last_count c z))

  turned : onward counted (outcome (covering c.scale current (cover_of ends) h ds os e)) ≡ outcome (turning accepted c h ds os e)
  turned =
      ap (λ (v : Cover). onward counted (outcome (covering c.scale current v h ds os e))) (sym (cover_place c r b))
      ∙ sym (then_is (covering c.scale current (cover c) h ds os e) counted)
      ∙ rw (l, a)

  pub turn_not : (n : ℕ) → refused n ≡ outcome (covering c.scale current (cover_of ends) h ds os e) → refused n ≡ outcome (turning accepted c h ds os e)
  turn_not n q = ap (onward counted) q ∙ turned

  module _ (w : ℕ) (q : answer (micros_at w) ≡ outcome (covering c.scale current (cover_of ends) h ds os e)) where
    in_cover : within (cover_of ends) (micros_at w) ≡ true
    in_cover = turned_in c.scale current (cover_of ends) h ds os e (micros_at w) (sym q)

    pub near : Near r c.gain c.per c.half c.ahead w
    near =
        near_at r c.gain c.per c.half c.back c.ahead w b.runs.whole b.runs.back_to (omega (arith, b.early))
        (sym (within_place ends w) ∙ in_cover)

    covered : covers c (micros_at w) ≡ true
    covered = ap (λ (v : Cover). within v (micros_at w)) (cover_place c r b) ∙ in_cover

    pub few : last_at r c.gain c.per c.half w < 2 * c.half
    few = last_few c r b w covered near.low

    pub turn_is : answer (shown_at c.half c.reference (last_at r c.gain c.per c.half w)) ≡ outcome (turning accepted c h ds os e)
    turn_is =
        ap answer (sym (ap (count_at c) (last_is c b.runs (micros_at w) covered ∙ divided_place c r b w near.low)
        ∙ count_place c (last_at r c.gain c.per c.half w) (omega (arith, b.runs.ahead_to))))
        ∙ ap (onward counted) q ∙ turned
