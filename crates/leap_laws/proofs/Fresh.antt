-- Demand 3: under a list that extends an accepted one every answer is the same, and every refusal but 9 stays. Assumes nothing.
use mathlib.Core.Path.{◌≡◌, refl, sym, ap, ap₂, ◌∙◌}
use mathlib.Core.Bool.{Bool, true, false, cond, not, ◌||◌}
use mathlib.Core.List.{List, [], ◌∷◌, ◌++◌}
use Prim.Native.Nat.{ℕ, ◌+◌, ◌*◌, ◌<◌, ◌≤◌}
use native.Mathlib.Omega.{arith}
use lib.Dec.{ltb}
use lib.IntN.{ℤ, pos, ◌+ℤ◌}
use lib.ListN.{length}
use lib.Signed.{le_z, lt_z}
use borrow.Author.Tests.{lt-leb, le-leb, lt-ltb, le-ltb, leb-true, leb-false, not-true}
use Rattle.axis.specs.Meaning.{place_of_day, day_at, micros_at, Moment, day_micros, since}
use Rattle.axis.specs.Diff.{Way, way, below, above, le_not}
use Rattle.axis.specs.Axis.{day_to, day_le, since_at, day_next, micros_add}
use Rattle.scales.specs.Meaning.{and_then, same_scale, Judged, given, gives, Outcome, refused, answer, outcome, resulting}
use Rattle.scales.specs.Order.{onward, then_is, no_answer}
use Rattle.scales.specs.Place.{and_both}
use Rattle.scales.specs.declared.Scale.{Scale}
use Rattle.scales.specs.declared.Scale.TheVariants as S
use Rattle.calendar.specs.Meaning.{is_first, all_firsts}
use Rattle.leap.specs.Meaning.{seconds, accepted, all_later, through, on_or_before, begun, plain, offset_on, tai_of, is_step, has_micro, is_expired_day, is_expired_tai, utc_of}
use Rattle.leap.specs.Places.{tai_at_lem}
use Rattle.leap.specs.Walk.{or_false, through_append, step_append}
use Rattle.leap.specs.Accept.{first_at_lem}
use Rattle.leap.specs.Steps.{Steps, steps, parts, usable}
use Rattle.leap.specs.Force.{offset_mono}
use Rattle.leap.specs.Back.{said_nothing}
use Rattle.leap.specs.Whole.{expired_at, tai_at, offset_small}
use Rattle.via_tai.specs.Meaning.{from_scale, to_scale}
use Rattle.via_tai.specs.Ways.{expires}
use Rattle.via_tai.specs.Known.{day_by_lem}
use Rattle.changes.specs.Meaning.{settled, moving}
use Rattle.leap_laws.proofs.Stands.{moment, on_tai}

-- ---- days later than the day at place x
later_place : (x : ℕ) (d : ℤ) → x < 100000 → lt_z (day_at x) d ≡ true → x < place_of_day d
later_place x d k h = leb-false (place_of_day d) x (sym (day_to x d k) ∙ le_not d (day_at x) ∙ ap not h)

firsts_more : (ds cs : List ℤ) → all_firsts (ds ++ cs) ≡ true → all_firsts cs ≡ true
firsts_more [] cs h = h
firsts_more (d ∷ ds) cs h = firsts_more ds cs (and_both (is_first d) (all_firsts (ds ++ cs)) h).1

-- ---- further steps, all later than the day at place x, say nothing of what comes before
module _ (x : ℕ) (k : x < 100000) where
  silent_offset : (cs : List ℤ) (ps : List ℕ) (a o : ℕ) → a ≤ x → all_later cs (day_at x) ≡ true → through (on_or_before (day_at a)) o cs ps ≡ o
  unfolding through all_later
  silent_offset [] ps a o h l = refl
  silent_offset (d ∷ cs) [] a o h l = refl
  silent_offset (d ∷ cs) (p ∷ ps) a o h l =
      let t = and_both (lt_z (day_at x) d) (all_later cs (day_at x)) l in
      let q : le_z d (day_at a) ≡ false =
      day_to a d (omega arith) ∙ lt-leb (place_of_day d) a (let z = later_place x d k t.0 in omega arith) in
      rw q (silent_offset cs ps a o h t.1)

  silent_step : (cs : List ℤ) (a : ℕ) → a ≤ x → all_later cs (day_at x) ≡ true → is_step cs (day_at a) ≡ false
  unfolding is_step all_later
  silent_step [] a h l = refl
  silent_step (d ∷ cs) a h l =
      let t = and_both (lt_z (day_at x) d) (all_later cs (day_at x)) l in
      let q : le_z d (day_at a) ≡ false =
      day_to a d (omega arith) ∙ lt-leb (place_of_day d) a (let z = later_place x d k t.0 in omega arith) in
      rw q (silent_step cs a h t.1)

  silent_utc : (cs : List ℤ) (ps : List ℕ) (c : ℕ) (m : Moment) → c < (x + 1) * day_micros → all_firsts cs ≡ true → all_later cs (day_at x) ≡ true
      → through (begun (micros_at c)) m cs ps ≡ m
  unfolding through all_later
  silent_utc [] ps c m h f l = refl
  silent_utc (d ∷ cs) [] c m h f l = refl
  silent_utc (d ∷ cs) (p ∷ ps) c m h f l =
      let t = and_both (lt_z (day_at x) d) (all_later cs (day_at x)) l in
      let g = and_both (is_first d) (all_firsts cs) f in
      let z = later_place x d k t.0 in
      let q : begun (micros_at c) d p m ≡ m =
      ap (λ (y : ℤ). begun (micros_at c) y p m) (sym (first_at_lem d g.0)) ∙ said_nothing (place_of_day d) p c m (omega arith) in
      ap (λ (y : Moment). through (begun (micros_at c)) y cs ps) q ∙ silent_utc cs ps c m h g.1 t.1

-- the value that a time of a scale changes by
value : (s : Scale) (ds : List ℤ) (os : List ℕ) (e : ℤ) (b : Bool) (a u : ℕ) (z : ℤ) → outcome (from_scale s ds os e b (moment a u)) ≡ answer z
    → z ≡ micros_at (on_tai s ds os a u)
value S.Tai ds os e true a u z h = let q = since_at a u in (cc)
value S.Tai ds os e false a u z h = absurd (no_answer h)
value S.Gps ds os e true a u z h =
    let q : since (day_at a) u +ℤ seconds 19 ≡ micros_at (a * day_micros + u + 19000000) =
    ap (λ (y : ℤ). y +ℤ seconds 19) (since_at a u) ∙ micros_add (a * day_micros + u) 19000000 in
    (cc)
value S.Gps ds os e false a u z h = absurd (no_answer h)
value S.Utc ds os e false a u z h = absurd (no_answer h)
value S.Utc ds os e true a u z h = go (is_expired_day e (day_at a)) (has_micro ds (day_at a) u) h
  where
    go : (i j : Bool) → outcome (given (not i) 9 (given j 10 (gives (tai_of ds os (day_at a) u)))) ≡ answer z → z ≡ micros_at (tai_at ds os a u)
    go true j h = absurd (no_answer h)
    go false false h = absurd (no_answer h)
    go false true h = let q = tai_at_lem ds os a u in (cc)

-- ---- list B, (ds ++ cs, os ++ ps, f), extends list A, (ds, os, e)
module _ (ds : List ℤ) (os : List ℕ) (e : ℤ) (w : accepted ds os e ≡ true) (cs : List ℤ) (ps : List ℕ) (f : ℤ)
    (v : accepted (ds ++ cs) (os ++ ps) f ≡ true) (far : all_later cs (e +ℤ pos 1) ≡ true) (ends : le_z e f ≡ true) where
  A : Steps ds os e
  A = steps ds os e w

  B : Steps (ds ++ cs) (os ++ ps) f
  B = steps (ds ++ cs) (os ++ ps) f v

  abbrev x : ℕ
  x = place_of_day e + 1

  small : x < 100000
  small = omega (arith, A.to)

  far_at : all_later cs (day_at x) ≡ true
  far_at = ap (all_later cs) (sym (day_next (place_of_day e)) ∙ ap (λ (z : ℤ). z +ℤ pos 1) A.day) ∙ far

  even : length ds ≡ length os
  even = (usable ds os e w).even

  pub same_offset : (a : ℕ) → a ≤ x → offset_on (ds ++ cs) (os ++ ps) (day_at a) ≡ offset_on ds os (day_at a)
  same_offset a h =
      through_append (on_or_before (day_at a)) 0 ds cs os ps even
      ∙ silent_offset x small cs ps a (offset_on ds os (day_at a)) h far_at

  same_step : (a : ℕ) → a ≤ x → is_step (ds ++ cs) (day_at a) ≡ is_step ds (day_at a)
  same_step a h = step_append ds cs (day_at a) ∙ rw (silent_step x small cs a h far_at) (or_false (is_step ds (day_at a)))

  ends_at : place_of_day e ≤ place_of_day f
  ends_at = leb-true (place_of_day e) (place_of_day f) (sym (day_le (place_of_day e) (place_of_day f)) ∙ ap₂ le_z A.day B.day ∙ ends)

  -- a day that is not expired under A is not under B, and has the same seconds
  pub day_current : (d : ℤ) → is_expired_day e d ≡ false → is_expired_day f d ≡ false
  day_current d h =
      not-true (lt_z f d)
      (sym (le_not d f) ∙ ap (le_z d) (sym B.day) ∙ day_to (place_of_day f) d (omega (arith, B.to))
      ∙ le-leb (place_of_day d) (place_of_day f) (omega (arith, day_by_lem ds os e w d h, ends_at)))

  pub same_second : (a u : ℕ) → a ≤ place_of_day e → has_micro (ds ++ cs) (day_at a) u ≡ has_micro ds (day_at a) u
  same_second a u h =
      ap (λ (b : Bool). ltb u day_micros || b)
      (ap (is_step (ds ++ cs)) (day_next a) ∙ same_step (a + 1) (omega arith) ∙ ap (is_step ds) (sym (day_next a)))

  -- B ends no earlier than A
  limits : tai_at ds os x 0 ≤ tai_at (ds ++ cs) (os ++ ps) (place_of_day f + 1) 0
  limits =
      omega (arith, ends_at, same_offset x (omega arith), offset_mono B.grown x (place_of_day f + 1) (omega (arith, A.from)) (omega (arith, ends_at)))

  -- a TAI count that is not expired under A is not under B, and is the TAI of the same UTC time
  pub count_current : (c : ℕ) → c < tai_at ds os x 0 → is_expired_tai (ds ++ cs) (os ++ ps) f (micros_at c) ≡ false
  count_current c h = expires (ds ++ cs) (os ++ ps) f v c ∙ lt-leb (tai_at (ds ++ cs) (os ++ ps) (place_of_day f + 1) 0) c (omega (arith, limits))

  pub same_utc : (c : ℕ) → c < tai_at ds os x 0 → utc_of (ds ++ cs) (os ++ ps) (micros_at c) ≡ utc_of ds os (micros_at c)
  same_utc c h =
      through_append (begun (micros_at c)) (plain 10 (micros_at c)) ds cs os ps even
      ∙ silent_utc x small cs ps c (utc_of ds os (micros_at c)) (omega (arith, offset_small ds os e w x))
      (firsts_more ds cs (parts (ds ++ cs) (os ++ ps) f v).firsts) far_at

  -- ---- to the TAI count, and from it
  from_kept : (s : Scale) (b : Bool) (a u : ℕ) → (outcome (from_scale s ds os e b (moment a u)) ≡ refused 9 → ⊥)
      → outcome (from_scale s (ds ++ cs) (os ++ ps) f b (moment a u)) ≡ outcome (from_scale s ds os e b (moment a u))
  from_kept S.Tai b a u h = refl
  from_kept S.Gps b a u h = refl
  from_kept S.Utc false a u h = refl
  from_kept S.Utc true a u h = go (way (place_of_day e) a)
    where
      go : Way (place_of_day e) a → outcome (from_scale S.Utc (ds ++ cs) (os ++ ps) f true (moment a u)) ≡ outcome (from_scale S.Utc ds os e true (moment a u))
      go (below l) = absurd (h (rw (expired_at ds os e w a, lt-ltb (place_of_day e) a l)))
      go (above l) =
          let q : is_expired_day e (day_at a) ≡ false = expired_at ds os e w a ∙ le-ltb (place_of_day e) a l in
          rw (q, day_current (day_at a) q, same_second a u l, same_offset a (omega arith)) refl

  to_kept : (s : Scale) (c : ℕ) → (outcome (to_scale s ds os e (micros_at c)) ≡ refused 9 → ⊥)
      → outcome (to_scale s (ds ++ cs) (os ++ ps) f (micros_at c)) ≡ outcome (to_scale s ds os e (micros_at c))
  to_kept S.Tai c h = refl
  to_kept S.Gps c h = refl
  to_kept S.Utc c h = go (way c (tai_at ds os x 0))
    where
      go : Way c (tai_at ds os x 0) → outcome (to_scale S.Utc (ds ++ cs) (os ++ ps) f (micros_at c)) ≡ outcome (to_scale S.Utc ds os e (micros_at c))
      go (above l) = absurd (h (rw (expires ds os e w c, le-leb (tai_at ds os x 0) c l)))
      go (below l) =
          rw (expires ds os e w c, lt-leb (tai_at ds os x 0) c l, count_current c l)
          (ap (λ (m : Moment). outcome (resulting S.Utc m)) (same_utc c l))

  settled_kept : (s to : Scale) (m : Moment) (c : ℕ) → (outcome (settled s to ds os e m (micros_at c)) ≡ refused 9 → ⊥)
      → outcome (settled s to (ds ++ cs) (os ++ ps) f m (micros_at c)) ≡ outcome (settled s to ds os e m (micros_at c))
  settled_kept s to m c h = go (same_scale s to) h
    where
      go : (b : Bool) → (outcome (cond b (gives m) (to_scale to ds os e (micros_at c))) ≡ refused 9 → ⊥)
          → outcome (cond b (gives m) (to_scale to (ds ++ cs) (os ++ ps) f (micros_at c))) ≡ outcome (cond b (gives m) (to_scale to ds os e (micros_at c)))
      go true h = refl
      go false h = to_kept to c h

  pub kept : (s to : Scale) (b : Bool) (a u : ℕ) → (outcome (moving s to ds os e b (moment a u)) ≡ refused 9 → ⊥)
      → outcome (moving s to (ds ++ cs) (os ++ ps) f b (moment a u)) ≡ outcome (moving s to ds os e b (moment a u))
  kept s to b a u h = go (outcome j) refl
    where
      j : Judged ℤ
      j = from_scale s ds os e b (moment a u)

      g : ℤ → Judged Moment
      g = settled s to ds os e (moment a u)

      g' : ℤ → Judged Moment
      g' = settled s to (ds ++ cs) (os ++ ps) f (moment a u)

      Same : Type 0
      Same = outcome (moving s to (ds ++ cs) (os ++ ps) f b (moment a u)) ≡ outcome (moving s to ds os e b (moment a u))

      by : (y : Outcome ℤ) → outcome j ≡ y → outcome (and_then j g) ≡ onward g y
      by y p = then_is j g ∙ ap (onward g) p

      same : (y : Outcome ℤ) → outcome j ≡ y → (y ≡ refused 9 → ⊥) → onward g' y ≡ onward g y → Same
      same y p n q =
          then_is (from_scale s (ds ++ cs) (os ++ ps) f b (moment a u)) g'
          ∙ ap (onward g') (from_kept s b a u (λ r. n (sym p ∙ r)) ∙ p)
          ∙ q ∙ sym (by y p)

      go : (y : Outcome ℤ) → outcome j ≡ y → Same
      go (refused n) p = same (refused n) p (λ r. h (by (refused n) p ∙ (let q : n ≡ 9 = cc in ap refused q))) refl
      go (answer z) p =
          let c = on_tai s ds os a u in
          let q = value s ds os e b a u z p in
          same (answer z) p (λ r. absurd (let i : ◌≡◌ {A = ℕ} 0 1 = cc in omega arith))
          (ap (λ (i : ℤ). outcome (g' i)) q
          ∙ settled_kept s to (moment a u) c (λ r. h (by (answer z) p ∙ ap (λ (i : ℤ). outcome (g i)) q ∙ r))
          ∙ ap (λ (i : ℤ). outcome (g i)) (sym q))
