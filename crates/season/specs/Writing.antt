-- What the writer judges and what it writes, from places to the meaning: covers that rise, an entry, a body. Assumes nothing.
use Rattle.std.specs.Prelude.{◌≡◌, refl, Bool, true, false, ◌&&◌, ◌||◌, List, [], ◌++◌, ℕ, zero, suc, ◌+◌, ◌*◌, ◌<◌, min, ltb, eqb, ℤ, length, take, drop, Some, None}
use Rattle.std.proofs.Common.{sym, ap, ap₂, ◌∙◌, arith, length-append, lt-ltb, le-ltb}
use Rattle.std.proofs.Math.Bool.{and-true}
use Rattle.std.proofs.Math.Dec.{eqb-suc-zero}
use Rattle.std.specs.Int.Signed.{lt_z}
use Rattle.axis.specs.Meaning.{bits_of, place_of_day, micros_at, held_micros_at, since}
use Rattle.axis.specs.Diff.{Way, way, below, above, sub_lt}
use Rattle.octets.specs.Meaning.{field}
use Rattle.octets.specs.Field.{length_field}
use Rattle.scales.specs.Place.{and_both}
use Rattle.clock.specs.Meaning.{Cover}
use Rattle.clock.specs.Stage.{spot, since_place}
use Rattle.clock.specs.declared.inner.Ends.{Ends}
use Rattle.sbt.specs.Meaning.{accepted}
use Rattle.sbt.specs.Accepted.{sound}
use Rattle.sbt.specs.declared.Correlation.{Correlation}
use Rattle.season.specs.Meaning.{all, cover_of, correlation_at, words_kept, is_written, rises, body_at, entry_bytes, body_bytes}
use Rattle.season.specs.Covers.{EndsAt, ends_of, cover_tai, cover_runs, spot_few, from_few, to_few}
use Rattle.season.specs.Filling.{lent_part, with_part, fill_none, fill_all, fill_field}
use Rattle.season.specs.Taking.{Taken, cover_at, may_come, Kept, kept, keeps, taken_is}

micros_lt : (a b : ℕ) → lt_z (micros_at a) (micros_at b) ≡ ltb a b
micros_lt a b = sub_lt a 3456000000000000 b 3456000000000000 ∙ go (way a b)
  where
    go : Way a b → ltb (a + 3456000000000000) (b + 3456000000000000) ≡ ltb a b
    go (below h) = rw (lt-ltb a b h) (lt-ltb (a + 3456000000000000) (b + 3456000000000000) (omega arith))
    go (above h) = rw (le-ltb a b h) (le-ltb (a + 3456000000000000) (b + 3456000000000000) (omega arith))

-- ---- all are written as far as k, where the cover before it ends at a place
and_three : (a b c d : Bool) → (b ≡ true → c ≡ d) → ((a && b) && c) ≡ (a && (b && d))
and_three true true c d f = f refl
and_three true false c d f = refl
and_three false b c d f = refl

pub record Writes (ws : List ℤ) (k : ℕ) : Type 0 where
  pub kept : Kept ws k
  pub accepts : accepted (correlation_at ws k) ≡ true

module _ (ws : List ℤ) where
  pub writes : (k : ℕ) → is_written ws k ≡ true → Writes ws k
  writes k e =
      let a = and_both (words_kept ws k) (accepted (correlation_at ws k) && rises (λ j. cover_of (correlation_at ws j)) k) e in
      record { kept = kept ws k a.0; accepts = (and_both (accepted (correlation_at ws k)) (rises (λ j. cover_of (correlation_at ws j)) k) a.1).0 }

  pub next_is_lem : (k before : ℕ) → all (is_written ws) k ≡ true → EndsAt (λ j. (ends_of (correlation_at ws j)).to) k before → may_come ws k before ≡ is_written ws k
  next_is_lem zero before a b =
      and_three (words_kept ws 0) (accepted (correlation_at ws 0)) true (rises (λ j. cover_of (correlation_at ws j)) 0)
      (λ e. sym (cover_runs (correlation_at ws 0) e))
  next_is_lem (suc j) before a b =
      and_three (words_kept ws (suc j)) (accepted (correlation_at ws (suc j))) (eqb (suc j) 0 || ltb before (ends_of (correlation_at ws (suc j))).from)
      (rises (λ i. cover_of (correlation_at ws i)) (suc j)) step
    where
      step : accepted (correlation_at ws (suc j)) ≡ true →
          (eqb (suc j) 0 || ltb before (ends_of (correlation_at ws (suc j))).from) ≡ rises (λ i. cover_of (correlation_at ws i)) (suc j)
      step e =
          let w = writes j (and_both (all (is_written ws) j) (is_written ws j) a).1 in
          let c = correlation_at ws j in
          let d = correlation_at ws (suc j) in
          let p : lt_z (cover_of c).to (cover_of d).from ≡ ltb before (ends_of d).from =
          ap₂ (λ (x y : Cover). lt_z x.to y.from) (cover_tai c w.accepts refl) (cover_tai d e refl)
          ∙ micros_lt (ends_of c).to (ends_of d).from ∙ ap (λ (n : ℕ). ltb n (ends_of d).from) (sym b) in
          rw (eqb-suc-zero j, cover_runs d e, p) (sym (and-true (ltb before (ends_of d).from)))

-- what lies well on the axis is not held to it
held_is : (m : ℕ) → m < 8640000000000000 → held_micros_at m ≡ micros_at m
held_is m h = let q : min m 8640000000000000 ≡ m = omega arith in ap micros_at q

module _ (ws : List ℤ) (k : ℕ) (w : Writes ws k) where
  -- ---- an entry: its cover was found, and is that of the meaning
  pub found_is : (v : Ends) → Some v ≡ cover_at ws k → v ≡ ends_of (correlation_at ws k)
  found_is v q =
      let r : Some v ≡ Some (ends_of (correlation_at ws k)) = q ∙ rw (keeps ws k w.kept, w.accepts) in cc

  pub found_none : None ≡ cover_at ws k → ⊥
  found_none q =
      let r : None ≡ Some (ends_of (correlation_at ws k)) = q ∙ rw (keeps ws k w.kept, w.accepts) in
      let z : ◌≡◌ {A = ℕ} 0 1 = cc in
      omega arith

  pub from_is : held_micros_at (ends_of (correlation_at ws k)).from ≡ (cover_of (correlation_at ws k)).from
  from_is =
      let c = correlation_at ws k in
      held_is (ends_of c).from (from_few c w.accepts) ∙ sym (ap (λ (v : Cover). v.from) (cover_tai c w.accepts refl))

  pub to_is : held_micros_at (ends_of (correlation_at ws k)).to ≡ (cover_of (correlation_at ws k)).to
  to_is =
      let c = correlation_at ws k in
      held_is (ends_of c).to (to_few c w.accepts) ∙ sym (ap (λ (v : Cover). v.to) (cover_tai c w.accepts refl))

  -- three fields, laid one after the other
  pub entry_laid : (n x y : ℕ) (v : Ends) (out p q r : List ℕ) → length out ≡ 20 → cover_at ws k ≡ Some v
      → x ≡ bits_of (held_micros_at v.from) → y ≡ bits_of (held_micros_at v.to)
      → p ≡ field (length (take 8 out)) x
      → q ≡ field (length (lent_part 8 16 (p ++ drop 8 out))) y
      → r ≡ field (length (lent_part 16 20 (with_part 8 16 q (p ++ drop 8 out)))) (body_at n k)
      → with_part 16 20 r (with_part 8 16 q (p ++ drop 8 out)) ≡ entry_bytes n ws k
  entry_laid n x y v out p q r l e f g i j h =
      let d = found_is v (sym e) in
      let u = fill_field 0 8 8 x [] out out p (fill_none out) (omega arith) refl i in
      let t = fill_field 8 16 8 y (field 8 x) out (p ++ drop 8 out) q u (omega arith) refl j in
      let z = fill_field 16 20 4 (body_at n k) (field 8 x ++ field 8 y) out (with_part 8 16 q (p ++ drop 8 out)) r t (omega arith) refl h in
      fill_all 20 (field 8 x ++ field 8 y ++ field 4 (body_at n k)) out (with_part 16 20 r (with_part 8 16 q (p ++ drop 8 out))) z l
      ∙ ap₂ (λ (m o : ℕ). field 8 m ++ field 8 o ++ field 4 (body_at n k))
      (f ∙ ap bits_of (ap (λ (w : Ends). held_micros_at w.from) d ∙ from_is)) (g ∙ ap bits_of (ap (λ (w : Ends). held_micros_at w.to) d ∙ to_is))

  -- ---- a body: what was taken is the meaning's correlation
  pub taken_same : (c : Correlation) → Taken ws k c → c ≡ correlation_at ws k
  taken_same c t = t.is ∙ taken_is ws k w.kept

  pub taken_under : (c : Correlation) → Taken ws k c → c.micro < 86400000000
  taken_under c t = rw (taken_same c t) (sound (correlation_at ws k) w.accepts).under

  -- its reference's microsecond, by its place
  since_is : held_micros_at (spot (correlation_at ws k).day (correlation_at ws k).micro) ≡ since (correlation_at ws k).day (correlation_at ws k).micro
  since_is =
      let c = correlation_at ws k in
      held_is (spot c.day c.micro) (omega (arith, spot_few c w.accepts))
      ∙ sym (since_place c.day c.micro (sound c w.accepts).day)

  -- five fields, laid one after the other
  pub body_laid : (c : Correlation) (d y : ℕ) (out p q r s t : List ℕ) → length out ≡ 28 → Taken ws k c
      → d ≡ place_of_day c.day → y ≡ bits_of (held_micros_at (d * 86400000000 + c.micro))
      → p ≡ field (length (take 4 out)) c.tick.0
      → q ≡ field (length (lent_part 4 12 (p ++ drop 4 out))) y
      → r ≡ field (length (lent_part 12 20 (with_part 4 12 q (p ++ drop 4 out)))) c.period
      → s ≡ field (length (lent_part 20 24 (with_part 12 20 r (with_part 4 12 q (p ++ drop 4 out))))) c.back
      → t ≡ field (length (lent_part 24 28 (with_part 20 24 s (with_part 12 20 r (with_part 4 12 q (p ++ drop 4 out)))))) c.ahead
      → with_part 24 28 t (with_part 20 24 s (with_part 12 20 r (with_part 4 12 q (p ++ drop 4 out)))) ≡ body_bytes ws k
  body_laid c d y out p q r s t l h e f i1 i2 i3 i4 i5 =
      let same = taken_same c h in
      let a = p ++ drop 4 out in
      let b = with_part 4 12 q a in
      let g = with_part 12 20 r b in
      let m = with_part 20 24 s g in
      let x1 = field 4 c.tick.0 in
      let x2 = x1 ++ field 8 y in
      let x3 = x2 ++ field 8 c.period in
      let x4 = x3 ++ field 4 c.back in
      let u1 = fill_field 0 4 4 c.tick.0 [] out out p (fill_none out) (omega arith) refl i1 in
      let u2 = fill_field 4 12 8 y x1 out a q u1 (omega arith) refl i2 in
      let u3 = fill_field 12 20 8 c.period x2 out b r u2 (omega arith) refl i3 in
      let u4 = fill_field 20 24 4 c.back x3 out g s u3 (omega arith) refl i4 in
      let u5 = fill_field 24 28 4 c.ahead x4 out m t u4 (omega arith) refl i5 in
      let z : y ≡ bits_of (since (correlation_at ws k).day (correlation_at ws k).micro) =
      f ∙ ap (λ (j : ℕ). bits_of (held_micros_at (j * 86400000000 + c.micro))) e
      ∙ ap bits_of (ap (λ (v : Correlation). held_micros_at (spot v.day v.micro)) same ∙ since_is) in
      fill_all 28 (x4 ++ field 4 c.ahead) out (with_part 24 28 t m) u5 l
      ∙ ap₂ (λ (v : Correlation) (j : ℕ). field 4 v.tick.0 ++ field 8 j ++ field 8 v.period ++ field 4 v.back ++ field 4 v.ahead) same z

-- ---- how long they are
pub entry_length : (n : ℕ) (ws : List ℤ) (k : ℕ) → length (entry_bytes n ws k) ≡ 20
entry_length n ws k = simp (length-append, length_field)

pub body_length : (ws : List ℤ) (k : ℕ) → length (body_bytes ws k) ≡ 28
body_length ws k = simp (length-append, length_field)
