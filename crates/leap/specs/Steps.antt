-- An accepted list as it grows, one step at a time from the first, and what a search through it relies on. Assumes nothing.
use Rattle.std.specs.Prelude.{◌≡◌, refl, true, ◌&&◌, ℕ, zero, suc, ◌+◌, ◌<◌, ◌≤◌, leb, eqb, ℤ, pos, negsuc, ◌+ℤ◌, length, get_or}
use Rattle.std.proofs.Math.Path.{sym, ap, subst}
use Rattle.std.proofs.Common.{◌∙◌, arith, lit<, lit≤, length-append}
use Rattle.std.proofs.lemmas.Bool.{false≢true}
use mathlib.Core.List.{List, [], ◌∷◌, ◌++◌, append_assoc, append-nil}
use Rattle.std.specs.Int.Signed.{le_z, lt_z}
use borrow.Author.Tests.{leb-true, ltb-true, eqb-true}
use Rattle.axis.specs.Meaning.{place_of_day, day_at}
use Rattle.axis.specs.Axis.{day_place, day_to, day_lt, day_next}
use Rattle.scales.specs.Place.{and_both}
use Rattle.calendar.specs.Meaning.{is_first, all_firsts}
use Rattle.calendar.specs.Told.{first_span}
use Rattle.leap.specs.Meaning.{same_day, are_steps, begins, rises_from, rises, counts_from, counts_up, ends_in, none_later, accepted}
use Rattle.leap.specs.Places.{same_at}
use Rattle.leap.specs.Accept.{first_at_lem, firsts_at, ends_span}

-- the steps up to (s, o), none later than place b
pub data Grown (b : ℕ) : List ℤ → List ℕ → ℕ → ℕ → Type 0 where
  one : 29773 ≤ b → Grown b (day_at 29773 ∷ []) (10 ∷ []) 29773 10
  more : {ds : List ℤ} {os : List ℕ} {s o : ℕ} (t : ℕ) → Grown b ds os s o → s < t → t ≤ b
      → Grown b (ds ++ day_at t ∷ []) (os ++ (o + 1) ∷ []) t (o + 1)

pub grown_even : {b : ℕ} {ds : List ℤ} {os : List ℕ} {s o : ℕ} → Grown b ds os s o → length ds ≡ length os
grown_even (one h) = refl
grown_even (more {ds} {os} {s} {o} t g h k) =
    omega (arith, grown_even g, length-append ds (day_at t ∷ []), length-append os ((o + 1) ∷ []))

grown_offset : {b : ℕ} {ds : List ℤ} {os : List ℕ} {s o : ℕ} → Grown b ds os s o → o ≡ length ds + 9
grown_offset (one h) = refl
grown_offset (more {ds} {os} {s} {o} t g h k) = omega (arith, grown_offset g, length-append ds (day_at t ∷ []))

-- the last step stands between the first and b, and its offset is 10 or more
pub record Last (b s o : ℕ) : Type 0 where
  pub from : 29773 ≤ s
  pub to : s ≤ b
  pub ten : 10 ≤ o

pub grown_last : {b : ℕ} {ds : List ℤ} {os : List ℕ} {s o : ℕ} → Grown b ds os s o → Last b s o
grown_last (one h) = record { from = lit≤ tt; to = h; ten = lit≤ tt }
grown_last (more t g h k) = let l = grown_last g in record { from = omega (arith, l.from); to = k; ten = omega (arith, l.ten) }

-- a whole accepted list: its last step, and the place of E
pub record Steps (ds : List ℤ) (os : List ℕ) (e : ℤ) : Type 0 where
  pub last : ℕ
  pub top : ℕ
  pub grown : Grown (place_of_day e + 1) ds os last top
  pub from : 29773 ≤ place_of_day e
  pub to : place_of_day e ≤ 76524
  pub day : day_at (place_of_day e) ≡ e
  pub few : top ≤ 73

pub record Ends (b : ℕ) (ds : List ℤ) (os : List ℕ) : Type 0 where
  pub last : ℕ
  pub top : ℕ
  pub grown : Grown b ds os last top

module _ (b : ℕ) (h : b < 100000) where
  grow : {ds : List ℤ} {os : List ℕ} {s o : ℕ} (cs : List ℤ) (ps : List ℕ) → Grown b ds os s o → rises_from (day_at s) cs ≡ true → all_firsts cs ≡ true
      → counts_from o ps ≡ true → none_later cs (day_at b) ≡ true → length cs ≡ length ps → Ends b (ds ++ cs) (os ++ ps)
  unfolding rises_from counts_from none_later
  grow {ds} {os} {s} {o} [] [] g r f c n l = record { last = s; top = o; grown = rw (append-nil ds, append-nil os) g }
  grow [] (p ∷ ps) g r f c n l = absurd (omega arith)
  grow (d ∷ cs) [] g r f c n l = absurd (omega arith)
  grow {ds} {os} {s} {o} (d ∷ cs) (p ∷ ps) g r f c n l =
      let rr = and_both (lt_z (day_at s) d) (rises_from d cs) r in
      let ff = and_both (is_first d) (all_firsts cs) f in
      let cc' = and_both (eqb p (o + 1)) (counts_from p ps) c in
      let nn = and_both (le_z d (day_at b)) (none_later cs (day_at b)) n in
      let t = place_of_day d in
      let q = first_at_lem d ff.0 in
      let y : o + 1 ≡ p = sym (eqb-true p (o + 1) cc'.0) in
      let a : s < t = ltb-true s t (sym (day_lt s t) ∙ ap (λ (z : ℤ). lt_z (day_at s) z) q ∙ rr.0) in
      let k : t ≤ b = leb-true t b (sym (day_to b d h) ∙ nn.0) in
      let w = grow {ds = ds ++ day_at t ∷ []} {os = os ++ (o + 1) ∷ []} {s = t} {o = o + 1} cs ps (more t g a k) (ap (λ (z : ℤ). rises_from z cs) q ∙ rr.1) ff.1 (ap (λ (z : ℕ). counts_from z ps) y ∙ cc'.1) nn.1 (omega arith) in
      let x : (ds ++ day_at t ∷ []) ++ cs ≡ ds ++ (d ∷ cs) = append_assoc ds (day_at t ∷ []) cs ∙ ap (λ (z : ℤ). ds ++ (z ∷ cs)) q in
      let v : (os ++ (o + 1) ∷ []) ++ ps ≡ os ++ (p ∷ ps) = append_assoc os ((o + 1) ∷ []) ps ∙ ap (λ (z : ℕ). os ++ (z ∷ ps)) y in
      record {
        last = w.last;
        top = w.top;
        grown = subst (λ (z : List ℤ). Grown b z (os ++ (p ∷ ps)) w.last w.top) x (subst (λ (z : List ℕ). Grown b ((ds ++ day_at t ∷ []) ++ cs) z w.last w.top) v w.grown);
      }

-- the parts of an accepted list
pub record Parts (ds : List ℤ) (os : List ℕ) (e : ℤ) : Type 0 where
  pub few : length ds ≤ 64
  pub even : length os ≡ length ds
  pub head : begins ds os ≡ true
  pub rise : rises ds ≡ true
  pub firsts : all_firsts ds ≡ true
  pub count : counts_up os ≡ true
  pub from : 29773 ≤ place_of_day e
  pub to : place_of_day e ≤ 76524
  pub none : none_later ds (e +ℤ pos 1) ≡ true

pub parts : (ds : List ℤ) (os : List ℕ) (e : ℤ) → accepted ds os e ≡ true → Parts ds os e
unfolding accepted
parts ds os e h =
    let g = none_later ds (e +ℤ pos 1) in
    let a = and_both (are_steps ds os) (begins ds os && (rises ds && (all_firsts ds && (counts_up os && (ends_in e && g))))) h in
    let b = and_both (begins ds os) (rises ds && (all_firsts ds && (counts_up os && (ends_in e && g)))) a.1 in
    let c = and_both (rises ds) (all_firsts ds && (counts_up os && (ends_in e && g))) b.1 in
    let d = and_both (all_firsts ds) (counts_up os && (ends_in e && g)) c.1 in
    let f = and_both (counts_up os) (ends_in e && g) d.1 in
    let i = and_both (ends_in e) g f.1 in
    let x = and_both (leb 1 (length ds)) (leb (length ds) 64 && eqb (length os) (length ds)) a.0 in
    let y = and_both (leb (length ds) 64) (eqb (length os) (length ds)) x.1 in
    let z = ends_span e i.0 in
    record {
      few = leb-true (length ds) 64 y.0;
      even = eqb-true (length os) (length ds) y.1;
      head = b.0;
      rise = c.0;
      firsts = d.0;
      count = f.0;
      from = z.0;
      to = z.1;
      none = i.1;
    }

whole : (ds : List ℤ) (os : List ℕ) (e : ℤ) → Parts ds os e → Ends (place_of_day e + 1) ds os
unfolding begins rises counts_up none_later
whole [] os e p = absurd (false≢true p.head)
whole (d ∷ ds) [] e p = absurd (false≢true p.head)
whole (d ∷ ds) (o ∷ os) e p =
    let b = place_of_day e + 1 in
    let h : b < 100000 = omega (arith, p.to) in
    let x = and_both (same_day d (day_at 29773)) (eqb o 10) p.head in
    let q : place_of_day d ≡ 29773 = eqb-true (place_of_day d) 29773 (sym (same_at d 29773 (lit< tt) (lit< tt)) ∙ x.0) in
    let t : day_at 29773 ≡ d = ap day_at (sym q) ∙ first_at_lem d (firsts_at (d ∷ ds) 0 p.firsts (omega arith)) in
    let y : 10 ≡ o = sym (eqb-true o 10 x.1) in
    let z : e +ℤ pos 1 ≡ day_at b = ap (λ (n : ℤ). n +ℤ pos 1) (sym (day_place e (omega (arith, p.from)) (omega (arith, p.to)))) ∙ day_next (place_of_day e) in
    let n = and_both (le_z d (e +ℤ pos 1)) (none_later ds (e +ℤ pos 1)) p.none in
    let w = grow b h ds os (one (omega (arith, p.from))) (ap (λ (m : ℤ). rises_from m ds) t ∙ p.rise) (and_both (is_first d) (all_firsts ds) p.firsts).1
    (ap (λ (m : ℕ). counts_from m os) y ∙ p.count) (ap (none_later ds) (sym z) ∙ n.1) (omega (arith, p.even)) in
    record { last = w.last; top = w.top; grown = subst (λ (m : ℤ). Grown b (m ∷ ds) (o ∷ os) w.last w.top) t (subst (λ (m : ℕ). Grown b (day_at 29773 ∷ ds) (m ∷ os) w.last w.top) y w.grown) }

pub steps : (ds : List ℤ) (os : List ℕ) (e : ℤ) → accepted ds os e ≡ true → Steps ds os e
steps ds os e h =
    let p = parts ds os e h in
    let w = whole ds os e p in
    record {
      last = w.last;
      top = w.top;
      grown = w.grown;
      from = p.from;
      to = p.to;
      day = day_place e (omega (arith, p.from)) (omega (arith, p.to));
      few = omega (arith, grown_offset w.grown, p.few);
    }

-- ---- what a search through the list relies on: as many offsets as days, days well on the axis, small offsets
pub record Usable (ds : List ℤ) (os : List ℕ) : Type 0 where
  pub even : length ds ≡ length os
  pub within : (k : ℕ) → k < length ds → (29773 ≤ place_of_day (get_or ds k (pos 0))) × (place_of_day (get_or ds k (pos 0)) ≤ 76525)
  pub day : (k : ℕ) → k < length ds → day_at (place_of_day (get_or ds k (pos 0))) ≡ get_or ds k (pos 0)
  pub small : (k : ℕ) → k < length ds → (10 ≤ get_or os k 0) × (get_or os k 0 ≤ 73)

counts_at_lem : (o : ℕ) (ps : List ℕ) (k : ℕ) → counts_from o ps ≡ true → k < length ps → (o ≤ get_or ps k 0) × (get_or ps k 0 ≤ o + length ps)
unfolding counts_from
counts_at_lem o [] k h l = absurd (omega arith)
counts_at_lem o (p ∷ ps) k h l =
    let a = and_both (eqb p (o + 1)) (counts_from p ps) h in
    at k (eqb-true p (o + 1) a.0) l (λ j. counts_at_lem p ps j a.1)
  where
    at : (j : ℕ) → p ≡ o + 1 → j < suc (length ps) → ((i : ℕ) → i < length ps → (p ≤ get_or ps i 0) × (get_or ps i 0 ≤ p + length ps))
        → (o ≤ get_or (p ∷ ps) j 0) × (get_or (p ∷ ps) j 0 ≤ o + suc (length ps))
    at zero q m r = (omega arith, omega arith)
    at (suc j) q m r = let x = r j (omega arith) in (omega (arith, x.0), omega (arith, x.1))

counts_all : (ds : List ℤ) (os : List ℕ) (k : ℕ) → begins ds os ≡ true → counts_up os ≡ true → k < length os → (10 ≤ get_or os k 0) × (get_or os k 0 ≤ 9 + length os)
unfolding begins counts_up
counts_all [] os k h c l = absurd (false≢true h)
counts_all (d ∷ ds) [] k h c l = absurd (false≢true h)
counts_all (d ∷ ds) (o ∷ os) zero h c l =
    let q = eqb-true o 10 (and_both (same_day d (negsuc 10226)) (eqb o 10) h).1 in (omega arith, omega arith)
counts_all (d ∷ ds) (o ∷ os) (suc k) h c l =
    let q = eqb-true o 10 (and_both (same_day d (negsuc 10226)) (eqb o 10) h).1 in
    let r = counts_at_lem o os k c (omega arith) in
    (omega (arith, r.0), omega (arith, r.1))

pub usable : (ds : List ℤ) (os : List ℕ) (e : ℤ) → accepted ds os e ≡ true → Usable ds os
usable ds os e h =
    let p = parts ds os e h in
    record {
      even = sym p.even;
      within = λ k l. first_span (get_or ds k (pos 0)) (firsts_at ds k p.firsts l);
      day = λ k l. first_at_lem (get_or ds k (pos 0)) (firsts_at ds k p.firsts l);
      small =
          λ k l.
          let c = counts_all ds os k p.head p.count (omega (arith, p.even)) in
          (c.0, omega (arith, c.1, p.even, p.few));
    }
