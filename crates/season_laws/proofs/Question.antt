-- The question: its answer is the cover of the one correlation that has the receipt; of a file that the reader accepts that is what the
-- bodies give; the bodies' bytes do not matter to it; and a fresh season keeps its outcomes, but for 15. Assumes nothing.
use mathlib.Core.Path.{◌≡◌, refl, sym, ap, ap₂, ◌∙◌}
use mathlib.Core.Bool.{Bool, true, false, cond, ◌&&◌, ◌||◌, false≢true}
use mathlib.Core.List.{List, [], ◌∷◌}
use Prim.Native.Nat.{ℕ, zero, suc, ◌+◌, ◌*◌, ◌≤◌, ◌<◌}
use native.Mathlib.Omega.{arith}
use lib.Dec.{leb, eqb}
use lib.IntN.{ℤ}
use lib.ListN.{take, drop}
use lib.Seq.{take-take}
use lib.Signed.{le_z}
use Rattle.axis.specs.Meaning.{signed_of, since}
use Rattle.axis.specs.Diff.{Way, way, below, above}
use Rattle.octets.specs.Meaning.{number, part}
use Rattle.scales.specs.Meaning.{in_span, refused, answer, Valued}
use Rattle.scales.specs.Place.{and_both}
use Rattle.scales.specs.declared.Scale.TheVariants as S
use Rattle.clock.specs.Meaning.{Cover, within}
use Rattle.clock.specs.Signs.{le_both}
use Rattle.sbt.specs.Meaning.{accepted}
use Rattle.season.specs.Meaning.{all, count_of, entry_at, cover_in, body_at, correlation_in, cover_of, same_z, same_cover, entry_kept, contents_kept, body_kept, is_season, covered_in, covering_in, covering}
use Rattle.season_laws.specs.Meaning.{handed_back, Answered, SameContents, Added}
use Rattle.season.specs.Each.{all_at, all_same}
use Rattle.season_laws.proofs.Contents.{rises_same, one_entry}

-- ---- the search of the contents
module _ (s : List ℕ) (z : ℤ) where
  covered_at : (n k : ℕ) → k < n → within (cover_in s k) z ≡ true → covered_in s z n ≡ true
  covered_at zero k h e = absurd (omega arith)
  covered_at (suc n) k h e = go (within (cover_in s n) z) refl (way k n) (λ l. covered_at n k l e)
    where
      go : (b : Bool) → within (cover_in s n) z ≡ b → Way k n → (k < n → covered_in s z n ≡ true) → b || covered_in s z n ≡ true
      go true q w f = refl
      go false q (below l) f = f l
      go false q (above l) f = let j : n ≡ k = omega arith in absurd (false≢true (sym q ∙ ap (λ (m : ℕ). within (cover_in s m) z) j ∙ e))

  covered_none : (n : ℕ) → ((k : ℕ) → k < n → within (cover_in s k) z ≡ false) → covered_in s z n ≡ false
  covered_none zero f = refl
  covered_none (suc n) f = rw (f n (omega arith)) (covered_none n (λ k h. f k (omega arith)))

  covered_by_lem : (n : ℕ) → covered_in s z n ≡ true → (k : ℕ) × (k < n) × (within (cover_in s k) z ≡ true)
  covered_by_lem zero e = absurd (false≢true e)
  covered_by_lem (suc n) e = go (within (cover_in s n) z) refl e (covered_by_lem n)
    where
      go : (b : Bool) → within (cover_in s n) z ≡ b → b || covered_in s z n ≡ true →
          (covered_in s z n ≡ true → (k : ℕ) × (k < n) × (within (cover_in s k) z ≡ true)) → (k : ℕ) × (k < suc n) × (within (cover_in s k) z ≡ true)
      go true q x f = (n, omega arith, q)
      go false q x f = let r = f x in (r.0, omega (arith, r.1), r.2)

  covering_at : (n k : ℕ) → k < n → within (cover_in s k) z ≡ true → ((j : ℕ) → j < n → within (cover_in s j) z ≡ true → j ≡ k) → covering_in s z n ≡ cover_in s k
  covering_at zero k h e only = absurd (omega arith)
  covering_at (suc n) k h e only = go (within (cover_in s n) z) refl (way k n) (λ l. covering_at n k l e (λ j m. only j (omega arith)))
    where
      go : (b : Bool) → within (cover_in s n) z ≡ b → Way k n → (k < n → covering_in s z n ≡ cover_in s k) → cond b (cover_in s n) (covering_in s z n) ≡ cover_in s k
      go true q w f = ap (cover_in s) (only n (omega arith) q)
      go false q (below l) f = f l
      go false q (above l) f = let j : n ≡ k = omega arith in absurd (false≢true (sym q ∙ ap (λ (m : ℕ). within (cover_in s m) z) j ∙ e))

-- ---- the question by its contents
number_not : {a b : ℕ} {v w : Valued Cover} → v ≡ w → v.number ≡ a → w.number ≡ b → (a ≡ b → ⊥) → ⊥
number_not e p q f = f (sym p ∙ ap (λ (x : Valued Cover). x.number) e ∙ q)

module _ (s : List ℕ) (e : contents_kept s ≡ true) (d : ℤ) (u : ℕ) where
  contents_outside : in_span S.Tai d u ≡ false → covering s d u ≡ handed_back (refused 7)
  unfolding covering
  contents_outside i = rw (e, i)

  contents_covered : in_span S.Tai d u ≡ true → (k : ℕ) → k < count_of s → within (cover_in s k) (since d u) ≡ true → covering s d u ≡ handed_back (answer (cover_in s k))
  unfolding covering
  contents_covered i k h w =
      let z = since d u in
      let n = count_of s in
      rw (e, i, covered_at s z n k h w, covering_at s z n k h w (λ j l v. one_entry s e z j k l h v w))

  contents_none : in_span S.Tai d u ≡ true → covered_in s (since d u) (count_of s) ≡ false → covering s d u ≡ handed_back (refused 15)
  unfolding covering
  contents_none i w = rw (e, i, w)

  contents_exactly : covering s d u ≡ handed_back (refused 15) → (k : ℕ) → k < count_of s → within (cover_in s k) (since d u) ≡ false
  contents_exactly r k h = go (within (cover_in s k) (since d u)) refl (in_span S.Tai d u) refl
    where
      go : (b : Bool) → within (cover_in s k) (since d u) ≡ b → (i : Bool) → in_span S.Tai d u ≡ i → b ≡ false
      go false q i j = refl
      go true q true j = absurd (number_not (sym (contents_covered j k h q) ∙ r) refl refl (λ x. omega arith))
      go true q false j = absurd (number_not (sym (contents_outside j) ∙ r) refl refl (λ x. omega arith))

  pub contents_answered : Answered (cover_in s) s d u
  contents_answered =
      record {
        outside = contents_outside;
        covered = contents_covered;
        uncovered = λ i f. contents_none i (covered_none s (since d u) (count_of s) f);
        exactly = contents_exactly;
      }

-- ---- of a file that the reader accepts the contents are the bodies' covers
same_z_lem : (x y : ℤ) → same_z x y ≡ true → x ≡ y
same_z_lem x y e = let q = and_both (le_z x y) (le_z y x) e in le_both x y q.0 q.1

pub same_cover_lem : (v w : Cover) → same_cover v w ≡ true → v ≡ w
same_cover_lem v w e =
    let q = and_both (same_z v.from w.from) (same_z v.to w.to) e in
    let x = same_z_lem v.from w.from q.0 in
    let y = same_z_lem v.to w.to q.1 in
    λ i. record { from = x i; to = y i }

pub record Season (s : List ℕ) : Type 0 where
  pub contents : contents_kept s ≡ true
  pub accepts : (k : ℕ) → k < count_of s → accepted (correlation_in s k) ≡ true
  pub covers : (k : ℕ) → k < count_of s → cover_in s k ≡ cover_of (correlation_in s k)

pub season : (s : List ℕ) → is_season s ≡ true → Season s
unfolding is_season
season s e =
    let q = and_both (contents_kept s) (all (body_kept s) (count_of s)) e in
    record {
      contents = q.0;
      accepts = λ k h. (body k (all_at (body_kept s) (count_of s) k q.1 h)).0;
      covers = λ k h. same_cover_lem (cover_in s k) (cover_of (correlation_in s k)) (body k (all_at (body_kept s) (count_of s) k q.1 h)).1;
    }
  where
    body : (k : ℕ) → body_kept s k ≡ true → (accepted (correlation_in s k) ≡ true) × (same_cover (cover_in s k) (cover_of (correlation_in s k)) ≡ true)
    body k b = and_both (accepted (correlation_in s k)) (same_cover (cover_in s k) (cover_of (correlation_in s k))) b

-- "the one correlation": at most one covers a microsecond
pub one_correlation : (s : List ℕ) → is_season s ≡ true → (z : ℤ) (j k : ℕ) → j < count_of s → k < count_of s →
    within (cover_of (correlation_in s j)) z ≡ true → within (cover_of (correlation_in s k)) z ≡ true → j ≡ k
one_correlation s e z j k h l p q =
    let c = season s e in
    one_entry s c.contents z j k h l (ap (λ (v : Cover). within v z) (c.covers j h) ∙ p) (ap (λ (v : Cover). within v z) (c.covers k l) ∙ q)

-- "For each file that the full reader accepts it gives what reading all the bodies would give"
pub question_agrees : (s : List ℕ) → is_season s ≡ true → (d : ℤ) (u : ℕ) → Answered (λ k. cover_of (correlation_in s k)) s d u
question_agrees s e d u =
    let q = season s e in
    let a = contents_answered s q.contents d u in
    let z = since d u in
    record {
      outside = a.outside;
      covered = λ i k h w. a.covered i k h (ap (λ (v : Cover). within v z) (q.covers k h) ∙ w) ∙ ap (λ (v : Cover). handed_back (answer v)) (q.covers k h);
      uncovered = λ i f. a.uncovered i (λ k h. ap (λ (v : Cover). within v z) (q.covers k h) ∙ f k h);
      exactly = λ r k h. ap (λ (v : Cover). within v z) (sym (q.covers k h)) ∙ a.exactly r k h;
    }

-- ---- the bytes before the bodies
-- m elements from a on are among the first b
cut : {A : Type 0} (m a b : ℕ) (s : List A) → a + m ≤ b → take m (drop a (take b s)) ≡ take m (drop a s)
cut m zero b s h = take-take m b s (omega arith)
cut m (suc a) zero s h = absurd (omega arith)
cut m (suc a) (suc b) [] h = refl
cut m (suc a) (suc b) (x ∷ s) h = cut m a b s (omega arith)

module _ (s t : List ℕ) (c : SameContents s t) where
  same_part : (a m : ℕ) → a + m ≤ 2 + 20 * count_of s → part s a m ≡ part t a m
  same_part a m h =
      let b = 2 + 20 * count_of s in
      ap number (sym (cut m a b s h) ∙ ap (λ (r : List ℕ). take m (drop a r)) c.front ∙ cut m a b t h)

  same_count : count_of s ≡ count_of t
  same_count = same_part 0 2 (omega arith)

  same_entry : (k : ℕ) → k < count_of s → cover_in s k ≡ cover_in t k
  same_entry k h =
      let x = same_part (entry_at k) 8 (omega arith) in
      let y = same_part (entry_at k + 8) 8 (omega arith) in
      λ i. record { from = signed_of (x i); to = signed_of (y i) }

  same_kept : contents_kept s ≡ contents_kept t
  unfolding contents_kept
  same_kept =
      ap₂ ◌&&◌
      (ap₂ (λ (l n : ℕ). eqb l (2 + 48 * n) && leb n 512) c.size same_count)
      (all_same (entry_kept s) (entry_kept t) (count_of s)
      (λ k h. ap₂ ◌&&◌ (ap₂ (λ (p n : ℕ). eqb p (body_at n k)) (same_part (entry_at k + 16) 4 (omega arith)) same_count) (rises_same (cover_in s) (cover_in t) (count_of s) same_entry k h))
      ∙ ap (all (entry_kept t)) same_count)

  same_covered : (z : ℤ) (n : ℕ) → n ≤ count_of s → covered_in s z n ≡ covered_in t z n
  same_covered z zero h = refl
  same_covered z (suc n) h = ap₂ (λ (v : Cover) (b : Bool). within v z || b) (same_entry n h) (same_covered z n (omega arith))

  same_covering : (z : ℤ) (n : ℕ) → n ≤ count_of s → covering_in s z n ≡ covering_in t z n
  same_covering z zero h = refl
  same_covering z (suc n) h = ap₂ (λ (v w : Cover). cond (within v z) v w) (same_entry n h) (same_covering z n (omega arith))

  -- "The question reads the count and the contents alone"
  pub contents_alone : (d : ℤ) (u : ℕ) → covering s d u ≡ covering t d u
  unfolding covering
  contents_alone d u =
      let z = since d u in
      rw (same_kept, same_covered z (count_of s) (omega arith), same_covering z (count_of s) (omega arith), same_count)

-- where the reader accepts both files, each old correlation among the new ones will do
pub correlations_added : (s t : List ℕ) → is_season s ≡ true → is_season t ≡ true →
    ((k : ℕ) → k < count_of s → (j : ℕ) × (j < count_of t) × (correlation_in t j ≡ correlation_in s k)) → Added s t
correlations_added s t p q f k h =
    let j = f k h in
    (j.0, j.1, (season t q).covers j.0 j.1 ∙ ap cover_of j.2 ∙ sym ((season s p).covers k h))

-- ---- demand 3: "adding correlations never changes an earlier answer; a refusal 15 may become one"
module _ (s t : List ℕ) (p : contents_kept s ≡ true) (q : contents_kept t ≡ true) (d : ℤ) (u : ℕ) where
  pub fresh_season : Added s t → (covering s d u ≡ handed_back (refused 15) → ⊥) → covering t d u ≡ covering s d u
  fresh_season a f = go (in_span S.Tai d u) refl (covered_in s (since d u) (count_of s)) refl
    where
      go : (i : Bool) → in_span S.Tai d u ≡ i → (b : Bool) → covered_in s (since d u) (count_of s) ≡ b → covering t d u ≡ covering s d u
      go false i b w = contents_outside t q d u i ∙ sym (contents_outside s p d u i)
      go true i false w = absurd (f (contents_none s p d u i w))
      go true i true w =
          let k = covered_by_lem s (since d u) (count_of s) w in
          let j = a k.0 k.1 in
          contents_covered t q d u i j.0 j.1 (ap (λ (v : Cover). within v (since d u)) j.2 ∙ k.2)
          ∙ ap (λ (v : Cover). handed_back (answer v)) j.2
          ∙ sym (contents_covered s p d u i k.0 k.1 k.2)

  -- what 15 becomes is an answer
  pub fifteen_answered : covering s d u ≡ handed_back (refused 15) → (covering t d u ≡ handed_back (refused 15) → ⊥) →
      (k : ℕ) × (k < count_of t) × (covering t d u ≡ handed_back (answer (cover_in t k)))
  fifteen_answered e f = go (in_span S.Tai d u) refl (covered_in t (since d u) (count_of t)) refl
    where
      go : (i : Bool) → in_span S.Tai d u ≡ i → (b : Bool) → covered_in t (since d u) (count_of t) ≡ b →
          (k : ℕ) × (k < count_of t) × (covering t d u ≡ handed_back (answer (cover_in t k)))
      go false i b w = absurd (number_not (sym (contents_outside s p d u i) ∙ e) refl refl (λ x. omega arith))
      go true i false w = absurd (f (contents_none t q d u i w))
      go true i true w =
          let k = covered_by_lem t (since d u) (count_of t) w in
          (k.0, k.1, contents_covered t q d u i k.0 k.1 k.2)
