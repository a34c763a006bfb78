-- What contents that keep the rules tell: covers rise, so that at most one has a microsecond. Assumes nothing.
use mathlib.Core.Path.{◌≡◌, sym, ap, ap₂, ◌∙◌}
use mathlib.Core.Bool.{true, ◌&&◌}
use mathlib.Core.List.{List}
use Prim.Native.Nat.{ℕ, zero, suc, ◌+◌, ◌*◌, ◌≤◌, ◌<◌}
use native.Mathlib.Omega.{arith}
use lib.Dec.{eqb}
use lib.IntN.{ℤ}
use lib.ListN.{length}
use lib.Signed.{le_z, lt_z}
use borrow.Author.Tests.{ltb-true, leb-true, lt-ltb, eqb-true}
use Rattle.axis.specs.Diff.{up, down, parts, sub_lt, sub_le, Way, way, below, above}
use Rattle.scales.specs.Place.{and_both}
use Rattle.clock.specs.Meaning.{Cover, within}
use Rattle.season.specs.Meaning.{all, count_of, cover_in, position_in, body_at, rises, is_sized, entry_kept, contents_kept}
use Rattle.season.specs.Kept.{fit_sized}
use Rattle.season.specs.Each.{all_at, all_made}

-- ---- orders of signed numbers, as sums of naturals
pub le_sums : (x y : ℤ) → le_z x y ≡ true → up x + down y ≤ up y + down x
le_sums x y e = leb-true _ _ (sym (ap₂ le_z (parts x) (parts y) ∙ sub_le (up x) (down x) (up y) (down y)) ∙ e)

pub lt_sums : (x y : ℤ) → lt_z x y ≡ true → up x + down y < up y + down x
lt_sums x y e = ltb-true _ _ (sym (ap₂ lt_z (parts x) (parts y) ∙ sub_lt (up x) (down x) (up y) (down y)) ∙ e)

pub sums_lt : (x y : ℤ) → up x + down y < up y + down x → lt_z x y ≡ true
sums_lt x y h = ap₂ lt_z (parts x) (parts y) ∙ sub_lt (up x) (down x) (up y) (down y) ∙ lt-ltb _ _ h

-- ---- covers that rise
pub rises_same : (v w : ℕ → Cover) (n : ℕ) → ((k : ℕ) → k < n → v k ≡ w k) → (k : ℕ) → k < n → rises v k ≡ rises w k
rises_same v w n f zero h = ap (λ (x : Cover). le_z x.from x.to) (f zero h)
rises_same v w n f (suc k) h = ap₂ (λ (x y : Cover). lt_z x.to y.from && le_z y.from y.to) (f k (omega arith)) (f (suc k) h)

module _ (v : ℕ → Cover) (n : ℕ) (e : all (rises v) n ≡ true) where
  pub ordered : (k : ℕ) → k < n → le_z (v k).from (v k).to ≡ true
  ordered zero h = all_at (rises v) n zero e h
  ordered (suc k) h = (and_both (lt_z (v k).to (v (suc k)).from) (le_z (v (suc k)).from (v (suc k)).to) (all_at (rises v) n (suc k) e h)).1

  after : (k : ℕ) → suc k < n → lt_z (v k).to (v (suc k)).from ≡ true
  after k h = (and_both (lt_z (v k).to (v (suc k)).from) (le_z (v (suc k)).from (v (suc k)).to) (all_at (rises v) n (suc k) e h)).0

  -- an earlier one ends before a later one begins
  pub earlier : (j k : ℕ) → j < k → k < n → lt_z (v j).to (v k).from ≡ true
  earlier j zero h l = absurd (omega arith)
  earlier j (suc k) h l = go (way j k) (λ i. earlier j k i (omega arith))
    where
      go : Way j k → (j < k → lt_z (v j).to (v k).from ≡ true) → lt_z (v j).to (v (suc k)).from ≡ true
      go (below i) f =
          sums_lt (v j).to (v (suc k)).from
          (omega (arith, lt_sums (v j).to (v k).from (f i), le_sums (v k).from (v k).to (ordered k (omega arith)), lt_sums (v k).to (v (suc k)).from (after k l)))
      go (above i) f = ap (λ (m : ℕ). lt_z (v m).to (v (suc k)).from) (omega arith) ∙ after k l

  -- two that have one microsecond are one
  pub one_cover : (z : ℤ) (j k : ℕ) → j < n → k < n → within (v j) z ≡ true → within (v k) z ≡ true → j ≡ k
  unfolding within
  one_cover z j k h l p q = go (way j k) (way k j)
    where
      never : (i m : ℕ) → i < m → m < n → le_z z (v i).to ≡ true → le_z (v m).from z ≡ true → ⊥
      never i m a b x y = omega (arith, le_sums z (v i).to x, le_sums (v m).from z y, lt_sums (v i).to (v m).from (earlier i m a b))

      jj : (le_z (v j).from z ≡ true) × (le_z z (v j).to ≡ true)
      jj = and_both (le_z (v j).from z) (le_z z (v j).to) p

      kk : (le_z (v k).from z ≡ true) × (le_z z (v k).to ≡ true)
      kk = and_both (le_z (v k).from z) (le_z z (v k).to) q

      go : Way j k → Way k j → j ≡ k
      go (below a) b = absurd (never j k a l jj.1 kk.0)
      go (above a) (below b) = absurd (never k j b h kk.1 jj.0)
      go (above a) (above b) = omega arith

-- ---- a file whose contents keep the rules
pub record Kept (s : List ℕ) : Type 0 where
  pub size : length s ≡ 2 + 48 * count_of s
  pub few : count_of s ≤ 512
  pub positions : (k : ℕ) → k < count_of s → position_in s k ≡ body_at (count_of s) k
  pub covers : all (rises (cover_in s)) (count_of s) ≡ true

pub kept : (s : List ℕ) → contents_kept s ≡ true → Kept s
unfolding contents_kept
kept s e =
    let n = count_of s in
    let q = and_both (is_sized s) (all (entry_kept s) n) e in
    let f = fit_sized s q.0 in
    record {
      size = f.length_is;
      few = f.most;
      positions = λ k h. eqb-true (position_in s k) (body_at n k) (and_both (eqb (position_in s k) (body_at n k)) (rises (cover_in s) k) (all_at (entry_kept s) n k q.1 h)).0;
      covers = all_made (rises (cover_in s)) n (λ k h. (and_both (eqb (position_in s k) (body_at n k)) (rises (cover_in s) k) (all_at (entry_kept s) n k q.1 h)).1);
    }

-- "the one entry": at most one covers a microsecond
pub one_entry : (s : List ℕ) → contents_kept s ≡ true → (z : ℤ) (j k : ℕ) → j < count_of s → k < count_of s →
    within (cover_in s j) z ≡ true → within (cover_in s k) z ≡ true → j ≡ k
one_entry s e z j k = one_cover (cover_in s) (count_of s) (kept s e).covers z j k
