-- Demand 3, jointly: under a list that extends another and a window that is no narrower, every answer stays, and every refusal but 8
-- and 9. Assumes nothing.
use Rattle.std.specs.Prelude.{◌≡◌, ◌&&◌, List, ℕ, ◌≤◌, ℤ}
use Rattle.std.proofs.Math.Path.{refl, ap}
use Rattle.std.proofs.Common.{◌∙◌}
use Rattle.std.proofs.Math.Bool.{Bool, true, false}
use Rattle.scales.specs.Meaning.{scale_at, given, Outcome, refused, outcome, Slip, dated_as, written, Valued, valued}
use Rattle.scales.specs.declared.Scale.TheVariants as S
use Rattle.handed.specs.Meaning.{mark_of}
use Rattle.handed.specs.declared.Handed.{Handed}
use Rattle.leap.specs.Meaning as Leap
use Rattle.leap_laws.proofs.Kept.{Follows}
use Rattle.leap_laws.proofs.Promises.{Fresh, fresh}
use Rattle.clock.specs.Meaning as Clock
use Rattle.sbt.specs.Meaning as Sbt
use Rattle.sbt.specs.declared.Correlation.{Correlation}
use Rattle.sbt_laws.proofs.Window.{widened}
use Rattle.sbt_laws.proofs.Wider as SbtWider
use Rattle.goce.specs.Meaning as Goce
use Rattle.goce.specs.declared.Correlation as GoceDeclared
use Rattle.goce_laws.proofs.Window as GoceWindow
use Rattle.goce_laws.proofs.Wider as GoceWider
use Rattle.changes.specs.Meaning.{changing, change_of}
use Rattle.text_read.specs.Meaning.{read_text}
use Rattle.text_write.specs.Meaning.{writing, write_text}
use Rattle.text_laws.specs.Fresh.{Again, again}
use Rattle.c_api.specs.Meaning as CApi
use Rattle.c_api.specs.Bytes as Bytes
use Rattle.c_api.specs.Counts as Counts
use Rattle.c_api.specs.Texts as Texts
use Rattle.c_api.specs.declared.VrkCount.{VrkCount}
use Rattle.c_api.specs.declared.VrkHanded.{VrkHanded}
use Rattle.c_api.specs.declared.VrkSbtCorrelation.{VrkSbtCorrelation}
use Rattle.c_api.specs.declared.counts.VrkGoceCorrelation.{VrkGoceCorrelation}

-- the correlations for C with another window
abbrev pub widened_for_c : VrkSbtCorrelation → ℕ → ℕ → VrkSbtCorrelation
widened_for_c c b a = record { tick = c.tick; scale = c.scale; day = c.day; micro = c.micro; period = c.period; back = b; ahead = a }

abbrev pub goce_widened_for_c : VrkGoceCorrelation → ℕ → ℕ → VrkGoceCorrelation
goce_widened_for_c c b a = record { obt0 = c.obt0; utc0 = c.utc0; offset = c.offset; gradient = c.gradient; back = b; ahead = a }

-- old paper: the list ds, os, e, SBT's correlation c and GOCE's g; fresh paper: the list cs, ps, f, c with the window b, a and g with the
-- window y, x
pub record FreshPaper (ds : List ℤ) (os : List ℕ) (e : ℤ) (cs : List ℤ) (ps : List ℕ) (f : ℤ) (c : Correlation) (b a : ℕ)
    (g : GoceDeclared.Correlation) (y x : ℕ) : Type 0 where
  pub changes : Fresh ds os e cs ps f
  pub texts : Again ds os e cs ps f
  pub date : (t : ℕ) (d : ℤ) (u : ℕ) → ((Sbt.date_of c t d u ds os e).number ≡ 8 → ⊥) → ((Sbt.date_of c t d u ds os e).number ≡ 9 → ⊥) →
      Sbt.date_of (widened c b a) t d u cs ps f ≡ Sbt.date_of c t d u ds os e
  pub tick : (h : Handed) → ((Sbt.tick_of c h ds os e).number ≡ 8 → ⊥) → ((Sbt.tick_of c h ds os e).number ≡ 9 → ⊥) →
      Sbt.tick_of (widened c b a) h cs ps f ≡ Sbt.tick_of c h ds os e
  pub goce_date : (t : ℕ) (d : ℤ) (u : ℕ) → ((Goce.date_of g t d u ds os e).number ≡ 8 → ⊥) → ((Goce.date_of g t d u ds os e).number ≡ 9 → ⊥) →
      Goce.date_of (GoceWindow.widened g y x) t d u cs ps f ≡ Goce.date_of g t d u ds os e
  pub goce_count : (h : Handed) → ((Goce.obt_of g h ds os e).number ≡ 8 → ⊥) → ((Goce.obt_of g h ds os e).number ≡ 9 → ⊥) →
      Goce.obt_of (GoceWindow.widened g y x) h cs ps f ≡ Goce.obt_of g h ds os e

-- ---- what a kind of answer hands back stays, where the outcome does: n is neither of the two numbers
handed_on : {A R : Type 0} (hand : Outcome A → R) (number : R → ℕ) → ((n : ℕ) → number (hand (refused n)) ≡ n) → (old new : Outcome A) →
    ((old ≡ refused 8 → ⊥) → (old ≡ refused 9 → ⊥) → new ≡ old) → (number (hand old) ≡ 8 → ⊥) → (number (hand old) ≡ 9 → ⊥) → hand new ≡ hand old
handed_on hand number is old new k p q =
    ap hand (k (λ z. p (ap (λ o. number (hand o)) z ∙ is 8)) (λ z. q (ap (λ o. number (hand o)) z ∙ is 9)))

module _ (ds : List ℤ) (os : List ℕ) (e : ℤ) (cs : List ℤ) (ps : List ℕ) (f : ℤ) (v : Leap.accepted ds os e ≡ true) (w : Leap.accepted cs ps f ≡ true) (x : Leap.Extends ds os e cs ps f) where
  follows : Follows ds os e cs ps f
  follows = record { old = v; fresh = w; extends = x }

  -- ---- SBT's date and tick
  module _ (c : Correlation) (b a : ℕ) (l : c.back ≤ b) (m : c.ahead ≤ a) (y : Sbt.accepted c ≡ true) (z : Sbt.accepted (widened c b a) ≡ true) where
    sbt_date_kept : (t : ℕ) (d : ℤ) (u : ℕ) → ((Sbt.date_of c t d u ds os e).number ≡ 8 → ⊥) → ((Sbt.date_of c t d u ds os e).number ≡ 9 → ⊥) →
        Sbt.date_of (widened c b a) t d u cs ps f ≡ Sbt.date_of c t d u ds os e
    unfolding Sbt.date_of
    sbt_date_kept t d u =
        handed_on (dated_as (Clock.mark_of (Sbt.clock_of c ds os)) c.scale) (λ (s : Slip). s.number) (λ n. refl) (outcome (Sbt.dating c t d u ds os e)) (outcome (Sbt.dating (widened c b a) t d u cs ps f))
        (SbtWider.date_kept c b a l m y z ds os e cs ps f (λ i. follows) t d u)

    sbt_tick_kept : (h : Handed) → ((Sbt.tick_of c h ds os e).number ≡ 8 → ⊥) → ((Sbt.tick_of c h ds os e).number ≡ 9 → ⊥) →
        Sbt.tick_of (widened c b a) h cs ps f ≡ Sbt.tick_of c h ds os e
    unfolding Sbt.tick_of
    sbt_tick_kept h =
        handed_on (valued 0) (λ (s : Valued ℕ). s.number) (λ n. refl) (outcome (Sbt.turning c h ds os e)) (outcome (Sbt.turning (widened c b a) h cs ps f))
        (SbtWider.tick_kept c b a l m y z ds os e cs ps f (λ i. follows) h)

  -- ---- GOCE's date and count
  module _ (g : GoceDeclared.Correlation) (b a : ℕ) (l : g.back ≤ b) (m : g.ahead ≤ a)
      (y : Goce.accepted g ≡ true) (z : Goce.accepted (GoceWindow.widened g b a) ≡ true) where
    goce_date_kept : (t : ℕ) (d : ℤ) (u : ℕ) → ((Goce.date_of g t d u ds os e).number ≡ 8 → ⊥) → ((Goce.date_of g t d u ds os e).number ≡ 9 → ⊥) →
        Goce.date_of (GoceWindow.widened g b a) t d u cs ps f ≡ Goce.date_of g t d u ds os e
    unfolding Goce.date_of
    goce_date_kept t d u =
        handed_on (dated_as (Clock.mark_of (Goce.clock_of g ds os)) S.Utc) (λ (s : Slip). s.number) (λ n. refl) (outcome (Goce.dating g t d u ds os e)) (outcome (Goce.dating (GoceWindow.widened g b a) t d u cs ps f))
        (GoceWider.date_kept g b a l m y z ds os e cs ps f follows t d u)

    goce_count_kept : (h : Handed) → ((Goce.obt_of g h ds os e).number ≡ 8 → ⊥) → ((Goce.obt_of g h ds os e).number ≡ 9 → ⊥) →
        Goce.obt_of (GoceWindow.widened g b a) h cs ps f ≡ Goce.obt_of g h ds os e
    unfolding Goce.obt_of
    goce_count_kept h =
        handed_on (valued 0) (λ (s : Valued ℕ). s.number) (λ n. refl) (outcome (Goce.turning g h ds os e)) (outcome (Goce.turning (GoceWindow.widened g b a) h cs ps f))
        (GoceWider.count_kept g b a l m y z ds os e cs ps f follows h)

  pub old_dates_stay : (c : Correlation) (b a : ℕ) → c.back ≤ b → c.ahead ≤ a → Sbt.accepted c ≡ true → Sbt.accepted (widened c b a) ≡ true →
      (g : GoceDeclared.Correlation) (j i : ℕ) → g.back ≤ j → g.ahead ≤ i → Goce.accepted g ≡ true → Goce.accepted (GoceWindow.widened g j i) ≡ true →
      FreshPaper ds os e cs ps f c b a g j i
  old_dates_stay c b a l m y z g j i p q r s =
      record {
        changes = fresh ds os e cs ps f v w x;
        texts = again ds os e cs ps f v w x;
        date = sbt_date_kept c b a l m y z;
        tick = sbt_tick_kept c b a l m y z;
        goce_date = goce_date_kept g j i p q r s;
        goce_count = goce_count_kept g j i p q r s;
      }

  -- ---- for C, where a number that stands for nothing is refused 3 first: the correlations
  module _ (c : VrkSbtCorrelation) (b a : ℕ) (l : c.back ≤ b) (m : c.ahead ≤ a)
      (y : Sbt.accepted (CApi.correlation_of c) ≡ true) (z : Sbt.accepted (CApi.correlation_of (widened_for_c c b a)) ≡ true) where
    pub date_for_c : (t : ℕ) (d : ℤ) (u : ℕ) → ((CApi.sbt_date t c d u ds os e).refusal ≡ 8 → ⊥) → ((CApi.sbt_date t c d u ds os e).refusal ≡ 9 → ⊥) →
        CApi.sbt_date t (widened_for_c c b a) d u cs ps f ≡ CApi.sbt_date t c d u ds os e
    unfolding CApi.sbt_date CApi.correlation_of
    date_for_c t d u n o = ap CApi.time_out (sbt_date_kept (CApi.correlation_of c) b a l m y z t d u n o)

    pub tick_for_c : (h : VrkHanded) → ((CApi.sbt_tick h c ds os e).refusal ≡ 8 → ⊥) → ((CApi.sbt_tick h c ds os e).refusal ≡ 9 → ⊥) →
        CApi.sbt_tick h (widened_for_c c b a) cs ps f ≡ CApi.sbt_tick h c ds os e
    unfolding CApi.sbt_tick CApi.correlation_of Sbt.tick_of
    tick_for_c h = go (CApi.known h)
      where
        old : Bool → VrkCount
        old k = CApi.count_out (valued 0 (outcome (given k 3 (Sbt.turning (CApi.correlation_of c) (CApi.handed_of h) ds os e))))

        go : (k : Bool) → ((old k).refusal ≡ 8 → ⊥) → ((old k).refusal ≡ 9 → ⊥) →
            CApi.count_out (valued 0 (outcome (given k 3 (Sbt.turning (CApi.correlation_of (widened_for_c c b a)) (CApi.handed_of h) cs ps f)))) ≡ old k
        go true n o = ap CApi.count_out (sbt_tick_kept (CApi.correlation_of c) b a l m y z (CApi.handed_of h) n o)
        go false n o = refl

  module _ (c : VrkGoceCorrelation) (b a : ℕ) (l : c.back ≤ b) (m : c.ahead ≤ a)
      (y : Goce.accepted (Counts.goce_of c) ≡ true) (z : Goce.accepted (Counts.goce_of (goce_widened_for_c c b a)) ≡ true) where
    pub goce_date_for_c : (t : ℕ) (d : ℤ) (u : ℕ) → ((Counts.goce_date t c d u ds os e).refusal ≡ 8 → ⊥) → ((Counts.goce_date t c d u ds os e).refusal ≡ 9 → ⊥) →
        Counts.goce_date t (goce_widened_for_c c b a) d u cs ps f ≡ Counts.goce_date t c d u ds os e
    unfolding Counts.goce_date
    goce_date_for_c t d u n o = ap CApi.time_out (goce_date_kept (Counts.goce_of c) b a l m y z t d u n o)

    pub goce_count_for_c : (h : VrkHanded) → ((Counts.goce_count h c ds os e).refusal ≡ 8 → ⊥) → ((Counts.goce_count h c ds os e).refusal ≡ 9 → ⊥) →
        Counts.goce_count h (goce_widened_for_c c b a) cs ps f ≡ Counts.goce_count h c ds os e
    unfolding Counts.goce_count Goce.obt_of
    goce_count_for_c h = go (CApi.known h)
      where
        old : Bool → VrkCount
        old k = CApi.count_out (valued 0 (outcome (given k 3 (Goce.turning (Counts.goce_of c) (CApi.handed_of h) ds os e))))

        go : (k : Bool) → ((old k).refusal ≡ 8 → ⊥) → ((old k).refusal ≡ 9 → ⊥) →
            CApi.count_out (valued 0 (outcome (given k 3 (Goce.turning (Counts.goce_of (goce_widened_for_c c b a)) (CApi.handed_of h) cs ps f)))) ≡ old k
        go true n o = ap CApi.count_out (goce_count_kept (Counts.goce_of c) b a l m y z (CApi.handed_of h) n o)
        go false n o = refl

-- ---- changes and texts
module _ (ds : List ℤ) (os : List ℕ) (e : ℤ) (cs : List ℤ) (ps : List ℕ) (f : ℤ) (v : Leap.accepted ds os e ≡ true) (w : Leap.accepted cs ps f ≡ true) (x : Leap.Extends ds os e cs ps f) where
  pub change_for_c : (h : VrkHanded) (c : ℕ) → ((CApi.changed h c ds os e).refusal ≡ 9 → ⊥) → CApi.changed h c cs ps f ≡ CApi.changed h c ds os e
  unfolding CApi.changed change_of
  change_for_c h c n = go (CApi.known_scale c && CApi.known h) n
    where
      go : (k : Bool) → ((CApi.time_out (dated_as (mark_of (CApi.handed_of h)) (scale_at c) (outcome (given k 3 (changing (CApi.handed_of h) (scale_at c) ds os e))))).refusal ≡ 9 → ⊥)
          → CApi.time_out (dated_as (mark_of (CApi.handed_of h)) (scale_at c) (outcome (given k 3 (changing (CApi.handed_of h) (scale_at c) cs ps f))))
          ≡ CApi.time_out (dated_as (mark_of (CApi.handed_of h)) (scale_at c) (outcome (given k 3 (changing (CApi.handed_of h) (scale_at c) ds os e))))
      go true n = ap CApi.time_out ((fresh ds os e cs ps f v w x).change (CApi.handed_of h) (scale_at c) n)
      go false n = refl

  pub text_read_for_c : (s : List ℕ) → ((CApi.time_out (read_text s ds os e)).refusal ≡ 9 → ⊥) → CApi.time_out (read_text s cs ps f) ≡ CApi.time_out (read_text s ds os e)
  text_read_for_c s n = ap CApi.time_out ((again ds os e cs ps f v w x).read s n)

  pub text_write_for_c : (h : VrkHanded) (m : ℕ) (out : List ℕ) → ((Bytes.writes (Bytes.handed_writing (Texts.text_writing m ds os e) h) out).number ≡ 9 → ⊥)
      → Bytes.writes (Bytes.handed_writing (Texts.text_writing m cs ps f) h) out ≡ Bytes.writes (Bytes.handed_writing (Texts.text_writing m ds os e) h) out
  unfolding Bytes.writes write_text
  text_write_for_c h m out n = go (CApi.known h) (Texts.known_form m) n
    where
      go : (k l : Bool) → ((written out (outcome (given k 3 (given l 3 (writing (CApi.handed_of h) (Texts.form_at m) ds os e out))))).number ≡ 9 → ⊥)
          → written out (outcome (given k 3 (given l 3 (writing (CApi.handed_of h) (Texts.form_at m) cs ps f out))))
          ≡ written out (outcome (given k 3 (given l 3 (writing (CApi.handed_of h) (Texts.form_at m) ds os e out))))
      go true true n = (again ds os e cs ps f v w x).write (CApi.handed_of h) (Texts.form_at m) out n
      go true false n = refl
      go false l n = refl
