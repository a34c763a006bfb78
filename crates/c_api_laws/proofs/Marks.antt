-- What the functions for C make of a record's mark: laws of what is handed in, which by one theorem are laws of every function. Words of
-- the header are quoted. Assumes nothing.
use mathlib.Core.Path.{◌≡◌, refl, sym, ap, subst, ◌∙◌}
use mathlib.Core.Bool.{Bool, true, false, cond, not, ◌&&◌, ◌||◌, and-true, and-false}
use mathlib.Core.List.{List, [], ◌∷◌}
use Prim.Native.Nat.{ℕ}
use lib.Dec.{leb}
use lib.IntN.{ℤ, pos, negsuc}
use lib.Ieee.{Float, nan}
use Rattle.std.specs.Prelude.{Ok}
use Rattle.axis.specs.Meaning.{Moment}
use Rattle.octets.specs.Meaning.{number, field}
use Rattle.scales.specs.Meaning.{code_of, scale_at, Judged, given, gives, Outcome, refused, answer, outcome, Slip, slip, dated_as, dated, valued, written, record_of, marked_record}
use Rattle.scales.specs.declared.Scale.{Scale}
use Rattle.scales.specs.declared.Scale.TheVariants as S
use Rattle.scales.specs.declared.Record.{Record}
use Rattle.scales.specs.declared.Mark.{Mark}
use Rattle.scales.specs.declared.Mark.TheVariants as M
use Rattle.ground_laws.proofs.Desks.{got, keeps, sevens}
use Rattle.double.specs.Meaning.{plus_zero}
use Rattle.handed.specs.Meaning.{mark_of}
use Rattle.handed.specs.declared.Handed.{Handed}
use Rattle.handed.specs.declared.Handed.TheVariants as H
use Rattle.decimal.specs.Meaning as Decimal
use Rattle.changes.specs.Meaning.{changing}
use Rattle.sbt.specs.Meaning as Sbt
use Rattle.goce.specs.Meaning as Goce
use Rattle.layout_times.specs.Meaning.{last_to}
use Rattle.layout_times.specs.Cuc as Cuc
use Rattle.layout_times.specs.Proteus as Proteus
use Rattle.layout_times.specs.Cryosat as Cryosat
use Rattle.layout_times.specs.Siral as Siral
use Rattle.c_api.specs.Marks.{known_mark, mark_at, mark_code, mark_source}
use Rattle.c_api.specs.Meaning.{known_scale, is_record, known, handed_of, time_out, count_out, correlation_of, DecimalWrote, sbt_tick, changed}
use Rattle.c_api.specs.Bytes.{writes, handed_writing}
use Rattle.c_api.specs.Counts.{goce_of, goce_count}
use Rattle.c_api.specs.Texts.{text_writing}
use Rattle.c_api.specs.declared.VrkHanded.{VrkHanded}
use Rattle.c_api.specs.declared.VrkTime.{VrkTime}
use Rattle.c_api.specs.declared.VrkDecimal.{VrkDecimal}
use Rattle.c_api.specs.declared.VrkSbtCorrelation.{VrkSbtCorrelation}
use Rattle.c_api.specs.declared.counts.VrkGoceCorrelation.{VrkGoceCorrelation}

-- ---- what a vrk_handed stands for, or 3
abbrev pub handed_in : VrkHanded → Outcome Handed
handed_in h = outcome (given (known h) 3 (gives (handed_of h)))

-- ---- every function that takes one goes by that alone: it gives what the library gives of it, or 3
abbrev pub outcome_of : {A : Type 0} → (Handed → Judged A) → Outcome Handed → Outcome A
outcome_of judging (answer t) = outcome (judging t)
outcome_of judging (refused n) = refused n

-- a change's answer has its mark
abbrev pub change_of : Outcome Handed → ℕ → List ℤ → List ℕ → ℤ → Slip
change_of (answer t) c ds os e = dated_as (mark_of t) (scale_at c) (outcome (given (known_scale c) 3 (changing t (scale_at c) ds os e)))
change_of (refused n) c ds os e = dated (scale_at c) (refused n)

abbrev Allows : Outcome Handed → VrkDecimal → Type 0
Allows o r = Decimal.Allowed (outcome_of Decimal.writing o) (record { number = r.refusal; value = r.day })

pub record Gives (h : VrkHanded) (o : Outcome Handed) : Type 0 where
  pub decimal : (r : VrkDecimal) → (DecimalWrote h r → Allows o r) × (Allows o r → DecimalWrote h r)
  pub tick : (c : VrkSbtCorrelation) (ds : List ℤ) (os : List ℕ) (e : ℤ)
      → sbt_tick h c ds os e ≡ count_out (valued 0 (outcome_of (λ t. Sbt.turning (correlation_of c) t ds os e) o))
  pub count : (c : VrkGoceCorrelation) (ds : List ℤ) (os : List ℕ) (e : ℤ)
      → goce_count h c ds os e ≡ count_out (valued 0 (outcome_of (λ t. Goce.turning (goce_of c) t ds os e) o))
  pub change : (c : ℕ) (ds : List ℤ) (os : List ℕ) (e : ℤ) → changed h c ds os e ≡ time_out (change_of o c ds os e)
  -- of texts, CUC, Proteus, CryoSat and SIRAL
  pub bytes : (writing : Handed → List ℕ → Judged (List ℕ)) (out : List ℕ)
      → writes (handed_writing writing h) out ≡ written out (outcome_of (λ t. writing t out) o)

module _ (h : VrkHanded) where
  judged : {A : Type 0} (judging : Handed → Judged A) → outcome (given (known h) 3 (judging (handed_of h))) ≡ outcome_of judging (handed_in h)
  judged judging = go (known h)
    where
      go : (b : Bool) → outcome (given b 3 (judging (handed_of h))) ≡ outcome_of judging (outcome (given b 3 (gives (handed_of h))))
      go true = refl
      go false = refl

  change_is : (c : ℕ) (ds : List ℤ) (os : List ℕ) (e : ℤ) → changed h c ds os e ≡ time_out (change_of (handed_in h) c ds os e)
  unfolding changed
  change_is c ds os e = ap time_out (go (known h))
    where
      go : (b : Bool) → dated_as (mark_of (handed_of h)) (scale_at c) (outcome (given (known_scale c && b) 3 (changing (handed_of h) (scale_at c) ds os e)))
          ≡ change_of (outcome (given b 3 (gives (handed_of h)))) c ds os e
      go true = rw (and-true (known_scale c))
      go false = rw (and-false (known_scale c))

  -- so that a law of what is handed in is one of every function
  pub by_handed : (o : Outcome Handed) → handed_in h ≡ o → Gives h o
  unfolding DecimalWrote sbt_tick goce_count writes
  by_handed o e =
      subst (Gives h) e
      (record {
        decimal =
            λ r.
            let P : Outcome ℤ → Type 0 = λ x. Decimal.Allowed x (record { number = r.refusal; value = r.day }) in
            (subst P (judged Decimal.writing), subst P (sym (judged Decimal.writing)));
        tick = λ c ds os e. ap (λ (x : Outcome ℕ). count_out (valued 0 x)) (judged (λ t. Sbt.turning (correlation_of c) t ds os e));
        count = λ c ds os e. ap (λ (x : Outcome ℕ). count_out (valued 0 x)) (judged (λ t. Goce.turning (goce_of c) t ds os e));
        change = change_is;
        bytes = λ writing out. ap (written out) (judged (λ t. writing t out));
      })

-- ---- marks that are ignored, unknown or known
abbrev pub marked_with : ℕ → ℕ → VrkHanded → VrkHanded
marked_with c x h = record { kind = h.kind; scale = h.scale; day = h.day; micro = h.micro; decimal = h.decimal; mark = c; source = x }

abbrev pub record_in : VrkHanded → Record
record_in h = marked_record (mark_at h.mark h.source) (record_of (scale_at h.scale) h.day h.micro)

module _ (h : VrkHanded) where
  -- "The source of VRK_PLAIN is ignored"
  pub plain_source : (x y : ℕ) → handed_in (marked_with 0 x h) ≡ handed_in (marked_with 0 y h)
  plain_source x y = refl

  -- of a decimal day "`mark` and `source` are" too
  pub decimal_unmarked : h.kind ≡ 1 → (c x d y : ℕ) → handed_in (marked_with c x h) ≡ handed_in (marked_with d y h)
  decimal_unmarked k c x d y = rw k

  module _ (k : h.kind ≡ 0) where
    -- "unknown and refused 3": by every function, and nothing is written
    pub unknown_mark : known_mark h.mark h.source ≡ false → handed_in h ≡ refused 3
    unknown_mark e = rw (k, e, and-false (known_scale h.scale))

    -- the library is handed the record with that mark
    pub known_mark_lem : known_scale h.scale ≡ true → known_mark h.mark h.source ≡ true → handed_in h ≡ answer (H.Record (record_in h))
    known_mark_lem s e = rw (k, s, e)

-- ---- "No other function looks at it": times that differ in mark and source alone get the same of every function but Proteus' writer,
-- and a change has the same number and time
abbrev time_alone : VrkTime → VrkTime
time_alone t = record { refusal = t.refusal; scale = t.scale; day = t.day; micro = t.micro; mark = 0; source = 0 }

pub record MarkIgnored (h k : VrkHanded) : Type 0 where
  pub decimal : (r : VrkDecimal) → DecimalWrote h r → DecimalWrote k r
  pub text : (n : ℕ) (ds : List ℤ) (os : List ℕ) (e : ℤ) (out : List ℕ)
      → writes (handed_writing (text_writing n ds os e) h) out ≡ writes (handed_writing (text_writing n ds os e) k) out
  pub cuc : (out : List ℕ) → writes (handed_writing Cuc.writing h) out ≡ writes (handed_writing Cuc.writing k) out
  pub cryosat : (out : List ℕ) → writes (handed_writing Cryosat.writing h) out ≡ writes (handed_writing Cryosat.writing k) out
  pub siral : (out : List ℕ) → writes (handed_writing Siral.writing h) out ≡ writes (handed_writing Siral.writing k) out
  pub tick : (c : VrkSbtCorrelation) (ds : List ℤ) (os : List ℕ) (e : ℤ) → sbt_tick h c ds os e ≡ sbt_tick k c ds os e
  pub count : (c : VrkGoceCorrelation) (ds : List ℤ) (os : List ℕ) (e : ℤ) → goce_count h c ds os e ≡ goce_count k c ds os e
  pub change : (c : ℕ) (ds : List ℤ) (os : List ℕ) (e : ℤ) → time_alone (changed h c ds os e) ≡ time_alone (changed k c ds os e)

module _ (h : VrkHanded) (c x d y : ℕ) (p : known_mark c x ≡ true) (q : known_mark d y ≡ true) where
  -- a chain that does not look at a record's mark, behind 3 for what is unknown
  blind : {A : Type 0} (judging : Handed → Judged A) → ((m : Mark) (r : Record) → judging (H.Record (marked_record m r)) ≡ judging (H.Record r)) → (a : Bool)
      → given (a && known (marked_with c x h)) 3 (judging (handed_of (marked_with c x h))) ≡ given (a && known (marked_with d y h)) 3 (judging (handed_of (marked_with d y h)))
  blind {A} judging same a = go (is_record h)
    where
      r : Record
      r = record_of (scale_at h.scale) h.day h.micro

      chain : Bool → ℕ → ℕ → Judged A
      chain b m s =
          given (a && (known_scale h.scale && (leb h.kind 1 && (not b || known_mark m s)))) 3
          (judging (cond b (H.Record (marked_record (mark_at m s) r)) (H.Decimal h.decimal (scale_at h.scale))))

      go : (b : Bool) → chain b c x ≡ chain b d y
      go true = rw (p, q, same (mark_at c x) r, same (mark_at d y) r)
      go false = refl

  wrote : (writing : Handed → List ℕ → Judged (List ℕ)) → ((out : List ℕ) (m : Mark) (r : Record) → writing (H.Record (marked_record m r)) out ≡ writing (H.Record r) out) →
      (out : List ℕ) → writes (handed_writing writing (marked_with c x h)) out ≡ writes (handed_writing writing (marked_with d y h)) out
  unfolding writes
  wrote writing same out = ap (λ (j : Judged (List ℕ)). written out (outcome j)) (blind (λ t. writing t out) (same out) true)

  counted : (turning : Handed → Judged ℕ) → ((m : Mark) (r : Record) → turning (H.Record (marked_record m r)) ≡ turning (H.Record r)) →
      count_out (valued 0 (outcome (given (known (marked_with c x h)) 3 (turning (handed_of (marked_with c x h))))))
      ≡ count_out (valued 0 (outcome (given (known (marked_with d y h)) 3 (turning (handed_of (marked_with d y h))))))
  counted turning same = ap (λ (j : Judged ℕ). count_out (valued 0 (outcome j))) (blind turning same true)

  alone : (m n : Mark) (s : Scale) (o : Outcome Moment) → time_alone (time_out (dated_as m s o)) ≡ time_alone (time_out (dated_as n s o))
  alone m n s (refused k) = refl
  alone m n s (answer t) = refl

  pub mark_ignored : MarkIgnored (marked_with c x h) (marked_with d y h)
  unfolding DecimalWrote sbt_tick goce_count changed
  mark_ignored =
      record {
        decimal = λ r. subst (λ (j : Judged ℤ). Decimal.Allowed (outcome j) (record { number = r.refusal; value = r.day })) (blind Decimal.writing (λ m r. refl) true);
        text = λ n ds os e. wrote (text_writing n ds os e) (λ out m r. refl);
        cuc = wrote Cuc.writing (λ out m r. refl);
        cryosat = wrote Cryosat.writing (λ out m r. refl);
        siral = wrote Siral.writing (λ out m r. refl);
        tick = λ k ds os e. counted (λ t. Sbt.turning (correlation_of k) t ds os e) (λ m r. refl);
        count = λ k ds os e. counted (λ t. Goce.turning (goce_of k) t ds os e) (λ m r. refl);
        change =
            λ to ds os e.
            let s = scale_at to in
            let m = mark_of (handed_of (marked_with c x h)) in
            let n = mark_of (handed_of (marked_with d y h)) in
            ap (λ (j : Judged Moment). time_alone (time_out (dated_as m s (outcome j)))) (blind (λ t. changing t s ds os e) (λ m r. refl) (known_scale to))
            ∙ alone m n s (outcome (given (known_scale to && known (marked_with d y h)) 3 (changing (handed_of (marked_with d y h)) s ds os e)));
      }

-- ---- a time handed out and handed in again
abbrev pub again : Float → VrkTime → VrkHanded
again x t = record { kind = 0; scale = t.scale; day = t.day; micro = t.micro; decimal = x; mark = t.mark; source = t.source }

scale_again : (s : Scale) → (known_scale (code_of s) ≡ true) × (scale_at (code_of s) ≡ s)
scale_again S.Tai = (refl, refl)
scale_again S.Utc = (refl, refl)
scale_again S.Gps = (refl, refl)

mark_again : (m : Mark) → (known_mark (mark_code m) (mark_source m) ≡ true) × (mark_at (mark_code m) (mark_source m) ≡ m)
mark_again M.Plain = (refl, refl)
mark_again (M.Proteus true) = (refl, refl)
mark_again (M.Proteus false) = (refl, refl)
mark_again (M.Correlated n) = (refl, refl)

-- is the record that the library answered, mark included; whatever stands in `decimal`
pub handed_again : (r : Record) (x : Float) → handed_in (again x (time_out (slip (Ok r)))) ≡ answer (H.Record r)
handed_again r x =
    let s = scale_again r.scale in
    let m = mark_again r.mark in
    rw (s.0, m.0, s.1, m.1)

-- ---- met
abbrev plain_record : ℕ → ℤ → ℕ → VrkHanded
plain_record s d u = record { kind = 0; scale = s; day = d; micro = u; decimal = plus_zero; mark = 0; source = 0 }

-- a plain record with another source, in its own scale
pub plain_source_instance : changed (marked_with 0 9 (plain_record 0 (pos 1) 2003)) 0 [] [] (pos 0) ≡ record { refusal = 0; scale = 0; day = pos 1; micro = 2003; mark = 0; source = 0 }
plain_source_instance =
    let h = plain_record 0 (pos 1) 2003 in
    (by_handed (marked_with 0 9 h) (handed_in h) (plain_source h 9 0)).change 0 [] [] (pos 0)

-- decimal day 0 with a mark that no record may have
abbrev decimal_zero : VrkHanded
decimal_zero = record { kind = 1; scale = 0; day = pos 1; micro = 2003; decimal = plus_zero; mark = 0; source = 0 }

pub decimal_unmarked_instance : writes (handed_writing Cryosat.writing (marked_with 7 7 decimal_zero)) (sevens 8) ≡ got 8 (0 ∷ 0 ∷ 0 ∷ 0 ∷ 0 ∷ 0 ∷ 0 ∷ 0 ∷ [])
unfolding field
decimal_unmarked_instance =
    (by_handed (marked_with 7 7 decimal_zero) (handed_in decimal_zero) (decimal_unmarked decimal_zero refl 7 7 0 0)).bytes Cryosat.writing (sevens 8)

-- Proteus with a source of 2: 3, and no byte is written
pub unknown_mark_instance : writes (handed_writing Proteus.writing (marked_with 1 2 (plain_record 1 (pos 1) 0))) (sevens 8) ≡ keeps 3 (sevens 8)
unknown_mark_instance =
    let h = marked_with 1 2 (plain_record 1 (pos 1) 0) in
    (by_handed h (refused 3) (unknown_mark h refl refl)).bytes Proteus.writing (sevens 8)

pub known_mark_instance : handed_in (marked_with 2 9 (plain_record 0 (pos 1) 2003)) ≡ answer (H.Record (marked_record (M.Correlated 9) (record_of S.Tai (pos 1) 2003)))
known_mark_instance = known_mark_lem (marked_with 2 9 (plain_record 0 (pos 1) 2003)) refl refl refl

-- the bytes of a correlated record are those of the plain one
pub mark_ignored_instance : writes (handed_writing Cryosat.writing (marked_with 2 9 (plain_record 0 (pos 1) 2003))) (sevens 8) ≡ got 8 (0 ∷ 1 ∷ 0 ∷ 0 ∷ 0 ∷ 2 ∷ 0 ∷ 3 ∷ [])
unfolding writes field
mark_ignored_instance = (mark_ignored (plain_record 0 (pos 1) 2003) 2 9 0 0 refl refl).cryosat (sevens 8)

-- bytes of Proteus with H3, read, handed in again and written
abbrev pub with_h3 : List ℕ
with_h3 = 0 ∷ 1 ∷ 0 ∷ 0 ∷ 0 ∷ 1 ∷ 0 ∷ 0 ∷ []

pub handed_again_instance : writes (handed_writing Proteus.writing (again nan (time_out (Proteus.read with_h3)))) (sevens 8) ≡ got 8 with_h3
unfolding Proteus.read number field last_to
handed_again_instance =
    let r = marked_record (M.Proteus true) (record_of S.Utc (negsuc 7299) 1000000) in
    (by_handed (again nan (time_out (slip (Ok r)))) (answer (H.Record r)) (handed_again r nan)).bytes Proteus.writing (sevens 8)
