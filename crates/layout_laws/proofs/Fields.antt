-- Bytes and fields are exact both ways, in each of the seven layouts. Assumes nothing.
use mathlib.Core.Path.{◌≡◌, refl, sym, ap, ap₂, subst, ◌∙◌}
use mathlib.Core.Bool.{Bool, true, false}
use mathlib.Core.List.{List, ◌++◌}
use Prim.Native.Nat.{ℕ, ◌+◌, ◌*◌, ◌/◌, ◌%◌, ◌^◌, ◌≤◌, ◌<◌}
use native.Mathlib.Omega.{arith}
use lib.Dec.{leb, ltb, eqb, lit<}
use lib.ListN.{length}
use borrow.Author.Tests.{eq-eqb, eqb-true, eqb-false, le-leb, lt-ltb, ltb-true}
use Rattle.octets.specs.Meaning.{field, part}
use Rattle.octets.specs.Field.{Bytes}
use Rattle.scales.specs.Meaning.{gives}
use Rattle.scales.specs.Order.{Answers, last, next}
use Rattle.scales.specs.Place.{and_both}
use Rattle.layout_fields.specs.Meaning.{placing}
use Rattle.octets.specs.Parts.{part_lt, join, join_last, part_first, part_next, part_last}
use Rattle.layout_fields.specs.Cuc as Cuc
use Rattle.layout_fields.specs.Goce as Goce
use Rattle.layout_fields.specs.Obet as Obet
use Rattle.layout_fields.specs.Proteus as Proteus
use Rattle.layout_fields.specs.Cryosat as Cryosat
use Rattle.layout_fields.specs.Siral as Siral
use Rattle.layout_fields.specs.Sbt as Sbt
use Rattle.layout_fields.specs.declared.cuc.Fields as C
use Rattle.layout_fields.specs.declared.proteus.Fields as P
use Rattle.layout_fields.specs.declared.cryosat.Fields as Y
use Rattle.layout_fields.specs.declared.siral.Fields as R
use Rattle.layout_laws.specs.Meaning.{Exact}
use Rattle.layout_laws.proofs.Chains.{both_true, exact}

-- an image that is the bytes themselves has room where they have
place_as : (image s out : List ℕ) → image ≡ s → length s ≤ length out → Answers (placing image out) s
place_as image s out e h = subst (λ (i : List ℕ). Answers (placing i out) s) (sym e) (next (le-leb (length s) (length out) h) last)

gives_as : {A : Type 0} (a b : A) → a ≡ b → Answers (gives a) b
gives_as {A} a b e = subst (λ (x : A). Answers (gives x) b) (sym e) last

-- ---- CUC
abbrev pub CucFits : C.Fields → Type 0
CucFits f = (f.seconds < 4294967296) × (f.fraction < 65536)

cuc_image : (s : List ℕ) → Bytes s → length s ≡ 6 → Cuc.image_of (Cuc.fields_of s) ≡ s
cuc_image s b l = ap (λ (t : List ℕ). field 4 (part s 0 4) ++ t) (join_last s 4 2 (omega arith) b (sym l)) ∙ join s 0 4 (omega arith) b

cuc_fields_lem : (f : C.Fields) → CucFits f → Cuc.fields_of (Cuc.image_of f) ≡ f
cuc_fields_lem f k =
    ap₂ {C = C.Fields} (λ (x y : ℕ). record { seconds = x; fraction = y })
    (part_first 4 f.seconds (field 2 f.fraction) k.0)
    (part_next 4 f.seconds (field 2 f.fraction) 0 2 ∙ part_last 2 f.fraction k.1)

pub cuc_back : (s : List ℕ) (f : C.Fields) → Bytes s → Answers (Cuc.reading s) f → (out : List ℕ) → length s ≤ length out → Answers (Cuc.writing f out) s
cuc_back s f b (next e last) out h = place_as (Cuc.image_of (Cuc.fields_of s)) s out (cuc_image s b (eqb-true (length s) 6 e)) h

pub cuc_forth : (f : C.Fields) (out s : List ℕ) → CucFits f → Answers (Cuc.writing f out) s → Answers (Cuc.reading s) f
unfolding field
cuc_forth f out s k (next r last) = next refl (gives_as (Cuc.fields_of (Cuc.image_of f)) f (cuc_fields_lem f k))

pub cuc_exact : Exact Cuc.empty CucFits Cuc.read Cuc.write
unfolding Cuc.read Cuc.write
cuc_exact = exact Cuc.empty CucFits Cuc.reading Cuc.writing (λ s. refl) (λ f out. refl) cuc_back cuc_forth

-- ---- GOCE, OBET and SBT: a count
abbrev pub Word : ℕ → Type 0
Word n = n < 2 ^ 64

goce_back : (s : List ℕ) (n : ℕ) → Bytes s → Answers (Goce.reading s) n → (out : List ℕ) → length s ≤ length out → Answers (Goce.writing n out) s
goce_back s n b (next e last) out h =
    let l : length s ≡ 6 = eqb-true (length s) 6 e in
    next (lt-ltb (part s 0 6) (2 ^ 48) (part_lt s 0 6 (omega arith) b)) (place_as (field 6 (part s 0 6)) s out (join_last s 0 6 (omega arith) b (sym l)) h)

goce_forth : (n : ℕ) (out s : List ℕ) → Word n → Answers (Goce.writing n out) s → Answers (Goce.reading s) n
unfolding field
goce_forth n out s k (next t (next r last)) = next refl (gives_as (part (field 6 n) 0 6) n (part_last 6 n (ltb-true n (2 ^ 48) t)))

pub goce_exact : Exact 0 Word Goce.read Goce.write
unfolding Goce.read Goce.write
goce_exact = exact 0 Word Goce.reading Goce.writing (λ s. refl) (λ n out. refl) goce_back goce_forth

obet_back : (s : List ℕ) (n : ℕ) → Bytes s → Answers (Obet.reading s) n → (out : List ℕ) → length s ≤ length out → Answers (Obet.writing n out) s
obet_back s n b (next e (next m last)) out h =
    let l : length s ≡ 8 = eqb-true (length s) 8 e in
    next (lt-ltb (part s 1 7) (2 ^ 56) (part_lt s 1 7 (omega arith) b))
    (place_as (field 1 Obet.marker ++ field 7 (part s 1 7)) s out
    (ap₂ ◌++◌ (ap (field 1) (sym (eqb-true (part s 0 1) Obet.marker m))) (join_last s 1 7 (omega arith) b (sym l)) ∙ join s 0 1 (omega arith) b) h)

obet_forth : (n : ℕ) (out s : List ℕ) → Word n → Answers (Obet.writing n out) s → Answers (Obet.reading s) n
unfolding field
obet_forth n out s k (next t (next r last)) =
    next refl
    (next (eq-eqb (part (field 1 Obet.marker ++ field 7 n) 0 1) Obet.marker (part_first 1 Obet.marker (field 7 n) (lit< tt)))
    (gives_as (part (field 1 Obet.marker ++ field 7 n) 1 7) n (part_next 1 Obet.marker (field 7 n) 0 7 ∙ part_last 7 n (ltb-true n (2 ^ 56) t))))

pub obet_exact : Exact 0 Word Obet.read Obet.write
unfolding Obet.read Obet.write
obet_exact = exact 0 Word Obet.reading Obet.writing (λ s. refl) (λ n out. refl) obet_back obet_forth

abbrev pub TickFits : ℕ → Type 0
TickFits t = t < 4294967296

sbt_back : (s : List ℕ) (t : ℕ) → Bytes s → Answers (Sbt.reading s) t → (out : List ℕ) → length s ≤ length out → Answers (Sbt.writing t out) s
sbt_back s t b (next e last) out h =
    let l : length s ≡ 4 = eqb-true (length s) 4 e in
    place_as (field 4 (part s 0 4)) s out (join_last s 0 4 (omega arith) b (sym l)) h

sbt_forth : (t : ℕ) (out s : List ℕ) → TickFits t → Answers (Sbt.writing t out) s → Answers (Sbt.reading s) t
unfolding field
sbt_forth t out s k (next r last) =
    next refl (gives_as (part (field 4 t) 0 4) t (part_last 4 t k))

pub sbt_exact : Exact 0 TickFits Sbt.read Sbt.write
unfolding Sbt.read Sbt.write
sbt_exact = exact 0 TickFits Sbt.reading Sbt.writing (λ s. refl) (λ t out. refl) sbt_back sbt_forth

-- ---- three fields of 2, 4 and 2 bytes
three_join : (s : List ℕ) → Bytes s → length s ≡ 8 → field 2 (part s 0 2) ++ (field 4 (part s 2 4) ++ field 2 (part s 6 2)) ≡ s
three_join s b l =
    ap (λ (t : List ℕ). field 2 (part s 0 2) ++ t)
    (ap (λ (t : List ℕ). field 4 (part s 2 4) ++ t) (join_last s 6 2 (omega arith) b (sym l)) ∙ join s 2 4 (omega arith) b)
    ∙ join s 0 2 (omega arith) b

module _ (x y : ℕ) (rest : List ℕ) (h : x < 65536) (k : y < 4294967296) where
  first_part : part (field 2 x ++ (field 4 y ++ rest)) 0 2 ≡ x
  first_part = part_first 2 x (field 4 y ++ rest) h

  second_part : part (field 2 x ++ (field 4 y ++ rest)) 2 4 ≡ y
  second_part = part_next 2 x (field 4 y ++ rest) 0 4 ∙ part_first 4 y rest k

  after : (j m : ℕ) → part (field 2 x ++ (field 4 y ++ rest)) (2 + (4 + j)) m ≡ part rest j m
  after j m = part_next 2 x (field 4 y ++ rest) (4 + j) m ∙ part_next 4 y rest j m

-- ---- Proteus
abbrev pub ProteusFits : P.Fields → Type 0
ProteusFits f = (f.week < 65536) × (f.second < 4294967296) × (f.fraction < 65536)

head_joined : (x : ℕ) → Proteus.zeros_in x ≡ 0 → Proteus.head_of (Proteus.week_in x) (Proteus.h3_in x) ≡ x
head_joined x e = go (eqb (x % 2) 1) refl
  where
    go : (b : Bool) → eqb (x % 2) 1 ≡ b → Proteus.head_of (x / 16) b ≡ x
    go true q = let o : x % 2 ≡ 1 = eqb-true (x % 2) 1 q in omega arith
    go false q = let o : x % 2 ≡ 0 = even (x % 2) (omega arith) (eqb-false (x % 2) 1 q) in omega arith
      where
        even : (r : ℕ) → r < 2 → (r ≡ 1 → ⊥) → r ≡ 0
        even r h k = omega arith

record Head (w : ℕ) (b : Bool) (x : ℕ) : Type 0 where
  week : Proteus.week_in x ≡ w
  h3 : Proteus.h3_in x ≡ b
  zeros : Proteus.zeros_in x ≡ 0
  fits : x < 65536

head_parts : (w : ℕ) (b : Bool) → w < 4096 → Head w b (Proteus.head_of w b)
head_parts w true h = record { week = omega arith; h3 = eq-eqb ((w * 16 + 1) % 2) 1 (omega arith); zeros = omega arith; fits = omega arith }
head_parts w false h = record { week = omega arith; h3 = ap (λ (x : ℕ). eqb x 1) even; zeros = omega arith; fits = omega arith }
  where
    even : w * 16 % 2 ≡ 0
    even = omega arith

proteus_image : (s : List ℕ) → Bytes s → length s ≡ 8 → Proteus.zeros_in (part s 0 2) ≡ 0 → Proteus.image_of (Proteus.fields_of s) ≡ s
proteus_image s b l z = ap (λ (x : ℕ). field 2 x ++ (field 4 (part s 2 4) ++ field 2 (part s 6 2))) (head_joined (part s 0 2) z) ∙ three_join s b l

module _ (f : P.Fields) (w : f.week < 4096) (k : f.second < 4294967296) (h : f.fraction < 65536) where
  head_is : part (Proteus.image_of f) 0 2 ≡ Proteus.head_of f.week f.h3
  head_is = first_part (Proteus.head_of f.week f.h3) f.second (field 2 f.fraction) (head_parts f.week f.h3 w).fits k

  second_is : part (Proteus.image_of f) 2 4 ≡ f.second
  second_is = second_part (Proteus.head_of f.week f.h3) f.second (field 2 f.fraction) (head_parts f.week f.h3 w).fits k

  proteus_fields_lem : Proteus.fields_of (Proteus.image_of f) ≡ f
  proteus_fields_lem =
      let q = head_parts f.week f.h3 w in
      let r = after (Proteus.head_of f.week f.h3) f.second (field 2 f.fraction) q.fits k 0 2 ∙ part_last 2 f.fraction h in
      λ i. record {
        week = (ap Proteus.week_in head_is ∙ q.week) i;
        h3 = (ap Proteus.h3_in head_is ∙ q.h3) i;
        second = second_is i;
        fraction = r i;
      }

  proteus_zeros : Proteus.zeros_in (part (Proteus.image_of f) 0 2) ≡ 0
  proteus_zeros = ap Proteus.zeros_in head_is ∙ (head_parts f.week f.h3 w).zeros

pub proteus_back : (s : List ℕ) (f : P.Fields) → Bytes s → Answers (Proteus.reading s) f → (out : List ℕ) → length s ≤ length out → Answers (Proteus.writing f out) s
proteus_back s f b (next e (next z (next t last))) out h =
    let l : length s ≡ 8 = eqb-true (length s) 8 e in
    let w : part s 0 2 < 65536 = part_lt s 0 2 (omega arith) b in
    next (both_true (lt-ltb (part s 0 2 / 16) 4096 (omega arith)) t) (place_as (Proteus.image_of (Proteus.fields_of s)) s out (proteus_image s b l (eqb-true _ 0 z)) h)

pub proteus_forth : (f : P.Fields) (out s : List ℕ) → ProteusFits f → Answers (Proteus.writing f out) s → Answers (Proteus.reading s) f
unfolding field
proteus_forth f out s k (next t (next r last)) =
    let q = and_both (ltb f.week 4096) (leb f.second 604799) t in
    let w : f.week < 4096 = ltb-true f.week 4096 q.0 in
    next refl
    (next (eq-eqb (Proteus.zeros_in (part (Proteus.image_of f) 0 2)) 0 (proteus_zeros f w k.1 k.2))
    (next (ap (λ (x : ℕ). leb x 604799) (second_is f w k.1 k.2) ∙ q.1)
    (gives_as (Proteus.fields_of (Proteus.image_of f)) f (proteus_fields_lem f w k.1 k.2))))

pub proteus_exact : Exact Proteus.empty ProteusFits Proteus.read Proteus.write
unfolding Proteus.read Proteus.write
proteus_exact = exact Proteus.empty ProteusFits Proteus.reading Proteus.writing (λ s. refl) (λ f out. refl) proteus_back proteus_forth

-- ---- CryoSat
abbrev pub CryosatFits : Y.Fields → Type 0
CryosatFits f = (f.day < 65536) × (f.millisecond < 4294967296) × (f.microsecond < 65536)

module _ (f : Y.Fields) (k : CryosatFits f) where
  cryosat_fields_lem : Cryosat.fields_of (Cryosat.image_of f) ≡ f
  cryosat_fields_lem =
      let x = f.day in
      let y = f.millisecond in
      let z = field 2 f.microsecond in
      λ i. record {
        day = first_part x y z k.0 k.1 i;
        millisecond = second_part x y z k.0 k.1 i;
        microsecond = (after x y z k.0 k.1 0 2 ∙ part_last 2 f.microsecond k.2) i;
      }

pub cryosat_back : (s : List ℕ) (f : Y.Fields) → Bytes s → Answers (Cryosat.reading s) f → (out : List ℕ) → length s ≤ length out → Answers (Cryosat.writing f out) s
cryosat_back s f b (next e (next t last)) out h =
    next t (place_as (Cryosat.image_of (Cryosat.fields_of s)) s out (three_join s b (eqb-true (length s) 8 e)) h)

pub cryosat_forth : (f : Y.Fields) (out s : List ℕ) → CryosatFits f → Answers (Cryosat.writing f out) s → Answers (Cryosat.reading s) f
unfolding field
cryosat_forth f out s k (next t (next r last)) =
    let e = cryosat_fields_lem f k in
    next refl (next (ap (λ (g : Y.Fields). Cryosat.in_limits g.millisecond g.microsecond) e ∙ t) (gives_as (Cryosat.fields_of (Cryosat.image_of f)) f e))

pub cryosat_exact : Exact Cryosat.empty CryosatFits Cryosat.read Cryosat.write
unfolding Cryosat.read Cryosat.write
cryosat_exact = exact Cryosat.empty CryosatFits Cryosat.reading Cryosat.writing (λ s. refl) (λ f out. refl) cryosat_back cryosat_forth

-- ---- SIRAL
abbrev pub SiralFits : R.Fields → Type 0
SiralFits f = (f.day < 65536) × (f.millisecond < 4294967296) × (f.microsecond < 65536) × (f.extra < 65536)

siral_image : (s : List ℕ) → Bytes s → length s ≡ 10 → Siral.image_of (Siral.fields_of s) ≡ s
siral_image s b l =
    ap (λ (t : List ℕ). field 2 (part s 0 2) ++ t)
    (ap (λ (t : List ℕ). field 4 (part s 2 4) ++ t)
    (ap (λ (t : List ℕ). field 2 (part s 6 2) ++ t) (join_last s 8 2 (omega arith) b (sym l)) ∙ join s 6 2 (omega arith) b)
    ∙ join s 2 4 (omega arith) b)
    ∙ join s 0 2 (omega arith) b

module _ (f : R.Fields) (k : SiralFits f) where
  siral_fields_lem : Siral.fields_of (Siral.image_of f) ≡ f
  siral_fields_lem =
      let x = f.day in
      let y = f.millisecond in
      let z = field 2 f.microsecond ++ field 2 f.extra in
      λ i. record {
        day = first_part x y z k.0 k.1 i;
        millisecond = second_part x y z k.0 k.1 i;
        microsecond = (after x y z k.0 k.1 0 2 ∙ part_first 2 f.microsecond (field 2 f.extra) k.2) i;
        extra = (after x y z k.0 k.1 2 2 ∙ part_next 2 f.microsecond (field 2 f.extra) 0 2 ∙ part_last 2 f.extra k.3) i;
      }

pub siral_back : (s : List ℕ) (f : R.Fields) → Bytes s → Answers (Siral.reading s) f → (out : List ℕ) → length s ≤ length out → Answers (Siral.writing f out) s
siral_back s f b (next e (next t last)) out h =
    next t (place_as (Siral.image_of (Siral.fields_of s)) s out (siral_image s b (eqb-true (length s) 10 e)) h)

pub siral_forth : (f : R.Fields) (out s : List ℕ) → SiralFits f → Answers (Siral.writing f out) s → Answers (Siral.reading s) f
unfolding field
siral_forth f out s k (next t (next r last)) =
    let e = siral_fields_lem f k in
    next refl (next (ap (λ (g : R.Fields). Cryosat.in_limits g.millisecond g.microsecond) e ∙ t) (gives_as (Siral.fields_of (Siral.image_of f)) f e))

pub siral_exact : Exact Siral.empty SiralFits Siral.read Siral.write
unfolding Siral.read Siral.write
siral_exact = exact Siral.empty SiralFits Siral.reading Siral.writing (λ s. refl) (λ f out. refl) siral_back siral_forth
