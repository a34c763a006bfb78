-- Bytes that are read as a time and written again are the same bytes; SIRAL's where the extra counter is 0. Assumes nothing.
use mathlib.Core.Path.{◌≡◌, refl, sym, ap, subst, ◌∙◌}
use mathlib.Core.Bool.{Bool, true}
use mathlib.Core.List.{List}
use Prim.Native.Nat.{ℕ, ◌+◌, ◌*◌, ◌/◌, ◌%◌, ◌≤◌, ◌<◌}
use native.Mathlib.Omega.{arith}
use lib.Dec.{ltb, lit≤}
use lib.IntN.{ℤ}
use lib.ListN.{length}
use lib.Signed.{le_z}
use borrow.Author.Tests.{eqb-true, leb-true, ltb-true, le-leb, lt-ltb}
use Rattle.axis.specs.Meaning.{day_at, Moment}
use Rattle.axis.specs.Axis.{day_le}
use Rattle.octets.specs.Field.{Bytes}
use Rattle.scales.specs.Meaning.{answer, outcome, Slip, dated_as, written, in_span, Judged, given}
use Rattle.scales.specs.Order.{Answers, last, next, answers_is}
use Rattle.scales.specs.Place.{and_both}
use Rattle.scales.specs.declared.Scale.TheVariants as S
use Rattle.scales.specs.declared.Scale.{Scale}
use Rattle.scales.specs.declared.Mark.{Mark}
use Rattle.scales.specs.declared.Mark.TheVariants as M
use Rattle.octets.specs.Meaning.{part}
use Rattle.layout_fields.specs.Meaning.{placing}
use Rattle.octets.specs.Parts.{part_lt}
use Rattle.layout_fields.specs.Cuc as FC
use Rattle.layout_fields.specs.Proteus as FP
use Rattle.layout_fields.specs.Cryosat as FY
use Rattle.layout_fields.specs.Siral as FR
use Rattle.layout_fields.specs.declared.cuc.Fields as C
use Rattle.layout_fields.specs.declared.proteus.Fields as P
use Rattle.layout_fields.specs.declared.cryosat.Fields as Y
use Rattle.layout_fields.specs.declared.siral.Fields as R
use Rattle.layout_times.specs.Meaning.{rounding, fraction_micros, fraction_at, moment_from, micros_from, imaging}
use Rattle.layout_times.specs.Fraction.{below_second, same_fraction}
use Rattle.layout_times.specs.Days.{day_is, micros_moment}
use Rattle.layout_times.specs.Cuc as Cuc
use Rattle.layout_times.specs.Proteus as Proteus
use Rattle.layout_times.specs.Cryosat as Cryosat
use Rattle.layout_times.specs.Siral as Siral
use Rattle.layout_laws.specs.Meaning.{record_in}
use Rattle.layout_laws.proofs.Chains.{both_true}
use Rattle.layout_laws.proofs.Fields.{cuc_back, proteus_back, cryosat_back, siral_back}
use Rattle.layout_laws.proofs.Later.{read_as, reads, on_from}
use Rattle.layout_times.proofs.Ways.{proteus_h3}

-- ---- seconds and a fraction of a second, and back
module _ (x f : ℕ) (h : f < 65536) where
  abbrev micros : ℕ
  micros = x * 1000000 + fraction_micros f

  second_back : micros / 1000000 ≡ x
  second_back = go (fraction_micros f) (below_second rounding 16 f (lit≤ tt) h)
    where
      go : (r : ℕ) → r < 1000000 → (x * 1000000 + r) / 1000000 ≡ x
      go r l = omega arith

  fraction_back : fraction_at (micros % 1000000) ≡ f
  fraction_back = ap fraction_at (go (fraction_micros f) (below_second rounding 16 f (lit≤ tt) h)) ∙ same_fraction rounding 16 f (lit≤ tt) h
    where
      go : (r : ℕ) → r < 1000000 → (x * 1000000 + r) % 1000000 ≡ r
      go r l = omega arith

-- a writer's chain, from its second test on
passed_on : {A : Type 0} {t : Bool} {n : ℕ} {rest : Judged A} {a : A} → Answers (given t n rest) a → Answers rest a
passed_on (next t r) = r

-- ---- over the layout: the fields that bytes stand for, written again from their time
module _ {F : Type 0} (m : Mark) (s : Scale) (p : ℕ) (micros_of : F → ℕ) (fields_at : ℕ → F) (image_of : F → List ℕ) (bytes out : List ℕ) (f : F) where
  abbrev stood : Moment
  stood = moment_from (day_at p) (micros_of f)

  again : in_span s stood.day stood.micro ≡ true → fields_at (micros_of f) ≡ f → {has : Bool} → has ≡ true → Answers (placing (image_of f) out) bytes →
      outcome (imaging (record_in (dated_as m s (answer stood))) has (image_of (fields_at (micros_from (day_at p) stood.day stood.micro))) out) ≡ answer bytes
  again i e {has} h a =
      let l = on_from s p micros_of f i in
      let g : fields_at (micros_from (day_at p) stood.day stood.micro) ≡ f = ap fields_at (micros_moment p (micros_of f) (omega arith)) ∙ e in
      answers_is {j = imaging (record_in (dated_as m s (answer stood))) has (image_of (fields_at (micros_from (day_at p) stood.day stood.micro))) out}
      (next refl (next i (next h (subst (λ (x : F). Answers (placing (image_of x) out) bytes) (sym g) a))))

-- ---- CUC
cuc_fit : (s : List ℕ) (f : C.Fields) → Bytes s → Answers (FC.reading s) f → f.fraction < 65536
cuc_fit s f b (next e last) = let l : length s ≡ 6 = eqb-true (length s) 6 e in part_lt s 4 2 (omega arith) b

pub cuc_again : (s out : List ℕ) → Bytes s → (Cuc.read s).number ≡ 0 → length s ≤ length out → Cuc.write (record_in (Cuc.read s)) out ≡ written out (answer s)
unfolding Cuc.read Cuc.write
cuc_again s out b e h =
    let z = read_as S.Gps 32700 Cuc.micros_of M.Plain (FC.reading s) refl e in
    let f = z.fields in
    let k = cuc_fit s f b z.answers in
    let g : Cuc.fields_at (Cuc.micros_of f) ≡ f =
    λ i. record { seconds = second_back f.seconds f.fraction k i; fraction = fraction_back f.seconds f.fraction k i } in
    ap (λ (t : Slip). written out (outcome (Cuc.writing (record_in t) out))) (reads S.Gps 32700 Cuc.micros_of M.Plain z.answers z.inside)
    ∙ ap (written out) (again M.Plain S.Gps 32700 Cuc.micros_of Cuc.fields_at FC.image_of s out f z.inside g refl (cuc_back s f b z.answers out h))

-- a time from day p on is not before it, and not after day q where it ends by then
module _ (p n : ℕ) where
  not_before_lem : le_z (day_at p) (moment_from (day_at p) n).day ≡ true
  not_before_lem = ap (le_z (day_at p)) (day_is p n) ∙ day_le p (p + n / 86400000000) ∙ le-leb p (p + n / 86400000000) (omega arith)

  not_after_lem : (q : ℕ) → p + n / 86400000000 ≤ q → le_z (moment_from (day_at p) n).day (day_at q) ≡ true
  not_after_lem q h = ap (λ (d : ℤ). le_z d (day_at q)) (day_is p n) ∙ day_le (p + n / 86400000000) q ∙ le-leb (p + n / 86400000000) q h

-- ---- Proteus
record WeekFits (f : P.Fields) : Type 0 where
  week : f.week < 4096
  second : f.second ≤ 604799
  fraction : f.fraction < 65536

proteus_fit : (s : List ℕ) (f : P.Fields) → Bytes s → Answers (FP.reading s) f → WeekFits f
proteus_fit s f b (next e (next z (next t last))) =
    let l : length s ≡ 8 = eqb-true (length s) 8 e in
    let w : part s 0 2 < 65536 = part_lt s 0 2 (omega arith) b in
    record { week = omega arith; second = leb-true (part s 2 4) 604799 t; fraction = part_lt s 6 2 (omega arith) b }

module _ (f : P.Fields) (k : WeekFits f) where
  seconds : ℕ
  seconds = f.week * 604800 + f.second

  proteus_same : Proteus.fields_at f.h3 (Proteus.micros_of f) ≡ f
  unfolding seconds
  proteus_same = λ i. record { week = week i; h3 = f.h3; second = second i; fraction = fraction_back seconds f.fraction k.fraction i }
    where
      over : Proteus.micros_of f / 1000000 ≡ seconds
      over = second_back seconds f.fraction k.fraction

      week : Proteus.micros_of f / 604800000000 ≡ f.week
      week = go (Proteus.micros_of f) over
        where
          go : (n : ℕ) → n / 1000000 ≡ f.week * 604800 + f.second → n / 604800000000 ≡ f.week
          go n e = omega (arith, k.second)

      second : Proteus.micros_of f / 1000000 % 604800 ≡ f.second
      second = ap (λ (x : ℕ). x % 604800) over ∙ omega (arith, k.second)

  ends : 32700 + Proteus.micros_of f / 86400000000 ≤ 61371
  ends = go (fraction_micros f.fraction) (below_second rounding 16 f.fraction (lit≤ tt) k.fraction)
    where
      go : (r : ℕ) → r < 1000000 → 32700 + ((f.week * 604800 + f.second) * 1000000 + r) / 86400000000 ≤ 61371
      go r l = omega (arith, k.week, k.second)

  proteus_has : let t = moment_from Proteus.epoch (Proteus.micros_of f) in Proteus.has_image S.Utc t.day t.micro ≡ true
  proteus_has =
      both_true (not_before_lem 32700 (Proteus.micros_of f))
      (both_true (not_after_lem 32700 (Proteus.micros_of f) 61371 ends) (lt-ltb (Proteus.micros_of f % 86400000000) 86400000000 (omega arith)))

-- H3 within
pub proteus_again : (s out : List ℕ) → Bytes s → (Proteus.read s).number ≡ 0 → length s ≤ length out → Proteus.write (record_in (Proteus.read s)) out ≡ written out (answer s)
unfolding Proteus.read Proteus.write
proteus_again s out b e h =
    let v = (FP.fields_of s).h3 in
    let z = read_as S.Utc 32700 Proteus.micros_of (M.Proteus v) (FP.reading s) refl e in
    let f = z.fields in
    let k = proteus_fit s f b z.answers in
    let g : Proteus.fields_at v (Proteus.micros_of f) ≡ f =
    ap (λ (x : Bool). Proteus.fields_at x (Proteus.micros_of f)) (proteus_h3 s f z.answers) ∙ proteus_same f k in
    ap (λ (t : Slip). written out (outcome (Proteus.writing (record_in t) out))) (reads S.Utc 32700 Proteus.micros_of (M.Proteus v) z.answers z.inside)
    ∙ ap (written out)
    (again (M.Proteus v) S.Utc 32700 Proteus.micros_of (Proteus.fields_at v) FP.image_of s out f z.inside g (proteus_has f k)
    (passed_on (proteus_back s f b z.answers out h)))

-- ---- CryoSat
abbrev Limits : ℕ → ℕ → Type 0
Limits milli micro = (milli < 86400000) × (micro < 1000)

limits : (milli micro : ℕ) → FY.in_limits milli micro ≡ true → Limits milli micro
limits milli micro e =
    let q = and_both (ltb milli 86400000) (ltb micro 1000) e in
    (ltb-true milli 86400000 q.0, ltb-true micro 1000 q.1)

module _ (day milli micro : ℕ) (k : Limits milli micro) where
  abbrev sum : ℕ
  sum = day * 86400000000 + milli * 1000 + micro

  day_back : sum / 86400000000 ≡ day
  day_back = omega (arith, k.0, k.1)

  milli_back : sum % 86400000000 / 1000 ≡ milli
  milli_back = omega (arith, k.0, k.1)

  micro_back : sum % 1000 ≡ micro
  micro_back = omega (arith, k.0, k.1)

cryosat_fit : (s : List ℕ) (f : Y.Fields) → Answers (FY.reading s) f → Limits f.millisecond f.microsecond
cryosat_fit s f (next e (next t last)) = limits (part s 2 4) (part s 6 2) t

pub cryosat_again : (s out : List ℕ) → Bytes s → (Cryosat.read s).number ≡ 0 → length s ≤ length out → Cryosat.write (record_in (Cryosat.read s)) out ≡ written out (answer s)
unfolding Cryosat.read Cryosat.write
cryosat_again s out b e h =
    let z = read_as S.Tai 40000 Cryosat.micros_of M.Plain (FY.reading s) refl e in
    let f = z.fields in
    let k = cryosat_fit s f z.answers in
    let g : Cryosat.fields_at (Cryosat.micros_of f) ≡ f = λ i. record {
      day = day_back f.day f.millisecond f.microsecond k i;
      millisecond = milli_back f.day f.millisecond f.microsecond k i;
      microsecond = micro_back f.day f.millisecond f.microsecond k i;
    } in
    ap (λ (t : Slip). written out (outcome (Cryosat.writing (record_in t) out))) (reads S.Tai 40000 Cryosat.micros_of M.Plain z.answers z.inside)
    ∙ ap (written out)
    (again M.Plain S.Tai 40000 Cryosat.micros_of Cryosat.fields_at FY.image_of s out f z.inside g (not_before_lem 40000 (Cryosat.micros_of f)) (passed_on (cryosat_back s f b z.answers out h)))

-- ---- SIRAL
siral_fit : (s : List ℕ) (f : R.Fields) → Answers (FR.reading s) f → Limits f.millisecond f.microsecond × (f ≡ FR.fields_of s)
siral_fit s f (next e (next t last)) = (limits (part s 2 4) (part s 6 2) t, refl)

pub siral_again : (s out : List ℕ) → Bytes s → (FR.fields_of s).extra ≡ 0 → (Siral.read s).number ≡ 0 → length s ≤ length out →
    Siral.write (record_in (Siral.read s)) out ≡ written out (answer s)
unfolding Siral.read Siral.write
siral_again s out b v e h =
    let z = read_as S.Tai 40000 Siral.micros_of M.Plain (FR.reading s) refl e in
    let f = z.fields in
    let n = Siral.micros_of f in
    let y = siral_fit s f z.answers in
    let k = y.0 in
    let x : f.extra ≡ 0 = ap (λ (g : R.Fields). g.extra) y.1 ∙ v in
    let q : n ≡ f.day * 86400000000 + f.millisecond * 1000 + f.microsecond = omega arith in
    let g : Siral.fields_at n ≡ f = ap Siral.fields_at q ∙ (λ i. record {
      day = day_back f.day f.millisecond f.microsecond k i;
      millisecond = milli_back f.day f.millisecond f.microsecond k i;
      microsecond = micro_back f.day f.millisecond f.microsecond k i;
      extra = sym x i;
    }) in
    ap (λ (t : Slip). written out (outcome (Siral.writing (record_in t) out))) (reads S.Tai 40000 Siral.micros_of M.Plain z.answers z.inside)
    ∙ ap (written out)
    (again M.Plain S.Tai 40000 Siral.micros_of Siral.fields_at FR.image_of s out f z.inside g (not_before_lem 40000 n) (passed_on (siral_back s f b z.answers out h)))
