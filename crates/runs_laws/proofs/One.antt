-- A run of one packet, nothing told, is document 01's reading. Assumes nothing.
use mathlib.Core.Path.{◌≡◌, refl, sym, ap, ap₂, ◌∙◌}
use mathlib.Core.Bool.{Bool, true, false, cond, and-true}
use mathlib.Core.List.{List, [], ◌∷◌, map}
use Prim.Native.Nat.{ℕ, ◌+◌, ◌*◌, ◌/◌, ◌%◌, ◌<◌}
use native.Mathlib.Omega.{arith}
use lib.Dec.{leb}
use lib.IntN.{ℤ, pos}
use lib.ListN.{length}
use lib.Seq.{take_all}
use borrow.Author.Tests.{eq-eqb, le-leb}
use Rattle.axis.specs.Meaning.{since}
use Rattle.axis.specs.Axis.{since_at}
use Rattle.axis.specs.Diff.{is_pos, sub_eq}
use Rattle.octets.specs.Meaning.{part}
use Rattle.octets.specs.Field.{Bytes}
use Rattle.octets.specs.Parts.{part_lt}
use Rattle.scales.specs.Meaning.{Outcome, refused, answer, Slip, dated}
use Rattle.scales.specs.declared.Scale.TheVariants as S
use Rattle.layout_fields.specs.Siral.{fields_of}
use Rattle.layout_fields.specs.declared.siral.Fields.{Fields}
use Rattle.layout_times.specs.Meaning.{moment_from}
use Rattle.layout_times.specs.Cryosat.{epoch}
use Rattle.layout_times.specs.Days.{day_is}
use Rattle.layout_times.specs.Siral as Siral
use Rattle.runs.specs.Meaning.{packets, all, ahead, totals, last_of, is_in_limits, is_one_second, date_of, dates_of, is_in_span, Run, ran, siral}
use Rattle.runs_laws.specs.Meaning.{one_of}

-- the first total is the extra counter as it stands
as_it_stands : (x : ℕ) → x < 65536 → ahead 0 x ≡ x
as_it_stands x h = omega arith

-- the microseconds since day 0 of the moment that they stand for
since_moment : (n : ℕ) → let m = moment_from epoch n in since m.day m.micro ≡ pos n
since_moment n =
    ap (λ (d : ℤ). since d (n % 86400000000)) (day_is 40000 n)
    ∙ since_at (40000 + n / 86400000000) (n % 86400000000)
    ∙ sub_eq ((40000 + n / 86400000000) * 86400000000 + n % 86400000000) 3456000000000000 n 0 (omega arith)
    ∙ sym (is_pos n)

-- by the packets, and by what is told of the length
run_by : List ℤ → List Fields → Bool → Run
run_by out fs w =
    let ts = totals 0 fs in
    let ds = dates_of fs ts in
    ran (last_of 0 ts) out
    (cond w
    (cond (all is_in_limits fs)
    (cond (is_one_second 0 fs)
    (cond (all is_in_span ds) (cond (leb (length fs) (length out)) (answer (map pos ds)) (refused 13)) (refused 7)) (refused 16)) (refused 3)) (refused 1))

module _ (s : List ℕ) (b : Bytes s) (l : length s ≡ 10) where
  date : ℕ
  date = date_of (fields_of s) (part s 8 2)

  one_packet : packets s ≡ fields_of s ∷ []
  one_packet = rw l (ap (λ (t : List ℕ). fields_of t ∷ []) (take_all 10 s (omega arith)))

  -- of two tests is told, and of the room
  tested : Bool → Bool → List ℤ → Outcome (List ℤ)
  tested i p out = cond i (cond p (cond (leb 1 (length out)) (answer (pos date ∷ [])) (refused 13)) (refused 7)) (refused 3)

  run_is : (out : List ℤ) → siral s 0 out ≡ ran (part s 8 2) out (tested (is_in_limits (fields_of s)) (is_in_span date) out)
  unfolding siral run_by tested date
  run_is out =
      let h : part s 8 2 < 65536 = part_lt s 8 2 (omega arith) b in
      ap₂ (run_by out) one_packet (eq-eqb (length s % 10) 0 (omega (arith, l)))
      ∙ rw (as_it_stands (part s 8 2) h, le-leb (part s 8 2) 484848 (omega arith), and-true (is_in_limits (fields_of s)), and-true (is_in_span (date_of (fields_of s) (part s 8 2))))

  read_is : Siral.read s ≡ dated S.Tai (cond (is_in_limits (fields_of s)) (cond (is_in_span date) (answer (moment_from epoch date)) (refused 7)) (refused 3))
  unfolding Siral.read date
  read_is = rw (eq-eqb (length s) 10 l)

  -- "A run of one is 01's reading"; without room it is 13 where that answers
  pub run_of_one : (out : List ℤ) → siral s 0 out ≡ one_of (Siral.read s) (part s 8 2) out
  unfolding tested
  run_of_one out = run_is out ∙ go out (is_in_limits (fields_of s)) (is_in_span date) ∙ sym (ap (λ (t : Slip). one_of t (part s 8 2) out) read_is)
    where
      go : (out : List ℤ) (i p : Bool) → ran (part s 8 2) out (tested i p out)
          ≡ one_of (dated S.Tai (cond i (cond p (answer (moment_from epoch date)) (refused 7)) (refused 3))) (part s 8 2) out
      go [] true true = refl
      go [] true false = refl
      go [] false p = refl
      go (z ∷ more) true true =
          rw (le-leb 1 (length (z ∷ more)) (omega arith))
          (ap (λ (d : ℤ). record { number = 0; count = 1; last = part s 8 2; lent = d ∷ more }) (sym (since_moment date)))
      go (z ∷ more) true false = refl
      go (z ∷ more) false p = refl
