-- The ways out of a run, each with what it hands back. Assumes nothing.
use Rattle.std.specs.Prelude.{◌≡◌, refl, Bool, cond, List, [], ◌∷◌, ◌++◌, map, ℕ, zero, suc, ◌+◌, ◌*◌, ◌/◌, ◌%◌, ◌≤◌, ◌<◌, min, ℤ, pos, length, take, drop, Result, Ok, Err}
use Rattle.std.proofs.Math.Path.{sym, ap}
use Rattle.std.proofs.Common.{ap₂, ◌∙◌, arith}
use Rattle.std.proofs.Math.Bool.{true, false}
use Rattle.std.proofs.Math.Dec.{leb}
use borrow.Author.Tests.{ltb-true, le-leb, lt-leb, eq-eqb, ne_eqb}
use Rattle.axis.specs.Meaning.{held_micros_at, micros_at}
use Rattle.axis.specs.Diff.{is_pos, sub_eq}
use Rattle.octets.specs.Field.{Bytes}
use Rattle.scales.specs.Meaning.{Outcome, refused, answer, number_of}
use Rattle.scales.specs.Same.{no_zero}
use Rattle.scales.specs.Place.{and_both}
use Rattle.scales.specs.declared.Refusal.{Refusal}
use Rattle.layout_fields.specs.Siral.{fields_of}
use Rattle.layout_fields.specs.declared.siral.Fields.{Fields}
use Rattle.runs.specs.Meaning.{packets_in, packets, all, ahead, totals, last_of, is_in_limits, are_alike, most, is_one_second, date_of, dates_in, is_in_span, ran, siral}
use Rattle.runs.specs.Passes.{place_of, second_of, dates_from, Filling, run_slip}
use Rattle.runs.specs.Turns.{length_dates}
use Rattle.runs.specs.Alike.{last_is, dates_are, dates_alike}
use Rattle.runs.specs.Seconds.{before, date_is, verdict, all_alike, spans_are, last_most, second_is}
use Rattle.runs.specs.declared.Second.{Second}

-- what a verdict tells
number_in : Result Second Refusal → ℕ
number_in (Ok v) = 0
number_in (Err r) = number_of r

place_in : Result Second Refusal → ℕ
place_in (Ok v) = v.from
place_in (Err r) = 0

last_in : Result Second Refusal → ℕ
last_in (Ok v) = v.last
last_in (Err r) = 0

pub length_packets : (n : ℕ) (s : List ℕ) → length (packets_in n s) ≡ n
length_packets zero s = refl
length_packets (suc n) s = ap suc (length_packets n (drop 10 s))

-- ---- dates in the span, as the pass writes them
as_written : (f : Fields) (t : ℕ) → before f t ≡ true → pos (date_of f t) ≡ held_micros_at (place_of f + t * 33 / 16)
as_written f t e =
    let k : place_of f + t * 33 / 16 < 6611760000000000 = ltb-true _ 6611760000000000 e in
    let m : min (place_of f + t * 33 / 16) 8640000000000000 ≡ 3456000000000000 + date_of f t = omega (arith, date_is f t) in
    is_pos (date_of f t) ∙ sub_eq (date_of f t) 0 (3456000000000000 + date_of f t) 3456000000000000 (omega arith) ∙ ap micros_at (sym m)

all_written : (f : Fields) (ts : List ℕ) → all (before f) ts ≡ true → map pos (map (date_of f) ts) ≡ map (λ (x : ℕ). held_micros_at (place_of f + x * 33 / 16)) ts
all_written f [] e = refl
all_written f (t ∷ ts) e =
    let q = and_both (before f t) (all (before f) ts) e in
    ap₂ ◌∷◌ (as_written f t q.0) (all_written f ts q.1)

begins : (n : ℕ) (s : List ℕ) (told : ℕ) → 0 < n → let f = fields_of (take 10 s) in
    all (before f) (totals told (packets_in n s)) ≡ true → place_of f ≤ 6611760000000000
begins zero s told z e = absurd (omega arith)
begins (suc n) s told z e =
    let f = fields_of (take 10 s) in
    let t = ahead told f.extra in
    let k : place_of f + t * 33 / 16 < 6611760000000000 = ltb-true _ 6611760000000000 (and_both (before f t) _ e).0 in
    omega arith

-- ---- 1, and a run of no packet
module _ (s : List ℕ) (told : ℕ) (out : List ℤ) where
  pub run_length : (length s % 10 ≡ 0 → ⊥) → siral s told out ≡ record { number = 1; count = 0; last = 0; lent = out }
  unfolding siral
  run_length d = rw (ne_eqb (length s % 10) 0 d)

  pub run_none : length s % 10 ≡ 0 → length s / 10 ≡ 0 → siral s told out ≡ record { number = 0; count = 0; last = told; lent = out }
  unfolding siral
  run_none e z = rw (eq-eqb (length s % 10) 0 e, z, le-leb 0 (length out) (omega arith))

-- ---- a run of n packets
module _ (s : List ℕ) (told : ℕ) (out : List ℤ) (b : Bytes s) (e : length s % 10 ≡ 0) (h : 0 < length s / 10) where
  limits : Bool
  limits = all is_in_limits (packets s)

  one : Bool
  one = is_one_second told (packets s)

  spans : Bool
  spans = all is_in_span (dates_in s told)

  place : ℕ
  place = place_of (fields_of (take 10 s))

  last : ℕ
  last = last_of told (totals told (packets s))

  -- the tests after the length
  tested : Bool → Bool → Bool → Outcome (List ℤ)
  tested l o p =
      cond l (cond o (cond p (cond (leb (length (packets s)) (length out)) (answer (map pos (dates_in s told))) (refused 13)) (refused 7)) (refused 16)) (refused 3)

  run_is : siral s told out ≡ ran last out (tested limits one spans)
  unfolding siral tested limits one spans last
  run_is = rw (eq-eqb (length s % 10) 0 e)

  found : (v : Result Second Refusal) → second_of (length s / 10) s told ≡ v → verdict place last limits one spans ≡ v
  unfolding limits one spans place last
  found v q = sym (second_is (length s / 10) s told b h (omega arith)) ∙ q

  pub run_refused : (r : Refusal) → second_of (length s / 10) s told ≡ Err r → siral s told out ≡ run_slip (Err r) out
  unfolding number_in tested
  run_refused r q = run_is ∙ ap (ran last out) (go limits one spans (found (Err r) q))
    where
      go : (l o p : Bool) → verdict place last l o p ≡ Err r → tested l o p ≡ refused (number_of r)
      go true true true k = absurd (no_zero r (sym (ap number_in k)))
      go true true false k = ap refused (ap number_in k)
      go true false p k = ap refused (ap number_in k)
      go false o p k = ap refused (ap number_in k)

  -- all three tests hold, and the place and the last total are the meaning's
  record Holds (l o p : Bool) (from to : ℕ) : Type 0 where
    pub limits_hold : l ≡ true
    pub one_holds : o ≡ true
    pub spans_hold : p ≡ true
    pub from_is : from ≡ place
    pub to_is : to ≡ last

  module _ (from to : ℕ) (q : second_of (length s / 10) s told ≡ Ok (record { from = from; last = to })) where
    holds : Holds limits one spans from to
    unfolding number_in place_in last_in
    holds = go limits one spans (found (Ok (record { from = from; last = to })) q)
      where
        go : (l o p : Bool) → verdict place last l o p ≡ Ok (record { from = from; last = to }) → Holds l o p from to
        go true true true k = record { limits_hold = refl; one_holds = refl; spans_hold = refl; from_is = sym (ap place_in k); to_is = sym (ap last_in k) }
        go true true false k = absurd (let z : 7 ≡ 0 = ap number_in k in omega arith)
        go true false p k = absurd (let z : 16 ≡ 0 = ap number_in k in omega arith)
        go false o p k = absurd (let z : 3 ≡ 0 = ap number_in k in omega arith)

    passed : siral s told out ≡ ran last out (tested true true true)
    passed = run_is ∙ rw (holds.limits_hold, holds.one_holds, holds.spans_hold)

    pub run_short : length out < length s / 10 → siral s told out ≡ record { number = 13; count = 0; last = 0; lent = out }
    unfolding tested
    run_short k = passed ∙ rw (lt-leb (length (packets s)) (length out) (omega (arith, length_packets (length s / 10) s)))

    both : (are_alike (packets s) ≡ true) × (all (λ (t : ℕ). leb t most) (totals told (packets s)) ≡ true)
    unfolding one
    both = and_both (are_alike (packets s)) (all (λ (t : ℕ). leb t most) (totals told (packets s))) holds.one_holds

    all_before : all (before (fields_of (take 10 s))) (totals told (packets s)) ≡ true
    unfolding spans
    all_before = sym (spans_are (fields_of (take 10 s)) (packets s) told (all_alike (length s / 10) s both.0)) ∙ holds.spans_hold

    pub filling : length s / 10 ≤ length out → Filling s (length s / 10) from told (length out)
    unfolding place
    filling k =
        record {
          bytes = omega arith;
          room = k;
          begins = omega (arith, holds.from_is, begins (length s / 10) s told h all_before);
          ends = omega (arith, last_is (length s / 10) told s, last_most (length s / 10) s told h both.1);
        }

    dates_written : map pos (dates_in s told) ≡ dates_from (length s / 10) from told s
    unfolding place
    dates_written =
        let f = fields_of (take 10 s) in
        ap (map pos) (dates_alike f (packets s) told (all_alike (length s / 10) s both.0))
        ∙ all_written f (totals told (packets s)) all_before
        ∙ sym (ap (λ (x : ℕ). dates_from (length s / 10) x told s) holds.from_is ∙ dates_are (length s / 10) (place_of f) told s)

    pub run_all : length s / 10 ≤ length out →
        siral s told out ≡ record { number = 0; count = length s / 10; last = to; lent = dates_from (length s / 10) from told s ++ drop (length s / 10) out }
    unfolding tested
    run_all k =
        passed ∙ rw (le-leb (length (packets s)) (length out) (omega (arith, length_packets (length s / 10) s)), dates_written, length_dates (length s / 10) from told s, holds.to_is)
