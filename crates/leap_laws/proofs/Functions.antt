-- The laws of the changes, said of the functions: each undoes its opposite, two times that change to one are one, later stays later, and
-- TAI to UTC gives the one UTC time. One statement for the six typed changes and for the change of what is handed in. Assumes nothing.
use mathlib.Core.Path.{◌≡◌, refl, sym, ap, subst, ◌∙◌}
use mathlib.Core.Bool.{true}
use mathlib.Core.List.{List}
use Prim.Native.Nat.{ℕ, ◌+◌, ◌*◌, ◌/◌, ◌<◌, ◌≤◌}
use lib.IntN.{ℤ}
use Rattle.axis.specs.Meaning.{place_of_day, Moment, day_micros}
use Rattle.scales.specs.Meaning.{and_then, Judged, answer, outcome, Slip, dated_as, record_at, marked_record, moment_at}
use Rattle.scales.specs.Order.{numbered, no_answer}
use Rattle.scales.specs.declared.Scale.{Scale}
use Rattle.scales.specs.declared.Scale.TheVariants as S
use Rattle.scales.specs.declared.Mark.{Mark}
use Rattle.scales.specs.declared.Mark.TheVariants as M
use Rattle.handed.specs.declared.Handed.TheVariants as H
use Rattle.leap.specs.Meaning.{accepted}
use Rattle.leap.specs.Whole.{tai_at}
use Rattle.via_tai.specs.Meaning.{from_scale, to_scale, of_count}
use Rattle.changes.specs.Meaning.{utc_in_tai, utc_in_gps, tai_in_utc, gps_in_utc, tai_to_gps, gps_to_tai, utc_to_tai, utc_to_gps, tai_to_utc, gps_to_utc, change_of}
use Rattle.changes.specs.Asked.{sound}
use Rattle.changes.specs.Ways.{list_in}
use Rattle.leap_laws.proofs.Changes as C
use Rattle.leap_laws.proofs.Slips.{same}

-- the six changes
pub data Change : Type 0 where
  tai_gps : Change
  gps_tai : Change
  utc_tai : Change
  tai_utc : Change
  utc_gps : Change
  gps_utc : Change

abbrev pub from : Change → Scale
from tai_gps = S.Tai
from gps_tai = S.Gps
from utc_tai = S.Utc
from tai_utc = S.Tai
from utc_gps = S.Utc
from gps_utc = S.Gps

abbrev pub opposite : Change → Change
opposite tai_gps = gps_tai
opposite gps_tai = tai_gps
opposite utc_tai = tai_utc
opposite tai_utc = utc_tai
opposite utc_gps = gps_utc
opposite gps_utc = utc_gps

abbrev pub into : Change → Scale
into c = from (opposite c)

-- two doors lead to each: the function of its name, of a count, and the change of a record that is handed in with a mark
pub data Door : Type 0 where
  named : Door
  handed : Mark → Door

-- a count has no mark, and a time that a function of its name answers is plain
abbrev pub mark_in : Door → Mark
mark_in named = M.Plain
mark_in (handed m) = m

abbrev pub function : Door → Change → List ℤ → List ℕ → ℤ → ℕ → Slip
function named tai_gps ds os e n = tai_to_gps n
function named gps_tai ds os e n = gps_to_tai n
function named utc_tai ds os e n = utc_to_tai n ds os e
function named tai_utc ds os e n = tai_to_utc n ds os e
function named utc_gps ds os e n = utc_to_gps n ds os e
function named gps_utc ds os e n = gps_to_utc n ds os e
function (handed m) c ds os e n = change_of (H.Record (marked_record m (record_at (from c) n))) (into c) ds os e

-- the time at a count is answered, with the mark that was handed in
abbrev pub answered : Door → Scale → ℕ → Slip
answered d s n = dated_as (mark_in d) s (answer (moment_at s n))

module _ (ds : List ℤ) (os : List ℕ) (e : ℤ) where
  chain : Change → ℕ → Judged Moment
  chain c n = and_then (of_count (from c) n (from_scale (from c) ds os e)) (to_scale (into c) ds os e)

  chain_numbered : (c : Change) (n : ℕ) → numbered (chain c n) ≡ true
  unfolding chain
  chain_numbered tai_gps n = refl
  chain_numbered gps_tai n = refl
  chain_numbered utc_tai n = refl
  chain_numbered tai_utc n = refl
  chain_numbered utc_gps n = refl
  chain_numbered gps_utc n = refl

  opposite_from : (c : Change) → into (opposite c) ≡ from c
  opposite_from tai_gps = refl
  opposite_from gps_tai = refl
  opposite_from utc_tai = refl
  opposite_from tai_utc = refl
  opposite_from utc_gps = refl
  opposite_from gps_utc = refl

  module _ (w : accepted ds os e ≡ true) where
    function_is : (d : Door) (c : Change) (n : ℕ) → function d c ds os e n ≡ dated_as (mark_in d) (into c) (C.changed (from c) (into c) ds os e n)
    unfolding tai_to_gps gps_to_tai utc_to_tai utc_to_gps tai_to_utc gps_to_utc change_of
    function_is named tai_gps n = refl
    function_is named gps_tai n = refl
    function_is named utc_tai n = sym (list_in S.Tai ds os e (utc_in_tai ds os e n) w)
    function_is named tai_utc n = sym (list_in S.Utc ds os e (tai_in_utc ds os e n) w)
    function_is named utc_gps n = sym (list_in S.Gps ds os e (utc_in_gps ds os e n) w)
    function_is named gps_utc n = sym (list_in S.Utc ds os e (gps_in_utc ds os e n) w)
    function_is (handed m) tai_gps n = refl
    function_is (handed m) gps_tai n = refl
    function_is (handed m) utc_tai n = rw w
    function_is (handed m) tai_utc n = rw w
    function_is (handed m) utc_gps n = rw w
    function_is (handed m) gps_utc n = rw w

    told : (d : Door) (c : Change) (n k : ℕ) → function d c ds os e n ≡ answered d (into c) k → C.changed (from c) (into c) ds os e n ≡ answer (moment_at (into c) k)
    unfolding chain
    told d c n k q =
        same (mark_in d) (into c) (outcome (chain c n)) (answer (moment_at (into c) k)) (sound (chain c n) (chain_numbered c n)) (λ p. no_answer (sym p))
        (sym (function_is d c n) ∙ q)

    tell : (d : Door) (c : Change) (n k : ℕ) → C.changed (from c) (into c) ds os e n ≡ answer (moment_at (into c) k) → function d c ds os e n ≡ answered d (into c) k
    tell d c n k q = function_is d c n ∙ ap (dated_as (mark_in d) (into c)) q

    -- ---- there and back is the same, mark included
    pub undoes : (d : Door) (c : Change) (n k : ℕ) → function d c ds os e n ≡ answered d (into c) k → function d (opposite c) ds os e k ≡ answered d (from c) n
    undoes d c n k q =
        subst (λ (s : Scale). function d (opposite c) ds os e k ≡ answered d s n) (opposite_from c)
        (tell d (opposite c) k n (subst (λ (s : Scale). C.changed (into c) s ds os e k ≡ answer (moment_at s n)) (sym (opposite_from c)) (C.round ds os e w (from c) (into c) n k (told d c n k q))))

    -- two times that change to one time are one
    pub only : (d : Door) (c : Change) (n m k : ℕ) → function d c ds os e n ≡ answered d (into c) k → function d c ds os e m ≡ answered d (into c) k → n ≡ m
    only d c n m k p q = C.only ds os e w (from c) (into c) n m k (told d c n k p) (told d c m k q)

    -- ---- later stays later, second 60 included
    pub later : (d : Door) (c : Change) (n m k l : ℕ) → function d c ds os e n ≡ answered d (into c) k → function d c ds os e m ≡ answered d (into c) l → n < m → k < l
    later d c n m k l p q = C.later ds os e w (from c) (into c) n m k l (told d c n k p) (told d c m l q)

    -- ---- "TAI to UTC gives the one UTC record whose TAI is the input"
    pub record UtcOf (d : Door) (t : ℕ) : Type 0 where
      pub utc : ℕ
      pub gives : function d tai_utc ds os e t ≡ answered d S.Utc utc
      pub tai : function d utc_tai ds os e utc ≡ answered d S.Tai t
      pub one : (k : ℕ) → function d utc_tai ds os e k ≡ answered d S.Tai t → k ≡ utc

    pub the_one : (d : Door) (t : ℕ) → 29773 * day_micros + 10000000 ≤ t → t / day_micros ≤ 76524 → t < tai_at ds os (place_of_day e + 1) 0 → UtcOf d t
    the_one d t h k l =
        let u = C.the_one ds os e w t h k l in
        record {
          utc = u.utc;
          gives = tell d tai_utc t u.utc u.gives;
          tai = tell d utc_tai u.utc t u.tai;
          one = λ j q. u.one j (told d utc_tai j t q);
        }
