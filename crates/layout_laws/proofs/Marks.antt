-- "writing Proteus takes H3 from a Proteus mark and is 0 otherwise", and no other writer looks at the mark: handed records that differ
-- in the mark alone. Assumes nothing.
use mathlib.Core.Path.{◌≡◌, refl, sym, ◌∙◌}
use mathlib.Core.Bool.{Bool, true, false}
use mathlib.Core.List.{List, [], ◌∷◌, ◌++◌}
use Prim.Native.Nat.{ℕ, ◌+◌, ◌*◌, ◌/◌, ◌%◌}
use native.Mathlib.Omega.{arith}
use lib.IntN.{pos}
use lib.ListN.{drop}
use Rattle.octets.specs.Meaning.{field, has_room}
use Rattle.scales.specs.Meaning.{in_span, given, gives, outcome, Wrote, written, record_of, marked_record}
use Rattle.scales.specs.declared.Scale.TheVariants as S
use Rattle.scales.specs.declared.Record.{Record}
use Rattle.scales.specs.declared.Mark.{Mark}
use Rattle.scales.specs.declared.Mark.TheVariants as M
use Rattle.handed.specs.declared.Handed.TheVariants as H
use Rattle.layout_fields.specs.Proteus as FP
use Rattle.layout_times.specs.Meaning.{last_to, micros_from}
use Rattle.layout_times.specs.Cuc as Cuc
use Rattle.layout_times.specs.Proteus as Proteus
use Rattle.layout_times.specs.Cryosat as Cryosat
use Rattle.layout_times.specs.Siral as Siral
use Rattle.layout_laws.specs.Meaning.{without_h3, SameButH3}
use Rattle.ground_laws.proofs.Desks.{got, sevens}

-- the two bytes of a Proteus image's head, the second without its H3
first_byte : (week : ℕ) (b : Bool) → FP.head_of week b / 256 % 256 ≡ week * 16 / 256 % 256
first_byte week true = omega arith
first_byte week false = refl

second_byte : (week : ℕ) (b : Bool) → FP.head_of week b / 1 % 256 / 2 * 2 ≡ week * 16 / 1 % 256 / 2 * 2
second_byte week true = go (week * 16 / 1 % 256) ((week * 16 + 1) / 1 % 256) (omega arith) (omega arith)
  where
    go : (x y : ℕ) → y ≡ x + 1 → x % 2 ≡ 0 → y / 2 * 2 ≡ x / 2 * 2
    go x y e z = omega arith
second_byte week false = refl

module _ (m : Mark) (r : Record) (out : List ℕ) where
  pub cuc_mark_ignored : Cuc.write (H.Record (marked_record m r)) out ≡ Cuc.write (H.Record r) out
  unfolding Cuc.write
  cuc_mark_ignored = refl

  pub cryosat_mark_ignored : Cryosat.write (H.Record (marked_record m r)) out ≡ Cryosat.write (H.Record r) out
  unfolding Cryosat.write
  cryosat_mark_ignored = refl

  pub siral_mark_ignored : Siral.write (H.Record (marked_record m r)) out ≡ Siral.write (H.Record r) out
  unfolding Siral.write
  siral_mark_ignored = refl

  pub proteus_mark_ignored : SameButH3 (Proteus.write (H.Record (marked_record m r)) out) (Proteus.write (H.Record r) out)
  unfolding Proteus.write field
  proteus_mark_ignored =
      go (in_span r.scale r.day r.micro) (Proteus.has_image r.scale r.day r.micro) (has_room (image_of false) out)
    where
      image_of : Bool → List ℕ
      image_of b = Proteus.image_at r.day r.micro b

      week : ℕ
      week = micros_from Proteus.epoch r.day r.micro / 604800000000

      bits : (b c : Bool) → without_h3 (image_of b ++ drop 8 out) ≡ without_h3 (image_of c ++ drop 8 out)
      bits b c = λ i. (first_byte week b ∙ sym (first_byte week c)) i ∷ (second_byte week b ∙ sym (second_byte week c)) i ∷ drop 2 (image_of b ++ drop 8 out)

      ends : Bool → Bool → Bool → Bool → Wrote ℕ
      ends inside has room b = written out (outcome (given inside 7 (given has 12 (given room 13 (gives (image_of b))))))

      go : (inside has room : Bool) → SameButH3 (ends inside has room (Proteus.h3_of m)) (ends inside has room (Proteus.h3_of r.mark))
      go true true true = record { number = refl; length = refl; bits = bits (Proteus.h3_of m) (Proteus.h3_of r.mark) }
      go true true false = record { number = refl; length = refl; bits = refl }
      go true false room = record { number = refl; length = refl; bits = refl }
      go false has room = record { number = refl; length = refl; bits = refl }

-- ---- a plain record, one with an odd reference and one with H3, each of one time
module _ (m : Mark) where
  abbrev gps : Wrote ℕ
  gps = Cuc.write (H.Record (marked_record m (record_of S.Gps (pos 0) 999985))) (sevens 8)

  abbrev utc : Wrote ℕ
  utc = Proteus.write (H.Record (marked_record m (record_of S.Utc (pos 6700) 999985))) (sevens 8)

  abbrev tai : Wrote ℕ
  tai = Cryosat.write (H.Record (marked_record m (record_of S.Tai (pos 1) 2003))) (sevens 8)

  abbrev packet : Wrote ℕ
  packet = Siral.write (H.Record (marked_record m (record_of S.Tai (pos 1) 2003))) (sevens 11)

-- the same of each of them
abbrev Alike : (Mark → Wrote ℕ) → Wrote ℕ → Type 0
Alike write w = (write M.Plain ≡ w) × (write (M.Correlated 7) ≡ w) × (write (M.Proteus true) ≡ w)

pub alike_met :
    Alike gps (got 6 (37 ∷ 152 ∷ 6 ∷ 0 ∷ 255 ∷ 255 ∷ 7 ∷ 7 ∷ [])) × Alike tai (got 8 (0 ∷ 1 ∷ 0 ∷ 0 ∷ 0 ∷ 2 ∷ 0 ∷ 3 ∷ []))
    × Alike packet (got 10 (0 ∷ 1 ∷ 0 ∷ 0 ∷ 0 ∷ 2 ∷ 0 ∷ 3 ∷ 0 ∷ 0 ∷ 7 ∷ []))
unfolding Cuc.write Cryosat.write Siral.write field last_to
alike_met = ((refl, refl, refl), (refl, refl, refl), (refl, refl, refl))

pub h3_met :
    (utc M.Plain ≡ got 8 (125 ∷ 0 ∷ 0 ∷ 0 ∷ 0 ∷ 0 ∷ 255 ∷ 255 ∷ [])) × (utc (M.Correlated 7) ≡ got 8 (125 ∷ 0 ∷ 0 ∷ 0 ∷ 0 ∷ 0 ∷ 255 ∷ 255 ∷ []))
    × (utc (M.Proteus true) ≡ got 8 (125 ∷ 1 ∷ 0 ∷ 0 ∷ 0 ∷ 0 ∷ 255 ∷ 255 ∷ []))
unfolding Proteus.write field last_to
h3_met = (refl, refl, refl)
