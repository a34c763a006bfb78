-- Demand 1 of the functions on the season's file, and of the question for C. Assumes nothing.
use Rattle.std.specs.Prelude.{refl, Bool, List, ℕ, ℤ, pos}
use Rattle.scales.specs.Meaning.{Judged, Outcome, valued}
use Rattle.clock.specs.Meaning.{Cover}
use Rattle.season.specs.Meaning as Season
use Rattle.season.specs.Meaning.{Entered, entered}
use Rattle.c_api.specs.Seasons.{cover_out}
use Rattle.c_api.specs.declared.seasons.VrkCover.{VrkCover}
use Rattle.promises.specs.Meaning.{Promise}
use Rattle.promises.specs.First.{promised}
use Rattle.promises.specs.Rows as Rows
use Rattle.promises.specs.One.{Writes, writes, Values, values}

-- ---- the kinds of answers
abbrev pub Enters : ℕ → List ℤ → Entered → Judged (List ℤ) → List (ℕ × Bool) → Type 0
Enters n out r j rows = Promise (entered n out) (λ (x : Entered). x.number) r j rows

abbrev none : Cover
none = record { from = pos 0; to = pos 0 }

abbrev pub Covers : VrkCover → Judged Cover → List (ℕ × Bool) → Type 0
Covers r j rows = Promise (λ (o : Outcome Cover). cover_out (valued none o)) (λ (x : VrkCover). x.refusal) r j rows

-- ---- each function
pub season_read_lem : (s : List ℕ) (out : List ℤ) → Enters (Season.count_of s) out (Season.read s out) (Season.reading s out) (Rows.season_read s out)
unfolding Season.read
season_read_lem s out = promised (record { of_refusal = λ n. refl; of_answer = λ a. refl }) (Season.reading s out) refl refl

pub season_write_lem : (ws : List ℤ) (out : List ℕ) → Writes out (Season.write ws out) (Season.writing ws out) (Rows.season_write ws out)
unfolding Season.write
season_write_lem ws out = writes out (Season.writing ws out) refl refl

pub season_covering_lem : (s : List ℕ) (d : ℤ) (u : ℕ) → Values none (Season.covering s d u) (Season.asking s d u) (Rows.season_covering s d u)
unfolding Season.covering
season_covering_lem s d u = values none (Season.asking s d u) refl refl

pub season_covering_for_c : (s : List ℕ) (d : ℤ) (u : ℕ) → Covers (cover_out (Season.covering s d u)) (Season.asking s d u) (Rows.season_covering s d u)
unfolding Season.covering
season_covering_for_c s d u = promised (record { of_refusal = λ n. refl; of_answer = λ a. refl }) (Season.asking s d u) refl refl
