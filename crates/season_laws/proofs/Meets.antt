-- Each theorem at an input that meets its hypotheses. Assumes nothing.
use mathlib.Core.Path.{◌≡◌, refl, subst}
use mathlib.Core.Bool.{true, false}
use mathlib.Core.List.{List, [], ◌∷◌, ◌++◌}
use Prim.Native.Nat.{ℕ, zero, suc, ◌<◌}
use native.Mathlib.Omega.{arith}
use lib.Dec.{lit<, lit≤}
use lib.IntN.{pos, negsuc}
use lib.ListN.{take}
use Rattle.octets.specs.Meaning.{number, field}
use Rattle.octets.specs.Field.{Bytes}
use Rattle.scales.specs.Meaning.{refused, answer, written}
use Rattle.clock.specs.Meaning.{clock, within}
use Rattle.sbt.specs.Meaning.{accepted}
use Rattle.season.specs.Meaning.{count_of, cover_in, correlation_in, cover_of, contents_kept, is_season, read, correlation_at, is_writable, file_of, write, covering}
use Rattle.season_laws.specs.Meaning.{handed_back, Added, bodies_in}
use Rattle.ground_laws.proofs.Desks.{sevens}
use Rattle.season_laws.proofs.Contents.{one_entry}
use Rattle.season_laws.proofs.Question.{one_correlation, question_agrees, contents_alone, correlations_added, fresh_season, fifteen_answered}
use Rattle.season_laws.proofs.File.{file_bytes}
use Rattle.season_laws.proofs.Written.{written_read}
use Rattle.season_laws.proofs.Trips.{read_back, same_words}
use Rattle.season_laws.proofs.Again.{read_written}
use Rattle.season_laws.proofs.Cases.{by_number, lent, next, two, marked_words, next_words, two_words, marked_is, next_is, file_two, marked_cover, next_cover, no_body}

two_season : is_season two ≡ true
unfolding is_season contents_kept number accepted clock
two_season = refl

two_kept : contents_kept two ≡ true
unfolding contents_kept number
two_kept = refl

next_kept : contents_kept next ≡ true
unfolding contents_kept number
next_kept = refl

-- ---- the question of the two: at the reference of each, and between them
pub asked :
    (covering two (pos 0) 0 ≡ handed_back (answer marked_is))
    × (covering two (pos 1) 0 ≡ handed_back (answer next_is))
    × (covering two (pos 0) 39063 ≡ handed_back (refused 15))
    × (covering two (pos 36525) 0 ≡ handed_back (refused 7))
unfolding covering contents_kept number within
asked = (refl, refl, refl, refl)

pub one_entry_met : (j : ℕ) → j < count_of two → within (cover_in two j) (pos 39062) ≡ true → j ≡ 0
unfolding number within
one_entry_met j h e = one_entry two two_kept (pos 39062) j 0 h (lit< tt) e refl

pub one_correlation_met : (j : ℕ) → j < count_of two → within (cover_of (correlation_in two j)) (pos 39062) ≡ true → j ≡ 0
unfolding number within clock
one_correlation_met j h e = one_correlation two two_season (pos 39062) j 0 h (lit< tt) e refl

pub question_agrees_met : covering two (pos 1) 0 ≡ handed_back (answer (cover_of (correlation_in two 1)))
unfolding number within clock
question_agrees_met = (question_agrees two two_season (pos 1) 0).covered refl 1 (lit< tt) refl

pub uncovered_met : covering two (pos 0) 39063 ≡ handed_back (refused 15)
unfolding number within clock
uncovered_met = (question_agrees two two_season (pos 0) 39063).uncovered refl neither
  where
    neither : (k : ℕ) → k < count_of two → within (cover_of (correlation_in two k)) (pos 39063) ≡ false
    neither zero h = refl
    neither (suc zero) h = refl
    neither (suc (suc k)) h = absurd (omega arith)

pub exactly_met : (k : ℕ) → k < count_of two → within (cover_of (correlation_in two k)) (pos 39063) ≡ false
exactly_met = (question_agrees two two_season (pos 0) 39063).exactly asked.2

pub outside_met : covering two (pos 36525) 0 ≡ handed_back (refused 7)
outside_met = (question_agrees two two_season (pos 36525) 0).outside refl

-- ---- the same contents over bodies that are not accepted
abbrev pub bare : List ℕ
bare = file_two marked_cover 42 next_cover 70 no_body no_body

pub contents_alone_met : covering two (pos 1) 0 ≡ covering bare (pos 1) 0
unfolding number
contents_alone_met = contents_alone two bare (record { size = refl; front = refl }) (pos 1) 0

-- ---- a correlation put in before the one that was there
next_season : is_season next ≡ true
unfolding is_season contents_kept number accepted clock
next_season = refl

pub correlations_added_met : Added next two
unfolding number
correlations_added_met = correlations_added next two next_season two_season among
  where
    among : (k : ℕ) → k < count_of next → (j : ℕ) × (j < count_of two) × (correlation_in two j ≡ correlation_in next k)
    among zero h = (1, lit< tt, refl)
    among (suc k) h = absurd (omega arith)

pub answered_before : (covering next (pos 1) 0 ≡ handed_back (answer next_is)) × (covering next (pos 0) 0 ≡ handed_back (refused 15))
unfolding covering contents_kept number within
answered_before = (refl, refl)

pub fresh_season_met : covering two (pos 1) 0 ≡ covering next (pos 1) 0
unfolding covering contents_kept number within
fresh_season_met = fresh_season next two next_kept two_kept (pos 1) 0 correlations_added_met (by_number (λ e. omega arith))

pub fifteen_answered_met : (k : ℕ) × (k < count_of two) × (covering two (pos 0) 0 ≡ handed_back (answer (cover_in two k)))
unfolding covering contents_kept number within
fifteen_answered_met =
    fifteen_answered next two next_kept two_kept (pos 0) 0 answered_before.1 (by_number (λ e. omega arith))

-- ---- the two, written and read
two_writable : is_writable two_words ≡ true
unfolding is_writable accepted clock
two_writable = refl

two_file : file_of two_words ≡ two
unfolding field clock
two_file = refl

pub written_read_met : (k : ℕ) → k < 2 → correlation_in (file_of two_words) k ≡ correlation_at two_words k
written_read_met = (written_read two_words two_writable).correlations

-- nineteen words lent, the last of which stays
pub read_back_met :
    let w = write two_words (sevens 100) in
    read (take w.length w.lent) (lent 19)
    ≡ record { number = 0; count = 2; lent = negsuc 39062 ∷ pos 39062 ∷ (marked_words ++ (pos 86399996093 ∷ pos 86400007812 ∷ (next_words ++ (pos 7 ∷ [])))) }
unfolding write is_writable field accepted clock
read_back_met = read_back two_words (sevens 100) refl (lent 19) (lit≤ tt)

pub same_words_met : let w = write two_words (sevens 100) in bodies_in (read (take w.length w.lent) (lent 19)) ≡ two_words
unfolding write is_writable field accepted clock
same_words_met = same_words two_words (sevens 100) refl (lent 19) (lit≤ tt)

pub read_written_met : write (bodies_in (read two (lent 18))) (sevens 98) ≡ written (sevens 98) (answer two)
unfolding read is_season contents_kept number accepted clock
read_written_met = read_written two (lent 18) (subst Bytes two_file (file_bytes two_words)) refl (sevens 98) (lit≤ tt)
