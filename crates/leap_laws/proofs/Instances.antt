-- The theorems of the changes under the published list: each at inputs that meet its hypotheses. Assumes nothing.
use mathlib.Core.Path.{◌≡◌}
use Prim.Native.Nat.{ℕ, ◌<◌}
use lib.Dec.{lit<, lit≤}
use Rattle.scales.specs.declared.Scale.TheVariants as S
use Rattle.scales.specs.declared.Mark.TheVariants as M
use Rattle.leap.specs.Meaning.{through, is_step, published_days, published_offsets, published_last}
use Rattle.leap.specs.Published.{published}
use Rattle.changes.specs.Meaning.{utc_to_tai, change_of}
use Rattle.leap_laws.proofs.Functions.{utc_tai, tai_utc, named, handed, function, answered, undoes, only, later, UtcOf, the_one}

-- ---- UTC day 6209, 86,400,000,000 (second 60), the TAI time of it, and the next UTC day with its TAI time
abbrev sixty : ℕ
sixty = 3992590209000000

abbrev midnight : ℕ
midnight = 3992590210000000

abbrev sixty_tai : ℕ
sixty_tai = 3992544036000000

abbrev midnight_tai : ℕ
midnight_tai = 3992544037000000

sixty_changes : function named utc_tai published_days published_offsets published_last sixty ≡ answered named S.Tai sixty_tai
unfolding utc_to_tai through is_step
sixty_changes = rw published

midnight_changes : function named utc_tai published_days published_offsets published_last midnight ≡ answered named S.Tai midnight_tai
unfolding utc_to_tai through is_step
midnight_changes = rw published

-- there and back
pub sixty_back : function named tai_utc published_days published_offsets published_last sixty_tai ≡ answered named S.Utc sixty
sixty_back = undoes published_days published_offsets published_last published named utc_tai sixty sixty_tai sixty_changes

-- and of a correlated record, mark included
correlated_changes : function (handed (M.Correlated 9)) utc_tai published_days published_offsets published_last sixty ≡ answered (handed (M.Correlated 9)) S.Tai sixty_tai
unfolding change_of through is_step
correlated_changes = rw published

pub correlated_back : function (handed (M.Correlated 9)) tai_utc published_days published_offsets published_last sixty_tai ≡ answered (handed (M.Correlated 9)) S.Utc sixty
correlated_back = undoes published_days published_offsets published_last published (handed (M.Correlated 9)) utc_tai sixty sixty_tai correlated_changes

-- later stays later, from second 60 to the next day
pub sixty_first : sixty_tai < midnight_tai
sixty_first =
    later published_days published_offsets published_last published named utc_tai sixty midnight sixty_tai midnight_tai sixty_changes midnight_changes (lit< tt)

-- there is one UTC time with that TAI
pub sixty_one : UtcOf published_days published_offsets published_last published (handed (M.Correlated 9)) sixty_tai
unfolding through
sixty_one = the_one published_days published_offsets published_last published (handed (M.Correlated 9)) sixty_tai (lit≤ tt) (lit≤ tt) (lit< tt)

pub sixty_only : (n : ℕ) → function named utc_tai published_days published_offsets published_last n ≡ answered named S.Tai sixty_tai → n ≡ sixty
sixty_only n h = only published_days published_offsets published_last published named utc_tai n sixty sixty_tai h sixty_changes
