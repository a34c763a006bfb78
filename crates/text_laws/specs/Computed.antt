-- Texts read and written under the published list, computed from the meanings: the paper's line and its neighbours. Assumes nothing.
use Rattle.std.specs.Prelude.{◌≡◌, refl, List, [], ◌∷◌, ℕ, pos, take, drop}
use Rattle.std.proofs.Common.{sym, ◌∙◌, arith, lit≤}
use Rattle.scales.specs.Meaning.{Slip, Wrote, record_of}
use Rattle.scales.specs.declared.Scale.TheVariants as S
use Rattle.handed.specs.declared.Handed.{Handed}
use Rattle.handed.specs.declared.Handed.TheVariants as H
use Rattle.calendar.specs.Meaning.{leap, month_length, length_of, first_day, is_date, day_after, days_to, walk, day_of_date, date_of_day}
use Rattle.leap.specs.Meaning.{is_step, published_days, published_offsets, published_last}
use Rattle.leap.specs.Published.{published}
use Rattle.text_fields.specs.Meaning.{names, letter, prefix_of}
use Rattle.leap_laws.proofs.Computed.{published_6209}
use Rattle.text_read.specs.Meaning.{digit_of, two_of, four_of, six_of, is_named, seek, month_named, has_marks, micro_in, stamp_in, in_limits, has_prefix, scale_in, body_in, is_prefix_right, is_body, read_text}
use Rattle.text_write.specs.Meaning.{text_of, write_text}
use Rattle.text_write.specs.declared.Form.{Form}
use Rattle.text_write.specs.declared.Form.TheVariants as F
use Rattle.text_laws.specs.Back.{read_back, none_refused}
use Rattle.text_laws.specs.Fresh.{published_again}
use Rattle.ground_laws.proofs.Desks.{answered, empty}

abbrev pub reads : List ℕ → Slip
reads s = read_text s published_days published_offsets published_last

-- UTC=31-DEC-2016 23:59:60.000000
abbrev pub sixty : List ℕ
sixty =
    85 ∷ 84 ∷ 67 ∷ 61 ∷ 51 ∷ 49 ∷ 45 ∷ 68 ∷ 69 ∷ 67 ∷ 45 ∷ 50 ∷ 48 ∷ 49 ∷ 54 ∷ 32 ∷ 50 ∷ 51 ∷ 58 ∷ 53 ∷ 57 ∷ 58 ∷ 54 ∷ 48 ∷ 46 ∷ 48 ∷ 48 ∷ 48 ∷ 48 ∷ 48 ∷ 48 ∷ []

-- 31-DEC-2016 23:59:6
pub read_short : reads (drop 4 (take 23 sixty)) ≡ empty 1 S.Tai
unfolding read_text
read_short = refl

-- the same second written
abbrev pub blank : List ℕ
blank = 0 ∷ 0 ∷ 0 ∷ 0 ∷ 0 ∷ 0 ∷ 0 ∷ 0 ∷ 0 ∷ 0 ∷ 0 ∷ 0 ∷ 0 ∷ 0 ∷ 0 ∷ 0 ∷ 0 ∷ 0 ∷ 0 ∷ 0 ∷ 0 ∷ 0 ∷ 0 ∷ 0 ∷ 0 ∷ 0 ∷ 0 ∷ 0 ∷ 0 ∷ 0 ∷ 0 ∷ []

abbrev pub leap_second : Handed
leap_second = H.Record (record_of S.Utc (pos 6209) 86400000000)

abbrev pub writes : Handed → Form → Wrote ℕ
writes h f = write_text h f published_days published_offsets published_last blank

pub write_sixty : writes leap_second F.PrefixedMicros ≡ record { number = 0; length = 31; lent = sixty }
unfolding write_text text_of prefix_of letter names date_of_day days_to day_after walk first_day length_of month_length leap is_step
write_sixty = rw published

pub sixty_back : let w = writes leap_second F.PrefixedMicros in reads (take w.length w.lent) ≡ answered S.Utc (pos 6209) 86400000000
sixty_back = read_back leap_second F.PrefixedMicros published_days published_offsets published_last blank (lit≤ tt) (λ i. (write_sixty i).number)

pub sixty_not_refused : let w = writes leap_second F.PrefixedMicros in (reads (take w.length w.lent)).number ≡ 0
sixty_not_refused = none_refused leap_second F.PrefixedMicros published_days published_offsets published_last blank (lit≤ tt) (λ i. (write_sixty i).number)

-- under a list that ends on that very day it was read the same, and a list that extends it keeps the answer
pub read_early_lem : read_text sixty published_days published_offsets (pos 6209) ≡ answered S.Utc (pos 6209) 86400000000
unfolding read_text is_prefix_right is_body scale_in body_in has_prefix prefix_of has_marks stamp_in micro_in in_limits digit_of two_of four_of six_of month_named seek is_named letter names is_date day_of_date day_after first_day length_of month_length leap is_step
read_early_lem = rw published_6209

pub sixty_again : reads sixty ≡ read_text sixty published_days published_offsets (pos 6209)
sixty_again = published_again.read sixty (λ q. let z : ◌≡◌ {A = ℕ} 0 9 = (λ i. (sym read_early_lem i).number) ∙ q in omega arith)

pub write_early : write_text leap_second F.PrefixedMicros published_days published_offsets (pos 6209) blank ≡ record { number = 0; length = 31; lent = sixty }
unfolding write_text text_of prefix_of letter names date_of_day days_to day_after walk first_day length_of month_length leap is_step
write_early = rw published_6209

pub write_again : writes leap_second F.PrefixedMicros ≡ write_text leap_second F.PrefixedMicros published_days published_offsets (pos 6209) blank
write_again = published_again.write leap_second F.PrefixedMicros blank (λ q. let z : ◌≡◌ {A = ℕ} 0 9 = (λ i. (sym write_early i).number) ∙ q in omega arith)
