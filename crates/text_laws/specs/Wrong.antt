-- Wrong programs that the contracts shut out: for each an input, the right answer and the wrong one, which differ. Assumes nothing.
use Rattle.std.specs.Prelude.{◌≡◌, refl, true, cond, ◌&&◌, List, [], ◌∷◌, ℕ, ◌-◌, eqb, leb, pos, negsuc, nat_abs}
use Rattle.std.proofs.Common.{sym, ap, ◌∙◌, arith}
use Rattle.evidence.specs.ShutOut.{ShutOut, differ}
use Rattle.scales.specs.Meaning.{code_of, given, outcome, Slip, dated, remark, Wrote, written, record_of}
use Rattle.scales.specs.declared.Scale.TheVariants as S
use Rattle.scales.specs.declared.Mark.{Mark}
use Rattle.scales.specs.declared.Mark.TheVariants as M
use Rattle.handed.specs.declared.Handed.{Handed}
use Rattle.handed.specs.declared.Handed.TheVariants as H
use Rattle.calendar.specs.Meaning.{leap, month_length, length_of, first_day, is_date, day_after, days_to, walk, day_of_date, date_of_day}
use Rattle.handed.specs.Meaning.{scale_of, day_of, micro_of}
use Rattle.leap.specs.Meaning.{accepted, published_days, published_offsets, published_last}
use Rattle.leap.specs.Published.{published}
use Rattle.text_fields.specs.Meaning.{names, letter, prefix_of}
use Rattle.text_read.specs.Meaning.{digit_of, two_of, four_of, is_named, seek, month_named, has_marks, micro_in, stamp_in, in_limits, has_prefix, scale_in, body_in, is_prefix_right, is_body, reading, read_text}
use Rattle.text_write.specs.Meaning.{text_of, has_image, writing, write_text}
use Rattle.text_write.specs.declared.Form.{Form}
use Rattle.text_write.specs.declared.Form.TheVariants as F
use Rattle.ground_laws.proofs.Desks.{refuses_all, day_zero, got, bytes_at, writes_nothing, made_up, answered, empty, marked_as, by_mark}
use Rattle.text_laws.specs.Computed.{reads, blank, writes}

-- ---- reading
-- lower-case months accepted: 31-dec-2016 00:00:00
abbrev pub capitals : List ℕ → List ℕ
capitals [] = []
capitals (b ∷ bs) = cond (leb 97 b && leb b 122) (b - 32) b ∷ capitals bs

abbrev pub lower : List ℕ
lower = 51 ∷ 49 ∷ 45 ∷ 100 ∷ 101 ∷ 99 ∷ 45 ∷ 50 ∷ 48 ∷ 49 ∷ 54 ∷ 32 ∷ 48 ∷ 48 ∷ 58 ∷ 48 ∷ 48 ∷ 58 ∷ 48 ∷ 48 ∷ []

upper : reads (capitals lower) ≡ answered S.Utc (pos 6209) 0
unfolding read_text is_prefix_right is_body scale_in body_in has_prefix prefix_of has_marks stamp_in micro_in in_limits digit_of two_of four_of month_named seek is_named letter names is_date day_of_date day_after first_day length_of month_length leap
upper = rw published

pub lower_case : ShutOut (reads lower) (empty 3 S.Tai) (reads (capitals lower)) (answered S.Utc (pos 6209) 0)
unfolding read_text is_prefix_right is_body scale_in body_in has_prefix prefix_of has_marks stamp_in micro_in in_limits digit_of two_of four_of month_named seek is_named letter names is_date day_of_date day_after first_day length_of month_length leap
lower_case = (refl, upper, λ q. let z : ◌≡◌ {A = ℕ} 3 0 = (λ i. (q i).number) ∙ (λ i. (upper i).number) in omega arith)

-- 3 and 7 swapped: 29-FEB-0000 00:00:00
abbrev pub swapped : Slip → Slip
swapped r = record { number = cond (eqb r.number 3) 7 (cond (eqb r.number 7) 3 r.number); scale = r.scale; day = r.day; micro = r.micro; mark = r.mark }

abbrev pub leap_day0000 : List ℕ
leap_day0000 = 50 ∷ 57 ∷ 45 ∷ 70 ∷ 69 ∷ 66 ∷ 45 ∷ 48 ∷ 48 ∷ 48 ∷ 48 ∷ 32 ∷ 48 ∷ 48 ∷ 58 ∷ 48 ∷ 48 ∷ 58 ∷ 48 ∷ 48 ∷ []

outside : reads leap_day0000 ≡ empty 7 S.Tai
unfolding read_text is_prefix_right is_body scale_in body_in has_prefix prefix_of has_marks stamp_in micro_in in_limits digit_of two_of four_of month_named seek is_named letter names is_date day_of_date day_after first_day length_of month_length leap
outside = rw published

pub three_for_seven : ShutOut (reads leap_day0000) (empty 7 S.Tai) (swapped (reads leap_day0000)) (empty 3 S.Tai)
three_for_seven = (outside, ap swapped outside, λ q. let z : ◌≡◌ {A = ℕ} 7 3 = (λ i. (sym outside i).number) ∙ (λ i. (q i).number) ∙ (λ i. (ap swapped outside i).number) in omega arith)

-- a refused reading in the text's own scale: GPS=01-JAN-1972 00:00:00
abbrev pub own_scale : List ℕ → Slip
own_scale s = dated (scale_in s) (outcome (reading s published_days published_offsets published_last))

abbrev pub before_gps : List ℕ
before_gps =
    71 ∷ 80 ∷ 83 ∷ 61 ∷ 48 ∷ 49 ∷ 45 ∷ 74 ∷ 65 ∷ 78 ∷ 45 ∷ 49 ∷ 57 ∷ 55 ∷ 50 ∷ 32 ∷ 48 ∷ 48 ∷ 58 ∷ 48 ∷ 48 ∷ 58 ∷ 48 ∷ 48 ∷ []

pub refused_in_gps : ShutOut (reads before_gps) (empty 7 S.Tai) (own_scale before_gps) (empty 7 S.Gps)
unfolding read_text is_prefix_right is_body scale_in body_in has_prefix prefix_of has_marks stamp_in micro_in in_limits digit_of two_of four_of month_named seek is_named letter names is_date day_of_date day_after first_day length_of month_length leap
refused_in_gps = (refl, refl, λ q. let z : ◌≡◌ {A = ℕ} 0 2 = λ i. code_of (q i).scale in omega arith)

-- a list asked for where none is used: TAI=01-JAN-1972 00:00:00 under no list at all
abbrev pub list_first : List ℕ → Slip
list_first s = dated S.Tai (outcome (given (accepted [] [] (pos 0)) 5 (reading s [] [] (pos 0))))

abbrev pub first_tai : List ℕ
first_tai =
    84 ∷ 65 ∷ 73 ∷ 61 ∷ 48 ∷ 49 ∷ 45 ∷ 74 ∷ 65 ∷ 78 ∷ 45 ∷ 49 ∷ 57 ∷ 55 ∷ 50 ∷ 32 ∷ 48 ∷ 48 ∷ 58 ∷ 48 ∷ 48 ∷ 58 ∷ 48 ∷ 48 ∷ []

pub list_for_tai : ShutOut (read_text first_tai [] [] (pos 0)) (answered S.Tai (negsuc 10226) 0) (list_first first_tai) (empty 5 S.Tai)
unfolding read_text is_prefix_right is_body scale_in body_in has_prefix prefix_of has_marks stamp_in micro_in in_limits digit_of two_of four_of month_named seek is_named letter names is_date day_of_date day_after first_day length_of month_length leap accepted
list_for_tai = (refl, refl, λ q. let z : ◌≡◌ {A = ℕ} 0 5 = λ i. (q i).number in omega arith)

-- a text that keeps a mark, that of the record read before it
abbrev mark_kept : Mark → List ℕ → Slip
mark_kept m s = remark m (read_text s [] [] (pos 0))

pub mark_kept_lem : ShutOut (read_text first_tai [] [] (pos 0)) (answered S.Tai (negsuc 10226) 0) (mark_kept (M.Proteus true) first_tai) (marked_as (M.Proteus true) S.Tai (negsuc 10226) 0)
unfolding read_text is_prefix_right is_body scale_in body_in has_prefix prefix_of has_marks stamp_in micro_in in_limits digit_of two_of four_of month_named seek is_named letter names is_date day_of_date day_after first_day length_of month_length leap
mark_kept_lem = (refl, refl, by_mark (λ e. omega arith))

-- the desk that refuses all, and the one that answers day 0 for everything
pub refuses_all_lem : ShutOut (read_text first_tai [] [] (pos 0)) (answered S.Tai (negsuc 10226) 0) (refuses_all S.Tai) (empty 7 S.Tai)
unfolding read_text is_prefix_right is_body scale_in body_in has_prefix prefix_of has_marks stamp_in micro_in in_limits digit_of two_of four_of month_named seek is_named letter names is_date day_of_date day_after first_day length_of month_length leap
refuses_all_lem = (refl, refl, differ (λ (t : Slip). t.number) (λ e. omega arith))

pub day_zero_lem : ShutOut (read_text first_tai [] [] (pos 0)) (answered S.Tai (negsuc 10226) 0) (day_zero S.Tai) (answered S.Tai (pos 0) 0)
unfolding read_text is_prefix_right is_body scale_in body_in has_prefix prefix_of has_marks stamp_in micro_in in_limits digit_of two_of four_of month_named seek is_named letter names is_date day_of_date day_after first_day length_of month_length leap
day_zero_lem = (refl, refl, differ (λ (t : Slip). nat_abs t.day) (λ e. omega arith))

-- ---- writing
-- TAI=01-JAN-1972 00:00:00 by the desk that writes nothing, and with a made-up length
abbrev fives : List ℕ
fives = 5 ∷ 5 ∷ 5 ∷ 5 ∷ 5 ∷ 5 ∷ 5 ∷ 5 ∷ 5 ∷ 5 ∷ 5 ∷ 5 ∷ 5 ∷ 5 ∷ 5 ∷ 5 ∷ 5 ∷ 5 ∷ 5 ∷ 5 ∷ 5 ∷ 5 ∷ 5 ∷ 5 ∷ []

abbrev first_written : Wrote ℕ
first_written = write_text (H.Record (record_of S.Tai (negsuc 10226) 0)) F.Prefixed [] [] (pos 0) fives

pub writes_nothing_lem : ShutOut first_written (got 24 first_tai) (writes_nothing fives first_written) (got 24 fives)
unfolding write_text text_of prefix_of letter names date_of_day days_to day_after walk first_day length_of month_length leap
writes_nothing_lem = (refl, refl, differ (bytes_at 0) (λ e. omega arith))

pub made_up_length : ShutOut first_written (got 24 first_tai) (made_up first_written) (got 26 first_tai)
unfolding write_text text_of prefix_of letter names date_of_day days_to day_after walk first_day length_of month_length leap
made_up_length = (refl, refl, differ (λ (w : Wrote ℕ). w.length) (λ e. omega arith))

-- a TAI time handed to an unprefixed form and written as if it were UTC
abbrev pub as_utc : Handed → Form → Wrote ℕ
as_utc h f = writes (H.Record (record_of S.Utc (day_of h) (micro_of h))) f

written_utc : (as_utc (H.Record (record_of S.Tai (pos 0) 0)) F.Plain).number ≡ 0
unfolding write_text text_of letter names date_of_day days_to day_after walk first_day length_of month_length leap
written_utc = rw published

pub tai_as_utc : ShutOut (writes (H.Record (record_of S.Tai (pos 0) 0)) F.Plain).number 12 (as_utc (H.Record (record_of S.Tai (pos 0) 0)) F.Plain).number 0
unfolding write_text
tai_as_utc = (refl, written_utc, λ q. let z : ◌≡◌ {A = ℕ} 12 0 = q ∙ written_utc in omega arith)

-- the form judged before the span
abbrev pub form_first : Handed → Form → Wrote ℕ
form_first h f =
    written blank (outcome (given (has_image f (scale_of h) (micro_of h)) 12 (writing h f published_days published_offsets published_last blank)))

pub twelve_before_seven : ShutOut (writes (H.Record (record_of S.Tai (pos 36525) 0)) F.Plain).number 7 (form_first (H.Record (record_of S.Tai (pos 36525) 0)) F.Plain).number 12
unfolding write_text
twelve_before_seven = (refl, refl, λ q. let z : ◌≡◌ {A = ℕ} 7 12 = q in omega arith)
