-- The paper's example of the line program, computed from its meaning; and wrong desks, for each an input, the right output and the
-- wrong one, which differ. Assumes nothing.
use Rattle.std.specs.Prelude.{◌≡◌, refl, cond, List, [], ◌∷◌, ◌++◌, ℕ, eqb, pos, length, take, drop}
use Rattle.std.proofs.Common.{sym, ap, ◌∙◌, arith}
use Rattle.axis.specs.Meaning.{Moment}
use Rattle.evidence.specs.ShutOut.{ShutOut}
use Rattle.scales.specs.Meaning.{Outcome, refused, answer, outcome}
use Rattle.calendar.specs.Meaning.{leap, month_length, length_of, first_day, is_date, day_after, days_to, walk, day_of_date, date_of_day}
use Rattle.leap.specs.Meaning.{through, is_step, published_days, published_offsets, published_last}
use Rattle.leap.specs.Published.{published}
use Rattle.text_fields.specs.Meaning.{names, letter, prefix_of}
use Rattle.text_read.specs.Meaning.{digit_of, two_of, four_of, six_of, is_named, seek, month_named, has_marks, micro_in, stamp_in, in_limits, has_prefix, scale_in, body_in, is_prefix_right, is_body}
use Rattle.text_write.specs.Meaning.{text_of}
use Rattle.text_laws.specs.Computed.{sixty}
use Rattle.lines.specs.Meaning.{lines_of, refused_text, told, line_dating, answer_to, answers, desk, whole_in}

abbrev pub dates : List ℕ → Outcome Moment
dates s = outcome (line_dating published_days published_offsets published_last s)

-- ---- the example
-- UTC=31-DEC-2016 23:59:60.000000
sixty_dates : dates sixty ≡ answer (record { day = pos 6210; micro = 36000000 })
unfolding is_prefix_right is_body scale_in body_in has_prefix prefix_of has_marks stamp_in micro_in in_limits digit_of two_of four_of six_of month_named seek is_named letter names is_date day_of_date day_after first_day length_of month_length leap is_step through
sixty_dates = rw published

-- TAI=01-JAN-2017 00:00:36.000000
abbrev pub printed_sixty : List ℕ
printed_sixty =
    84 ∷ 65 ∷ 73 ∷ 61 ∷ 48 ∷ 49 ∷ 45 ∷ 74 ∷ 65 ∷ 78 ∷ 45 ∷ 50 ∷ 48 ∷ 49 ∷ 55 ∷ 32
    ∷ 48 ∷ 48 ∷ 58 ∷ 48 ∷ 48 ∷ 58 ∷ 51 ∷ 54 ∷ 46 ∷ 48 ∷ 48 ∷ 48 ∷ 48 ∷ 48 ∷ 48 ∷ []

-- refused 1, with its newline
abbrev pub refused_one : List ℕ
refused_one = 114 ∷ 101 ∷ 102 ∷ 117 ∷ 115 ∷ 101 ∷ 100 ∷ 32 ∷ 49 ∷ 10 ∷ []

abbrev pub answers_to : List ℕ → List ℕ
answers_to s = answer_to published_days published_offsets published_last s

sixty_printed : answers_to sixty ≡ printed_sixty ++ (10 ∷ [])
unfolding answer_to text_of prefix_of letter names date_of_day days_to day_after walk first_day length_of month_length leap
sixty_printed = ap (λ (o : Outcome Moment). told o ++ (10 ∷ [])) sixty_dates

-- 31-DEC-2016 23:59:6
abbrev pub short : List ℕ
short = drop 4 (take 23 sixty)

refused_printed : (s : List ℕ) → dates s ≡ refused 1 → answers_to s ≡ refused_one
unfolding answer_to refused_text
refused_printed s q = ap (λ (o : Outcome Moment). told o ++ (10 ∷ [])) q

cut : lines_of (sixty ++ (10 ∷ short)) ≡ sixty ∷ short ∷ []
unfolding lines_of
cut = refl

-- "its whole output is `TAI=01-JAN-2017 00:00:36.000000` then `refused 1`, a newline after each"
pub example : desk (sixty ++ (10 ∷ short)) ≡ printed_sixty ++ (10 ∷ refused_one)
unfolding desk answers
example = rw (cut, sixty_printed, refused_printed short refl)

-- ---- wrong desks
-- one line, refused
abbrev pub one : List ℕ
one = 120 ∷ 10 ∷ []

right : (s : List ℕ) → lines_of s ≡ (120 ∷ []) ∷ [] → desk s ≡ refused_one
unfolding desk answers
right s q = rw (q, refused_printed (120 ∷ []) refl)

-- a refused line that prints nothing
abbrev quiet : Outcome Moment → List ℕ
quiet (refused n) = []
quiet (answer m) = told (answer m) ++ (10 ∷ [])

abbrev quietly : List (List ℕ) → List ℕ
quietly [] = []
quietly (l ∷ ls) = quiet (dates l) ++ quietly ls

pub prints_nothing : ShutOut (desk one) refused_one (quietly (lines_of one)) []
unfolding lines_of
prints_nothing = (right one refl, refl, λ q. let z : ◌≡◌ {A = ℕ} 10 0 = ap length (sym (right one refl) ∙ q) in omega arith)

-- a last line without a newline is lost
abbrev last_lost : List ℕ → List ℕ
last_lost s = answers published_days published_offsets published_last (whole_in s)

pub last_lost_lem : ShutOut (desk (120 ∷ [])) refused_one (last_lost (120 ∷ [])) []
unfolding lines_of whole_in answers
last_lost_lem = (right (120 ∷ []) refl, refl, λ q. let z : ◌≡◌ {A = ℕ} 10 0 = ap length (sym (right (120 ∷ []) refl) ∙ q) in omega arith)

-- a carriage return taken off: 31-DEC-2016 23:59:60 and a carriage return is 21 bytes, refused 1 and not dated
abbrev taken : List ℕ → List ℕ
taken [] = []
taken (b ∷ s) = cond (eqb b 13) (taken s) (b ∷ taken s)

abbrev pub dos_line : List ℕ
dos_line = take 20 (drop 4 sixty) ++ (13 ∷ [])

dos_dates : dates (taken dos_line) ≡ answer (record { day = pos 6210; micro = 36000000 })
unfolding is_prefix_right is_body scale_in body_in has_prefix prefix_of has_marks stamp_in micro_in in_limits digit_of two_of four_of six_of month_named seek is_named letter names is_date day_of_date day_after first_day length_of month_length leap is_step through
dos_dates = rw published

pub return_taken : ShutOut (dates dos_line) (refused 1) (dates (taken dos_line)) (answer (record { day = pos 6210; micro = 36000000 }))
return_taken = (refl, dos_dates, λ q. let z : ◌≡◌ {A = ℕ} 0 1 = ap kind (q ∙ dos_dates) in omega arith)
  where
    kind : Outcome Moment → ℕ
    kind (refused n) = 0
    kind (answer m) = 1
