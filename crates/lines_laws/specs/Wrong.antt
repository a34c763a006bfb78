-- Wrong programs for a block of lines and for what is kept between two, each shut out by an input at which its answer is not the
-- meaning's. Assumes nothing.
use Rattle.std.specs.Prelude.{◌≡◌, refl, List, [], ◌∷◌, ◌++◌, ℕ, ◌-◌, length, get_or, take, drop}
use Rattle.std.proofs.Common.{sym, ap, ◌∙◌, arith}
use Rattle.std.proofs.Math.Seq.{slice}
use Rattle.evidence.specs.ShutOut.{ShutOut, Outgrown, differ}
use Rattle.axis.specs.Meaning.{Moment}
use Rattle.octets.specs.Meaning.{onto}
use Rattle.scales.specs.Meaning.{Judged, given, gives, Outcome, refused, outcome}
use Rattle.scales.specs.declared.Scale.{Scale}
use Rattle.ground_laws.proofs.Desks.{sevens}
use Rattle.calendar.specs.Meaning.{leap, month_length, length_of, first_day, is_date, day_after, day_of_date}
use Rattle.leap.specs.Meaning.{is_step, published_days, published_offsets, published_last}
use Rattle.leap.specs.Published.{published}
use Rattle.text_fields.specs.Meaning.{names, letter, prefix_of}
use Rattle.text_fields.specs.declared.Stamp.{Stamp}
use Rattle.text_read.specs.Meaning.{digit_of, two_of, four_of, six_of, is_named, seek, month_named, has_marks, micro_in, stamp_in, in_limits, has_prefix, scale_in, body_in, is_prefix_right, is_body, stamp_moment, stamp_spans}
use Rattle.lines.specs.Meaning.{lines_of, refused_text, answer_to, answers, desk, whole_in, bytes_in, Done, room_for, lines_dated, date_lines, kept, Kept, moved, keep}
use Rattle.lines_laws.specs.Lines.{Begun}
use Rattle.lines_laws.specs.Run.{printed, block, kept_is}
use Rattle.lines_laws.specs.Computed.{one, refused_one}
use Rattle.lines_laws.specs.Each.{printed_by, texts_by, each_by}
use Rattle.lines_laws.specs.First.{text_judging, line_judging, has_list, is_current, has_second, in_tai, result_in_span}

-- ---- date_lines: a desk with another choice of the lines that it dates
abbrev date_by : (List ℕ → ℕ → List (List ℕ)) → List ℕ → List ℕ → Done
date_by choice input out =
    let ls = choice input (length out) in
    let a = answers published_days published_offsets published_last ls in
    record { consumed = bytes_in ls; written = length a; bytes = onto a out }

-- a line that has begun is dated before its newline comes
abbrev begun_too : List ℕ → ℕ → List (List ℕ)
begun_too input room = room_for published_days published_offsets published_last room (lines_of input)

pub lines_begun_dated :
    ShutOut (date_lines (120 ∷ []) (sevens 32)) (record { consumed = 0; written = 0; bytes = sevens 32 })
    (date_by begun_too (120 ∷ []) (sevens 32)) (record { consumed = 2; written = 10; bytes = refused_one ++ sevens 22 })
unfolding date_lines room_for lines_of whole_in bytes_in answers answer_to refused_text onto
lines_begun_dated = (refl, refl, differ (λ (d : Done). d.consumed) (λ e. omega arith))

-- a line is taken where the longest answer has no room
abbrev room_ignored : List ℕ → ℕ → List (List ℕ)
room_ignored input room = whole_in input

pub lines_room_ignored :
    ShutOut (date_lines one (sevens 9)) (record { consumed = 0; written = 0; bytes = sevens 9 })
    (date_by room_ignored one (sevens 9)) (record { consumed = 2; written = 10; bytes = sevens 9 })
unfolding date_lines room_for whole_in bytes_in answers answer_to refused_text onto
lines_room_ignored = (refl, refl, differ (λ (d : Done). d.consumed) (λ e. omega arith))

-- the desk that writes nothing, and says that it did
abbrev writes_nothing : List ℕ → List ℕ → Done
writes_nothing input out = record { consumed = (date_lines input out).consumed; written = (date_lines input out).written; bytes = out }

pub lines_nothing_written :
    ShutOut (date_lines one (sevens 32)) (record { consumed = 2; written = 10; bytes = refused_one ++ sevens 22 })
    (writes_nothing one (sevens 32)) (record { consumed = 2; written = 10; bytes = sevens 32 })
unfolding date_lines room_for whole_in bytes_in answers answer_to refused_text onto
lines_nothing_written = (refl, refl, differ (λ (d : Done). get_or d.bytes 0 0) (λ e. omega arith))

-- the second judged before the list's last day: 31-DEC-2025 23:59:60 has no second 60, and its day is after E = 9131
abbrev second_first : Scale → Stamp → Judged Moment
second_first z t =
    given (has_list published_days published_offsets published_last z) 5
    (given (stamp_spans z t) 7
    (given (has_second published_days published_offsets published_last z (stamp_moment t)) 10
    (given (is_current published_days published_offsets published_last z (stamp_moment t)) 9
    (given (result_in_span published_days published_offsets published_last z (stamp_moment t)) 11
    (gives (in_tai published_days published_offsets published_last z (stamp_moment t)))))))

abbrev another : List ℕ → Outcome Moment
another s = outcome (text_judging second_first s)

-- where there is room for all lines
abbrev date_another : List ℕ → List ℕ → Done
date_another input out =
    let a = printed_by another (whole_in input) in
    record { consumed = bytes_in (whole_in input); written = length a; bytes = onto a out }

abbrev late : List ℕ
late = 51 ∷ 49 ∷ 45 ∷ 68 ∷ 69 ∷ 67 ∷ 45 ∷ 50 ∷ 48 ∷ 50 ∷ 53 ∷ 32 ∷ 50 ∷ 51 ∷ 58 ∷ 53 ∷ 57 ∷ 58 ∷ 54 ∷ 48 ∷ 10 ∷ []

-- 9 is the first that applies, and it prints 10
pub prints_another :
    ShutOut (date_lines late (sevens 32)) (record { consumed = 21; written = 10; bytes = refused_text 9 ++ (10 ∷ sevens 22) })
    (date_another late (sevens 32)) (record { consumed = 21; written = 11; bytes = refused_text 10 ++ (10 ∷ sevens 21) })
unfolding date_lines room_for whole_in bytes_in answers answer_to refused_text onto is_prefix_right is_body scale_in body_in has_prefix prefix_of has_marks stamp_in micro_in in_limits digit_of two_of four_of six_of month_named seek is_named letter names is_date day_of_date day_after first_day length_of month_length leap is_step
prints_another = (rw published, rw published, differ (λ (d : Done). d.written) (rw published (λ e. omega arith)))

-- it too answers each line by one line, and its number is not the first that applies
abbrev late_line : List ℕ
late_line = take 20 late

late_another : another late_line ≡ refused 10
unfolding is_prefix_right is_body scale_in body_in has_prefix prefix_of has_marks stamp_in micro_in in_limits digit_of two_of four_of six_of month_named seek is_named letter names is_date day_of_date day_after first_day length_of month_length leap is_step
late_another = rw published

late_first : outcome (line_judging published_days published_offsets published_last late_line) ≡ refused 9
unfolding is_prefix_right is_body scale_in body_in has_prefix prefix_of has_marks stamp_in micro_in in_limits digit_of two_of four_of six_of month_named seek is_named letter names is_date day_of_date day_after first_day length_of month_length leap is_step
late_first = rw published

pub another_number :
    Outgrown ((ls : List (List ℕ)) → lines_of (printed_by another ls) ≡ texts_by another ls)
    ((s : List ℕ) → outcome (line_judging published_days published_offsets published_last s) ≡ another s)
another_number = (each_by another, λ w. let q = sym late_first ∙ w late_line ∙ late_another in let z : ◌≡◌ {A = ℕ} 9 10 = cc in omega arith)

-- a call that consumes its lines and writes nothing: what is said of the lines alone says nothing of it
abbrev lost : List ℕ → List ℕ → Done
lost input out = record { consumed = length input; written = 0; bytes = out }

pub call_lost :
    Outgrown ((s t : List ℕ) (room : ℕ) → let ls = lines_dated published_days published_offsets published_last s room in desk (s ++ t) ≡ printed ls ++ desk (drop (bytes_in ls) s ++ t))
    ((s t out : List ℕ) → let d = lost s out in desk (s ++ t) ≡ take d.written d.bytes ++ desk (drop d.consumed s ++ t))
unfolding desk lines_of answers answer_to refused_text
call_lost = (block, λ w. let z : ◌≡◌ {A = ℕ} 10 0 = ap length (w (10 ∷ []) [] []) in omega arith)

-- ---- keep
-- a line that has begun is kept whole, however long: the next block finds no room
abbrev kept_whole : List ℕ → ℕ → ℕ → Kept
kept_whole buf from to = moved (to - from) (onto (slice from to buf) buf)

pub keep_whole : ShutOut (keep (sevens 33) 0 33) (moved 32 (sevens 33)) (kept_whole (sevens 33) 0 33) (moved 33 (sevens 33))
unfolding keep onto
keep_whole = (refl, refl, differ (λ (k : Kept). k.length) (λ e. omega arith))

-- what is kept stays where it stood
abbrev not_moved : List ℕ → ℕ → ℕ → Kept
not_moved buf from to = moved (length (kept buf from to)) buf

pub keep_not_moved :
    ShutOut (keep (1 ∷ 2 ∷ 3 ∷ []) 1 3) (moved 2 (2 ∷ 3 ∷ 3 ∷ [])) (not_moved (1 ∷ 2 ∷ 3 ∷ []) 1 3) (moved 2 (1 ∷ 2 ∷ 3 ∷ []))
unfolding keep onto
keep_not_moved = (refl, refl, differ (λ (k : Kept). get_or k.bytes 0 0) (λ e. omega arith))

-- what is said of the line alone says nothing of where it stands: for the x of "\nx" it hands the newline back, a line more
pub kept_unmoved :
    Outgrown ((s t : List ℕ) → Begun s → desk (s ++ t) ≡ desk (take 32 s ++ t))
    ((buf t : List ℕ) (from to : ℕ) → Begun (slice from to buf) → let k = not_moved buf from to in desk (slice from to buf ++ t) ≡ desk (take k.length k.bytes ++ t))
unfolding desk lines_of whole_in answers answer_to refused_text
kept_unmoved = (kept_is, λ w. let z : ◌≡◌ {A = ℕ} 10 20 = ap length (w (10 ∷ 120 ∷ []) (10 ∷ []) 1 2 refl) in omega arith)

-- the line's last bytes are kept, not its first
abbrev kept_last : List ℕ → ℕ → ℕ → Kept
kept_last buf from to = let l = slice (to - 32) to buf in moved (length l) (onto l buf)

pub keep_last :
    ShutOut (keep (1 ∷ sevens 32) 0 33) (moved 32 (1 ∷ sevens 32)) (kept_last (1 ∷ sevens 32) 0 33) (moved 32 (sevens 33))
unfolding keep onto
keep_last = (refl, refl, differ (λ (k : Kept). get_or k.bytes 0 0) (λ e. omega arith))
