-- Wrong covers for C of the functions on texts, each shut out by an input at which its answer is not the meaning's. Assumes nothing.
use mathlib.Core.Path.{refl}
use mathlib.Core.List.{List, [], ◌∷◌}
use Prim.Native.Nat.{ℕ, ◌*◌, ◌/◌}
use native.Mathlib.Omega.{arith}
use lib.IntN.{pos}
use Rattle.evidence.specs.ShutOut.{ShutOut, differ}
use Rattle.scales.specs.Meaning.{Judged, Wrote}
use Rattle.handed.specs.declared.Handed.{Handed}
use Rattle.ground_laws.proofs.Desks.{keeps}
use Rattle.calendar.specs.Meaning.{leap, month_length, length_of, first_day, is_date, day_after, days_to, walk, day_of_date, date_of_day}
use Rattle.double.specs.Meaning.{plus_zero}
use Rattle.text_fields.specs.Meaning.{names, letter, prefix_of}
use Rattle.text_read.specs.Meaning.{digit_of, two_of, four_of, is_named, seek, month_named, has_marks, micro_in, stamp_in, in_limits, has_prefix, scale_in, body_in, is_prefix_right, is_body, read_text}
use Rattle.text_write.specs.Meaning.{text_of, writing}
use Rattle.text_laws.specs.Computed.{reads}
use Rattle.text_laws.specs.Wrong.{capitals, own_scale, before_gps}
use Rattle.c_api.specs.Meaning.{time_out}
use Rattle.c_api.specs.Bytes.{writes, handed_writing}
use Rattle.c_api.specs.Texts.{form_at, text_writing}
use Rattle.c_api.specs.declared.VrkHanded.{VrkHanded}
use Rattle.c_api_laws.proofs.Desks.{empty_out, plain, refusal_in, scale_in as code_in}

-- ---- texts read: a refused text in the scale of its prefix, GPS=01-JAN-1972 00:00:00
pub read_own_scale : ShutOut (time_out (reads before_gps)) (empty_out 7 0) (time_out (own_scale before_gps)) (empty_out 7 2)
unfolding read_text is_prefix_right is_body scale_in body_in has_prefix prefix_of has_marks stamp_in micro_in in_limits digit_of two_of four_of month_named seek is_named letter names is_date day_of_date day_after first_day length_of month_length leap
read_own_scale = (refl, refl, differ code_in (λ e. omega arith))

-- months in small letters taken, TAI=01-jan-2000 00:00:00
abbrev small : List ℕ
small = 84 ∷ 65 ∷ 73 ∷ 61 ∷ 48 ∷ 49 ∷ 45 ∷ 106 ∷ 97 ∷ 110 ∷ 45 ∷ 50 ∷ 48 ∷ 48 ∷ 48 ∷ 32 ∷ 48 ∷ 48 ∷ 58 ∷ 48 ∷ 48 ∷ 58 ∷ 48 ∷ 48 ∷ []

pub read_small : ShutOut (time_out (read_text small [] [] (pos 0))) (empty_out 3 0) (time_out (read_text (capitals small) [] [] (pos 0))) (plain 0 (pos 0) 0)
unfolding read_text is_prefix_right is_body scale_in body_in has_prefix prefix_of has_marks stamp_in micro_in in_limits digit_of two_of four_of month_named seek is_named letter names is_date day_of_date day_after first_day length_of month_length leap
read_small = (refl, refl, differ refusal_in (λ e. omega arith))

-- ---- texts written: an unknown form taken for the longest
abbrev tai : ℕ → VrkHanded
tai u = record { kind = 0; scale = 0; day = pos 0; micro = u; decimal = plus_zero; mark = 0; source = 0 }

abbrev any_form : ℕ → Handed → List ℕ → Judged (List ℕ)
any_form n h out = writing h (form_at n) [] [] (pos 0) out

pub form_unknown_lem : ShutOut (writes (handed_writing (text_writing 21 [] [] (pos 0)) (tai 0)) (9 ∷ [])) (keeps 3 (9 ∷ [])) (writes (handed_writing (any_form 21) (tai 0)) (9 ∷ [])) (keeps 13 (9 ∷ []))
unfolding writes text_of prefix_of
form_unknown_lem = (refl, refl, differ (λ (w : Wrote ℕ). w.number) (λ e. omega arith))

-- a microsecond dropped where the form has none
abbrev whole_second : VrkHanded → VrkHanded
whole_second h = record { kind = h.kind; scale = h.scale; day = h.day; micro = h.micro / 1000000 * 1000000; decimal = h.decimal; mark = h.mark; source = h.source }

abbrev blank : List ℕ
blank = 9 ∷ 9 ∷ 9 ∷ 9 ∷ 9 ∷ 9 ∷ 9 ∷ 9 ∷ 9 ∷ 9 ∷ 9 ∷ 9 ∷ 9 ∷ 9 ∷ 9 ∷ 9 ∷ 9 ∷ 9 ∷ 9 ∷ 9 ∷ 9 ∷ 9 ∷ 9 ∷ 9 ∷ []

pub micro_dropped : ShutOut (writes (handed_writing (text_writing 24 [] [] (pos 0)) (tai 5)) blank) (keeps 12 blank) (writes (handed_writing (text_writing 24 [] [] (pos 0)) (whole_second (tai 5))) blank) (record { number = 0; length = 24; lent = 84 ∷ 65 ∷ 73 ∷ 61 ∷ 48 ∷ 49 ∷ 45 ∷ 74 ∷ 65 ∷ 78 ∷ 45 ∷ 50 ∷ 48 ∷ 48 ∷ 48 ∷ 32 ∷ 48 ∷ 48 ∷ 58 ∷ 48 ∷ 48 ∷ 58 ∷ 48 ∷ 48 ∷ [] })
unfolding writes text_of prefix_of letter names date_of_day days_to day_after walk first_day length_of month_length leap
micro_dropped = (refl, refl, differ (λ (w : Wrote ℕ). w.number) (λ e. omega arith))
