-- Wrong programs for marks, each shut out by an input at which its answer is not the meaning's. Assumes nothing.
use mathlib.Core.Path.{refl}
use mathlib.Core.Bool.{true, false}
use native.Mathlib.Omega.{arith}
use Rattle.std.specs.Prelude.{Ok, Err}
use lib.IntN.{pos}
use Rattle.evidence.specs.ShutOut.{ShutOut, differ}
use Rattle.scales.specs.Meaning.{Slip, slip, remark, refused_of, spanned_as, spanned, record_of, marked_record}
use Rattle.scales.specs.declared.Scale.TheVariants as S
use Rattle.scales.specs.declared.Record.{Record}
use Rattle.scales.specs.declared.Refusal.TheVariants as R
use Rattle.scales.specs.declared.Mark.{Mark}
use Rattle.scales.specs.declared.Mark.TheVariants as M
use Rattle.ground_laws.proofs.Desks.{answered, empty, marked_as, mark_number, by_mark, always_marked}

abbrev someday : Record
someday = record_of S.Utc (pos 5) 7

-- ---- Record::with_mark
-- the first mark stays
abbrev first_stays : Mark → Record → Record
first_stays m r = r

pub mark_first_stays :
    ShutOut (marked_record (M.Correlated 9) someday) (marked_record (M.Correlated 9) someday) (first_stays (M.Correlated 9) someday) someday
mark_first_stays = (refl, refl, differ (λ (r : Record). mark_number r.mark) (λ e. omega arith))

-- H3 lost
abbrev without_h3 : Mark → Mark
without_h3 M.Plain = M.Plain
without_h3 (M.Proteus b) = M.Proteus false
without_h3 (M.Correlated n) = M.Correlated n

pub mark_without_h3 :
    ShutOut (marked_record (M.Proteus true) someday) (marked_record (M.Proteus true) someday) (marked_record (without_h3 (M.Proteus true)) someday)
    (marked_record (M.Proteus false) someday)
mark_without_h3 = (refl, refl, differ (λ (r : Record). mark_number r.mark) (λ e. omega arith))

-- ---- a mark on what is answered
-- every slip is marked, a refusal's too
pub refusal_marked_lem :
    ShutOut (remark (M.Correlated 9) (slip (Err (refused_of S.Utc R.NotInForce)))) (empty 8 S.Utc) (always_marked (M.Correlated 9) (slip (Err (refused_of S.Utc R.NotInForce))))
    (record { number = 8; scale = S.Utc; day = pos 0; micro = 0; mark = M.Correlated 9 })
refusal_marked_lem = (refl, refl, by_mark (λ e. omega arith))

-- none is
abbrev never : Mark → Slip → Slip
never m x = x

pub answer_unmarked :
    ShutOut (remark (M.Proteus false) (slip (Ok someday))) (marked_as (M.Proteus false) S.Utc (pos 5) 7) (never (M.Proteus false) (slip (Ok someday)))
    (answered S.Utc (pos 5) 7)
answer_unmarked = (refl, refl, by_mark (λ e. omega arith))

-- ---- Record::judged
-- the mark lost
abbrev mark_lost : Record → Slip
mark_lost r = spanned r.scale r.day r.micro

pub judged_mark_lost :
    ShutOut (spanned_as (M.Correlated 9) S.Utc (pos 5) 7) (marked_as (M.Correlated 9) S.Utc (pos 5) 7) (mark_lost (marked_record (M.Correlated 9) someday))
    (answered S.Utc (pos 5) 7)
unfolding spanned_as
judged_mark_lost = (refl, refl, by_mark (λ e. omega arith))

-- a refusal that keeps it
pub judged_mark_kept :
    ShutOut (spanned_as (M.Proteus true) S.Utc (pos 36525) 7) (empty 7 S.Utc) (always_marked (M.Proteus true) (spanned S.Utc (pos 36525) 7))
    (record { number = 7; scale = S.Utc; day = pos 0; micro = 0; mark = M.Proteus true })
unfolding spanned_as
judged_mark_kept = (refl, refl, by_mark (λ e. omega arith))
