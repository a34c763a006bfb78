use Rattle.std.proofs.Common.{◌≡◌, rules, refl, sym, ap, ◌∙◌, List, ℕ, Bool, ◌+◌, ◌*◌, Ok, Err}
use Rattle.scales.specs.Meaning.{Slip, slip, outcome, dated_as, dated, spanned, valued, value_slip, remark}
use Rattle.scales.specs.declared.Record.{Record}
use Rattle.scales.specs.Marks.{remark_is, remark_refused}
use Rattle.scales.specs.Order.{is_answers}
use Rattle.scales.specs.declared.Scale.TheVariants as S
use Rattle.scales.specs.declared.Mark.TheVariants as M
use Rattle.layout_fields.specs.Proteus.{reading as fields_reading, empty, fields_of, read as fields_read}
use Rattle.layout_times.specs.Chain.{scaled_no, scaled_at, read_at, told_answer}
use Rattle.layout_fields.specs.declared.proteus.Fields.{Fields}
use Rattle.layout_times.specs.Meaning.{fraction_micros, moment_from}
use Rattle.layout_times.specs.Proteus.{epoch, micros_of, reading, read}
use Rattle.layout_times.proofs.Ways.{proteus_h3}
use Rattle.layout_times.proofs.proteus.read.Goals as goal

-- the mark laid on what is handed back of the moment alone
marked : (s : List ℕ) (b : Bool) → (fields_of s).h3 ≡ b → remark (M.Proteus b) (dated S.Utc (outcome (reading s))) ≡ read s
unfolding read
marked s b e = remark_is (M.Proteus b) S.Utc (reading s) refl ∙ ap (λ (x : Bool). dated_as (M.Proteus x) S.Utc (outcome (reading s))) (sym e)

-- what `since` answers, marked with the H3 of the fields
seen : (s : List ℕ) (f : Fields) → value_slip empty (Ok f) ≡ valued empty (outcome (fields_reading s)) → (n : ℕ) → n ≡ micros_of f →
    {x : Slip} → x ≡ spanned S.Utc (moment_from epoch n).day (moment_from epoch n).micro → remark (M.Proteus f.h3) x ≡ read s
seen s f v n q w =
    ap (remark (M.Proteus f.h3)) (w ∙ read_at S.Utc epoch micros_of empty (fields_reading s) refl f v n q)
    ∙ marked s f.h3 (proteus_h3 s f (is_answers (fields_reading s) f (told_answer empty (fields_reading s) refl f v)))

micros_is : (f : Fields) (w s m : ℕ) → w ≡ f.week → s ≡ f.second → m ≡ fraction_micros f.fraction → (w * 604800 + s) * 1000000 + m ≡ micros_of f
micros_is f w s m a b k = rw (a, b, k)

pub returns-in_err-f : goal.returns-in_err-f
unfolding fields_read
returns-in_err-f c =
    let s = c.args.b.now in
    let e = c.in_err-f.field-0.0 in
    let m : c.map_err.result ≡ Err e = search rules in
    let r : c.from_residual.result ≡ Err e = search rules in
    let x = M.Proteus (fields_of s).h3 in
    rw r (remark_refused x e
    ∙ ap (remark x) (scaled_no S.Utc epoch micros_of empty (fields_reading s) c.read.result c.map_err.result c.map_err.ensures.cases (λ f e q. search rules) c.read.ensures e m)
    ∙ marked s (fields_of s).h3 refl)

pub returns-in_err-since : goal.returns-in_err-since
unfolding fields_read
returns-in_err-since c =
    let s = c.args.b.now in
    let f = c.in_ok-f.f in
    let m : c.map_err.result ≡ Ok f = search rules in
    let v = scaled_at S.Utc epoch micros_of empty (fields_reading s) c.read.result c.map_err.result _ c.map_err.ensures.cases c.read.ensures f m in
    let e = c.in_err-since.field-0.0 in
    let r : c.from_residual-in_err-since.result ≡ Err e = search rules in
    rw r (remark_refused (M.Proteus f.h3) e ∙ seen s f v _ (micros_is f c.from.result c.from-2.result c.fraction_micros.result c.from.ensures c.from-2.ensures c.fraction_micros.ensures) c.in_err-since.ensures)

pub returns : goal.returns
unfolding fields_read
returns c =
    let s = c.args.b.now in
    let f = c.in_ok-f.f in
    let m : c.map_err.result ≡ Ok f = search rules in
    let v = scaled_at S.Utc epoch micros_of empty (fields_reading s) c.read.result c.map_err.result _ c.map_err.ensures.cases c.read.ensures f m in
    ap (λ (y : Record). slip (Ok y)) c.with_mark.ensures
    ∙ seen s f v _ (micros_is f c.from.result c.from-2.result c.fraction_micros.result c.from.ensures c.from-2.ensures c.fraction_micros.ensures) c.in_ok-since.ensures
