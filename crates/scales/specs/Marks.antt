-- An answer that is marked: the mark is laid on what a plain chain hands back. Assumes nothing.
use Rattle.std.specs.Prelude.{◌≡◌, refl, true, false, ltb, Err}
use Rattle.std.proofs.Common.{sym, arith, ltb-true, ne_eqb}
use Rattle.axis.specs.Meaning.{Moment}
use Rattle.scales.specs.Meaning.{Judged, given, gives, outcome, dated_as, dated, remark, number_of, slip}
use Rattle.scales.specs.Order.{numbered}
use Rattle.scales.specs.Place.{and_both}
use Rattle.scales.specs.Same.{no_zero}
use Rattle.scales.specs.declared.Scale.{Scale}
use Rattle.scales.specs.declared.Refused.{Refused}
use Rattle.scales.specs.declared.Mark.{Mark}
use Rattle.scales.specs.declared.Mark.TheVariants as M

-- no refusal of a chain has the number that an answer has, so that a mark is laid on answers alone, whatever mark they had
pub remarked : (m o : Mark) (s : Scale) (j : Judged Moment) → numbered j ≡ true → remark m (dated_as o s (outcome j)) ≡ dated_as m s (outcome j)
remarked m o s (given true n rest) p = remarked m o s rest (and_both (ltb 0 n) (numbered rest) p).1
remarked m o s (given false n rest) p =
    rw (ne_eqb n 0 (λ e. omega (arith, e, ltb-true 0 n (and_both (ltb 0 n) (numbered rest) p).0)))
remarked m o s (gives t) p = refl

pub remark_is : (m : Mark) (s : Scale) (j : Judged Moment) → numbered j ≡ true → remark m (dated s (outcome j)) ≡ dated_as m s (outcome j)
remark_is m = remarked m M.Plain

pub remark_refused : (m : Mark) (e : Refused) → slip (Err e) ≡ remark m (slip (Err e))
remark_refused m e = sym (rw (ne_eqb (number_of e.refusal) 0 (no_zero e.refusal)))
