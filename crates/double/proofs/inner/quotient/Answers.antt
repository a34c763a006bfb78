use Rattle.double.proofs.Division.{quotient_is}
use Rattle.double.proofs.inner.quotient.Goals as goal

pub returns : goal.returns
returns c =
    let a = c.args in
    quotient_is a.neg a.n a.d c.held.result c.held-2.result c.held.ensures c.held-2.ensures
    c.requires.n_bound.0 c.requires.n_bound.1 c.requires.d_nonzero.0 c.requires.d_nonzero.1
