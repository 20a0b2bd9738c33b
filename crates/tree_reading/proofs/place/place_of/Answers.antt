use Rattle.std.proofs.Common.{refl}
use Rattle.std.proofs.lemmas.Result.{err_from_is_err_and}
use Rattle.tree_reading.proofs.place.place_of.Goals as goal

pub returns-in_err-word-clause-value : goal.returns-in_err-word-clause-value
returns-in_err-word-clause-value c =
    let e = err_from_is_err_and c.from_residual.result c.from_residual.ensures.1 in
    rw (e.1, e.2, c.in_err-word.ensures.fault.0, c.in_err-word.ensures.fault.1) refl

pub returns-then-eq-clause-value : goal.returns-then-eq-clause-value
returns-then-eq-clause-value c =
    rw (c.in_ok-word.ensures.ok, ← c.as_slice.ensures, ← c.eq.ensures, c.if-eq.true)
    c.entry_of.ensures.value
