use Rattle.std.proofs.lemmas.Result.{err_from_is_err_and}
use Rattle.tree_reading.specs.View.{tokens_in}
use Rattle.tree_reading.proofs.Scales.{some_in, open_told}
use Rattle.tree_reading.proofs.ends.open_end.Goals as goal

pub returns-in_err-scaled-clause-fault : goal.returns-in_err-scaled-clause-fault
returns-in_err-scaled-clause-fault c =
    let e = err_from_is_err_and c.from_residual.result c.from_residual.ensures.1 in
    rw (e.1, e.2)
    (open_told (tokens_in c.args.fields) _ (some_in c.args.fields c.if-is_none.ensures)
    c.in_err-scaled.ensures.fault)
