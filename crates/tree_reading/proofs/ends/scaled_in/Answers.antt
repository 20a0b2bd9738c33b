use Rattle.std.proofs.lemmas.Result.{err_from_is_err_and}
use Rattle.tree_reading.specs.View.{tokens_in}
use Rattle.tree_reading.proofs.Scales.{some_in, scaled_read, scaled_told}
use Rattle.tree_reading.proofs.ends.scaled_in.Goals as goal

pub returns-in_err-numbers_of-clause-fault : goal.returns-in_err-numbers_of-clause-fault
returns-in_err-numbers_of-clause-fault c =
    let e = err_from_is_err_and c.from_residual.result c.from_residual.ensures.1 in
    rw (e.1, e.2)
    (scaled_told (tokens_in c.args.fields) _ (some_in c.args.fields c.if-is_none.ensures)
    c.in_err-numbers_of.ensures.fault)

pub from_vec-requires-clause-some : goal.from_vec-requires-clause-some
from_vec-requires-clause-some c =
    (scaled_read (tokens_in c.args.fields) c.in_ok-numbers_of.field-0.items
    (some_in c.args.fields c.if-is_none.ensures) c.in_ok-numbers_of.ensures.ok).0

pub returns-clause-ok : goal.returns-clause-ok
returns-clause-ok c =
    rw c.from_vec.ensures
    ((scaled_read (tokens_in c.args.fields) c.in_ok-numbers_of.field-0.items
    (some_in c.args.fields c.if-is_none.ensures) c.in_ok-numbers_of.ensures.ok).1)
