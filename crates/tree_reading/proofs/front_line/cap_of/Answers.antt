use Rattle.std.proofs.Common.{◌∙◌, ap₂}
use Rattle.std.proofs.lemmas.Result.{err_from_is_err_and}
use Rattle.tree_text_rules.specs.Token.{both}
use Rattle.tree_reading.specs.View.{tokens_in}
use Rattle.tree_reading.proofs.FrontLines.{cap_told}
use Rattle.tree_reading.proofs.front_line.cap_of.Goals as goal

pub returns-in_err-unit-clause-fault : goal.returns-in_err-unit-clause-fault
returns-in_err-unit-clause-fault c =
    let e = err_from_is_err_and c.from_residual.result c.from_residual.ensures.1 in
    rw (e.1, e.2)
    (cap_told c.args.problem.now c.in-Some.unit.now c.in-Some-next_token.size.now
    (tokens_in c.args.fields) (tokens_in c.in-Some.behind)
    (tokens_in c.in-Some-next_token.behind) c.in-Some.ensures.some
    c.in-Some-next_token.ensures.some c.both-sized.result
    (c.both-sized.ensures.value ∙ ap₂ both c.unit_of.ensures.value c.weight_of.ensures.value) _
    c.in_err-unit.ensures.fault)
