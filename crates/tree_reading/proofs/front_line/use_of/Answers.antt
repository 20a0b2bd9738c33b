use Rattle.std.proofs.Common.{◌∙◌, ap₂}
use Rattle.std.proofs.lemmas.Result.{err_from_is_err_and}
use Rattle.tree_text_rules.specs.Token.{both}
use Rattle.tree_reading.specs.View.{tokens_in}
use Rattle.tree_reading.proofs.FrontLines.{use_told}
use Rattle.tree_reading.proofs.front_line.use_of.Goals as goal

pub returns-in_err-material-clause-fault : goal.returns-in_err-material-clause-fault
returns-in_err-material-clause-fault c =
    let e = err_from_is_err_and c.from_residual.result c.from_residual.ensures.1 in
    let used =
    c.both-used.ensures.value ∙ ap₂ both c.material_of.ensures.value c.weight_of.ensures.value in
    rw (e.1, e.2)
    (use_told c.args.problem.now c.in-Some.material.now c.in-Some-next_token.amount.now
    c.in-Some-next_token-2.worth.now (tokens_in c.args.fields) (tokens_in c.in-Some.behind)
    (tokens_in c.in-Some-next_token.behind) (tokens_in c.in-Some-next_token-2.behind)
    c.in-Some.ensures.some c.in-Some-next_token.ensures.some c.in-Some-next_token-2.ensures.some
    c.both-valued.result
    (c.both-valued.ensures.value ∙ ap₂ both used c.weight_of-2.ensures.value) _
    c.in_err-material.ensures.fault)
