use Rattle.std.proofs.Common.{◌∙◌, IfOk, subst}
use Rattle.rank_search.specs.DistinctListed.{IsListedBy}
use Rattle.rank_search.proofs.distinct_whole.listed.Goals as goal

pub returns : goal.returns
returns g c =
    let p = c.args.site.now in
    let ends = c.in_ok-ending.ensures.ends in
    subst (λ k. IfOk c.listed_by.result (IsListedBy g.E.Evaluator.past p k c.args.effort.budget))
    (c.run.ensures.count ∙ c.in_ok-begun.ensures.count)
    (subst (λ b. IfOk c.listed_by.result
    (IsListedBy g.E.Evaluator.past p c.run.new.listing.count b))
    (ends.of_tree.budget_is ∙ c.in_ok-begun.ensures.searching.of_tree.budget_is)
    c.listed_by.ensures)
