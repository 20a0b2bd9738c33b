use Rattle.std.proofs.Common.{◌∙◌, IfOk, subst}
use Rattle.rank_search.specs.Ranked.{IsRankedBy}
use Rattle.rank_search.proofs.whole.ranked.Goals as goal

pub returns : goal.returns
returns g c =
    let p = c.args.site.now in
    let ends = c.in_ok-ending.ensures.ends in
    subst (λ k. IfOk c.ranked_by.result (IsRankedBy g.E.Evaluator.past p k c.args.effort.budget))
    (c.in_ok-ending.ensures.count ∙ c.in_ok-begun.ensures.count)
    (subst (λ b. IfOk c.ranked_by.result (IsRankedBy g.E.Evaluator.past p c.run.new.found.count b))
    (ends.tree.budget_is ∙ c.in_ok-begun.ensures.ranking.budget_is) c.ranked_by.ensures)
