use Rattle.searches.proofs.Solved.{any_budget}
use Rattle.searches.proofs.solves_search.search_best.Goals as goal

pub returns-in_default : goal.returns-in_default
returns-in_default g c =
    any_budget c.args.problem.now 400 c.args.effort.budget c.search_all-2.result
    c.in_default.not-Spent c.search_all-2.ensures
