use Rattle.std.proofs.Common.{IfSome, subst}
use Rattle.tree_text.specs.problem_rules.Problem.{Problem}
use Rattle.tree_text.specs.tree_rules.Claim.{network}
use Rattle.command_files.specs.studio_rules.Solve.{SolvesBy}
use Rattle.searches.proofs.Solved.{all_solve}
use Rattle.searches.proofs.solves_search.head_for.Goals as goal

pub returns : goal.returns
returns g c =
    subst
    (λ (p : Problem). IfSome c.search_headed.result
    (λ h. SolvesBy p (network h.network) h.head h.tree)) c.of.ensures
    (all_solve c.of.result c.search_headed.result c.search_headed.ensures.proved
    c.search_headed.ensures.least)
