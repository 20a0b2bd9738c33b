use Rattle.std.proofs.Common.{◌≡◌, IfOk, subst}
use Rattle.tree_text.specs.problem_rules.Problem.{Problem}
use Rattle.tree_text.specs.text_rules.Canonical.{canonical}
use Rattle.searches.proofs.expansion.expanded_text.Goals as goal

pub returns : goal.returns
returns c =
    subst (λ (whole : Problem). IfOk c.canonical_text.result (λ text. text.items ≡ canonical whole))
    c.in_ok-whole.ensures c.canonical_text.ensures
