use Rattle.std.proofs.Common.{◌≡◌, ◌∙◌, List, ℕ, true, sym, subst}
use Rattle.plan_laws.specs.number_sets.Sets.{has}
use Rattle.plan_laws.specs.flow_rules.Net.{beside}
use Rattle.periods.proofs.folding.size_table.Goals as goal

pub returns : goal.returns
returns c =
    λ k e. c.by_unit.ensures k (subst (λ (us : List ℕ). has us k ≡ true) (sym c.units.ensures) e)
    ∙ λ j. beside (c.units.ensures j) (c.sizes.ensures j) k
