use Rattle.tree_parts.specs.tree_laws.Capped.{IsCapped}
use Rattle.headed_search.proofs.plant.capped.Given as goal

abbrev pub invariant-capping : goal.invariant-capping
invariant-capping l = IsCapped l.fn.problem l.parts
