use Rattle.std.proofs.Common.{◌≡◌, drop}
use Rattle.text_rules.specs.problem_rules.Validity.{has_product}
use Rattle.pns_problem.proofs.material.has_product.Given as goal

abbrev pub invariant-looking : goal.invariant-looking
invariant-looking l = has_product (drop l.material-index l.materials) ≡ has_product l.materials
