use Rattle.std.proofs.Common.{◌≡◌, ◌++◌}
use Rattle.text_rules.specs.problem_rules.Generated.{intermediates}
use Rattle.pns_problem.proofs.materials.push_intermediates.Given as goal

abbrev pub invariant-chaining : goal.invariant-chaining
invariant-chaining l = l.materials.items ≡ l.fn.materials.items ++ intermediates l.number
