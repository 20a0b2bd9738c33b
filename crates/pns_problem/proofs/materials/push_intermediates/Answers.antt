use Rattle.text_rules.specs.problem_rules.Generated.{intermediate_of}
use Rattle.pns_problem.proofs.RangeLemmas.{made_more}
use Rattle.pns_problem.proofs.materials.push_intermediates.Goals as goal

pub chaining-preserved : goal.chaining-preserved
chaining-preserved c =
    made_more intermediate_of _ _ _ c.chaining.number _ c.chaining.invariant
    c.in_ok-intermediate.ensures c.in_ok-push.ensures.items
