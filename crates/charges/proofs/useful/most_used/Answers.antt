use Rattle.std.proofs.Common.{SFits, rules, ◌∙◌}
use Rattle.std.specs.Int.{w128}
use Rattle.std.proofs.lemmas.Int.{to_z-of_z}
use Rattle.structure_list.specs.flow_rules.Charge.{at_most}
use Rattle.charges.proofs.useful.most_used.Goals as goal

pub returns-clause-value : goal.returns-clause-value
returns-clause-value c =
    let s1 : SFits w128 c.at_most.result = search rules in
    let s2 : SFits w128 c.users_most.result = search rules in
    let a = simp to_z-of_z at c.at_most.ensures.value in
    simp to_z-of_z (a ∙ (λ i. at_most (c.used_of.ensures i) (c.users_most.ensures.value i)))
