use Rattle.std.proofs.Common.{◌≡◌, ◌<◌, ◌∙◌, sym, ap, subst, ◌+ℤ◌, SFits, rules, length}
use Rattle.std.specs.Int.{w128}
use Rattle.std.proofs.lemmas.Int.{to_z-of_z}
use Rattle.structure_list.specs.problem_rules.Problem.{Problem}
use Rattle.structure_list.specs.pns_rules.Shape.{shape_of}
use Rattle.structure_list.specs.pgraph.View.{node_of}
use Rattle.structure_list.specs.flow_rules.Net.{net_of}
use Rattle.structure_list.specs.flow_rules.Relaxed.{row_low}
use Rattle.flow_program.specs.NodeSets.{AreNeeded}
use Rattle.structure_list.specs.flow_rules.Charge.{at_most, users_most}
use Rattle.charges.specs.Known.{facts_of}
use Rattle.charges.proofs.useful.useful_of.Goals as goal

pub row_range-range-requires-clause-known : goal.row_range-range-requires-clause-known
row_range-range-requires-clause-known c = subst (λ (q : Problem). c.args.j < length q.materials)
    (sym c.problem.ensures.same) c.requires.known

pub row_range-range-requires-clause-needed : goal.row_range-range-requires-clause-needed
row_range-range-requires-clause-needed c =
    subst (λ (q : Problem). AreNeeded (shape_of q) (node_of c.args.node.now) c.args.sets.now.needed)
    (sym c.problem.ensures.same) c.requires.sets.needed_are

pub returns-clause-value : goal.returns-clause-value
returns-clause-value c =
    let n = node_of c.args.node.now in
    let f = facts_of c.args.facts.now in
    let s1 : SFits w128 c.row_range-range.result.low = search rules in
    let s2 : SFits w128 c.at_most-most.result = search rules in
    let s3 : SFits w128 c.users_most.result = search rules in
    let lo : c.row_range-range.result.low ≡ row_low (net_of c.args.site.now) n c.args.j =
    c.row_range-range.ensures.low ∙ ap (λ (q : Problem). row_low (net_of q) n c.args.j)
    c.problem.ensures.same in
    let a = simp to_z-of_z at c.at_most-most.ensures.value in
    let mo : c.at_most-most.result
    ≡ at_most (f.used c.args.j) (users_most (net_of c.args.site.now) n f c.args.j) =
    a ∙ (λ i. at_most (c.used_of.ensures i) (c.users_most.ensures.value i)) in
    let b = simp to_z-of_z at c.both.ensures.value in
    let s4 : SFits w128 c.both.result = search rules in
    simp to_z-of_z (b ∙ (λ i. lo i +ℤ mo i))
