use Rattle.std.proofs.Common.{◌∙◌, ◌<◌, sym, ap, subst, ℕ, List, length, SFits, rules}
use Rattle.std.specs.Int.{w128}
use Rattle.std.proofs.lemmas.Int.{to_z-of_z}
use Rattle.structure_list.specs.number_sets.Sets.{has}
use Rattle.structure_list.proofs.number_sets.Cited.{has-meet}
use Rattle.structure_list.proofs.problem_rules.Cited.{well_formed_from_valid}
use Rattle.structure_list.specs.pns_rules.Shape.{Shape}
use Rattle.structure_list.specs.pgraph.View.{node_of}
use Rattle.structure_list.specs.flow_rules.Relaxed.{stays}
use Rattle.flow_program.proofs.Cited.{listed_had}
use Rattle.charges.specs.Known.{facts_of}
use Rattle.charges.proofs.UseLemmas.{users_total, first_of}
use Rattle.charges.proofs.useful.users_most.Goals as goal

pub consumers-requires : goal.consumers-requires
consumers-requires c = subst (λ (q : Shape). c.args.j < q.materials) (sym c.graph.ensures.same)
    c.requires.known

pub set_most-requires : goal.set_most-requires
set_most-requires c = λ u there.
    (listed_had (length c.args.site.now.units) (stays (node_of c.args.node.now)) c.args.set u
    c.requires.units
    (first_of (has c.args.set u) (has c.consumers.result u)
    (sym (has-meet c.args.set c.consumers.result u)
    ∙ sym (ap (λ (xs : List ℕ). has xs u) c.meet-users.ensures) ∙ there))).0

pub returns-clause-value : goal.returns-clause-value
returns-clause-value c =
    let s : SFits w128 c.set_most.result = search rules in
    simp to_z-of_z
    (c.set_most.ensures.value
    ∙ users_total c.args.site.now (well_formed_from_valid c.args.site.now c.problem.ensures.valid)
    (node_of c.args.node.now) (facts_of c.args.facts.now) c.args.j c.args.set c.consumers.result
    c.meet-users.result c.requires.units c.rises.ensures.rising
    (c.consumers.ensures ∙ ap (λ (q : Shape). λ u. q.uses u c.args.j) c.graph.ensures.same)
    c.meet-users.ensures)
