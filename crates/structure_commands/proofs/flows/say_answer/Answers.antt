use Rattle.std.proofs.Common.{◌++◌, ◌∷◌, [], List, refl, sym, subst, inl, inr}
use Rattle.cert_check.specs.tree_rules.Tree as trees
use Rattle.cert_check.specs.tree_rules.Leaf as leaves
use Rattle.cert_check.specs.tree_rules.Claim as claims
use Rattle.cert_check.specs.tree_text_rules.Line.{Token}
use Rattle.cert_check.specs.tree_text_rules.Spelling.{network_lines, claim_lines, end_line}
use Rattle.cert_check.specs.tree_text_rules.Spelling.{place_lines}
use Rattle.flow_evaluator.specs.Answers.{AnswersFor, IsLeastFor, IsPastFor}
use Rattle.cert_check.specs.tree_rules.LeastFlows.{HasNoFlows}
use Rattle.command_files.specs.studio_rules.Flows.{FlowsSay}
use Rattle.command_files.specs.studio_rules.Printed.{OneAnswer}
use Rattle.command_files.specs.studio_rules.declared.status.Status.{Status}
use Rattle.command_files.specs.studio_rules.declared.status.Status.TheVariants.{Done, Past}
use Rattle.command_files.proofs.Cited.{Ends-from, Tells-map}
use Rattle.structure_commands.proofs.flows.say_answer.Goals as goal

pub returns-in-Least : goal.returns-in-Least
returns-in-Least g c =
    let p = c.args.problem.now in
    let us = c.args.set in
    let b = c.in-Least.bound in
    let a : IsLeastFor p us c.in-Least.network b.d b.ys =
    subst (AnswersFor p us) c.in-Least.is c.requires.answer in
    let lines : List (List Token) =
    network_lines p c.in-Least.network ++ end_line p (trees.leaf (leaves.bounded b.d b.ys))
    ∷ [] in
    Ends-from _ _ c.args.out.now _ c.say_printed.new.out _ c.out.view_is
    (Tells-map (OneAnswer Done lines) (FlowsSay p us)
    (λ s ls h. subst (λ (t : Status). FlowsSay p us t ls) (sym h.0)
    (inl (c.in-Least.network, b.d, b.ys, a.units_are, c.is_sized.ensures.sized, a.flows, h.1))))
    (c.say_printed.ensures lines _ refl c.print_least-printed.ensures.later
    c.print_least-printed.ensures.prints)

pub returns-in-Refuted : goal.returns-in-Refuted
returns-in-Refuted g c =
    let p = c.args.problem.now in
    let us = c.args.set in
    let a : HasNoFlows p us c.in-Refuted.ys =
    subst (AnswersFor p us) c.in-Refuted.is c.requires.answer in
    let lines : List (List Token) =
    claim_lines p claims.infeasible ++ end_line p (trees.leaf (leaves.refuted c.in-Refuted.ys))
    ∷ [] in
    Ends-from _ _ c.args.out.now _ c.say_printed-in-Refuted.new.out _ c.out-in-Refuted.view_is
    (Tells-map (OneAnswer Done lines) (FlowsSay p us)
    (λ s ls h. subst (λ (t : Status). FlowsSay p us t ls) (sym h.0)
    (inr (c.in-Refuted.ys, a, h.1))))
    (c.say_printed-in-Refuted.ensures lines _ refl c.print_none-printed.ensures.later
    c.print_none-printed.ensures.prints)

pub returns-in-Past : goal.returns-in-Past
returns-in-Past g c =
    let p = c.args.problem.now in
    let us = c.args.set in
    let a : IsPastFor p us c.in-Past.nonbasic c.in-Past.place =
    subst (AnswersFor p us) c.in-Past.is c.requires.answer in
    let lines : List (List Token) = place_lines p c.columns.result.now c.in-Past.place in
    let past : IsPastFor p us c.columns.result.now c.in-Past.place =
    subst (λ cs. IsPastFor p us cs c.in-Past.place) (sym c.columns.ensures) a in
    Ends-from _ _ c.args.out.now _ c.say_printed-in-Past.new.out _ c.out-in-Past.view_is
    (Tells-map (OneAnswer Past lines) (FlowsSay p us)
    (λ s ls h. subst (λ (t : Status). FlowsSay p us t ls) (sym h.0)
    (c.columns.result.now, c.in-Past.place, past.past, h.1)))
    (c.say_printed-in-Past.ensures lines _ refl c.print_place-printed.ensures.later
    c.print_place-printed.ensures.prints)
