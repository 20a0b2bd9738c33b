use Rattle.std.proofs.Common.{◌∙◌, List, length, Option, sym, ap, subst}
use Rattle.node_evaluation.specs.search_tree.Cells.{Cell}
use Rattle.node_evaluation.specs.tree_rules.Claim as claims
use Rattle.node_evaluation.specs.tree_rules.Costs.{HasFallen}
use Rattle.node_evaluation.specs.Looks.{cost_of}
use Rattle.node_evaluation.specs.Children.{IsBest}
use Rattle.abb_search.specs.Searched.{StandsAt}
use Rattle.abb_search.proofs.TurnLemmas.{best_of}
use Rattle.abb_search.proofs.StepLemmas.{tree_positive, step_from}
use Rattle.abb_search.proofs.RootLemmas.{root_after, root_positive}
use Rattle.abb_search.proofs.step.take_turn.Goals as goal

pub step-requires-2-clause-going : goal.step-requires-2-clause-going
step-requires-2-clause-going g c =
    let old = c.args.growing.now in
    let stands =
    subst (λ b. StandsAt g.E.Evaluator.past c.args.site.now old b) c.if-looked.false
    c.requires.stands in
    let given =
    subst (λ (w : Option claims.Network). IsBest c.args.site.now w)
    (sym c.in_ok-copy_of_network.ensures) (best_of c.args.site.now old stands.0) in
    root_after g.E.Evaluator.past c.args.site.now old.start old.budget
    c.in_ok-copy_of_network.field-0 given c.in_ok-root.root c.in_ok-root.ensures.root
    c.requires.some

pub returns-clause-holds : goal.returns-clause-holds
returns-clause-holds g c =
    let p = c.args.site.now in
    let old = c.args.growing.now in
    let root = c.in_ok-root.root in
    let looked = c.in_ok-root.ensures.root in
    let stands =
    subst (λ b. StandsAt g.E.Evaluator.past p old b) c.if-looked.false c.requires.stands in
    let given =
    subst (λ (w : Option claims.Network). IsBest p w) (sym c.in_ok-copy_of_network.ensures)
    (best_of p old stands.0) in
    let positive =
    root_positive g.E.Evaluator.past p old.start old.budget c.in_ok-copy_of_network.field-0
    given root looked c.requires.some in
    let fallen =
    subst (λ (w : Option claims.Network). HasFallen (cost_of w) (cost_of root.best))
    c.in_ok-copy_of_network.ensures looked.fallen in
    step_from g.E.Evaluator.past p old root c.step-2.new.growing c.in_ok-found.found
    c.in_ok-found.ensures.holds
    looked.start_is looked.budget_is
    (ap (λ (cs : List Cell). length cs) looked.cells_are ∙ sym stands.1)
    (tree_positive p old stands.0) positive fallen
