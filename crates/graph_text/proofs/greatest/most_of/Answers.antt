use Rattle.std.proofs.Common.{◌≡◌, ◌∙◌, ◌≤◌, [], drop, ap, sym, length, List, unsigned_abs, SFits}
use Rattle.std.proofs.Common.{rules}
use Rattle.std.specs.Int.{w128}
use Rattle.std.proofs.lemmas.Int.{to_z-of_z}
use Rattle.report_amounts.specs.report_rules.Aligned.{greater}
use Rattle.std.proofs.lemmas.List.{drop_all, drop_more}
use Rattle.report_amounts.specs.problem_rules.Problem.{Term}
use Rattle.report_amounts.specs.report_rules.Drawn.{moved, most_of}
use Rattle.graph_text.proofs.Most.{next_most}
use Rattle.graph_text.proofs.greatest.most_of.Goals as goal

pub terms-preserved : goal.terms-preserved
terms-preserved c =
    let f : SFits w128 c.moved-flow.result = search rules in
    let size = simp to_z-of_z at c.unsigned_abs.ensures in
    next_most c.args.problem.now c.args.network.now c.args.u c.terms.most c.terms.term-index
    c.args.terms.now c.term-item.result _ _ c.terms-test.true c.term-item.is
    (c.greater-most.ensures
    ∙ ap (greater c.terms.most)
    (size.value
    ∙ ap unsigned_abs (c.moved-flow.ensures.value
    ∙ ap (λ (t : Term). moved c.args.problem.now c.args.network.now c.args.u t.material)
    c.term.view_is))) c.terms.invariant

pub returns : goal.returns
returns c =
    ap (λ (ts : List Term). most_of c.args.problem.now c.args.network.now c.args.u c.terms.most ts)
    (sym (drop_all c.terms.term-index c.args.terms.now c.terms-test.false)) ∙ c.terms.invariant
