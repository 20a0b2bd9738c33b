use Rattle.std.proofs.Common.{sym, subst}
use Rattle.report_rules.specs.Marginal.{Marginals, AreMarginals}
use Rattle.flow_evaluator.specs.Answers.{AnswersFor}
use Rattle.report_amounts.proofs.network.marginals_by.Goals as goal

pub least-requires-clause-least : goal.least-requires-clause-least
least-requires-clause-least c =
    let a = subst (AnswersFor c.args.site.now c.args.set) c.in-Least.is c.requires.flows in
    (c.in-Least.network, a.units_are, a.flows)

pub returns-in-Refuted : goal.returns-in-Refuted
returns-in-Refuted c =
    let a = subst (AnswersFor c.args.site.now c.args.set) c.in-Refuted.is c.requires.flows in
    let some = c.requires.some in
    absurd (a.none some.0 some.1 some.2)

pub returns : goal.returns
returns c =
    let a = subst (AnswersFor c.args.site.now c.args.set) c.in-Past.is c.requires.flows in
    subst (λ (m : Marginals). AreMarginals c.args.site.now c.args.set m)
    (sym c.past-in-Past.ensures) (c.in-Past.nonbasic, c.in-Past.place, a.past)
