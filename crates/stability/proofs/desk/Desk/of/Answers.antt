use Rattle.std.proofs.Common.{◌≡◌, sym, ap, ◌∙◌, subst}
use Rattle.stability_laws.specs.problem_rules.Problem.{Problem}
use Rattle.stability_laws.specs.pns_rules.Shape.{Shape, shape_of}
use Rattle.solver.specs.pgraph.Tables.{shape}
use Rattle.solver.specs.neutral_extension.Candidates.{AreMakersOf}
use Rattle.stability_laws.specs.report_rules.Spot.{value_at}
use Rattle.stability.specs.Case.{Case}
use Rattle.stability.proofs.desk.Desk.of.Goals as goal

pub of-requires : goal.of-requires
of-requires g c = c.case.invariant.graph
    ∙ ap (λ (p : Problem). shape_of p) (sym c.in_ok-problem.ensures)

pub returns-clause-desk : goal.returns-clause-desk
returns-clause-desk g c =
    let k = c.args.case.now in
    let at : c.case.inside.problem.now ≡ k.problem = ap (λ (x : Case). x.problem) c.case.view_is in
    record {
      value = value_at k.problem k.spot;
      problem = c.in_ok-problem.ensures
          ∙ (at ∙ sym (c.present_stays.ensures.same k.problem k.spot));
      makers =
          subst
          (λ (q : Problem). AreMakersOf (shape_of q) c.in_ok-workspace.workspace.makers.makers)
          (c.of.ensures ∙ (c.in_ok-problem.ensures ∙ at)) c.in_ok-workspace.ensures.makers;
    }
