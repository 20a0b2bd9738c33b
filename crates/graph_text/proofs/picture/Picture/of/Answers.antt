use Rattle.std.proofs.Common.{◌≡◌, ◌<◌, ◌∙◌, sym, ap, subst, length}
use Rattle.std.specs.Prelude.{IfSome}
use Rattle.report_amounts.specs.problem_rules.Problem.{Problem}
use Rattle.report_amounts.specs.pns_rules.Shape.{shape_of}
use Rattle.report_amounts.specs.tree_rules.Claim.{IsFeasible}
use Rattle.graph_text.proofs.Lines.{some_map}
use Rattle.graph_text.proofs.picture.Picture.of.Goals as goal

pub greatest_flow-greatest-requires : goal.greatest_flow-greatest-requires
greatest_flow-greatest-requires c =
    subst (λ (p : Problem). IfSome c.args.network (λ n. IsFeasible p n.now))
    (sym c.problem-problem.ensures.same) c.requires.feasible

pub invariant_of-result : goal.invariant_of-result
invariant_of-result c =
    let same = c.problem-problem.ensures.same in
    record {
      same = c.graph-graph.ensures.same ∙ ap shape_of (sym same);
      known = λ u h. subst (λ (p : Problem). u < length p.units) (sym same) (c.requires.known u h);
      feasible =
          some_map c.args.network (λ n. n.now) _
          (subst (λ (p : Problem). IfSome c.args.network (λ n. IsFeasible p n.now)) (sym same)
          c.requires.feasible);
      greatest = c.greatest_flow-greatest.ensures;
    }
