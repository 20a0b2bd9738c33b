use Rattle.std.proofs.Common.{pos, List, ℤ, refl, sym, subst}
use Rattle.dual_simplex.specs.problem_rules.Problem.{Problem}
use Rattle.dual_simplex.specs.pgraph.View.{node_of}
use Rattle.dual_simplex.specs.flow_rules.Net.{net_of}
use Rattle.dual_simplex.specs.flow_rules.Program.{program_of}
use Rattle.dual_simplex.specs.flow_rules.Steps.{IsFirstPast}
use Rattle.dual_simplex.specs.flow_rules.BoundSteps.{bound_steps}
use Rattle.dual_simplex.specs.flow_rules.declared.place.Column.{Column}
use Rattle.dual_simplex.specs.flow_rules.declared.place.Place.TheVariants.{Refute}
use Rattle.node_evaluation.specs.tree_rules.Leaf.{multiplier}
use Rattle.node_evaluation.specs.tree_rules.Past.{IsPastAt}
use Rattle.flow_evaluator.proofs.KnownLemmas.{column_known, kept_known}
use Rattle.flow_evaluator.proofs.sums.form_refutation.Goals as goal

pub returns-in-Err-clause-past : goal.returns-in-Err-clause-past
returns-in-Err-clause-past c =
    let p = c.args.site.now in
    let n = node_of c.args.node.now in
    let b = c.args.bench.now in
    let own = program_of (net_of p) n in
    let at = c.in-Err.past.at in
    let first : IsFirstPast (bound_steps (net_of p) n (pos 0) (multiplier p n b.ys)) at =
    subst (λ (ys : List ℤ). IsFirstPast (bound_steps (net_of p) n (pos 0) (multiplier p n ys)) at)
    c.ys.ensures
    (subst
    (λ (r : Problem). IsFirstPast
    (bound_steps (net_of r) n (pos 0) (multiplier r n c.ys.result.now)) at)
    c.problem-problem.ensures.same c.in-Err.ensures.past) in
    let whole : IsPastAt p n b.nonbasic (Refute b.row at) = record {
      past = c.refutation_is_past.ensures (net_of p) n own b at refl c.requires.none first;
      columns =
          kept_known p n b c.names_are_of_program.ensures.nonbasic c.requires.none.nonbasic_are;
      known = column_known p n b.row (c.names_are_of_program.ensures.row own b c.requires.none);
    } in
    subst (λ (k : Column). IsPastAt p n b.nonbasic (Refute k at)) (sym c.row.ensures) whole
