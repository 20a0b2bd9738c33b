use Rattle.std.proofs.Common.{◌≡◌, ◌≤◌, ◌∙◌, ap, subst, sym, ℕ}
use Rattle.std.specs.Prelude.{IfOk}
use Rattle.dual_simplex.specs.problem_rules.Problem.{Problem}
use Rattle.dual_simplex.proofs.number_sets.Cited.{length_below}
use Rattle.dual_simplex.specs.pns_rules.Nodes.{Node}
use Rattle.dual_simplex.specs.flow_rules.Net.{net_of}
use Rattle.dual_simplex.specs.flow_rules.Program.{program_of}
use Rattle.node_evaluation.specs.tree_rules.Known.{KnowsPlace}
use Rattle.dual_simplex.specs.PastPlace.{IsPastOf}
use Rattle.node_evaluation.specs.tree_rules.LeastFlows.{decided}
use Rattle.flow_evaluator.specs.Answers.{AnswersFor}
use Rattle.flow_evaluator.proofs.StructureKnownLemmas.{entry_known}
use Rattle.flow_evaluator.proofs.least.walked.Goals as goal

pub open-requires-clause-units : goal.open-requires-clause-units
open-requires-clause-units c =
    let h = length_below 128 c.units-units.result c.rises.ensures.rising c.rises.ensures.below in
    subst (λ (n : ℕ). n ≤ 128) (sym c.count.ensures) h

pub open-requires-clause-rows : goal.open-requires-clause-rows
open-requires-clause-rows c =
    let h = length_below 256 c.rows-rows.result c.rises-2.ensures.rising c.rises-2.ensures.below in
    subst (λ (n : ℕ). n ≤ 256) (sym c.count-2.ensures) h

pub past-requires-clause-past : goal.past-requires-clause-past
past-requires-clause-past c =
    let p = c.problem-problem.result.now in
    let n = decided p c.args.set in
    let own : c.in_ok-program.program ≡ program_of (net_of p) n =
    c.in_ok-program.ensures
    ∙ ap (λ (m : Node). program_of (net_of p) m) c.node_of-node.ensures.node in
    c.entry_is_past.ensures (net_of p) n c.in_ok-program.program c.least.new.self c.in-Err.place own
    c.in-Err.ensures.past

pub past-requires-clause-known : goal.past-requires-clause-known
past-requires-clause-known c =
    let p = c.problem-problem.result.now in
    let n = decided p c.args.set in
    let own : c.in_ok-program.program ≡ program_of (net_of p) n =
    c.in_ok-program.ensures
    ∙ ap (λ (m : Node). program_of (net_of p) m) c.node_of-node.ensures.node in
    let past : IsPastOf c.in_ok-program.program c.least.new.self c.in-Err.place =
    c.in-Err.ensures.past in
    subst (KnowsPlace p) (sym past.named)
    (entry_known p n c.in_ok-program.program own past.leaves past.enters past.row past.column
    past.which)

pub returns-in-Ok-None : goal.returns-in-Ok-None
returns-in-Ok-None c =
    subst (λ (p : Problem). IfOk c.refuted.result (AnswersFor p c.args.set))
    c.problem-problem.ensures.same c.refuted.ensures

pub returns : goal.returns
returns c =
    subst (λ (p : Problem). IfOk c.past.result (AnswersFor p c.args.set))
    c.problem-problem.ensures.same c.past.ensures
