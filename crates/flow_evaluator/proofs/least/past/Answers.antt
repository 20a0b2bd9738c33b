use Rattle.std.proofs.Common.{◌≡◌, List, refl, sym, subst, rules}
use Rattle.dual_simplex.specs.problem_rules.Each.{Each}
use Rattle.dual_simplex.specs.flow_rules.Net.{net_of}
use Rattle.dual_simplex.specs.flow_rules.Program.{program_of}
use Rattle.dual_simplex.specs.flow_rules.declared.place.Column.{Column}
use Rattle.node_evaluation.specs.tree_rules.Known.{KnowsColumn}
use Rattle.node_evaluation.specs.tree_rules.LeastFlows.{decided}
use Rattle.flow_evaluator.specs.Answers.{IsPastFor}
use Rattle.flow_evaluator.proofs.StructureKnownLemmas.{columns_known}
use Rattle.flow_evaluator.proofs.least.past.Goals as goal

pub returns : goal.returns
returns c =
    let p = c.args.problem.now in
    let us = c.args.set in
    let n = decided p us in
    let past = c.requires.past in
    let columns : List Column = c.args.bench.now.nonbasic in
    let whole : IsPastFor p us columns c.args.place = record {
      past = past;
      columns =
          subst (λ (cs : List Column). Each (KnowsColumn p) cs) (sym past.nonbasic_are)
          (columns_known p n (program_of (net_of p) n) past.last refl);
      known = c.requires.known;
    } in
    let are : c.from_vec.result ≡ columns = search rules in
    subst (λ (cs : List Column). IsPastFor p us cs c.args.place) (sym are) whole
