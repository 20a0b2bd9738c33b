use Rattle.std.proofs.Common.{◌≡◌, ℤ, List, refl, sym, ◌∙◌, subst, rules}
use Rattle.dual_simplex.specs.pgraph.View.{node_of}
use Rattle.dual_simplex.specs.flow_rules.Net.{net_of}
use Rattle.dual_simplex.specs.flow_rules.Program.{program_of}
use Rattle.node_evaluation.specs.tree_rules.Leaf.{IsRefuted}
use Rattle.flow_evaluator.proofs.KnownLemmas.{stopped_is}
use Rattle.flow_evaluator.proofs.answers.refuted.Goals as goal

pub returns-in-Err : goal.returns-in-Err
returns-in-Err c =
    stopped_is c.args.site.now (node_of c.args.node.now) c.args.bench.now.nonbasic c.in-Err.place
    c.stopped.result c.in-Err.ensures.past c.stopped.ensures

pub returns : goal.returns
returns c =
    let p = c.args.site.now in
    let n = node_of c.args.node.now in
    let b = c.args.bench.now in
    let whole : IsRefuted p n b.ys = record {
      each_row = c.requires.none.count;
      formed = c.in_default.ensures.formed;
      refutes =
          c.none_is_refuted.ensures p c.problem-problem.ensures.valid n (program_of (net_of p) n) b
          refl c.requires.none;
    } in
    let listed : c.in_ok-ys.ys.items ≡ b.ys = search rules in
    let ys : c.from_vec.result ≡ b.ys = c.from_vec.ensures ∙ listed in
    λ decided. subst (λ (zs : List ℤ). IsRefuted p n zs) (sym ys) whole
