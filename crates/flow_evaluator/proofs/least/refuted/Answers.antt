use Rattle.std.proofs.Common.{◌≡◌, ℤ, List, ◌∙◌, subst, sym, rules}
use Rattle.dual_simplex.specs.flow_rules.Net.{net_of, beside}
use Rattle.dual_simplex.specs.flow_rules.Relaxed.{Refutes}
use Rattle.node_evaluation.specs.tree_rules.LeastFlows.{decided, rows_of, HasNoFlows}
use Rattle.flow_evaluator.proofs.AnswerLemmas.{one_each_row}
use Rattle.flow_evaluator.proofs.least.refuted.Goals as goal

pub returns : goal.returns
returns c =
    let p = c.args.problem.now in
    let us = c.args.set in
    let b = c.args.bench.now in
    let q = c.args.program.now in
    let refutes : Refutes (net_of p) (decided p us) (beside (rows_of p us) b.ys) =
    c.none_is_refuted.ensures p c.is_valid.ensures.valid (decided p us) q b c.requires.program
    c.requires.none in
    let none : HasNoFlows p us b.ys =
    c.multipliers_prove.ensures.none p c.is_valid.ensures.valid us c.requires.structure b.ys
    (one_each_row (net_of p) (decided p us) q b.ys c.requires.program c.requires.none.count)
    refutes in
    let listed : c.in_ok-ys.ys.items ≡ b.ys = search rules in
    let ys : c.from_vec.result ≡ b.ys = c.from_vec.ensures ∙ listed in
    subst (λ (zs : List ℤ). HasNoFlows p us zs) (sym ys) none
