use Rattle.std.proofs.Common.{◌≡◌, ◌∙◌, ℕ, suc, drop, ap, sym, subst, add-one}
use Rattle.tree_text_rules.specs.problem_rules.Problem.{Problem}
use Rattle.charges.specs.pgraph.View.{node_of}
use Rattle.tree_text_rules.specs.tree_rules.Accepted.{first_node}
use Rattle.cert_check.specs.Shown.{cost_over}
use Rattle.cert_check.proofs.NodeLemmas.{step_ahead, none_ahead}
use Rattle.tree_text_rules.specs.tree_rules.Head.{known_first}
use Rattle.branch_tree.specs.HeadView.{line_of, lines_of}
use Rattle.cert_check.specs.View.{known_of}
use Rattle.cert_check.proofs.HeadLemmas.{Decides, all_decide, line_on, line_fails, none_left}
use Rattle.cert_check.proofs.HeadLemmas.{nothing_inside}
use Rattle.cert_check.proofs.head.judge_head.Goals as goal

pub lines-init : goal.lines-init
lines-init c =
    let p = c.args.site.now in
    let first : known_of c.first-known.result ≡ known_first p first_node =
    c.first-known.ensures
    ∙ ap (λ (q : Problem). known_first q first_node) c.problem.ensures.same in
    record {
      decides =
          all_decide p (cost_over c.args.claimed) (known_first p first_node)
          (lines_of c.args.lines.now) (known_of c.first-known.result) first;
      inside = nothing_inside p (known_of c.first-known.result) first;
    }

pub lines-preserved : goal.lines-preserved
lines-preserved c =
    let p = c.args.site.now in
    let cost = cost_over c.args.claimed in
    let first = known_first p first_node in
    let all = lines_of c.args.lines.now in
    let i = c.lines.i in
    let next = known_of c.in-Ok.next in
    let ahead =
    step_ahead line_of c.args.lines.now i c.index-lines-i.result c.lines-test.true
    c.index-lines-i.is in
    let judged = c.in-Ok.ensures.passes in
    record {
      decides =
          subst (λ (m : ℕ). Decides p cost first all next (drop m all) m) (sym (add-one i))
          (line_on p cost first all (known_of c.lines.known) i (drop i all)
          c.lines.invariant.decides (line_of c.index-lines-i.result) (drop (suc i) all) ahead next
          judged.passes judged.after);
      inside = judged.inside;
    }

pub returns-in-Err-clause-fails : goal.returns-in-Err-clause-fails
returns-in-Err-clause-fails c =
    let p = c.args.site.now in
    let all = lines_of c.args.lines.now in
    let i = c.lines.i in
    let ahead =
    step_ahead line_of c.args.lines.now i c.index-lines-i.result c.lines-test.true
    c.index-lines-i.is in
    line_fails p (cost_over c.args.claimed) (known_first p first_node) all
    (known_of c.lines.known) i (drop i all) c.lines.invariant.decides
    (line_of c.index-lines-i.result) (drop (suc i) all) ahead c.in-Err.why c.in-Err.ensures.fails

pub returns-clause-passes : goal.returns-clause-passes
returns-clause-passes c =
    let p = c.args.site.now in
    let all = lines_of c.args.lines.now in
    (none_left p (cost_over c.args.claimed) (known_first p first_node) all
    (known_of c.lines.known) c.lines.i (drop c.lines.i all) c.lines.invariant.decides
    (none_ahead line_of c.args.lines.now c.lines.i c.lines-test.false)).0

pub returns-clause-known : goal.returns-clause-known
returns-clause-known c =
    let p = c.args.site.now in
    let all = lines_of c.args.lines.now in
    (none_left p (cost_over c.args.claimed) (known_first p first_node) all
    (known_of c.lines.known) c.lines.i (drop c.lines.i all) c.lines.invariant.decides
    (none_ahead line_of c.args.lines.now c.lines.i c.lines-test.false)).1
