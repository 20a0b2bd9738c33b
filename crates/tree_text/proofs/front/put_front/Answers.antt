use Rattle.std.proofs.Common.{List, subst, ap}
use Rattle.std.proofs.lemmas.List.{drop_all}
use Rattle.tree_text_rules.specs.tree_rules.HeadKnown.{KnowsHead}
use Rattle.branch_tree.specs.HeadView.{lines_of}
use Rattle.branch_tree.specs.declared.line.HeadLine.{HeadLine}
use Rattle.tree_text_rules.specs.Spelling.{front_lines}
use Rattle.tree_text.proofs.Printed.{none_put, both_put, first_failed, item_ahead}
use Rattle.tree_text.proofs.front.put_front.Goals as goal

pub returns-in_err-put_front_line : goal.returns-in_err-put_front_line
returns-in_err-put_front_line g c =
    let ahead =
    item_ahead c.args.front.now c.printing.front_line-index c.front_line-item.result
    c.printing-test.true
    c.front_line-item.is in
    c.printing.invariant.finishes _ _
    (first_failed _ c.in_err-put_front_line.ensures c.from_residual.ensures.1
    (ap (λ (ls : List HeadLine). front_lines c.args.problem.now (lines_of ls)) ahead))

pub printing-preserved : goal.printing-preserved
printing-preserved g c =
    let ahead =
    item_ahead c.args.front.now c.printing.front_line-index c.front_line-item.result
    c.printing-test.true
    c.front_line-item.is in
    record {
      known =
          (subst (λ (ls : List HeadLine). KnowsHead c.args.problem.now (lines_of ls)) ahead
          c.printing.invariant.known).1;
      finishes =
          λ last r rest. c.printing.invariant.finishes last r
          (both_put c.in_ok-put_front_line.ensures rest (ap (λ
          (ls : List HeadLine). front_lines c.args.problem.now (lines_of ls)) ahead));
    }

pub returns : goal.returns
returns g c =
    c.printing.invariant.finishes _ _
    (rw (drop_all c.printing.front_line-index c.args.front.now c.printing-test.false)
    (none_put _ _))
