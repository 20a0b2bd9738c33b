use Rattle.std.proofs.Common.{map, subst, List, ap, refl}
use Rattle.std.proofs.lemmas.List.{drop_all}
use Rattle.tree_text_rules.specs.problem_rules.Each.{Each}
use Rattle.flow_program.specs.unit_sets.declared.step.Step.{Step}
use Rattle.flow_program.specs.pgraph.View.{step_of}
use Rattle.tree_text_rules.specs.tree_rules.Known.{KnowsStep}
use Rattle.tree_text_rules.specs.Spelling.{step_line}
use Rattle.tree_text.proofs.Printed.{none_put, both_put, first_failed, item_ahead}
use Rattle.tree_text.proofs.part.put_head.Goals as goal

pub returns-in_err-put : goal.returns-in_err-put
returns-in_err-put g c = first_failed _ c.in_err-put.ensures c.from_residual.ensures.1 refl

pub printing-init : goal.printing-init
printing-init g c =
    record {
      known = c.requires.steps;
      finishes =
          λ last r rest. both_put c.in_ok-put.ensures rest refl;
    }

pub returns-in_err-put_step : goal.returns-in_err-put_step
returns-in_err-put_step g c =
    let ahead =
    item_ahead c.args.steps.now c.printing.step-index c.step-item.result c.printing-test.true
    c.step-item.is in
    c.printing.invariant.finishes _ _
    (first_failed _ c.in_err-put_step.ensures c.from_residual-in_err-put_step.ensures.1
    (ap (λ (ss : List Step). map (step_line c.args.problem.now) (map step_of ss)) ahead))

pub printing-preserved : goal.printing-preserved
printing-preserved g c =
    let ahead =
    item_ahead c.args.steps.now c.printing.step-index c.step-item.result c.printing-test.true
    c.step-item.is in
    record {
      known =
          (subst (λ (ss : List Step). Each (KnowsStep c.args.problem.now) (map step_of ss)) ahead
          c.printing.invariant.known).1;
      finishes =
          λ last r rest. c.printing.invariant.finishes last r
          (both_put c.in_ok-put_step.ensures rest
          (ap (λ (ss : List Step). map (step_line c.args.problem.now) (map step_of ss)) ahead));
    }

pub returns : goal.returns
returns g c =
    c.printing.invariant.finishes _ _
    (rw (drop_all c.printing.step-index c.args.steps.now c.printing-test.false) (none_put _ _))
