use Rattle.std.proofs.Common.{arith}
use Rattle.searches.proofs.Texts.{runs_more, runs_done}
use Rattle.searches.proofs.design_text.push_runs.Goals as goal

pub running-preserved : goal.running-preserved
running-preserved c = record {
  text =
      runs_more c.args.problem.now _ _ _ c.running.number c.args.runs.now c.running.run-index
      c.run-item.result c.running-test.true c.run-item.is c.running.invariant.text
      c.in_ok-push_run.ensures;
  count = omega (arith, c.running.invariant.count);
}

pub returns : goal.returns
returns c =
    runs_done c.args.problem.now _ _ c.running.number c.args.runs.now c.running.run-index
    c.running-test.false c.running.invariant.text
