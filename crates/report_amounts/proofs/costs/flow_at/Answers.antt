use Rattle.report_amounts.proofs.Known.{steps_in_range}
use Rattle.report_amounts.proofs.costs.flow_at.Goals as goal

pub flow_of-requires-clause-steps : goal.flow_of-requires-clause-steps
flow_of-requires-clause-steps c =
    steps_in_range c.args.problem.now c.args.network.now c.args.j c.requires.feasible
    c.requires.material
