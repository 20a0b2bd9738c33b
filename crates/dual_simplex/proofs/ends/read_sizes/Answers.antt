use Rattle.flow_program.specs.flow_rules.LinearProgram.{linear_of}
use Rattle.dual_simplex.proofs.EndLemmas.{own_positive}
use Rattle.dual_simplex.specs.Rows.{table, basis}
use Rattle.dual_simplex.specs.Step.{step_of}
use Rattle.dual_simplex.proofs.OptionLemmas.{map_err}
use Rattle.dual_simplex.proofs.PastLemmas.{past_unit}
use Rattle.dual_simplex.proofs.ends.read_sizes.Goals as goal

pub read_flows-requires-clause-own : goal.read_flows-requires-clause-own
read_flows-requires-clause-own c =
    own_positive (linear_of c.args.program.now) c.args.rows.now c.requires.feasible

pub returns-clause-unit : goal.returns-clause-unit
returns-clause-unit c =
    let p = linear_of c.args.program.now in
    map_err c.read_flows.result
    (λ e past. past_unit p (basis c.args.rows.now) (table c.args.rows.now) e.unit
    (step_of e.which) past) c.read_flows.ensures.past
