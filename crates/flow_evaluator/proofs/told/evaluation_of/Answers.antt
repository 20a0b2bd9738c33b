use Rattle.flow_evaluator.proofs.ToldLemmas.{least_is, flows_are}
use Rattle.flow_evaluator.proofs.told.evaluation_of.Goals as goal

pub returns-in-Least : goal.returns-in-Least
returns-in-Least c =
    λ p n decided h. least_is p n decided c.args.told c.in-Least.least c.bound_of.result
    c.in-Least.is c.bound_of.ensures h

pub returns-in-Flows : goal.returns-in-Flows
returns-in-Flows c =
    λ p n decided h. flows_are p n decided c.args.told c.in-Flows.least c.in-Flows.network
    c.bound_of-in-Flows.result c.in-Flows.is c.bound_of-in-Flows.ensures h
