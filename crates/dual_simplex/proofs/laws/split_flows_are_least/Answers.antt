use Rattle.dual_simplex.proofs.FlowLawLemmas as law
use Rattle.dual_simplex.proofs.laws.split_flows_are_least.Goals as goal

pub returns-clause-units : goal.returns-clause-units
returns-clause-units c = law.units_are_inside

pub returns-clause-decided : goal.returns-clause-decided
returns-clause-decided c = law.split_is_decided

pub returns-clause-flows : goal.returns-clause-flows
returns-clause-flows c = law.split_flows_are_flows

pub returns-clause-least : goal.returns-clause-least
returns-clause-least c = law.split_flows_are_least
