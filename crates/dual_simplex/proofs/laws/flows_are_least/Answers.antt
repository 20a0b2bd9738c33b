use Rattle.dual_simplex.proofs.FlowLawLemmas as law
use Rattle.dual_simplex.proofs.laws.flows_are_least.Goals as goal

pub returns-clause-relaxed : goal.returns-clause-relaxed
returns-clause-relaxed c = law.flows_are_relaxed

pub returns-clause-least : goal.returns-clause-least
returns-clause-least c = law.flows_are_least
