use Rattle.path_laws.proofs.EndLemmas as law
use Rattle.path_laws.proofs.ends.read_flows.Goals as goal

pub returns-clause-relaxed : goal.returns-clause-relaxed
returns-clause-relaxed c = law.read_flows_are_relaxed

pub returns-clause-least : goal.returns-clause-least
returns-clause-least c = law.read_flows_are_least
