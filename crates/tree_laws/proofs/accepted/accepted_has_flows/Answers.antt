use Rattle.tree_laws.proofs.accepted.accepted_has_flows.Goals as goal

pub returns : goal.returns
returns c = λ p start w tree a. a.claimed
