use Rattle.flow_rules.proofs.ChargeDualityLemmas.{charge_duality, charge_refutes}
use Rattle.flow_rules.proofs.charge_duality.Goals as goal

pub returns-clause-duality : goal.returns-clause-duality
returns-clause-duality c = charge_duality

pub returns-clause-refutes : goal.returns-clause-refutes
returns-clause-refutes c = charge_refutes
