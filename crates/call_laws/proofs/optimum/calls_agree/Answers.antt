use Rattle.call_laws.proofs.CalledAgree.{calls_agree}
use Rattle.call_laws.proofs.optimum.calls_agree.Goals as goal

pub returns : goal.returns
returns c = calls_agree c.listed_cost_enough.ensures
