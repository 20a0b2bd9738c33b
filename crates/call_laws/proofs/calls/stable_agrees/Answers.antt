use Rattle.call_laws.proofs.CallLemmas as laws
use Rattle.call_laws.proofs.calls.stable_agrees.Goals as goal

pub returns : goal.returns
returns c = laws.stable_agrees c.ranges_are_solved.ensures
