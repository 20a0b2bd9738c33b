use Rattle.call_laws.proofs.CallLemmas as laws
use Rattle.call_laws.proofs.calls.check_certifies_periods.Goals as goal

pub returns : goal.returns
returns c =
    laws.check_certifies_periods c.periods_are_certified.ensures c.check_accepts_solved.ensures
