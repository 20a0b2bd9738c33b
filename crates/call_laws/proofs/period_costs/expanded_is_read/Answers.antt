use Rattle.call_laws.proofs.PeriodLemmas as laws
use Rattle.call_laws.proofs.period_costs.expanded_is_read.Goals as goal

pub returns : goal.returns
returns c =
    laws.expanded_is_read c.read_is_plan.ensures c.expanded_is_valid.ensures
    c.canonical_reads.ensures
