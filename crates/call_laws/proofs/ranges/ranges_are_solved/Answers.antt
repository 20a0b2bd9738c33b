use Rattle.call_laws.proofs.RangeLemmas as laws
use Rattle.call_laws.proofs.ranges.ranges_are_solved.Goals as goal

pub returns : goal.returns
returns c =
    laws.ranges_are_solved c.values_are_edited.ensures c.best_is_claimed.ensures
    c.valued_is_valid.ensures c.canonical_reads.ensures
