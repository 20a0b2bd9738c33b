use Rattle.call_laws.proofs.RangeLemmas as laws
use Rattle.call_laws.proofs.ranges.best_is_claimed.Goals as goal

pub returns : goal.returns
returns c = laws.best_is_claimed
