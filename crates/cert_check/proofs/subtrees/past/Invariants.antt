use Rattle.cert_check.proofs.EndLemmas.{IsOver}
use Rattle.cert_check.proofs.subtrees.past.Given as goal

abbrev pub invariant-over : goal.invariant-over
invariant-over l = IsOver l.nodes l.count l.from l.left l.at

abbrev pub decreases-over : goal.decreases-over
decreases-over l = l.left
