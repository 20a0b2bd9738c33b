use Rattle.pns_problem.proofs.MarkLemmas.{IsShareLeft}
use Rattle.pns_problem.proofs.term.shares_material.Given as goal

abbrev pub invariant-looking : goal.invariant-looking
invariant-looking l = IsShareLeft l.materials l.inputs l.outputs l.term-index
