use Rattle.pns_problem.proofs.MarkLemmas.{AreMarked}
use Rattle.pns_problem.proofs.term.marks_of.Given as goal

abbrev pub invariant-marking : goal.invariant-marking
invariant-marking l = AreMarked l.materials l.terms l.term-index l.marked
