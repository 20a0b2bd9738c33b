use Rattle.pns_problem.proofs.MarkLemmas.{IsRepeatLeft}
use Rattle.pns_problem.proofs.term.repeats_material.Given as goal

abbrev pub invariant-looking : goal.invariant-looking
invariant-looking l = IsRepeatLeft l.materials l.terms l.term-index l.marked
