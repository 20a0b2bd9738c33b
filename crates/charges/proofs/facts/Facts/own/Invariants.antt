use Rattle.structure_list.specs.problem_rules.Problem.{unit_at}
use Rattle.charges.proofs.OwnLemmas.{IsWritten}
use Rattle.charges.proofs.facts.Facts.own.Given as goal

abbrev pub invariant-loop-u : goal.invariant-loop-u
invariant-loop-u l = record {
  least : IsWritten (λ i. (unit_at l.fn.problem i).lower) l.least l.u;
  most : IsWritten (λ i. (unit_at l.fn.problem i).upper) l.most l.u;
}
