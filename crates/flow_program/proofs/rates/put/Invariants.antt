use Rattle.flow_program.proofs.RateLemmas.{IsWritten}
use Rattle.flow_program.proofs.rates.put.Given as goal

abbrev pub invariant-writing : goal.invariant-writing
invariant-writing l = IsWritten l.terms l.used l.initial.rates l.rates l.term-index
