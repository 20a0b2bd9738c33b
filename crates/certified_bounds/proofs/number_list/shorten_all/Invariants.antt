use Rattle.scaled_flows.specs.integer_laws.Range.{AllInRange}
use Rattle.certified_bounds.proofs.number_list.shorten_all.Given as goal

abbrev pub invariant-all : goal.invariant-all
invariant-all l = AllInRange l.numbers
