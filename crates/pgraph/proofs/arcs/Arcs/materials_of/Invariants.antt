use Rattle.flow_rules.specs.number_sets.Sets.{has}
use Rattle.pgraph.proofs.ArcLemmas.{IsGathered}
use Rattle.pgraph.proofs.arcs.Arcs.materials_of.Given as goal

abbrev pub invariant-loop-u : goal.invariant-loop-u
invariant-loop-u l = IsGathered l.self (has l.fn.set) (has l.u-iterator) (has l.found)
