use Rattle.std.proofs.Common.{◌≡◌, ℕ, take}
use Rattle.flow_rules.specs.number_sets.Sets.{has}
use Rattle.pgraph.proofs.tables.set_of.Given as goal

abbrev pub invariant-loop-u : goal.invariant-loop-u
invariant-loop-u l = (v : ℕ) → has l.set v ≡ has (take l.u-index l.units) v
