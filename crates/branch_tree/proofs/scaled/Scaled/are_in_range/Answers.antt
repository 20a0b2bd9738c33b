use Rattle.branch_tree.proofs.ScaledLemmas.{multipliers_in_range}
use Rattle.std.proofs.Common.{rules, ◌≡◌, ◌<◌, length, ℕ, ◌+◌, ◌-◌, ◌*◌, ◌≤◌, ◌/◌, ◌%◌, Bool, true}
use Rattle.std.proofs.Common.{false, nat_eq, nat_lt, List, [], ◌∷◌, ◌++◌, slice_index_or, slice_set}
use Rattle.std.proofs.Common.{bit_and, bit_or, Fits, w8, w32, w64, Bor, MutBor}
use Rattle.tree_rules.specs.integer_laws.Range.{InRange, AllInRange}
use Rattle.branch_tree.specs.Scaled.{scaled_of}
use Rattle.branch_tree.proofs.scaled.Scaled.are_in_range.Goals as goal

pub returns-clause-multipliers : goal.returns-clause-multipliers
returns-clause-multipliers c =
    multipliers_in_range c.self.inside.numbers.items c.args.self.now c.self.view_is
    (c.self.invariant.1)
