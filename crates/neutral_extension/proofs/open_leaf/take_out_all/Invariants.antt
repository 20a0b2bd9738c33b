use Rattle.std.proofs.Common.{◌≡◌, ℕ, true, false, ◌++◌}
use Rattle.pgraph.specs.number_sets.Sets.{has, IsSet}
use Rattle.neutral_extension.proofs.open_leaf.take_out_all.Given as goal

abbrev pub invariant-loop-u : goal.invariant-loop-u
invariant-loop-u l = record {
  makers : l.makers.makers ≡ l.fn.makers.makers;
  taken : l.makers.taken ++ l.u-iterator ≡ l.fn.makers.taken ++ l.fn.set;
  is_set : IsSet 128 l.u-iterator;
  fresh : (u : ℕ) → has l.u-iterator u ≡ true → has l.makers.taken u ≡ false;
}
