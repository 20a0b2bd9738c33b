use Rattle.std.proofs.Common.{◌≡◌, ◌<◌, ◌+◌, ◌*◌, ℕ, Bool, true, length}
use Rattle.pgraph.specs.number_sets.Sets.{has, IsWithin}
use Rattle.pgraph.specs.pns_rules.Structure.{Meets}
use Rattle.pgraph.specs.pns_rules.Breaks.{BreaksS2}
use Rattle.pgraph.specs.Tables.{shape}
use Rattle.structure_list.proofs.balance.balanced.Given as goal

abbrev pub invariant-leave : goal.invariant-leave
invariant-leave l = record {
  within : IsWithin (has l.left) (has l.fn.set);
  keeps : (m o : ℕ → Bool) → Meets (shape l.graph) m o → IsWithin o (has l.fn.set)
      → IsWithin o (has l.left);
  covers : (y : ℕ) → BreaksS2 (shape l.graph) (has l.left) y → has l.waiting y ≡ true;
  known : (y : ℕ) → has l.waiting y ≡ true → y < (shape l.graph).materials;
}

abbrev pub decreases-leave : goal.decreases-leave
decreases-leave l = 257 * length l.left + length l.waiting
