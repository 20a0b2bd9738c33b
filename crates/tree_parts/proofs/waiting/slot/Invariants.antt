use Rattle.std.proofs.Common.{take}
use Rattle.tree_parts.specs.Splices.{AllBelow}
use Rattle.tree_parts.specs.Waiting.{splices_of}
use Rattle.tree_parts.proofs.waiting.slot.Given as goal

-- the parts before this one wait for leaves before the place
abbrev pub invariant-looking : goal.invariant-looking
invariant-looking l = AllBelow l.place (take l.at (splices_of l.waiting))
