use Rattle.std.proofs.Common.{◌-◌, length}
use Rattle.tree_text_laws.specs.branch_tree.View.{claim_of}
use Rattle.tree_parts.proofs.InTurn.{AreSoFar}
use Rattle.tree_parts.proofs.several.merge_all.Given as goal

-- the parts before this place are put back
abbrev pub invariant-merging : goal.invariant-merging
invariant-merging l = AreSoFar l.site (claim_of l.fn.claim) l.fn.tree l.parts l.at (claim_of
    l.both) l.whole

abbrev pub decreases-merging : goal.decreases-merging
decreases-merging l = length l.parts - l.at
