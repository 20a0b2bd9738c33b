use Rattle.std.proofs.Common.{◌≡◌}
use Rattle.tree_text_laws.specs.branch_tree.View.{claim_of}
use Rattle.tree_parts.specs.Waiting.{splices_of}
use Rattle.tree_parts.proofs.Growing.{IsGrowing}
use Rattle.tree_parts.proofs.several.merge_some.Given as goal

-- the parts before this one wait
abbrev pub invariant-putting : goal.invariant-putting
invariant-putting l = IsGrowing l.site (claim_of l.fn.claim) l.fn.whole l.parts l.at (splices_of
    l.waiting.items) (claim_of l.both) × (l.whole ≡ l.fn.whole)
