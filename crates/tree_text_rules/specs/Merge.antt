-- What is answered if a part is put back, from the tree and the part. Each answer but that there
-- was no memory has its cause, and no two causes are true together.
use Rattle.std.specs.Prelude.{◌≡◌, ℕ, true, [], ◌∷◌}
use Rattle.edit_rules.specs.problem_rules.Problem.{Problem}
use Rattle.tree_rules.specs.pns_rules.Shape.{shape_of}
use Rattle.tree_rules.specs.Claim as rules
use Rattle.tree_rules.specs.Accepted as trees
use Rattle.tree_rules.specs.Accepted.{first_node, IsPartial}
use Rattle.tree_text_rules.specs.Graft.{graft_at, claim_of_both}
use Rattle.tree_text_rules.specs.OpenLeaves.{StandsOpen}
use Rattle.tree_rules.specs.declared.refusal.Refusal.TheVariants as refusals
use Rattle.tree_rules.specs.Refusals.{Refuses}
use Rattle.tree_text_rules.specs.declared.merge_fault.MergeFault.{MergeFault}
use Rattle.tree_text_rules.specs.declared.merge_fault.MergeFault.TheVariants.{Tree, Part, NoLeaf}
use Rattle.tree_text_rules.specs.declared.merge_fault.MergeFault.TheVariants.{Memory}
use Rattle.tree_text_rules.specs.Part as parts
use Rattle.tree_text_rules.specs.Part.{start_of}

-- leaf k of the tree is open, with a bound or without, and its node is that of the part
abbrev pub IsLeafOf : Problem → trees.Tree → parts.Part → ℕ → Type 0
IsLeafOf p tree part k = StandsOpen (shape_of p) (first_node ∷ []) tree k (start_of part)

-- The tree is partial from the first node, and the part from its own. The part is put in the place
-- of the one open leaf that has the part's node. The claim is that of both, and the result is
-- partial.
pub record IsMerged (p : Problem) (claim : rules.Claim) (tree : trees.Tree) (part : parts.Part)
    (both : rules.Claim) (whole : trees.Tree) : Type 0 where
  pub tree_proves : IsPartial p first_node claim tree
  pub part_proves : IsPartial p (start_of part) part.claim part.tree
  pub place : ℕ
  pub leaf_is : IsLeafOf p tree part place
  pub tree_is : whole ≡ graft_at place tree part.tree
  pub claim_is : both ≡ claim_of_both claim part.claim whole
  pub partial : IsPartial p first_node both whole

abbrev pub MergeFails : Problem → rules.Claim → trees.Tree → parts.Part → MergeFault → Type 0
MergeFails p claim tree part (Tree refusal) =
    Refuses true p first_node claim tree refusal × (refusal ≡ refusals.Memory → ⊥)
MergeFails p claim tree part (Part refusal) =
    IsPartial p first_node claim tree × Refuses true p (start_of part) part.claim part.tree refusal
    × (refusal ≡ refusals.Memory → ⊥)
MergeFails p claim tree part NoLeaf =
    IsPartial p first_node claim tree × IsPartial p (start_of part) part.claim part.tree
    × ((k : ℕ) → IsLeafOf p tree part k → ⊥)
MergeFails p claim tree part Memory = Unit {0}
