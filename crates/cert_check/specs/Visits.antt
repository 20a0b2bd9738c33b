-- What happens at one node of a walk.
use Rattle.std.specs.Prelude.{◌≡◌, ℕ, List, ◌++◌}
use Rattle.tree_text_rules.specs.pns_rules.Shape.{Shape}
use Rattle.tree_text_rules.specs.pns_rules.Nodes.{Node}
use Rattle.tree_text_rules.specs.tree_rules.declared.why.Why.{Why}
use Rattle.tree_text_rules.specs.tree_rules.declared.refusal.Refusal.{Refusal}
use Rattle.tree_text_rules.specs.tree_rules.declared.refusal.Refusal.TheVariants as refusals
use Rattle.tree_text_rules.specs.tree_rules.Tree.{TreeNode, roots, StepsPass, after_all, below}
use Rattle.tree_text_rules.specs.tree_rules.Tree.{EndPasses}
use Rattle.tree_text_rules.specs.tree_rules.Ways.{Way, width, MayBranch, options_at}
use Rattle.tree_text_rules.specs.tree_rules.Leaf.{Leaf}
use Rattle.tree_text_rules.specs.tree_rules.Accepted.{Tree}
use Rattle.charges.specs.Known.{facts_of}
use Rattle.tree_text_rules.specs.tree_rules.Headed.{LeafPassesBy, LeafFailsBy}
use Rattle.cert_check.specs.Shown.{cost_over}
use Rattle.cert_check.specs.Bare.{as_judged}
use Rattle.cert_check.specs.declared.visit.Judge.{Judge}
use Rattle.cert_check.specs.declared.visit.Halt.{Halt}
use Rattle.cert_check.specs.declared.visit.Halt.TheVariants.{Memory, Fails}

-- the leaves that pass, and those that fail
abbrev pub leaf_passes : Judge → Node → Leaf → Type 0
leaf_passes j n l =
    LeafPassesBy (facts_of j.facts.now) j.partial j.site.now (cost_over j.claimed) n
    (as_judged j.bounds l)

abbrev pub leaf_fails : Judge → Node → Leaf → Why → Type 0
leaf_fails j n l why =
    LeafFailsBy (facts_of j.facts.now) j.partial j.site.now (cost_over j.claimed) n
    (as_judged j.bounds l) why

-- how the walk is refused that halts at node k
abbrev pub refusal_at : ℕ → Halt → Refusal
refusal_at k Memory = refusals.Memory
refusal_at k (Fails why) = refusals.Node k why

-- the node may be branched so, and the subtrees at the front of the list after it have all options
-- in order
abbrev pub BranchPasses : Shape → Node → Way → Tree → Type 0
BranchPasses g n w behind = MayBranch g n w × (roots (width w) behind ≡ options_at g n w)

-- the node passes, with the list `behind` after it, and the nodes of its children are put before
-- those that were left
pub record IsVisited (g : Shape) (P : Node → Leaf → Type 0) (n : Node) (t : TreeNode Leaf)
    (behind : Tree) (before after : List Node) : Type 0 where
  pub steps : StepsPass g n t.steps
  pub end : EndPasses g P (after_all g n t.steps) t.end behind
  pub children : after ≡ below g (after_all g n t.steps) t.end ++ before

-- the walk stops here because there is no memory, or because the node fails
abbrev pub Halts : (Why → Type 0) → Halt → Type 0
Halts F Memory = Unit {0}
Halts F (Fails why) = F why
